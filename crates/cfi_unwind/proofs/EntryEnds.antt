-- Where the entries of a section end.
use Rattle.std.proofs.Common.{◌≡◌, ◌≤◌, ◌+◌, ◌-◌, ℕ, zero, suc, Bool, true, false, not, Option, Some, None, Result, Ok, Err, refl, sym, ap, subst, ◌∙◌, arith, List}
use Rattle.std.specs.Prelude.{nat_le, nat_lt, ◌==◌, IfSome, if◌then◌else◌}
use Rattle.std.specs.Int.{Width, byte_len, w8, w32, w64}
use Rattle.std.specs.List.{AllByRecursion}
use borrow.Author.Tests.{leb-true}
use Rattle.cfi_read_core.specs.declared.common.Format.{Format}
use Rattle.cfi_read_core.specs.declared.common.Format.TheVariants.{Dwarf32, Dwarf64}
use Rattle.cfi_read_core.specs.declared.error.Error.{Error}
use Rattle.cfi_read_core.specs.declared.error.Error.TheVariants.{UnknownVersion}
use Rattle.cfi_read_core.specs.ReadFunctions.{Read, Source, Outcome, Extent, Readings, carry_on, ◌>>=◌, give, refuse, refuse_if, here, split, bytes, remainder, within, offset, no_values, readings_with}
use Rattle.cfi_read_core.specs.Numbers.{InitialLength, initial_length, initial_length_size, length_in, unsigned, unsigned_leb128, signed_leb128, text}
use Rattle.cfi_read_core.specs.ReaderCalls.{map_ok}
use Rattle.cfi_read_core.proofs.Given.{Gives, gives_give, gives_bind, gives_within}
use Rattle.cfi_entry.specs.Sections.{Section, offset_in, id_width, cie_offset_of, pointer_context}
use Rattle.cfi_entry.specs.Augmentations.{augmentation}
use Rattle.cfi_entry.specs.Prefixes.{Prefix, prefix, fields_after_length, of_length}
use Rattle.cfi_entry.specs.Cies.{Cie, cie_of, cie_fields, is_known_version, sizes, return_register}
use Rattle.cfi_entry.specs.Fdes.{PartialFde}
use Rattle.cfi_entry.specs.Entries.{Entry, CieEntry, FdeEntry, end_of_entry, entry_of, entries, entries_with, entries_from, partial_fde_of, is_cie}
use Rattle.cfi_unwind.proofs.EntryLemmas.{found_kept, onward_prefix, prefix_offset}

-- ---- the place after a read

-- what holds of the place before it, its value and the place after it
record Takes {A : Type 0} (source : Source) (P : ℕ → A → ℕ → Type 0) (read : Read A) : Type 0 where
  pub taken : (place : ℕ) (x : A) → (read source place).value ≡ Ok x → P place x (read source place).place

takes_give : {A : Type 0} (source : Source) (P : ℕ → A → ℕ → Type 0) (x : A) → ((place : ℕ) → P place x place) → Takes source P (give x)
takes_give source P x h = record { taken = λ place y e. let same : x ≡ y = cc in subst (λ z. P place z place) same (h place) }

takes_refuse : {A : Type 0} (source : Source) (P : ℕ → A → ℕ → Type 0) (e : Error) → Takes source P (refuse e)
takes_refuse source P e = record { taken = λ place y is. absurd (cc) }

takes_if : {A : Type 0} (source : Source) (P : ℕ → A → ℕ → Type 0) (b : Bool) (first second : Read A) → Takes source P first → Takes source P second → Takes source P (if b then first else second)
takes_if source P true first second f s = f
takes_if source P false first second f s = s

takes_carried : {A B : Type 0} (source : Source) (Q : ℕ → A → ℕ → Type 0) (P : ℕ → B → ℕ → Type 0) (next : A → Read B) →
    ((before : ℕ) (x : A) → Takes source (λ middle y after. Q before x middle → P before y after) (next x)) → (before : ℕ) (r : Result A Error) (middle : ℕ) (y : B) →
    ((x : A) → r ≡ Ok x → Q before x middle) → (carry_on next source r middle).value ≡ Ok y → P before y (carry_on next source r middle).place
takes_carried source Q P next each before (Ok x) middle y q e = (each before x).taken middle y e (q x refl)
takes_carried source Q P next each before (Err r) middle y q e = absurd (cc)

takes_bind : {A B : Type 0} (source : Source) (Q : ℕ → A → ℕ → Type 0) (P : ℕ → B → ℕ → Type 0) (read : Read A) (next : A → Read B) → Takes source Q read →
    ((before : ℕ) (x : A) → Takes source (λ middle y after. Q before x middle → P before y after) (next x)) → Takes source P (read >>= next)
takes_bind source Q P read next q each = record {
  taken = λ place y e. takes_carried source Q P next each place (read source place).value (read source place).place y (q.taken place) e;
}

-- so many bytes, before the end
abbrev Passes : Source → ℕ → ℕ → ℕ → Type 0
Passes source n before after = (after ≡ before + n) × (n ≤ source.last - before)

split_passes : (b : Bool) (source : Source) (n place : ℕ) (extent x : Extent) (e : Error) → nat_le n (source.last - place) ≡ b →
    (let o : Outcome Extent = if b then record { value = Ok extent; place = place + n } else record { value = Err e; place = place } in (o.value ≡ Ok x → Passes source n place o.place))
split_passes true source n place extent x e fits is = (refl, leb-true _ _ fits)
split_passes false source n place extent x e fits is = absurd (cc)

takes_split : (source : Source) (n : ℕ) → Takes source (λ before x after. Passes source n before after) (split n)
takes_split source n = record { taken = λ place x e. split_passes (nat_le n (source.last - place)) source n place _ x _ refl e }

takes_unsigned : (source : Source) (width : Width) → Takes source (λ before x after. Passes source (byte_len width) before after) (unsigned width)
unfolding unsigned
takes_unsigned source width =
    let n = byte_len width in
    takes_bind source (λ before x after. Passes source n before after) (λ before x after. Passes source n before after) (bytes n) _
    (takes_bind source (λ before x after. Passes source n before after) (λ before x after. Passes source n before after) (split n) _ (takes_split source n) (λ before extent. record { taken = λ middle x e h. h }))
    (λ before bs. record { taken = λ middle x e h. h })

takes_offset : (source : Source) (n : ℕ) → Takes source (λ before x after. after ≡ before) (offset n)
takes_offset source n = record {
  taken = (takes_if source (λ before x after. after ≡ before) (nat_le n source.greatest) (give n) (refuse _) (takes_give source _ n (λ place. refl)) (takes_refuse source _ _)).taken;
}

-- ---- a length field and a prefix

abbrev HasFormat : Format → ℕ → InitialLength → ℕ → Type 0
HasFormat format before field after = (after ≡ before) × (field.format ≡ format)

takes_length : (source : Source) (format : Format) (n : ℕ) → Takes source (HasFormat format) (length_in format n)
takes_length source format n =
    takes_bind source (λ before x after. after ≡ before) (HasFormat format) (offset n) _ (takes_offset source n) (λ before length. record {
      taken = λ middle field e same. let is : record { length = length; format = format } ≡ field = cc in (same, sym (ap (λ (f : InitialLength). f.format) is));
    })

abbrev PassesLength : Source → ℕ → InitialLength → ℕ → Type 0
PassesLength source before field after = (after ≡ before + initial_length_size field.format) × (after ≤ source.last)

takes_initial_length : (source : Source) → Takes source (PassesLength source) initial_length
unfolding initial_length
takes_initial_length source =
    takes_bind source (λ before x after. Passes source (byte_len w32) before after) (PassesLength source) (unsigned w32) _ (takes_unsigned source w32) (λ before n.
    let P : ℕ → InitialLength → ℕ → Type 0 = λ middle field after. Passes source (byte_len w32) before middle → PassesLength source before field after in
    takes_if source P (nat_lt n 0xfffffff0) (length_in Dwarf32 n) _
    (record { taken = λ middle field e passed. let is = (takes_length source Dwarf32 n).taken middle field e in (rw is.1 (omega (arith, passed.0, is.0)), omega (arith, passed.0, passed.1, is.0)) })
    (takes_if source P (n == 0xffffffff) _ (refuse _)
    (takes_bind source (λ middle x long. Passes source (byte_len w64) middle long) P (unsigned w64) (length_in Dwarf64) (takes_unsigned source w64) (λ middle long. record {
      taken = λ place field e passed_long passed. let is = (takes_length source Dwarf64 long).taken place field e in
          (rw is.1 (omega (arith, passed.0, passed_long.0, is.0)), omega (arith, passed.0, passed.1, passed_long.0, passed_long.1, is.0));
    }))
    (takes_refuse source P _)))

-- the length field is the prefix's
abbrev KeepsLength : InitialLength → Prefix → Type 0
KeepsLength field found = (found.format ≡ field.format) × (found.length ≡ field.length)

fields_keep : (section : Section) (o : ℕ) (field : InitialLength) → Gives (KeepsLength field) (fields_after_length section o field.length field.format)
fields_keep section o field =
    gives_bind (KeepsLength field) here _ (λ place.
    gives_bind (KeepsLength field) (unsigned (id_width section.kind field.format)) _ (λ id.
    gives_bind (KeepsLength field) remainder _ (λ rest.
    gives_give (KeepsLength field) (record { offset = o; length = field.length; format = field.format; id = id; id_offset = offset_in section place; rest = rest }) (refl, refl))))

-- an entry ends where the next one begins, no later than the section
abbrev PassesEntry : Source → ℕ → Option Prefix → ℕ → Type 0
PassesEntry source before o after = IfSome o (λ found. (after ≡ before + initial_length_size found.format + found.length) × (after ≤ source.last))

takes_of_length : (section : Section) (source : Source) (o : ℕ) (field : InitialLength) (before : ℕ) →
    Takes source (λ middle found after. PassesLength source before field middle → PassesEntry source before found after) (of_length section o field)
takes_of_length section source o field before =
    let P : ℕ → Option Prefix → ℕ → Type 0 = λ middle found after. PassesLength source before field middle → PassesEntry source before found after in
    let Inside : ℕ → Extent → ℕ → Type 0 = λ middle extent after. Passes source field.length middle after in
    let Kept : ℕ → Prefix → ℕ → Type 0 = λ place found after. (after ≡ place) × KeepsLength field found in
    takes_if source P (field.length == 0) (give None) _ (takes_give source P None (λ place passed. tt))
    (takes_bind source Inside P (split field.length) _ (takes_split source field.length) (λ middle extent.
    takes_bind source Kept (λ place found after. Inside middle extent place → P middle found after) (within extent (fields_after_length section o field.length field.format)) _
    (record {
      taken = λ place found e. (refl, (gives_within (KeepsLength field) extent _ (fields_keep section o field)).given source place found e);
    })
    (λ place found.
    takes_give source (λ later some after. Kept place found later → Inside middle extent place → P middle some after) (Some found) (λ later kept inside passed.
    (rw (kept.1.0, kept.1.1) (omega (arith, kept.0, inside.0, passed.0)), omega (arith, kept.0, inside.0, inside.1, passed.1))))))

takes_prefix : (section : Section) (source : Source) (place : ℕ) (o : Option Prefix) → (prefix section source place).value ≡ Ok o → PassesEntry source place o (prefix section source place).place
unfolding prefix
takes_prefix section source place o e =
    (takes_bind source (PassesLength source) (PassesEntry source) initial_length (of_length section (offset_in section place)) (takes_initial_length source)
    (λ before field. takes_of_length section source (offset_in section place) field before)).taken place o e

-- ---- an entry

abbrev end_of_prefix : Prefix → ℕ
end_of_prefix found = found.offset + initial_length_size found.format + found.length

abbrev EndsWith : Prefix → Cie → Type 0
EndsWith found cie = end_of_entry (CieEntry cie) ≡ end_of_prefix found

cie_end : (section : Section) (found : Prefix) → Gives (EndsWith found) (cie_fields section found)
unfolding cie_fields
cie_end section found =
    let P = EndsWith found in
    gives_bind P (unsigned w8) _ (λ version.
    gives_bind P (refuse_if (not (is_known_version version)) (UnknownVersion version)) _ (λ known.
    gives_bind P text _ (λ letters.
    gives_bind P (sizes section version) _ (λ size.
    gives_bind P unsigned_leb128 _ (λ code.
    gives_bind P signed_leb128 _ (λ factor.
    gives_bind P (return_register version) _ (λ register.
    gives_bind P (augmentation (pointer_context section None size) letters) _ (λ meaning.
    gives_bind P remainder _ (λ instructions.
    gives_give P (record {
      offset = found.offset;
      length = found.length;
      format = found.format;
      version = version;
      augmentation = meaning;
      address_size = size;
      code_alignment_factor = code;
      data_alignment_factor = factor;
      return_address_register = register;
      initial_instructions = instructions;
    }) refl)))))))))

entry_end : (section : Section) (found : Prefix) (b : Bool) (cie : Result Cie Error) (fde : Result PartialFde Error) (entry : Entry) →
    ((c : Cie) → cie ≡ Ok c → EndsWith found c) → ((p : PartialFde) → fde ≡ Ok p → p.prefix ≡ found) →
    (if b then map_ok CieEntry cie else map_ok FdeEntry fde) ≡ Ok entry → end_of_entry entry ≡ end_of_prefix found
entry_end section found true (Ok c) fde entry ends keeps is = let same : CieEntry c ≡ entry = cc in ap end_of_entry (sym same) ∙ ends c refl
entry_end section found true (Err r) fde entry ends keeps is = absurd (cc)
entry_end section found false cie (Ok p) entry ends keeps is = let same : FdeEntry p ≡ entry = cc in ap end_of_entry (sym same) ∙ ap end_of_prefix (keeps p refl)
entry_end section found false cie (Err r) entry ends keeps is = absurd (cc)

end_of_read : (section : Section) (found : Prefix) (entry : Entry) → entry_of section found ≡ Ok entry → end_of_entry entry ≡ end_of_prefix found
unfolding entry_of
end_of_read section found entry is =
    entry_end section found (is_cie section found) (cie_of section found) (partial_fde_of section found) entry
    (λ cie e. (gives_within (EndsWith found) found.rest (cie_fields section found) (cie_end section found)).given section.source found.rest.first cie e)
    (λ partial e. found_kept found (cie_offset_of section found.id_offset found.id) partial e)
    is

-- ---- all entries

abbrev pub EndsInside : Section → Entry → Type 0
EndsInside section entry = end_of_entry entry ≤ section.source.last - section.first

abbrev pub AllInside : Section → List Entry → Type 0
AllInside section es = AllByRecursion (EndsInside section) es

listed_inside : (section : Section) (r : Result Entry Error) (others : Readings Entry) → ((entry : Entry) → r ≡ Ok entry → EndsInside section entry) →
    AllInside section others.values → AllInside section (readings_with false r others).values
listed_inside section (Err e) others each behind = tt
listed_inside section (Ok entry) others each behind = (each entry refl, behind)

gap_inside : (section : Section) (b : Bool) (others : Readings Entry) → AllInside section others.values → AllInside section (if b then no_values None else others).values
gap_inside section true others behind = tt
gap_inside section false others behind = behind

with_inside : (section : Section) (place : ℕ) (b : Bool) (r : Result (Option Prefix) Error) (others : Readings Entry) → section.first ≤ place →
    (prefix section section.source place).value ≡ r → AllInside section others.values → AllInside section (entries_with section b r others).values
with_inside section place true r others from is behind = tt
with_inside section place false (Err e) others from is behind = tt
with_inside section place false (Ok None) others from is behind = gap_inside section _ others behind
with_inside section place false (Ok (Some found)) others from is behind =
    let at : found.offset ≡ place - section.first = prefix_offset section section.source place found is in
    let passed = takes_prefix section section.source place (Some found) is in
    listed_inside section (entry_of section found) others
    (λ entry e. let same : end_of_entry entry ≡ end_of_prefix found = end_of_read section found entry e in omega (arith, same, at, from, passed.0, passed.1))
    behind

from_inside : (n : ℕ) (section : Section) (place : ℕ) → section.first ≤ place → AllInside section (entries_from n section place).values
unfolding entries_from
from_inside zero section place from = tt
from_inside (suc n) section place from =
    let first = prefix section section.source place in
    let onward : place ≤ first.place = (onward_prefix section).after section.source place in
    with_inside section place (nat_le section.source.last place) first.value (entries_from n section first.place) from refl
    (from_inside n section first.place (omega arith))

pub entries_inside : (section : Section) → AllInside section (entries section).values
entries_inside section = from_inside (section.source.last - section.first) section section.first (omega arith)
