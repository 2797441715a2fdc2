-- The parts of entries: reads of them never go back, and letters are read one by one.
use Rattle.std.proofs.Common.{◌≡◌, ◌≤◌, ◌<◌, ◌+◌, ◌-◌, ℕ, Bool, true, false, not, List, [], ◌∷◌, Option, Some, None, Result, Ok, Err, refl, sym, ap, ◌∙◌, arith, take, drop, ⊎_elim, ne_eqb}
use Rattle.std.proofs.lemmas.Bool.{cases_lt}
use Rattle.std.specs.Prelude.{◌==◌, ◌||◌, if◌then◌else◌, length, nat_lt}
use Rattle.std.specs.List.{prefix_len}
use Rattle.std.specs.Int.{Width, w8, w16, w32, w64}
use Rattle.cfi_read_core.specs.declared.error.Error.{Error}
use Rattle.cfi_read_core.specs.declared.error.Error.TheVariants.{CannotParseOmitPointerEncoding, UnknownAugmentation, UnsupportedSegmentSize}
use Rattle.cfi_read_core.specs.ReadFunctions.{Read, Source, Position, Extent, Outcome, ◌>>=◌, ◌>>◌, carry_on, give, refuse, refuse_if, split, within, rest}
use Rattle.cfi_read_core.specs.Numbers.{unsigned, offset_leb128, register_leb128, text}
use Rattle.cfi_read_core.specs.Addresses.{IsAddressSize, address, address_size, address_width, is_address_size, sized_by, wrap}
use Rattle.cfi_read_core.specs.ReaderCalls.{IsSound, bytes_left}
use Rattle.cfi_read_core.specs.PointerEncodings.{is_indirect, is_omitted, is_valid_encoding}
use Rattle.cfi_read_core.proofs.Given.{Gives, gives_bind, gives_give, gives_refuse}
use Rattle.cfi_read_core.proofs.Onward.{IsOnward, onward_give, onward_refuse, onward_refuse_if, onward_if, onward_bind, onward_split, onward_within, onward_unsigned, onward_offset_leb128, onward_register_leb128, onward_address}
use Rattle.cfi_read_core.proofs.Leb128.{byte_there, no_byte_there}
use Rattle.cfi_parts.specs.declared.pointer.Pointer.{Pointer}
use Rattle.cfi_parts.specs.declared.pointer.Pointer.TheVariants.{Direct, Indirect}
use Rattle.cfi_read_core.specs.CallFrameSections.{has_sizes}
use Rattle.cfi_parts.specs.Pointers.{PointerContext, base_of, encoding_byte, encoded_value, pointer_to, pointer_value, pointer}
use Rattle.cfi_parts.proofs.InstructionLemmas.{onward_formatted, onward_pointer}
use Rattle.cfi_entry.specs.Sections.{Section, pointer_context}
use Rattle.cfi_entry.specs.Augmentations.{Augmentation, no_letters, letter, letters, letters_with_data, augmentation}
use Rattle.cfi_entry.specs.Cies.{sizes, return_register}
use Rattle.cfi_entry.specs.Fdes.{addresses, lsda_in_data, lsda, lsda_by}
use Rattle.std.proofs.lemmas.Bool.{cases_lt}

pub onward_encoding_byte : IsOnward encoding_byte
unfolding encoding_byte
onward_encoding_byte = onward_bind (unsigned w8) _ (onward_unsigned w8) (λ encoding. onward_if (is_valid_encoding encoding) (give encoding) _ (onward_give encoding) (onward_refuse _))

-- ---- pointers

rebuilt : (b : Bool) (a : ℕ) → (if b then Indirect (pointer_value (if b then Indirect a else Direct a)) else Direct (pointer_value (if b then Indirect a else Direct a))) ≡ (if b then Indirect a else Direct a)
rebuilt true a = refl
rebuilt false a = refl

-- a pointer that is read is that of its value and its encoding
pub pointer_gives : (encoding : ℕ) (context : PointerContext) → Gives (λ p. pointer_to encoding (pointer_value p) ≡ p) (pointer encoding context)
unfolding pointer
pointer_gives encoding context =
    let P : Pointer → Type 0 = λ p. pointer_to encoding (pointer_value p) ≡ p in
    let value_behind : ℕ → Read Pointer = λ base. encoded_value encoding context.size >>= λ value. give (pointer_to encoding (wrap base value context.size)) in
    gives_bind P (refuse_if (is_omitted encoding) CannotParseOmitPointerEncoding) (λ _. base_of encoding context >>= value_behind) (λ _.
    gives_bind P (base_of encoding context) value_behind (λ base.
    gives_bind P (encoded_value encoding context.size) (λ value. give (pointer_to encoding (wrap base value context.size))) (λ value.
    gives_give P (pointer_to encoding (wrap base value context.size)) (rebuilt (is_indirect encoding) (wrap base value context.size)))))

-- ---- bytes

-- what is left has the byte that is read, and after it what is left then
pub byte_taken : {old new : Position} {b : ℕ} → IsSound old → (unsigned w8 old.source old.place ≡ record { value = Ok b; place = new.place }) × (new.source ≡ old.source) →
    bytes_left old ≡ b ∷ bytes_left new
byte_taken {old = old} {new = new} {b = b} sound (gives, same) =
    let there = byte_there old.source old.place b sound.within (ap (λ (o : Outcome ℕ). o.value) gives) in
    let place : new.place ≡ old.place + 1 = sym (ap (λ (o : Outcome ℕ). o.place) gives) ∙ there.1 in
    there.0 ∙ (ap (λ (p : ℕ). b ∷ rest old.source p) (sym place) ∙ ap (λ (s : Source). b ∷ rest s new.place) (sym same))

-- nothing is left where none is read
pub none_taken : (old new : Position) {e : Error} → (unsigned w8 old.source old.place ≡ record { value = Err e; place = new.place }) × (new.source ≡ old.source) →
    bytes_left old ≡ []
none_taken old new {e = e} (gives, same) = (no_byte_there old.source old.place e (ap (λ (o : Outcome ℕ). o.value) gives)).0

-- fewer bytes are left then
pub fewer_left : (old new : Position) {b : ℕ} → IsSound old → (unsigned w8 old.source old.place ≡ record { value = Ok b; place = new.place }) × (new.source ≡ old.source) →
    new.source.last - new.place < old.source.last - old.place
fewer_left old new {b = b} sound (gives, same) =
    let there = byte_there old.source old.place b sound.within (ap (λ (o : Outcome ℕ). o.value) gives) in
    let place : new.place ≡ old.place + 1 = sym (ap (λ (o : Outcome ℕ). o.place) gives) ∙ there.1 in
    let last : new.source.last ≡ old.source.last = ap (λ (s : Source). s.last) same in
    let some : 0 < old.source.last - old.place = ⊎_elim (λ less. less) (λ none.
    let empty : old.source.last - old.place ≡ 0 = omega arith in
    let nothing : rest old.source old.place ≡ [] = ap (λ (n : ℕ). take n (drop old.place old.source.whole)) empty in
    let clash : b ∷ rest old.source (old.place + 1) ≡ [] = sym there.0 ∙ nothing in absurd (cc)) (cases_lt 0 (old.source.last - old.place)) in
    omega arith

-- ---- letters

pub letters_end : (context : PointerContext) (known : Augmentation) (s : Position) (source : Source) (place : ℕ) → bytes_left s ≡ [] →
    letters context (bytes_left s) known source place ≡ record { value = Ok known; place = place }
unfolding letters
letters_end context known s source place e = ap (λ (ls : List ℕ). letters context ls known source place) e

-- one letter, and those after it
pub letters_on : (context : PointerContext) (l : ℕ) (ls : List ℕ) (known next : Augmentation) (old new : Position) →
    (letter context l known old.source old.place ≡ record { value = Ok next; place = new.place }) × (new.source ≡ old.source) →
    letters context (l ∷ ls) known old.source old.place ≡ letters context ls next new.source new.place
unfolding letters
letters_on context l ls known next old new (gives, same) =
    ap (λ (o : Outcome Augmentation). carry_on (letters context ls) old.source o.value o.place) gives ∙ ap (λ (s : Source). letters context ls next s new.place) (sym same)

-- a letter that is refused
pub letters_refused : (context : PointerContext) (l : ℕ) (ls : List ℕ) (known : Augmentation) (old : Position) (e : Error) (place : ℕ) →
    letter context l known old.source old.place ≡ record { value = Err e; place = place } →
    letters context (l ∷ ls) known old.source old.place ≡ record { value = Err e; place = place }
unfolding letters
letters_refused context l ls known old e place gives = ap (λ (o : Outcome Augmentation). carry_on (letters context ls) old.source o.value o.place) gives

-- a letter that needs data, where none is announced
pub letter_unannounced : (context : PointerContext) (l : ℕ) (known : Augmentation) (source : Source) (place : ℕ) → (l ≡ 0x53 → ⊥) → (l ≡ 0x42 → ⊥) → known.has_augmentation_data ≡ false →
    letter context l known source place ≡ record { value = Err UnknownAugmentation; place = place }
unfolding letter
letter_unannounced context l known source place no_trampoline no_key none = rw (ne_eqb l 0x53 no_trampoline, ne_eqb l 0x42 no_key, none) refl

-- R gives the encoding of the addresses
pub letter_of_addresses : (context : PointerContext) (l : ℕ) (known : Augmentation) (source : Source) (place : ℕ) {behind encoding : ℕ} → l ≡ 0x52 → known.has_augmentation_data ≡ true →
    encoding_byte source place ≡ record { value = Ok encoding; place = behind } →
    letter context l known source place ≡ record { value = Ok (record known { address_encoding = Some encoding }); place = behind }
unfolding letter
letter_of_addresses context l known source place is has reads =
    rw (is, has) (ap (λ (o : Outcome ℕ). carry_on (λ e. give (record known { has_augmentation_data = true; address_encoding = Some e })) source o.value o.place) reads)

-- P gives the encoding and the pointer, whose number is kept
pub letter_of_personality : (context : PointerContext) (l : ℕ) (known : Augmentation) (start middle after : Position) {encoding number : ℕ} {parameters : PointerContext} {p : Pointer} → l ≡ 0x50 → known.has_augmentation_data ≡ true →
    (encoding_byte start.source start.place ≡ record { value = Ok encoding; place = middle.place }) × (middle.source ≡ start.source) → parameters ≡ context →
    (pointer encoding parameters middle.source middle.place ≡ record { value = Ok p; place = after.place }) × (after.source ≡ middle.source) → number ≡ pointer_value p →
    (letter context l known start.source start.place ≡ record { value = Ok (record known { personality = Some (encoding, pointer_to encoding number) }); place = after.place }) × (after.source ≡ start.source)
unfolding letter
letter_of_personality context l known start middle after {encoding = encoding} {number = number} {parameters = parameters} {p = p} is has first same second kept =
    let gives_pointer : ℕ → Pointer → Read Augmentation = λ e found. give (record known { has_augmentation_data = true; personality = Some (e, found) }) in
    let after_encoding : ℕ → Read Augmentation = λ e. pointer e context >>= gives_pointer e in
    let told : pointer_to encoding number ≡ p = ap (pointer_to encoding) kept ∙ (pointer_gives encoding parameters).given _ _ _ (ap (λ (o : Outcome Pointer). o.value) second.0) in (
      rw (is, has, told) (
          ap (λ (o : Outcome ℕ). carry_on after_encoding start.source o.value o.place) first.0
          ∙ (ap (λ (s : Source). after_encoding encoding s middle.place) (sym first.1)
          ∙ (ap (λ (c : PointerContext). (pointer encoding c >>= gives_pointer encoding) middle.source middle.place) (sym same)
          ∙ ap (λ (o : Outcome Pointer). carry_on (gives_pointer encoding) middle.source o.value o.place) second.0))),
      second.1 ∙ first.1,
    )

-- ---- letters never go back

pub onward_letter : (context : PointerContext) (l : ℕ) (known : Augmentation) → IsOnward (letter context l known)
unfolding letter
onward_letter context l known =
    onward_if (l == 0x53) (give _) _ (onward_give _)
    (onward_if (l == 0x42) (give _) _ (onward_give _)
    (onward_if (not known.has_augmentation_data) (refuse _) _ (onward_refuse _)
    (onward_if (l == 0x4c) _ _ (onward_bind encoding_byte _ onward_encoding_byte (λ encoding. onward_give _))
    (onward_if (l == 0x50) _ _ (onward_bind encoding_byte _ onward_encoding_byte (λ encoding. onward_bind (pointer encoding context) _ (onward_pointer encoding context) (λ p. onward_give _)))
    (onward_if (l == 0x52) _ (refuse _) (onward_bind encoding_byte _ onward_encoding_byte (λ encoding. onward_give _)) (onward_refuse _))))))

pub onward_letters : (context : PointerContext) (ls : List ℕ) (known : Augmentation) → IsOnward (letters context ls known)
unfolding letters
onward_letters context [] known = onward_give known
onward_letters context (l ∷ ls) known = onward_bind (letter context l known) (letters context ls) (onward_letter context l known) (onward_letters context ls)

-- ---- augmentations

module _ (context : PointerContext) (ls : List ℕ) (source : Source) (place : ℕ) where
  pub augmentation_none : ls ≡ [] → augmentation context ls source place ≡ record { value = Ok None; place = place }
  unfolding augmentation
  augmentation_none e = rw e refl

  pub augmentation_announced : (l : ℕ) (others : List ℕ) → ls ≡ l ∷ others → l ≡ 0x7a → augmentation context ls source place ≡ letters_with_data context others source place
  unfolding augmentation
  augmentation_announced l others e is = rw (e, is) refl

  pub augmentation_plain : (l : ℕ) (others : List ℕ) (value : Result Augmentation Error) (behind : ℕ) → ls ≡ l ∷ others → (l == 0x7a) ≡ false →
      letters context ls no_letters source place ≡ record { value = value; place = behind } →
      augmentation context ls source place ≡ carry_on (λ known. give (Some known)) source value behind
  unfolding augmentation
  augmentation_plain l others value behind e other read = by_letter e where
    after : carry_on (λ known. give (Some known)) source (letters context ls no_letters source place).value (letters context ls no_letters source place).place ≡ carry_on (λ known. give (Some known)) source value behind
    after = ap (λ (o : Outcome Augmentation). carry_on (λ known. give (Some known)) source o.value o.place) read

    by_letter : ls ≡ l ∷ others → augmentation context ls source place ≡ carry_on (λ known. give (Some known)) source value behind
    by_letter e = rw e (rw other (rw e at after))

pub onward_announced : (context : PointerContext) (ls : List ℕ) → IsOnward (letters_with_data context ls)
unfolding letters_with_data
onward_announced context ls =
    let inside : Extent → Read Augmentation = λ data_bytes. within data_bytes (letters context ls (record no_letters { has_augmentation_data = true })) in
    let give_some : Augmentation → Read (Option Augmentation) = λ known. give (Some known) in
    onward_bind offset_leb128 (λ length. split length >>= λ data_bytes. inside data_bytes >>= give_some) onward_offset_leb128 (λ length.
    onward_bind (split length) (λ data_bytes. inside data_bytes >>= give_some) (onward_split length) (λ data_bytes.
    onward_bind (inside data_bytes) give_some (onward_within data_bytes (letters context ls (record no_letters { has_augmentation_data = true }))) (λ known. onward_give _)))

pub onward_augmentation : (context : PointerContext) (ls : List ℕ) → IsOnward (augmentation context ls)
unfolding augmentation
onward_augmentation context [] = onward_give None
onward_augmentation context (l ∷ ls) =
    onward_if (l == 0x7a) (letters_with_data context ls) _ (onward_announced context ls) (onward_bind (letters context (l ∷ ls) no_letters) _ (onward_letters context (l ∷ ls) no_letters) (λ known. onward_give _))

-- ---- the fields of entries never go back

onward_text_at : (b : Bool) (n place : ℕ) (bs : List ℕ) (e : Error) →
    place ≤ (let o : Outcome (List ℕ) = if b then record { value = Ok bs; place = place + n + 1 } else record { value = Err e; place = place } in o).place
onward_text_at true n place bs e = omega arith
onward_text_at false n place bs e = omega arith

pub onward_text : IsOnward text
unfolding text
onward_text = record {
  after = λ source place. let n = prefix_len (λ b. not (b == 0)) (rest source place) in onward_text_at (nat_lt n (length (rest source place))) n place _ _;
}

onward_of_size : (o : Option Width) (size : ℕ) → IsOnward (is_address_size o size)
onward_of_size None size = onward_refuse _
onward_of_size (Some width) size = onward_give size

pub onward_address_size : IsOnward address_size
unfolding address_size
onward_address_size = onward_bind (unsigned w8) (λ size. is_address_size (address_width size) size) (onward_unsigned w8) (λ size. onward_of_size (address_width size) size)

pub onward_sizes : (section : Section) (version : ℕ) → IsOnward (sizes section version)
onward_sizes section version =
    let judged : ℕ → ℕ → Read ℕ = λ size segment. refuse_if (not (segment == 0)) (UnsupportedSegmentSize segment) >> give size in
    onward_if (has_sizes section.kind version) _ (give section.address_size)
    (onward_bind address_size (λ size. unsigned w8 >>= judged size) onward_address_size (λ size.
    onward_bind (unsigned w8) (judged size) (onward_unsigned w8) (λ segment.
    onward_bind (refuse_if (not (segment == 0)) (UnsupportedSegmentSize segment)) (λ _. give size) (onward_refuse_if _ _) (λ _. onward_give size))))
    (onward_give section.address_size)

pub onward_return_register : (version : ℕ) → IsOnward (return_register version)
onward_return_register version =
    onward_if (version == 1) _ register_leb128 (onward_bind (unsigned w8) (λ n. give (record { 0 = n })) (onward_unsigned w8) (λ n. onward_give _)) onward_register_leb128

pub onward_addresses : (section : Section) (size : ℕ) (encoding : Option ℕ) → IsOnward (addresses section size encoding)
onward_addresses section size None =
    onward_bind (address size) (λ initial. address size >>= λ range. give (initial, range)) (onward_address size) (λ initial.
    onward_bind (address size) (λ range. give (initial, range)) (onward_address size) (λ range. onward_give _))
onward_addresses section size (Some encoding) =
    onward_bind (pointer encoding (pointer_context section None size)) (λ initial. encoded_value encoding size >>= λ range. give (pointer_value initial, range)) (onward_pointer encoding (pointer_context section None size)) (λ initial.
    onward_bind (encoded_value encoding size) (λ range. give (pointer_value initial, range)) (onward_formatted encoding size) (λ range. onward_give _))

onward_lsda_in_data : (b : Bool) (section : Section) (size initial : ℕ) (encoding : Option ℕ) → IsOnward (lsda_in_data b section size initial encoding)
onward_lsda_in_data false section size initial encoding = onward_give None
onward_lsda_in_data true section size initial encoding =
    let inside : Extent → Read (Option Pointer) = λ data_bytes. within data_bytes (lsda_by section size initial encoding) in
    onward_bind offset_leb128 (λ length. split length >>= inside) onward_offset_leb128 (λ length.
    onward_bind (split length) inside (onward_split length) (λ data_bytes. onward_within data_bytes (lsda_by section size initial encoding)))

pub onward_lsda : (section : Section) (size initial : ℕ) (known : Option Augmentation) → IsOnward (lsda section size initial known)
onward_lsda section size initial None = onward_give None
onward_lsda section size initial (Some known) = onward_lsda_in_data known.has_augmentation_data section size initial known.lsda_encoding

-- ---- address sizes

one_true : (a b c d : Bool) (w : Width) → (if a then Some w8 else if b then Some w16 else if c then Some w32 else if d then Some w64 else None) ≡ Some w → (a || (b || (c || d))) ≡ true
one_true true b c d w e = refl
one_true false true c d w e = refl
one_true false false true d w e = refl
one_true false false false true w e = refl
one_true false false false false w e = absurd (cc)

size_of_width : (size : ℕ) (o : Option Width) → address_width size ≡ o → Gives IsAddressSize (is_address_size o size)
size_of_width size None e = gives_refuse IsAddressSize _
size_of_width size (Some w) e = gives_give IsAddressSize size (sized_by size (one_true (size == 1) (size == 2) (size == 4) (size == 8) w e))

-- a size that is read is one of the four
pub address_size_gives : Gives IsAddressSize address_size
unfolding address_size
address_size_gives = gives_bind IsAddressSize (unsigned w8) (λ size. is_address_size (address_width size) size) (λ size. size_of_width size (address_width size) refl)

-- the sizes that the entry gives, where segment selectors have none
pub sizes_read : (section : Section) (version : ℕ) {size segment : ℕ} (old sized new : Position) → has_sizes section.kind version ≡ true →
    (address_size old.source old.place ≡ record { value = Ok size; place = sized.place }) × (sized.source ≡ old.source) →
    (unsigned w8 sized.source sized.place ≡ record { value = Ok segment; place = new.place }) × (new.source ≡ sized.source) → segment ≡ 0 →
    (sizes section version old.source old.place ≡ record { value = Ok size; place = new.place }) × (new.source ≡ old.source)
sizes_read section version {size = size} {segment = segment} old sized new gives first second none =
    let after_segment : ℕ → ℕ → Read ℕ = λ given selector. refuse_if (not (selector == 0)) (UnsupportedSegmentSize selector) >> give given in
    let after_size : ℕ → Read ℕ = λ given. unsigned w8 >>= after_segment given in (
      rw gives (
          ap (λ (o : Outcome ℕ). carry_on after_size old.source o.value o.place) first.0
          ∙ (ap (λ (s : Source). after_size size s sized.place) (sym first.1)
          ∙ (ap (λ (o : Outcome ℕ). carry_on (after_segment size) sized.source o.value o.place) second.0
          ∙ ap (λ (n : ℕ). after_segment size n sized.source new.place) none))),
      second.1 ∙ first.1,
    )
