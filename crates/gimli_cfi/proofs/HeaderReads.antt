-- The reads of a header and of its rows never go back.
use Rattle.std.proofs.Common.{◌≡◌, ℕ, ne_eqb, Result, Ok, Err, refl, arith, rules}
use Rattle.std.specs.Prelude.{◌||◌}
use Rattle.std.specs.Int.{w8}
use Rattle.cfi_read_core.specs.declared.error.Error.{Error}
use Rattle.cfi_read_core.specs.declared.error.Error.TheVariants.{UnknownVersion}
use Rattle.cfi_read_core.specs.ReadFunctions.{Position, Read, give, refuse_if}
use Rattle.cfi_read_core.specs.ReaderCalls.{IsSound, Reads, extent_of, map_ok}
use Rattle.cfi_read_core.specs.Numbers.{unsigned}
use Rattle.cfi_read_core.specs.PointerEncodings.{is_omitted}
use Rattle.cfi_read_core.specs.CallFrameSections.{IsOf}
use Rattle.cfi_read_core.proofs.Onward.{IsOnward, onward_give, onward_refuse_if, onward_if, onward_bind}
use Rattle.cfi_parts.specs.declared.pointer.Pointer.{Pointer}
use Rattle.cfi_parts.specs.declared.pointer.SectionBaseAddresses.{SectionBaseAddresses}
use Rattle.cfi_parts.specs.Pointers.{PointerContext, encoding_byte, encoded_value, pointer}
use Rattle.cfi_parts.proofs.InstructionLemmas.{onward_formatted, onward_pointer}
use Rattle.gimli_cfi.specs.EhFrameHdr.{has_base, header_context, header_fields, header_of, header_section, row_by, row_count, table_of}

pub onward_row_count : (size count_encoding table_encoding : ℕ) → IsOnward (row_count size count_encoding table_encoding)
unfolding row_count
onward_row_count size count_encoding table_encoding =
    onward_if (is_omitted count_encoding || is_omitted table_encoding) (give 0) _ (onward_give 0)
    (onward_bind (refuse_if (has_base count_encoding) _) (λ _. encoded_value count_encoding size) (onward_refuse_if _ _) (λ _. onward_formatted count_encoding size))

pub onward_row : (context : PointerContext) (encoding : ℕ) → IsOnward (row_by context encoding)
unfolding row_by
onward_row context encoding =
    onward_bind (pointer encoding context) _ (onward_pointer encoding context) (λ start.
    onward_bind (pointer encoding context) (λ target. give (start, target)) (onward_pointer encoding context) (λ target. onward_give (start, target)))

-- a read that gives, from one reader to the next
abbrev Gave : {A : Type 0} → Read A → Position → A → Position → Type 0
Gave read old x new = Reads (λ y. y) read old (Ok x) new

-- the parts of a header, read in order, up to the count or its refusal
pub header_by_count : (s : Position) (size : ℕ) (bases : SectionBaseAddresses) {s1 s2 s3 s4 s5 s6 : Position} {version n encoding count_encoding table_encoding : ℕ} {eh_frame : Pointer} (count : Result ℕ Error) →
    Gave (unsigned w8) s version s1 → version ≡ 1 → n ≡ size → Gave encoding_byte s1 encoding s2 → Gave encoding_byte s2 count_encoding s3 → Gave encoding_byte s3 table_encoding s4 →
    Gave (pointer encoding (header_context (header_section s n bases))) s4 eh_frame s5 → Reads (λ x. x) (row_count size count_encoding table_encoding) s5 count s6 →
    map_ok (λ count. record { eh_frame = eh_frame; table = table_of table_encoding count (extent_of s6) }) count ≡ header_of (header_section s size bases)
unfolding header_fields
header_by_count s size bases (Ok count) at_version one sized first second third at_pointer at_count =
    let at_version_1 = rw one at at_version in
    let pointer_of_size = rw sized at at_pointer in
    search rules
header_by_count s size bases (Err e) at_version one sized first second third at_pointer at_count =
    let at_version_1 = rw one at at_version in
    let pointer_of_size = rw sized at at_pointer in
    search rules

-- what a header of another version gives
pub header_refused : (s : Position) (size : ℕ) (bases : SectionBaseAddresses) {s1 : Position} {version : ℕ} →
    Gave (unsigned w8) s version s1 → (version ≡ 1 → ⊥) → Err (UnknownVersion version) ≡ header_of (header_section s size bases)
unfolding header_fields
header_refused s size bases {version = version} at_version other =
    let another = ne_eqb version 1 other in
    search rules

-- a reader is of the section that it reads from its beginning
pub whole_of : {s : Position} → IsSound s → IsOf s s
whole_of sound = record { source = refl; first = omega arith; last = omega arith }
