-- Sections, entries and headers worked out, by computation.
use Rattle.std.proofs.Common.{◌≡◌, ℕ, zero, suc, ◌+◌, ◌-◌, ◌^◌, Bool, true, List, [], ◌∷◌, ◌++◌, map, take, replicate, Option, Some, None, Result, Ok, Err, negsuc, refl, codes}
use Rattle.std.specs.Option.{option_and_then, option_map}
use Rattle.cfi_read_core.specs.declared.error.Error.{Error}
use Rattle.cfi_read_core.specs.declared.error.Error.TheVariants.{BadUnsignedLeb128, UnsupportedRegister, UnknownReservedLength, UnsupportedOffset, UnknownVersion, UnknownAugmentation, UnknownPointerEncoding, CannotParseOmitPointerEncoding, UnsupportedPointerEncoding, PcRelativePointerButSectionBaseIsUndefined, FuncRelativePointerInBadContext, NotCieId, NotCiePointer, NoEntryAtGivenOffset, OffsetOutOfBounds, NoUnwindInfoForAddress}
use Rattle.cfi_read_core.specs.declared.common.Format.{Format}
use Rattle.cfi_read_core.specs.declared.common.Format.TheVariants.{Dwarf32, Dwarf64}
use Rattle.cfi_read_core.specs.ReadFunctions.{Readings, unexpected_eof}
use Rattle.cfi_parts.specs.declared.pointer.Pointer.{Pointer}
use Rattle.cfi_parts.specs.declared.pointer.Pointer.TheVariants.{Direct, Indirect}
use Rattle.cfi_read_core.specs.declared.instruction.CallFrameInstruction.TheVariants.{AdvanceLoc, DefCfa, DefCfaRegister, DefCfaOffset, Offset}
use Rattle.cfi_parts.specs.Instructions.{Instruction}
use Rattle.cfi_entry.specs.Sections.{Section, EhFrame}
use Rattle.cfi_entry.specs.Cies.{Cie}
use Rattle.cfi_entry.specs.Fdes.{Fde, end_of}
use Rattle.cfi_entry.specs.Entries.{Entry, CieEntry, FdeEntry, entries, cie_at, partial_fde_at, fde_at}
use Rattle.cfi_entry.specs.EntryInstructions.{cie_instructions, fde_instructions}
use Rattle.cfi_unwind.specs.Scan.{chosen_fde}
use Rattle.gimli_cfi.specs.EhFrameHdr.{HeaderSection, Header, Table, header_of, row, start_of, target_of, offset_of_pointer}
use Rattle.gimli_cfi.specs.HeaderRows.{rows_left, walk_of}
use Rattle.gimli_cfi.specs.HalvingSteps.{steps}
use Rattle.gimli_cfi.specs.TableLookup.{fde_by_row}
use Rattle.gimli_cfi.specs.TableCheck.{IsEntryRefusal}
use Rattle.gimli_cfi.proofs.Computing.{computing, debug_frame, eh_frame, section_at, narrow, header_at, three, three_header, three_rows}

-- ---- what is shown of entries

-- a CIE by its offset; an FDE by its offset and that of its CIE
abbrev shown_entry : Entry → List ℕ
shown_entry (CieEntry cie) = cie.offset ∷ []
shown_entry (FdeEntry partial) = partial.prefix.offset ∷ partial.cie_offset ∷ []

abbrev shown_entries : Section → List (List ℕ) × Option Error
shown_entries s = (map shown_entry (entries s).values, (entries s).refusal)

-- an FDE by its offset, its initial address and its end
abbrev shown_fde : Fde → List ℕ
shown_fde fde = fde.offset ∷ fde.initial ∷ end_of fde ∷ []

abbrev shown : Result Fde Error → Result (List ℕ) Error
shown (Ok fde) = Ok (shown_fde fde)
shown (Err e) = Err e

abbrev none : {A : Type 0} → Result A Error
none = Err NoUnwindInfoForAddress

abbrev all : List Instruction → Readings Instruction
all is = record { values = is; refusal = None }

abbrev program : Section → Result Fde Error → Result (Readings Instruction) Error
program s (Ok fde) = Ok (fde_instructions s fde)
program s (Err e) = Err e

abbrev first_program : Section → Result Cie Error → Result (Readings Instruction) Error
first_program s (Ok cie) = Ok (cie_instructions s cie)
first_program s (Err e) = Err e

-- ---- a CIE, and the FDE after it

abbrev first_row : Section
first_row = debug_frame (codes "10000000 ffffffff 04000800 017810 0c0708 9001 1c000000 00000000 0010000000000000 2000000000000000 41 0e10 8602 43 0d06")

first_row_entries : shown_entries first_row ≡ ((0 ∷ []) ∷ (20 ∷ 0 ∷ []) ∷ [], None)
unfolding computing
first_row_entries = refl

first_row_cie : cie_at first_row 0 ≡ Ok (record {
  offset = 0;
  length = 16;
  format = Dwarf32;
  version = 4;
  augmentation = None;
  address_size = 8;
  code_alignment_factor = 1;
  data_alignment_factor = negsuc 7;
  return_address_register = record { 0 = 16 };
  initial_instructions = record { first = 15; last = 20 };
})
unfolding computing
first_row_cie = refl

first_row_first_program : first_program first_row (cie_at first_row 0) ≡ Ok (all (DefCfa (record { 0 = 7 }) 8 ∷ Offset (record { 0 = 16 }) 1 ∷ []))
unfolding computing
first_row_first_program = refl

first_row_chosen : shown (chosen_fde first_row 0x1002) ≡ Ok (20 ∷ 0x1000 ∷ 0x1020 ∷ [])
unfolding computing
first_row_chosen = refl

first_row_program : program first_row (chosen_fde first_row 0x1002) ≡ Ok (all (AdvanceLoc 1 ∷ DefCfaOffset 16 ∷ Offset (record { 0 = 6 }) 2 ∷ AdvanceLoc 3 ∷ DefCfaRegister (record { 0 = 6 }) ∷ []))
unfolding computing
first_row_program = refl

first_row_above : shown (chosen_fde first_row 0x1020) ≡ none
unfolding computing
first_row_above = refl

-- ---- an end that wraps contains nothing

abbrev wrapped : Section
wrapped = debug_frame (codes "10000000 ffffffff 04000400 017810 0c0708 9001 0c000000 00000000 f0ffffff 20000000")

wrapped_end : shown (fde_at wrapped 20) ≡ Ok (20 ∷ 0xfffffff0 ∷ 0x10 ∷ [])
unfolding computing
wrapped_end = refl

wrapped_contains_nothing : shown (chosen_fde wrapped 0xfffffff8) ≡ none
unfolding computing
wrapped_contains_nothing = refl

-- ---- a zero length is passed over in .debug_frame and ends .eh_frame

abbrev behind_a_gap : List ℕ
behind_a_gap = codes "00000000 10000000 ffffffff 04000800 017810 0c0708 9001 14000000 04000000 0010000000000000 2000000000000000"

abbrev behind_a_wide_gap : List ℕ
behind_a_wide_gap = codes "ffffffff 0000000000000000 10000000 ffffffff 04000800 017810 0c0708 9001 14000000 0c000000 0010000000000000 2000000000000000"

gap_is_passed : shown (chosen_fde (debug_frame behind_a_gap) 0x1000) ≡ Ok (24 ∷ 0x1000 ∷ 0x1020 ∷ [])
unfolding computing
gap_is_passed = refl

gap_ends : shown (chosen_fde (eh_frame behind_a_gap) 0x1000) ≡ none
unfolding computing
gap_ends = refl

wide_gap_is_passed : shown (chosen_fde (debug_frame behind_a_wide_gap) 0x1000) ≡ Ok (32 ∷ 0x1000 ∷ 0x1020 ∷ [])
unfolding computing
wide_gap_is_passed = refl

wide_gap_ends : shown (chosen_fde (eh_frame behind_a_wide_gap) 0x1000) ≡ none
unfolding computing
wide_gap_ends = refl

-- ---- CIE pointers of .eh_frame

before_the_section : shown (chosen_fde (eh_frame (codes "04000000 05000000")) 0) ≡ Err (OffsetOutOfBounds 5)
unfolding computing
before_the_section = refl

its_own_cie : shown (chosen_fde (eh_frame (codes "04000000 04000000")) 0) ≡ Err (NotCieId 0)
unfolding computing
its_own_cie = refl

-- ---- lengths that are cut off or reserved

length_cut_off : cie_at (debug_frame (codes "0500")) 0 ≡ Err (unexpected_eof 0)
unfolding computing
length_cut_off = refl

length_reserved : cie_at (debug_frame (codes "f5ffffff")) 0 ≡ Err (UnknownReservedLength 0xfffffff5)
unfolding computing
length_reserved = refl

wide_length_cut_off : cie_at (debug_frame (codes "ffffffff 39300000")) 0 ≡ Err (unexpected_eof 4)
unfolding computing
wide_length_cut_off = refl

extent_cut_off : cie_at (debug_frame (codes "000000ff ffffffff")) 0 ≡ Err (unexpected_eof 4)
unfolding computing
extent_cut_off = refl

-- ---- three FDEs of .eh_frame

three_entries : shown_entries three ≡ ((0 ∷ []) ∷ (24 ∷ 0 ∷ []) ∷ (44 ∷ 0 ∷ []) ∷ (64 ∷ 0 ∷ []) ∷ [], None)
unfolding computing
three_entries = refl

below_three : shown (chosen_fde three 0xff0) ≡ none
unfolding computing
below_three = refl

second_of_three : shown (chosen_fde three 0x1018) ≡ Ok (44 ∷ 0x1010 ∷ 0x1020 ∷ [])
unfolding computing
second_of_three = refl

second_program : program three (chosen_fde three 0x1018) ≡ Ok (all (AdvanceLoc 1 ∷ DefCfaOffset 16 ∷ []))
unfolding computing
second_program = refl

third_of_three : shown (chosen_fde three 0x1020) ≡ Ok (64 ∷ 0x1020 ∷ 0x1040 ∷ [])
unfolding computing
third_of_three = refl

-- ---- the header of the three, at 0x1f00

three_header_read : header_of three_header ≡ Ok (record { eh_frame = Direct 0x2000; table = Some three_rows })
unfolding computing
three_header_read = refl

three_rows_walked : row three_header 0x3b three_header.source 12 ≡ record { value = Ok (Direct 0x1000, Direct 0x2018); place = 20 }
unfolding computing
three_rows_walked = refl

three_rows_left : rows_left (walk_of three_header three_rows) ≡ Ok (Direct 0x1000, Direct 0x2018) ∷ Ok (Direct 0x1010, Direct 0x202c) ∷ Ok (Direct 0x1020, Direct 0x2040) ∷ []
unfolding computing
three_rows_left = refl

-- the bytes of the fourth row aren't there
one_row_missing : rows_left (walk_of three_header (record three_rows { count = 4 })) ≡ Ok (Direct 0x1000, Direct 0x2018) ∷ Ok (Direct 0x1010, Direct 0x202c) ∷ Ok (Direct 0x1020, Direct 0x2040) ∷ Err (unexpected_eof 36) ∷ []
unfolding computing
one_row_missing = refl

-- the start of the second row is refused after its ten bytes, and the third row begins there
refused_row : rows_left (walk_of (header_at None 1 (codes "01 02 80808080808080808002 05 06 07")) (record { encoding = 0x01; count = 3; rows = record { first = 0; last = 15 } })) ≡ Ok (Direct 1, Direct 2) ∷ Err BadUnsignedLeb128 ∷ Ok (Direct 5, Direct 6) ∷ []
unfolding computing
refused_row = refl

three_starts : map (start_of three_header three_rows) (0 ∷ 1 ∷ 2 ∷ []) ≡ Ok 0x1000 ∷ Ok 0x1010 ∷ Ok 0x1020 ∷ []
unfolding computing
three_starts = refl

three_targets : map (target_of three_header three_rows) (0 ∷ 1 ∷ 2 ∷ []) ≡ Ok (Direct 0x2018) ∷ Ok (Direct 0x202c) ∷ Ok (Direct 0x2040) ∷ []
unfolding computing
three_targets = refl

by_first_row : shown (fde_by_row three_header three_rows (Direct 0x2000) three 0xff0 0) ≡ none
unfolding computing
by_first_row = refl

by_second_row : shown (fde_by_row three_header three_rows (Direct 0x2000) three 0x1018 1) ≡ Ok (44 ∷ 0x1010 ∷ 0x1020 ∷ [])
unfolding computing
by_second_row = refl

by_third_row : shown (fde_by_row three_header three_rows (Direct 0x2000) three 0x1020 2) ≡ Ok (64 ∷ 0x1020 ∷ 0x1040 ∷ [])
unfolding computing
by_third_row = refl

pointer_below : offset_of_pointer 0xffffffffffffffff (Direct 0x2000) (Direct 0x1fff) ≡ Err (OffsetOutOfBounds 0x1fff)
pointer_below = refl

no_table_of_format : start_of three_header (record three_rows { encoding = 0x31 }) 0 ≡ Err (UnsupportedPointerEncoding (record { 0 = 0x31 }))
unfolding computing
no_table_of_format = refl

-- ---- a count of 2 ^ 63

abbrev endless : HeaderSection
endless = header_at None 8 (codes "01 00 04 04 0020000000000000 0000000000000080")

abbrev endless_rows : Table
endless_rows = record { encoding = 0x04; count = 2 ^ 63; rows = record { first = 20; last = 20 } }

endless_read : header_of endless ≡ Ok (record { eh_frame = Direct 0x2000; table = Some endless_rows })
unfolding computing
endless_read = refl

no_such_place : start_of endless endless_rows (2 ^ 62) ≡ Err UnsupportedOffset
unfolding computing
no_such_place = refl

rows_cut_off : start_of endless endless_rows 1 ≡ Err (unexpected_eof 20)
unfolding computing
rows_cut_off = refl

no_narrow_place : start_of (record endless { source = record endless.source { greatest = 0xffffffff } }) endless_rows 0x10000000 ≡ Err UnsupportedOffset
unfolding computing
no_narrow_place = refl

-- ---- a personality

abbrev personal : List ℕ
personal = codes "11000000 00000000 01 7a5000 017810 05 9b 10000000"

abbrev personality_of : Result Cie Error → Result (Option (ℕ × Pointer)) Error
personality_of (Err e) = Err e
personality_of (Ok cie) = Ok (option_and_then (λ known. known.personality) cie.augmentation)

personality_read : personality_of (cie_at (section_at EhFrame (Some 0x2000) personal) 0) ≡ Ok (Some (0x9b, Indirect 0x2021))
unfolding computing
personality_read = refl

personality_without_base : cie_at (eh_frame personal) 0 ≡ Err PcRelativePointerButSectionBaseIsUndefined
unfolding computing
personality_without_base = refl

-- ---- the 64-bit format

abbrev wide_format : Section
wide_format = debug_frame (codes "ffffffff 1400000000000000 ffffffffffffffff 04000800 017810 0c0708 9001 ffffffff 1800000000000000 0000000000000000 0010000000000000 2000000000000000")

wide_fde : shown (chosen_fde wide_format 0x1000) ≡ Ok (32 ∷ 0x1000 ∷ 0x1020 ∷ [])
unfolding computing
wide_fde = refl

abbrev format_in : Result Fde Error → Result Format Error
format_in (Ok fde) = Ok fde.cie.format
format_in (Err e) = Err e

wide_cie : format_in (chosen_fde wide_format 0x1000) ≡ Ok Dwarf64
unfolding computing
wide_cie = refl

-- in .eh_frame the id has four bytes in both formats
wide_eh_cie : cie_at (eh_frame (codes "ffffffff 0900000000000000 00000000 01 00 017810")) 0 ≡ Ok (record {
  offset = 0;
  length = 9;
  format = Dwarf64;
  version = 1;
  augmentation = None;
  address_size = 8;
  code_alignment_factor = 1;
  data_alignment_factor = negsuc 7;
  return_address_register = record { 0 = 16 };
  initial_instructions = record { first = 21; last = 21 };
})
unfolding computing
wide_eh_cie = refl

-- ---- LEB128 in instructions

abbrev with_program : List ℕ → Section
with_program fde = debug_frame (codes "10000000 ffffffff 04000800 017810 0c0708 9001" ++ fde)

padded_operand : program (with_program (codes "19000000 00000000 0010000000000000 2000000000000000 41 0e908000")) (chosen_fde (with_program (codes "19000000 00000000 0010000000000000 2000000000000000 41 0e908000")) 0x1001) ≡ Ok (all (AdvanceLoc 1 ∷ DefCfaOffset 16 ∷ []))
unfolding computing
padded_operand = refl

operand_too_large : program (with_program (codes "1f000000 00000000 0010000000000000 2000000000000000 0e80808080808080808002")) (chosen_fde (with_program (codes "1f000000 00000000 0010000000000000 2000000000000000 0e80808080808080808002")) 0x1001) ≡ Ok (record { values = []; refusal = Some BadUnsignedLeb128 })
unfolding computing
operand_too_large = refl

register_too_large : program (with_program (codes "18000000 00000000 0010000000000000 2000000000000000 07808004")) (chosen_fde (with_program (codes "18000000 00000000 0010000000000000 2000000000000000 07808004")) 0x1001) ≡ Ok (record { values = []; refusal = Some (UnsupportedRegister 65536) })
unfolding computing
register_too_large = refl

-- ---- headers

abbrev pair_of : Result Header Error → Result (Pointer × Option Table) Error
pair_of (Ok read) = Ok (read.eh_frame, read.table)
pair_of (Err e) = Err e

abbrev parsed : Option ℕ → ℕ → List ℕ → Result (Pointer × Option Table) Error
parsed base size digits = pair_of (header_of (header_at base size digits))

abbrev pointer_alone : Pointer → Result (Pointer × Option Table) Error
pointer_alone p = Ok (p, None)

header_1 : parsed (Some 0x1f00) 8 (codes "01 1b ff ff 10000000") ≡ pointer_alone (Direct 0x1f14)
unfolding computing
header_1 = refl

header_2 : parsed (Some 0x1f00) 8 (codes "01 9b ff ff f0ffffff") ≡ pointer_alone (Indirect 0x1ef4)
unfolding computing
header_2 = refl

header_3 : parsed (Some 0xfffffff0) 4 (codes "01 1b ff ff 20000000") ≡ pointer_alone (Direct 0x14)
unfolding computing
header_3 = refl

header_4 : parsed None 8 (codes "01 01 ff ff 8001") ≡ pointer_alone (Direct 128)
unfolding computing
header_4 = refl

header_5 : parsed None 2 (codes "01 09 ff ff 7f") ≡ pointer_alone (Direct 0xffff)
unfolding computing
header_5 = refl

header_6 : parsed None 8 (codes "01 1b ff ff") ≡ Err PcRelativePointerButSectionBaseIsUndefined
unfolding computing
header_6 = refl

header_7 : parsed (Some 0x1f00) 8 (codes "01 1b ff ff") ≡ Err (unexpected_eof 4)
unfolding computing
header_7 = refl

header_8 : parsed None 8 (codes "01 05 ff ff") ≡ Err (UnknownPointerEncoding (record { 0 = 0x05 }))
unfolding computing
header_8 = refl

header_9 : parsed None 8 (codes "01 40 ff ff") ≡ Err FuncRelativePointerInBadContext
unfolding computing
header_9 = refl

header_10 : parsed None 8 (codes "01 50 ff ff") ≡ Err (UnsupportedPointerEncoding (record { 0 = 0x50 }))
unfolding computing
header_10 = refl

header_11 : parsed (Some 0x1f00) 8 (codes "01 ff 03 3b") ≡ Err CannotParseOmitPointerEncoding
unfolding computing
header_11 = refl

header_12 : parsed (Some 0x1f00) 8 (codes "01 1b 13 3b fc000000 03000000") ≡ Err (UnsupportedPointerEncoding (record { 0 = 0x13 }))
unfolding computing
header_12 = refl

header_13 : parsed None 8 (codes "02") ≡ Err (UnknownVersion 2)
unfolding computing
header_13 = refl

-- ---- augmentation

abbrev at_text : Section → Section
at_text s = record s { bases = record { section = None; text = Some 0xfeedface; data_base = None } }

text_relative : shown (chosen_fde (at_text (eh_frame (codes "0d000000 00000000 01 7a5200 017810 01 20 15000000 15000000 0000000000000000 0000010000000000 00"))) 0xfeedface) ≡ Ok (17 ∷ 0xfeedface ∷ 0xfeeeface ∷ [])
unfolding computing
text_relative = refl

abbrev lsda_of : Result Fde Error → Result (Option Pointer) Error
lsda_of (Ok fde) = Ok fde.lsda
lsda_of (Err e) = Err e

lsda_behind_the_function : lsda_of (fde_at (section_at EhFrame (Some 0x2000) (codes "0f000000 00000000 01 7a4c5200 017810 02 43 1b 11000000 17000000 e5efffff 20000000 04 10000000")) 19) ≡ Ok (Some (Direct 0x1010))
unfolding computing
lsda_behind_the_function = refl

lsda_of_zero : lsda_of (fde_at (section_at EhFrame (Some 0x2000) (codes "0f000000 00000000 01 7a4c5200 017810 02 43 1b 11000000 17000000 e5efffff 20000000 04 00000000")) 19) ≡ Ok (Some (Direct 0x1000))
unfolding computing
lsda_of_zero = refl

lsda_addresses : shown (fde_at (section_at EhFrame (Some 0x2000) (codes "0f000000 00000000 01 7a4c5200 017810 02 43 1b 11000000 17000000 e5efffff 20000000 04 10000000")) 19) ≡ Ok (19 ∷ 0x1000 ∷ 0x1020 ∷ [])
unfolding computing
lsda_addresses = refl

no_function_base : lsda_of (fde_at (section_at EhFrame (Some 0x2000) (codes "0f000000 00000000 01 7a4c5200 017810 02 43 43 11000000 17000000 e5efffff 20000000 04 10000000")) 19) ≡ Err FuncRelativePointerInBadContext
unfolding computing
no_function_base = refl

abbrev trampoline_of : Result Cie Error → Result (Option Bool) Error
trampoline_of (Err e) = Err e
trampoline_of (Ok cie) = Ok (option_map (λ known. known.is_signal_trampoline) cie.augmentation)

bare_s : trampoline_of (cie_at (debug_frame (codes "0c000000 ffffffff 04 5300 0800 017810")) 0) ≡ Ok (Some true)
unfolding computing
bare_s = refl

bare_s_of_eh_frame : trampoline_of (cie_at (eh_frame (codes "0a000000 00000000 01 5300 017810")) 0) ≡ Ok (Some true)
unfolding computing
bare_s_of_eh_frame = refl

bare_r : trampoline_of (cie_at (eh_frame (codes "0a000000 00000000 01 5200 017810")) 0) ≡ Err UnknownAugmentation
unfolding computing
bare_r = refl

later_z : trampoline_of (cie_at (eh_frame (codes "0b000000 00000000 01 537a00 017810")) 0) ≡ Err UnknownAugmentation
unfolding computing
later_z = refl

abbrev b_key_of : Result Cie Error → Result (Option Bool) Error
b_key_of (Err e) = Err e
b_key_of (Ok cie) = Ok (option_map (λ known. known.uses_b_key) cie.augmentation)

bare_b : b_key_of (cie_at (debug_frame (codes "0c000000 ffffffff 04 4200 0800 017810")) 0) ≡ Ok (Some true)
unfolding computing
bare_b = refl

bare_b_and_r : b_key_of (cie_at (eh_frame (codes "0b000000 00000000 01 425200 017810")) 0) ≡ Err UnknownAugmentation
unfolding computing
bare_b_and_r = refl

-- ---- entries at offsets

no_fde_there : partial_fde_at first_row 0 ≡ Err (NotCiePointer 0)
unfolding computing
no_fde_there = refl

no_cie_there : cie_at first_row 20 ≡ Err (NotCieId 20)
unfolding computing
no_cie_there = refl

nothing_at_the_end : cie_at first_row 52 ≡ Err (unexpected_eof 52)
unfolding computing
nothing_at_the_end = refl

behind_the_end : cie_at first_row 53 ≡ Err (unexpected_eof 0)
unfolding computing
behind_the_end = refl

nothing_at_a_gap : cie_at (debug_frame behind_a_gap) 0 ≡ Err (NoEntryAtGivenOffset 0)
unfolding computing
nothing_at_a_gap = refl

-- ---- every cut of the first row, and the greatest numbers

abbrev cut : ℕ → Section
cut n = record first_row { source = record first_row.source { whole = take n first_row.source.whole; last = n } }

-- n numbers from k on
abbrev counted : ℕ → ℕ → List ℕ
counted zero k = []
counted (suc n) k = k ∷ counted n (k + 1)

-- 0, then 1 to 3, 4 to 19, 20, 21 to 23, 24 to 51
every_cut : map (λ n. shown (chosen_fde (cut n) 0x1002)) (counted 52 0) ≡
    none ∷ [] ++ replicate 3 (Err (unexpected_eof 0)) ++ replicate 16 (Err (unexpected_eof 4)) ++ none ∷ [] ++ replicate 3 (Err (unexpected_eof 20)) ++ replicate 28 (Err (unexpected_eof 24))
unfolding computing
every_cut = refl

own_cie : shown (chosen_fde (debug_frame (codes "04000000 00000000")) 0) ≡ Err (NotCieId 0)
unfolding computing
own_cie = refl

cie_at_the_end : shown (chosen_fde (debug_frame (codes "04000000 08000000")) 0) ≡ Err (unexpected_eof 8)
unfolding computing
cie_at_the_end = refl

cie_behind_the_end : shown (chosen_fde (debug_frame (codes "04000000 09000000")) 0) ≡ Err (unexpected_eof 0)
unfolding computing
cie_behind_the_end = refl

cie_at_a_gap : shown (chosen_fde (debug_frame (codes "00000000 04000000 00000000")) 0) ≡ Err (NoEntryAtGivenOffset 0)
unfolding computing
cie_at_a_gap = refl

greatest_short_length : shown (chosen_fde (debug_frame (codes "efffffff")) 0) ≡ Err (unexpected_eof 4)
unfolding computing
greatest_short_length = refl

greatest_length : shown (chosen_fde (debug_frame (codes "ffffffff ffffffffffffffff")) 0) ≡ Err (unexpected_eof 12)
unfolding computing
greatest_length = refl

greatest_narrow_length : shown (chosen_fde (narrow (debug_frame (codes "ffffffff ffffffffffffffff"))) 0) ≡ Err UnsupportedOffset
unfolding computing
greatest_narrow_length = refl

least_length_too_large : shown (chosen_fde (narrow (debug_frame (codes "ffffffff 0000000001000000"))) 0) ≡ Err UnsupportedOffset
unfolding computing
least_length_too_large = refl

augmentation_cut_off : shown (chosen_fde (eh_frame (codes "0f000000 00000000 01 7a00 017810 8080808010")) 0) ≡ Err (unexpected_eof 19)
unfolding computing
augmentation_cut_off = refl

augmentation_too_long : shown (chosen_fde (narrow (eh_frame (codes "0f000000 00000000 01 7a00 017810 8080808010"))) 0) ≡ Err UnsupportedOffset
unfolding computing
augmentation_too_long = refl

-- ---- a section that begins behind other bytes, and fields that the version decides

behind_other_bytes : shown (chosen_fde (record (debug_frame (codes "ffff 10000000 ffffffff 04000800 017810 0c0708 9001 1c000000 00000000 0010000000000000 2000000000000000 41 0e10 8602 43 0d06")) { first = 2 }) 0x1002) ≡ Ok (20 ∷ 0x1000 ∷ 0x1020 ∷ [])
unfolding computing
behind_other_bytes = refl

abbrev return_register_of : Result Cie Error → Result ℕ Error
return_register_of (Ok cie) = Ok cie.return_address_register.0
return_register_of (Err e) = Err e

-- a byte in version 1, a LEB128 number in version 3
return_register_1 : return_register_of (cie_at (debug_frame (codes "09000000 ffffffff 01 00 017890")) 0) ≡ Ok 0x90
unfolding computing
return_register_1 = refl

return_register_3 : return_register_of (cie_at (debug_frame (codes "0a000000 ffffffff 03 00 01789001")) 0) ≡ Ok 0x90
unfolding computing
return_register_3 = refl

no_version_2 : return_register_of (cie_at (debug_frame (codes "09000000 ffffffff 02 00 017810")) 0) ≡ Err (UnknownVersion 2)
unfolding computing
no_version_2 = refl

-- ---- a refused entry begins where the one before it ends

refused_behind_two : IsEntryRefusal (section_at EhFrame (Some 0x2000) (codes "14000000 00000000 01 7a5200 01 78 10 01 1b 0c0708 9001 0000 10000000 1c000000 e0efffff 10000000 00 000000 10000000")) 44 (unexpected_eof 48)
unfolding computing
refused_behind_two = (refl, refl)

refused_at_once : IsEntryRefusal (eh_frame (codes "09000000 00000000 02 00 017810")) 0 (UnknownVersion 2)
unfolding computing
refused_at_once = (refl, refl)

refused_behind_a_wide_cie : IsEntryRefusal (eh_frame (codes "ffffffff 0900000000000000 00000000 01 00 017810 04000000 30000000")) 21 (OffsetOutOfBounds 0x30)
unfolding computing
refused_behind_a_wide_cie = (refl, refl)

-- ---- steps of halving

steps_of : map steps (1 ∷ 2 ∷ 3 ∷ 4 ∷ 5 ∷ 1000 ∷ (2 ^ 64 - 1) ∷ []) ≡ 0 ∷ 1 ∷ 2 ∷ 2 ∷ 3 ∷ 10 ∷ 64 ∷ []
unfolding computing
steps_of = refl
