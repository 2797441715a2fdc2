-- The FDE that a module has for an address, worked out from the definitions alone: of .debug_frame if the module says so, and
-- of .eh_frame else, and beside a header.
use Rattle.std.proofs.Common.{◌≡◌, ℕ, Bool, true, false, List, [], ◌∷◌, Result, Ok, Err, refl, codes}
use Rattle.cfi_read_core.specs.declared.error.Error.{Error}
use Rattle.cfi_read_core.specs.declared.error.Error.TheVariants.{NoUnwindInfoForAddress, OffsetOutOfBounds}
use Rattle.cfi_entry.specs.Fdes.{Fde, end_of}
use Rattle.cfi_entry.specs.Sections.{DebugFrame, EhFrame}
use Rattle.cfi_unwind.specs.Scan.{chosen_fde}
use Rattle.gimli_cfi.proofs.Computing.{bytes, computing}
use Rattle.cfi_c.specs.declared.module.CfiModule.{CfiModule}
use Rattle.cfi_c.specs.PassedModules.{passed_section_in}

-- a CIE of .debug_frame, which gives no size of an address, and the FDE of 0x1000 to 0x1020
abbrev frames : List ℕ
frames = bytes (codes "10000000 ffffffff 0300 017810 0c0708 9001 0000 1c000000 00000000 0010000000000000 2000000000000000 41 0e10 8602 43 0d06")

abbrev module_of : Bool → List ℕ → CfiModule
module_of debug_frame header = record {
  start = 0x1000;
  end = 0x2000;
  section = record { ref_ptr = (0, 0); now = frames };
  header = record { ref_ptr = (0, 0); now = header };
  bases = record { section = 0; header = 0; text = 0; data_base = 0; big_endian = false; debug_frame = debug_frame; aarch64 = false; address_size = 0 };
}

abbrev shown : Result Fde Error → Result (List ℕ) Error
shown (Ok fde) = Ok (fde.offset ∷ fde.initial ∷ end_of fde ∷ [])
shown (Err e) = Err e

-- addresses have the size that the stack gives, whatever the bases say
debug_frame_chosen : shown (chosen_fde (passed_section_in 8 (module_of true [])) 0x1002) ≡ Ok (20 ∷ 0x1000 ∷ 0x1020 ∷ [])
unfolding computing
debug_frame_chosen = refl

-- of four bytes, 0x1000 is followed by a length of 0
by_another_size : shown (chosen_fde (passed_section_in 4 (module_of true [])) 0x1002) ≡ Err NoUnwindInfoForAddress
unfolding computing
by_another_size = refl

-- in .eh_frame 0xffffffff is how far before it the CIE is
same_bytes_of_eh_frame : shown (chosen_fde (passed_section_in 8 (module_of false [])) 0x1002) ≡ Err (OffsetOutOfBounds 0xffffffff)
unfolding computing
same_bytes_of_eh_frame = refl

beside_a_header : (passed_section_in 8 (module_of true (1 ∷ []))).kind ≡ EhFrame
beside_a_header = refl

without_one : (passed_section_in 8 (module_of true [])).kind ≡ DebugFrame
without_one = refl
