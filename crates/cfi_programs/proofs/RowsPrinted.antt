-- Command lines, by computation.
use Rattle.std.proofs.Common.{◌≡◌, [], ◌∷◌, Some, None, refl, codes}
use Rattle.cfi_read_core.specs.declared.common.Vendor.TheVariants as vendors
use Rattle.cfi_read_core.specs.declared.endianity.RunTimeEndian.TheVariants.{Little, Big}
use Rattle.gimli_cfi.specs.declared.source.SectionKind.TheVariants.{DebugFrame, EhFrame}
use Rattle.cfi_programs.specs.declared.rows.command_line.Storage.TheVariants.{OnHeap, Growing}
use Rattle.cfi_programs.specs.RowsCommandLine.{request_of}
use Rattle.cfi_programs.proofs.Computing.{computing}

plain_words : request_of (codes "debug_frame" ∷ codes "le" ∷ codes "8" ∷ codes "0x1002" ∷ []) ≡ Some (record {
  words = record {
    kind = DebugFrame;
    endian = Little;
    address_size = record { bytes = 8; sized = refl };
    section = None;
    text = None;
    data_base = None;
    vendor = vendors.Default;
    header = None;
  };
  address = 0x1002;
  storage = OnHeap;
})
unfolding computing request_of
plain_words = refl

all_words : request_of (codes "eh_frame" ∷ codes "be" ∷ codes "4" ∷ codes "4096" ∷ codes "header=0x1F00" ∷ codes "store=vec" ∷ codes "data=3" ∷ codes "text=2" ∷ codes "section=1" ∷ codes "vendor=aarch64" ∷ []) ≡ Some (record {
  words = record {
    kind = EhFrame;
    endian = Big;
    address_size = record { bytes = 4; sized = refl };
    section = Some 1;
    text = Some 2;
    data_base = Some 3;
    vendor = vendors.AArch64;
    header = Some 0x1f00;
  };
  address = 4096;
  storage = Growing;
})
unfolding computing request_of
all_words = refl

wrong_size : request_of (codes "debug_frame" ∷ codes "le" ∷ codes "3" ∷ codes "0x1000" ∷ []) ≡ None
unfolding computing request_of
wrong_size = refl

twice_given : request_of (codes "debug_frame" ∷ codes "le" ∷ codes "8" ∷ codes "0" ∷ codes "text=1" ∷ codes "text=1" ∷ []) ≡ None
unfolding computing request_of
twice_given = refl

header_of_debug_frame : request_of (codes "debug_frame" ∷ codes "le" ∷ codes "8" ∷ codes "0" ∷ codes "header=1" ∷ []) ≡ None
unfolding computing request_of
header_of_debug_frame = refl

too_large_a_number : request_of (codes "debug_frame" ∷ codes "le" ∷ codes "8" ∷ codes "18446744073709551616" ∷ []) ≡ None
unfolding computing request_of
too_large_a_number = refl

seventeen_digits : request_of (codes "debug_frame" ∷ codes "le" ∷ codes "8" ∷ codes "0x00000000000000001" ∷ []) ≡ None
unfolding computing request_of
seventeen_digits = refl
