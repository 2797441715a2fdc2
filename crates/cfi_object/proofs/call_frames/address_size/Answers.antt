use Rattle.std.proofs.Common.{inl, inr, refl}
use Rattle.cfi_read_core.specs.Addresses.{IsAddressSize}
use Rattle.cfi_elf.specs.declared.file_header.Class.{Class}
use Rattle.cfi_elf.specs.declared.file_header.Class.TheVariants.{Elf32, Elf64}
use Rattle.cfi_elf.specs.ElfFiles.{address_size_of, class_of_file, file_view}
use Rattle.cfi_object.proofs.call_frames.address_size.Goals as goal

sized : (class : Class) → IsAddressSize (address_size_of class)
sized Elf32 = inr (inr (inl refl))
sized Elf64 = inr (inr (inr refl))

pub new-requires : goal.new-requires
new-requires c = rw c.address_size.ensures (sized (class_of_file (file_view c.args.file.now)))
