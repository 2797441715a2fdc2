use Rattle.std.proofs.Common.{◌≡◌, drop}
use Rattle.cfi_elf.specs.Images.{parts_view}
use Rattle.cfi_object.specs.FileParts.{are_apart}
use Rattle.cfi_object.proofs.file_parts.are_apart.Given as goal

-- the parts that are left say what all say
abbrev pub invariant-loop-part : goal.invariant-loop-part
invariant-loop-part l = are_apart l.start l.end (parts_view (drop l.part-index l.parts)) ≡ are_apart l.start l.end (parts_view l.parts)
