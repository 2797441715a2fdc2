use Rattle.std.proofs.Common.{◌≡◌, drop}
use Rattle.cfi_elf.specs.Images.{in_parts, parts_view}
use Rattle.cfi_cores.proofs.partial_cores.in_parts.Given as goal

-- the parts that are left give what all give
abbrev pub invariant-loop-read : goal.invariant-loop-read
invariant-loop-read l = in_parts l.offset l.size (parts_view (drop l.read-index l.parts)) ≡ in_parts l.offset l.size (parts_view l.parts)
