use Rattle.std.proofs.Common.{◌≡◌, ℕ, List, map, take}
use Rattle.cfi_elf.specs.Images.{IsImageOf, image_view}
use Rattle.cfi_cores.specs.PartialCores.{head_in}
use Rattle.cfi_cores.specs.CoreSegments.{segment_view}
use Rattle.cfi_cores.specs.MappedFiles.{mapping_view}
use Rattle.cfi_cores.proofs.partial_cores.head_segments.Given as goal

-- the segments of the headers so far
abbrev pub invariant-loop-place : goal.invariant-loop-place
invariant-loop-place l =
    (bytes : List ℕ) → IsImageOf (image_view l.image) bytes → map segment_view l.list.items ≡ map (head_in bytes (map mapping_view l.mapped)) (take l.place-index l.places)
