use Rattle.std.proofs.Common.{◌≡◌}
use Rattle.cfi_object.specs.FileParts.{AreOfInput, image_of}
use Rattle.cfi_cores.proofs.core_parts.with_ranges.Given as goal

abbrev pub invariant-loop-range : goal.invariant-loop-range
invariant-loop-range g l =
    let known = g.I.FileInput.bytes in
    AreOfInput (known l.fn.input) (image_of l.parts) × (known l.input ≡ known l.fn.input)
