use Rattle.std.proofs.Common.{◌≡◌}
use Rattle.cfi_object.specs.FileParts.{AreOfInput, image_of}
use Rattle.cfi_object.specs.NeededParts.{AreRead}
use Rattle.cfi_object.proofs.needed.read_parts.Given as goal

abbrev pub invariant-loop : goal.invariant-loop
invariant-loop g l =
    let known = g.I.FileInput.bytes in
    AreOfInput (known l.fn.input) (image_of l.parts) × (known l.input ≡ known l.fn.input) × AreRead l.fn.needed l.counter (image_of l.parts)
