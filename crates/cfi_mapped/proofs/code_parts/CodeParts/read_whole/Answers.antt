use Rattle.cfi_object.specs.FileParts.{image_of}
use Rattle.cfi_object.proofs.WholeParts.{all_enough}
use Rattle.cfi_mapped.specs.Enough.{needed_of_code}
use Rattle.cfi_mapped.proofs.CodeImages.{enough_by}
use Rattle.cfi_mapped.proofs.code_parts.CodeParts.read_whole.Goals as goal

pub invariant_of-result : goal.invariant_of-result
invariant_of-result g c =
    let image = image_of c.in_ok-parts.parts in
    let (of, enough) = all_enough (g.I.FileInput.bytes c.args.input.now) needed_of_code image c.in_ok-parts.ensures.read in
    record { enough = enough_by image enough }
