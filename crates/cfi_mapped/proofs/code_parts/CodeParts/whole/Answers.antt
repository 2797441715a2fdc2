use Rattle.std.proofs.Common.{◌∙◌, ap}
use Rattle.cfi_object.proofs.WholeParts.{whole_enough}
use Rattle.cfi_elf.specs.Images.{whole}
use Rattle.cfi_mapped.specs.Enough.{are_enough, needed_of_code}
use Rattle.cfi_mapped.proofs.CodeImages.{enough_by}
use Rattle.cfi_mapped.proofs.code_parts.CodeParts.whole.Goals as goal

pub invariant_of-result : goal.invariant_of-result
invariant_of-result c =
    let bytes = c.args.bytes.items in
    record { enough = ap are_enough c.whole.ensures ∙ enough_by (whole bytes) (whole_enough needed_of_code bytes) }
