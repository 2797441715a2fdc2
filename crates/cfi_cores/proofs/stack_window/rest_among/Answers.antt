use Rattle.std.proofs.Common.{subst, sym}
use Rattle.cfi_elf.specs.declared.image.FilePart.{FilePart}
use Rattle.cfi_elf.specs.Images.{IsPartOf, part_view}
use Rattle.cfi_cores.proofs.PartBytes.{part_here}
use Rattle.cfi_cores.proofs.stack_window.rest_among.Goals as goal

pub returns-in-Some : goal.returns-in-Some
returns-in-Some c = λ bytes are.
    let here = part_here bytes c.args.parts.now c.loop-read.read-index c.read-item.result c.loop-read-test.true (c.loop-read.invariant bytes are) in
    c.in-Some.ensures bytes (subst (λ (read : FilePart). IsPartOf bytes (part_view read)) (sym c.read-item.is) here.0)

pub loop-read-preserved : goal.loop-read-preserved
loop-read-preserved c = λ bytes are.
    (part_here bytes c.args.parts.now c.loop-read.read-index c.read-item.result c.loop-read-test.true (c.loop-read.invariant bytes are)).1
