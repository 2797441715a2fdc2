use Rattle.std.proofs.Common.{ap, ◌∙◌, ◌++◌, arith, length}
use Rattle.cfi_read_core.proofs.Edits.{of_ok}
use Rattle.cfi_read_core.proofs.array_like.copy_of.Goals as goal

pub returns : goal.returns
returns g c =
    let copied = c.try_extend_from_slice-fits in
    let fits = copied.ensures.variant.1 (omega (arith, c.as_slice.ensures.fits, ap length c.new-copy.ensures)) in
    of_ok copied.result _ fits copied.ensures.ok ∙ ap (λ items. items ++ c.as_slice.result.now) c.new-copy.ensures ∙ c.as_slice.ensures.value
