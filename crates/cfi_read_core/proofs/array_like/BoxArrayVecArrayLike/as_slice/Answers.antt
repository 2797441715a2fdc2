use Rattle.std.proofs.Common.{ap, ◌∙◌, arith, length}
use Rattle.cfi_read_core.proofs.array_like.BoxArrayVecArrayLike.as_slice.Goals as goal

pub returns-clause-value : goal.returns-clause-value
returns-clause-value g c = c.as_slice.ensures.value ∙ ap (λ list. list.items) c.as_ref.ensures

pub returns-clause-within : goal.returns-clause-within
returns-clause-within g c = omega (arith, c.as_slice.ensures.fits, ap length c.as_slice.ensures.value, ap (λ list. length list.items) c.as_ref.ensures)
