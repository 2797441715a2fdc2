use Rattle.std.proofs.Common.{ap, refl}
use Rattle.std.specs.Box.{with_value}
use Rattle.arrayvec.specs.ArrayVec.{with_items}
use Rattle.cfi_read_core.proofs.array_like.BoxArrayVecArrayLike.as_mut_slice.Goals as goal

pub returns : goal.returns
returns g c = (
  (refl, λ w. ap (λ array. with_value c.args.self.now (with_items array w)) c.as_mut.ensures.value),
  record { writes_back = tt; value = cc },
)
