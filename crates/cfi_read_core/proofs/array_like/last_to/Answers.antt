use Rattle.std.proofs.Common.{ap, ◌∙◌, ◌-◌, [], ◌∷◌, length, arith}
use Rattle.std.specs.List.{swap}
use Rattle.std.proofs.lemmas.List.{length-append}
use Rattle.cfi_read_core.proofs.Edits.{one_down}
use Rattle.cfi_read_core.proofs.array_like.last_to.Goals as goal

pub loop-place-preserved : goal.loop-place-preserved
loop-place-preserved g c =
    let i = c.loop-place.invariant in
    let place = c.loop-place.place in
    let count = c.swap.ensures.len in
    record {
      from = omega arith;
      within = omega arith;
      count = c.swap.ensures.len ∙ i.count;
      stands = λ front last is.
          c.swap.ensures.after ∙ ap (λ l. swap l (place - 1) place) (i.stands front last is)
          ∙ one_down front place last (omega arith)
          (let all = ap length is ∙ length-append front (last ∷ []) in let same = i.count in omega arith);
    }
