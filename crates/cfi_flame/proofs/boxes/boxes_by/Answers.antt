use Rattle.std.proofs.Common.{◌∙◌, ◌-◌, [], ap, arith, refl, sym}
use Rattle.cfi_flame.specs.declared.folded.Stack.{Stack as StackOfCode}
use Rattle.cfi_flame.proofs.BoxLemmas.{all_left, count_fits, length_left, next_stack, stacks_left, total_step}
use Rattle.cfi_flame.proofs.CommonLemmas.{found_more, next_number}
use Rattle.cfi_flame.proofs.boxes.boxes_by.Goals as goal

pub add_openings-requires-clause-small : goal.add_openings-requires-clause-small
add_openings-requires-clause-small c =
    rw (stacks_left c.args.stacks.now c.loop-k.k) (omega (arith, c.loop-k.invariant.counted))

pub add_openings-requires-clause-each : goal.add_openings-requires-clause-each
add_openings-requires-clause-each c =
    length_left c.args.shared.now c.loop-k.k ∙ ap (λ n. n - c.loop-k.k) c.requires.each ∙ sym (length_left c.args.stacks.now c.loop-k.k)

pub overflow_add-left : goal.overflow_add-left
overflow_add-left c =
    let d : StackOfCode = record { frames = record { ref_ptr = (0, 0); now = [] }; count = 0 } in
    let fits = count_fits _ _ _ c.loop-k.left _ (next_stack c.args.stacks.now c.loop-k.k d c.loop-k-test.true) c.loop-k.invariant.counted c.requires.small in
    omega (arith, fits)

pub loop-k-preserved : goal.loop-k-preserved
loop-k-preserved c = record {
  found = found_more _ _ c.loop-k.left _ _ _ _ _ _ _ (next_number c.args.shared.now c.loop-k.k (omega (arith, c.loop-k-test.true, c.requires.each))) (next_stack c.args.stacks.now c.loop-k.k _ c.loop-k-test.true) c.loop-k.invariant.found
      (rw (stacks_left c.args.stacks.now c.loop-k.k, all_left c.args.shared.now c.loop-k.k) at c.in_ok-add_openings.ensures);
  counted = total_step _ _ _ c.loop-k.left _ _ (next_stack c.args.stacks.now c.loop-k.k _ c.loop-k-test.true) c.loop-k.invariant.counted refl;
}
