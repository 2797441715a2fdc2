use Rattle.std.proofs.Common.{◌∙◌, ◌+◌, ◌++◌, [], ◌∷◌, ap, length, option_map}
use Rattle.std.proofs.lemmas.List.{length-append}
use Rattle.cfi_flame.specs.declared.folded.Stack.{Stack as StackOfCode}
use Rattle.cfi_flame.proofs.BoxLemmas.{next_stack}
use Rattle.cfi_flame.proofs.CommonLemmas.{names_next}
use Rattle.cfi_flame.proofs.boxes.names_shared.Goals as goal

pub loop-k-preserved : goal.loop-k-preserved
loop-k-preserved c =
    let d : StackOfCode = record { frames = record { ref_ptr = (0, 0); now = [] }; count = 0 } in
    let next = next_stack c.args.stacks.now c.loop-k.k d c.loop-k-test.true in
    let added = c.in_ok-push.ensures.items ∙ ap (λ names. c.loop-k.shared.items ++ names ∷ []) c.shared_with.ensures in record {
      made = names_next c.loop-k.shared.items _ (option_map (λ frames. frames.now) c.loop-k.before) _ _ _ _ next c.loop-k.invariant.made added;
      each = ap length c.in_ok-push.ensures.items ∙ length-append c.loop-k.shared.items (c.shared_with.result ∷ []) ∙ ap (λ n. n + 1) c.loop-k.invariant.each;
    }
