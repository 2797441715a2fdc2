use Rattle.std.proofs.lemmas.List.{take_rest}
use Rattle.std.proofs.Common.{◌≡◌, ◌≤◌, ◌-◌, ◌∙◌, ℕ, [], List, Option, IfSome, ap, arith, drop, length, length-drop, refl, subst, sym, take}
use Rattle.cfi_perf.specs.declared.windows.RecordWalk.{RecordWalk}
use Rattle.cfi_stacks.specs.ProfileIndexes.{HasRecords, IsNextIn, IsRecordsPart, IsWindowIn}
use Rattle.cfi_stacks.proofs.FoundLemmas.{no_window, read_on, step_on}
use Rattle.cfi_stacks.proofs.profile_index.find_records.Goals as goal
use Rattle.cfi_stacks.proofs.profile_index.find_records.Goals.{then-len-from+in_ok-window, else-len-from}

pub loop-init : goal.loop-init
loop-init g c =
    let known = g.I.FileInput.bytes c.args.input.now in
    let index = c.new-index.result in (
      c.new-index.ensures.walk,
      refl,
      omega arith,
      ([], c.new-index.ensures.found known, subst (λ (l : List ℕ). IsWindowIn known index c.args.walk [] l) (sym c.new-window.ensures.items) (no_window known index c.args.walk)),
    )

pub returns-in-None-clause-found : goal.returns-in-None-clause-found
returns-in-None-clause-found g c =
    let known = g.I.FileInput.bytes c.args.input.now in
    let (walk_is, same, inside, (pieces, found, window)) = c.loop.invariant in
    let index = c.loop.index in
    let rest = c.loop.rest in
    let has : HasRecords known index.walk = subst (λ (w : RecordWalk). HasRecords known w) (sym walk_is) c.requires in
    let ready : IsWindowIn known index rest pieces (drop c.if-len-from.from c.if-len-from.window.items) = elim c.if-len-from.branch [
      | then-len-from+in_ok-window w ↦
          rw (w.window-is, w.from-is)
          (read_on index rest pieces (drop c.loop.from c.loop.window.items) w.in_ok-window.window.items w.passed.result w.min-size.result known found window w.passed.ensures (omega (arith, w.min-size.ensures, w.left.ensures))
          (subst (λ (k : Option (List ℕ)). IsRecordsPart k index.walk w.passed.result w.min-size.result w.in_ok-window.window.items) same w.in_ok-window.ensures.read))
      | else-len-from w ↦ rw (w.window-is, w.from-is) window
    ] in
    let all = c.deref.result.now in
    let part = take (length all - c.if-len-from.from) (drop c.if-len-from.from all) in
    let part_is : part ≡ drop c.if-len-from.from c.if-len-from.window.items = take_rest all c.if-len-from.from ∙ ap (drop c.if-len-from.from) c.deref.ensures.value in
    let next = c.in_ok-size.ensures.next known pieces has found (subst (λ (l : List ℕ). IsWindowIn known index rest pieces l) (sym part_is) ready) in
    subst (λ (o : Option ℕ). IsNextIn known c.take_next.new.self c.take_next.new.walk part o) c.in-None.is next

pub loop-preserved : goal.loop-preserved
loop-preserved g c =
    let known = g.I.FileInput.bytes c.args.input.now in
    let (walk_is, same, inside, (pieces, found, window)) = c.loop.invariant in
    let index = c.loop.index in
    let rest = c.loop.rest in
    let has : HasRecords known index.walk = subst (λ (w : RecordWalk). HasRecords known w) (sym walk_is) c.requires in
    let ready : (c.if-len-from.from ≤ length c.if-len-from.window.items) × IsWindowIn known index rest pieces (drop c.if-len-from.from c.if-len-from.window.items) = elim c.if-len-from.branch [
      | then-len-from+in_ok-window w ↦
          rw (w.window-is, w.from-is) (
            omega arith,
            read_on index rest pieces (drop c.loop.from c.loop.window.items) w.in_ok-window.window.items w.passed.result w.min-size.result known found window w.passed.ensures (omega (arith, w.min-size.ensures, w.left.ensures))
                (subst (λ (k : Option (List ℕ)). IsRecordsPart k index.walk w.passed.result w.min-size.result w.in_ok-window.window.items) same w.in_ok-window.ensures.read),
          )
      | else-len-from w ↦ rw (w.window-is, w.from-is) (inside, window)
    ] in
    let same_now : g.I.FileInput.bytes c.if-len-from.input ≡ known = elim c.if-len-from.branch [
      | then-len-from+in_ok-window w ↦ rw (w.input-is) (w.read_bytes.ensures.same ∙ same)
      | else-len-from w ↦ rw (w.input-is) same
    ] in
    let all = c.deref.result.now in
    let part = take (length all - c.if-len-from.from) (drop c.if-len-from.from all) in
    let part_is : part ≡ drop c.if-len-from.from c.if-len-from.window.items = take_rest all c.if-len-from.from ∙ ap (drop c.if-len-from.from) c.deref.ensures.value in
    let next = c.in_ok-size.ensures.next known pieces has found (subst (λ (l : List ℕ). IsWindowIn known index rest pieces l) (sym part_is) ready.1) in
    let within : c.in-Some.size ≤ length part = subst (λ (o : Option ℕ). IfSome o (λ size. size ≤ length part)) c.in-Some.is c.in_ok-size.ensures.within in (
      c.take_next.ensures.walk ∙ walk_is,
      same_now,
      omega (arith, within, ready.0, ap length part_is, length-drop c.if-len-from.from c.if-len-from.window.items),
      step_on known c.take_next.new.self c.take_next.new.walk c.if-len-from.window.items part c.if-len-from.from c.in-Some.size part_is
          (subst (λ (o : Option ℕ). IsNextIn known c.take_next.new.self c.take_next.new.walk part o) c.in-Some.is next),
    )
