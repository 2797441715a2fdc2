use Rattle.std.proofs.Common.{◌≡◌, ◌≤◌, ◌+◌, ◌∙◌, ℕ, List, ap, arith, length, min, subst, sym, take}
use Rattle.std.proofs.lemmas.List.{length-take}
use Rattle.cfi_cores.specs.StackWindows.{AreFrom}
use Rattle.cfi_cores.proofs.PartBytes.{fewer_at, of_segment}
use Rattle.cfi_cores.proofs.stack_window.stack_in.Goals as goal

pub returns-clause-window : goal.returns-clause-window
returns-clause-window c = λ bytes of.
    let place = c.args.place.now in
    let found = c.in_ok-found.found.now in
    let n = c.min.result in
    let long : length (take n found) ≡ min n (length found) = length-take n found in
    let taken = c.at_most.ensures in
    let size = ap length taken ∙ long in
    let start : c.in_ok-start.start ≡ place.p_vaddr + c.args.distance = omega (arith, c.in_ok-start.ensures) in
    let offset : c.in_ok-offset.offset ≡ place.p_offset + c.args.distance = omega (arith, c.in_ok-offset.ensures) in
    let inside : c.args.distance + length c.at_most.result.now ≤ place.p_filesz = omega (arith, c.in_ok-size.ensures, c.min.ensures, size) in
    let at : AreFrom bytes (place.p_offset + c.args.distance) c.at_most.result.now =
    subst (λ (xs : List ℕ). AreFrom bytes (place.p_offset + c.args.distance) xs) (sym taken) (fewer_at bytes found (place.p_offset + c.args.distance) n (subst (λ (o : ℕ). AreFrom bytes o found) offset (c.in_ok-found.ensures bytes of))) in
    record {
      distance = c.args.distance;
      start = start;
      part = of_segment bytes c.at_most.result.now place c.args.distance inside at;
      below = omega (arith, c.in_ok-room.ensures, c.min.ensures, size);
    }
