use Rattle.std.proofs.Common.{◌≡◌, ◌+◌, Err, refl, ◌∙◌, arith, rules}
use Rattle.gimli_cfi.proofs.Halving.{begun, ended, ends, stopped, found_there, goes_on, upper_is, answered_there}
use Rattle.gimli_cfi.proofs.hdr.starts.search_starts.Goals as goal

pub loop-len-init : goal.loop-len-init
loop-len-init g c = record { made = 0; calls = omega arith; way = begun _ _ _; answers = refl }

pub loop-len-preserved : goal.loop-len-preserved
loop-len-preserved g c =
    let before = c.loop-len.invariant in
    record {
      made = before.made + 1;
      calls = omega (arith, before.calls, c.start.ensures.counted);
      way = goes_on _ _ _ _ _ _ before.way c.loop-len-test.true c.in_ok-start.start _
          (answered_there _ _ _ _ _ before.answers c.start.ensures.answered c.in_ok-start.was) c.if-start-address.false
          (upper_is c.in_ok-start.start c.args.address c.from-is_upper.result c.if-start-address.false c.from-is_upper.ensures);
      answers = c.start.ensures.same ∙ before.answers;
    }

pub returns-in_err-start : goal.returns-in_err-start
returns-in_err-start g c =
    let before = c.loop-len.invariant in
    let gives : c.from_residual.result ≡ Err c.in_err-start.field-0.0 = search rules in
    let end = ends _ _ _ _ _ _ _ c.requires
    (stopped _ _ _ _ _ _ before.way c.loop-len-test.true c.in_err-start.field-0.0 (answered_there _ _ _ _ _ before.answers c.start.ensures.answered c.in_err-start.was))
    (omega (arith, before.calls, c.start.ensures.counted)) in
    rw gives (record { searched = end.searched; made = end.made; found = end.found; refused = end.refused; calls = end.calls; same = c.start.ensures.same ∙ before.answers })

pub returns-then-start-address : goal.returns-then-start-address
returns-then-start-address g c =
    let before = c.loop-len.invariant in
    let end = ends _ _ _ _ _ _ _ c.requires
    (found_there _ _ _ _ _ _ before.way c.loop-len-test.true c.in_ok-start.start
    (answered_there _ _ _ _ _ before.answers c.start.ensures.answered c.in_ok-start.was) c.if-start-address.true)
    (omega (arith, before.calls, c.start.ensures.counted)) in
    record { searched = end.searched; made = end.made; found = end.found; refused = end.refused; calls = end.calls; same = c.start.ensures.same ∙ before.answers }

pub returns : goal.returns
returns g c =
    let before = c.loop-len.invariant in
    let end = ends _ _ _ _ _ _ _ c.requires (ended _ _ _ _ _ _ before.way c.loop-len-test.false) before.calls in
    record { searched = end.searched; made = end.made; found = end.found; refused = end.refused; calls = end.calls; same = before.answers }
