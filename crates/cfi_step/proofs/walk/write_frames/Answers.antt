use Rattle.std.proofs.Common.{◌<◌, ◌≡◌, length, true, None, rules, arith}
use Rattle.cfi_step.proofs.Walking.{all_written, has_room, left, one_more, one_last}
use Rattle.cfi_step.proofs.walk.write_frames.Goals as goal

pub step-step-requires-clause-can : goal.step-step-requires-clause-can
step-step-requires-clause-can g c = c.requires.can c.loop-index.cache c.loop-index.invariant.4 c.loop-index.invariant.5

pub returns-in-Err-clause-walk : goal.returns-in-Err-clause-walk
returns-in-Err-clause-walk g c =
    let inside : c.loop-index.index < length c.loop-index.frames = omega arith in
    one_last g.F.WalkFrame.written (g.P.Steps.is_step c.args.steps.now)
    (record { at = record { pc = c.args.pc; is_interrupted = true; callee_cfa = None }; registers = c.args.registers.now; caller = c.args.caller.now })
    (record { at = c.loop-index.at; registers = c.loop-index.registers; caller = c.loop-index.caller }) c.loop-index.frames c.loop-index.index c.loop-index.invariant.3
    c.step-step.result c.step-step.new.caller c.of.result inside c.step-step.ensures.step c.of.ensures c.in-Err.end c.in-Err.ensures

pub loop-index-preserved : goal.loop-index-preserved
loop-index-preserved g c =
    let inside : c.loop-index.index < length c.loop-index.frames = omega arith in
    let room : length c.step-step.new.caller ≡ length c.copy_from_slice.new.self = search rules in
    let same_room : length c.copy_from_slice.new.self ≡ length c.args.registers.now = search rules in
    let slots : length c.step-step.new.cache ≡ length c.args.cache.now = search rules in (
      left c.loop-index.frames c.args.frames.now c.loop-index.index c.of.result inside (omega arith) c.loop-index.invariant.0,
      room,
      same_room,
      one_more g.F.WalkFrame.written (g.P.Steps.is_step c.args.steps.now)
          (record { at = record { pc = c.args.pc; is_interrupted = true; callee_cfa = None }; registers = c.args.registers.now; caller = c.args.caller.now })
          (record { at = c.loop-index.at; registers = c.loop-index.registers; caller = c.loop-index.caller }) c.loop-index.frames c.loop-index.index c.loop-index.invariant.3
          c.step-step.result c.step-step.new.caller c.of.result inside c.step-step.ensures.step c.of.ensures c.in-Ok.next c.copy_from_slice.new.self c.in-Ok.ensures c.copy_from_slice.ensures.after,
      slots,
      g.met.P.Steps.keeps_then c.args.steps.now c.args.cache.now c.loop-index.cache c.step-step.new.cache c.loop-index.invariant.5 c.step-step.ensures.kept,
    )

pub returns-clause-walk : goal.returns-clause-walk
returns-clause-walk g c =
    let done : c.loop-index.index ≡ length c.loop-index.frames = omega arith in
    all_written g.F.WalkFrame.written (g.P.Steps.is_step c.args.steps.now)
    (record { at = record { pc = c.args.pc; is_interrupted = true; callee_cfa = None }; registers = c.args.registers.now; caller = c.args.caller.now })
    (record { at = c.loop-index.at; registers = c.loop-index.registers; caller = c.loop-index.caller }) c.loop-index.frames c.loop-index.index (length c.loop-index.frames) done c.loop-index.invariant.3

pub returns-in-Err-clause-rest : goal.returns-in-Err-clause-rest
returns-in-Err-clause-rest g c =
    let inside : c.loop-index.index < length c.loop-index.frames = omega arith in
    left c.loop-index.frames c.args.frames.now c.loop-index.index c.of.result inside (omega arith) c.loop-index.invariant.0

pub returns-clause-kept : goal.returns-clause-kept
returns-clause-kept g c = c.loop-index.invariant.5

pub returns-in-Err-clause-kept : goal.returns-in-Err-clause-kept
returns-in-Err-clause-kept g c =
    g.met.P.Steps.keeps_then c.args.steps.now c.args.cache.now c.loop-index.cache c.step-step.new.cache c.loop-index.invariant.5 c.step-step.ensures.kept

pub returns-in-Err-clause-full : goal.returns-in-Err-clause-full
returns-in-Err-clause-full g c = λ no_room. absurd (has_room c.step-step.result c.step-step.ensures.room c.in-Err.end c.in-Err.ensures no_room)
