use Rattle.std.proofs.Common.{◌≡◌, length, take, drop, true, None}
use Rattle.cfi_step.proofs.Walking.{Follows}
use Rattle.cfi_step.proofs.walk.write_frames.Given as goal

-- whatever follows from here follows what is written, and rows may have been kept
abbrev pub invariant-loop-index : goal.invariant-loop-index
invariant-loop-index g l =
    (drop l.index l.frames ≡ drop l.index l.fn.frames) × (length l.caller ≡ length l.registers) × (length l.registers ≡ length l.fn.registers)
    × Follows g.F.WalkFrame.written (g.P.Steps.is_step l.steps)
    (record { at = record { pc = l.fn.pc; is_interrupted = true; callee_cfa = None }; registers = l.fn.registers; caller = l.fn.caller }) (record { at = l.at; registers = l.registers; caller = l.caller }) (take l.index l.frames)
    × (length l.cache ≡ length l.fn.cache) × g.P.Steps.keeps l.steps l.fn.cache l.cache
