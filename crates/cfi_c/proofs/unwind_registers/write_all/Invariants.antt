use Rattle.std.proofs.Common.{◌≡◌, ◌≤◌, ◌*◌, List, length}
use Rattle.cfi_c.specs.RegisterFrames.{AreFirst, FrameWithRegisters, frames_of, innermost, registers_written}
use Rattle.cfi_c.proofs.RegisterWalks.{Follows}
use Rattle.cfi_c.proofs.unwind_registers.write_all.Given as goal

-- whatever follows from here follows what is written
abbrev pub invariant-loop-index : goal.invariant-loop-index
invariant-loop-index g l =
    ((length l.caller ≡ length l.registers) × (length l.registers ≡ length l.fn.registers) × (l.first ≤ length l.values) × (l.first ≡ l.index * length l.fn.registers))
    × ((done : List FrameWithRegisters) × (l.index ≡ length done) × (l.first ≡ length (registers_written done)) × AreFirst (frames_of done) l.fn.frames l.frames
    × AreFirst (registers_written done) l.fn.values l.values
    × Follows (g.P.Steps.is_step l.steps) (innermost l.fn.pc l.fn.registers) (record { at = l.at; registers = l.registers; caller = l.caller }) done)
