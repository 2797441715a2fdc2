use Rattle.std.proofs.Common.{◌≡◌, drop}
use Rattle.cfi_c.specs.PassedMemories.{number_in_windows}
use Rattle.cfi_c.proofs.memory.CfiMemoryMemory.read.Given as goal

-- the number is in the windows that are left
abbrev pub invariant-loop-window : goal.invariant-loop-window
invariant-loop-window l =
    number_in_windows l.self.big_endian (drop l.window-index l.self.windows.now) l.address l.size ≡ number_in_windows l.self.big_endian l.self.windows.now l.address l.size
