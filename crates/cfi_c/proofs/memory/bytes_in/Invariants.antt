use Rattle.std.proofs.Common.{◌≡◌, drop}
use Rattle.cfi_c.specs.PassedMemories.{bytes_in}
use Rattle.cfi_c.proofs.memory.bytes_in.Given as goal

-- the bytes are in the windows that are left
abbrev pub invariant-loop-window : goal.invariant-loop-window
invariant-loop-window l = bytes_in l.address l.size (drop l.window-index l.windows) ≡ bytes_in l.address l.size l.windows
