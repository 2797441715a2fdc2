use Rattle.std.proofs.Common.{◌-◌, drop, length, map}
use Rattle.cfi_text.specs.Texts.{Puts}
use Rattle.cfi_processes.specs.Frames.{frame_view}
use Rattle.cfi_stacks.specs.FoldedTexts.{names_text}
use Rattle.cfi_stacks.proofs.folded_text.put_frames.Given as goal

abbrev pub invariant-loop-passed : goal.invariant-loop-passed
invariant-loop-passed l = Puts (names_text (map frame_view (drop (length l.frames - l.passed) l.frames))) l.fn.text l.text
