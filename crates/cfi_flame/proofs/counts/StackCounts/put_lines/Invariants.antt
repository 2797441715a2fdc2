use Rattle.std.proofs.Common.{map}
use Rattle.std.specs.List.{flat_map}
use Rattle.cfi_text.proofs.TextLemmas.{IsPut}
use Rattle.cfi_flame.specs.FoldedCounts.{counted_in, line_text}
use Rattle.cfi_flame.proofs.counts.StackCounts.put_lines.Given as goal

abbrev pub invariant-loop-frames : goal.invariant-loop-frames
invariant-loop-frames l = IsPut l.fn.text l.text (flat_map line_text (map (λ e. record { frames = e.0.items; count = e.1 }) l.frames-iterator)) (flat_map line_text (counted_in l.self))
