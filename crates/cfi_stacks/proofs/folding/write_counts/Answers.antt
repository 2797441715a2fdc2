use Rattle.std.proofs.Common.{◌∙◌, ◌++◌, ℕ, List, ap, inl, inr, refl}
use Rattle.std.specs.List.{flat_map}
use Rattle.cfi_flame.specs.FoldedCounts.{counted_in, line_text}
use Rattle.cfi_text.specs.declared.reading.InputError.TheVariants.{OutOfMemory}
use Rattle.cfi_text.specs.declared.style.Format.TheVariants.{Text}
use Rattle.cfi_text.specs.InputRefusals.{input_refusal}
use Rattle.cfi_stacks.specs.ProfileOutputs.{profile_ended}
use Rattle.cfi_stacks.proofs.folding.write_counts.Goals as goal

pub returns-in-Ok : goal.returns-in-Ok
returns-in-Ok g c =
    let lines = flat_map line_text (counted_in c.args.counts.now) in (
      profile_ended Text c.as_slice.result.now c.args.error,
      c.write_folded.ensures,
      inl (ap (λ (text : List ℕ). profile_ended Text text c.args.error) (c.as_slice.ensures.value ∙ c.in-Ok.ensures.bytes ∙ c.put_lines.ensures.adds c.in-Ok.ensures.whole ∙ ap (λ (front : List ℕ). front ++ lines) c.new-text.ensures.empty)),
    )

pub returns-in-Err : goal.returns-in-Err
returns-in-Err g c = (input_refusal Text OutOfMemory, c.write_input_refusal.ensures, inr refl)
