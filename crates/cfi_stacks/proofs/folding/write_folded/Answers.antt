use Rattle.cfi_text.proofs.PartsWritten.{first_refused, last_written}
use Rattle.cfi_text.specs.Lines.{Line}
use Rattle.cfi_text.specs.WriterOutput.{Prints}
use Rattle.std.proofs.Common.{[], refl, subst}
use Rattle.cfi_text.specs.declared.style.Format.TheVariants.{Text}
use Rattle.cfi_stacks.specs.ProfileErrors.{perf_refusal}
use Rattle.cfi_stacks.specs.ProfileOutputs.{profile_ended}
use Rattle.cfi_stacks.proofs.ShowLemmas.{behind, no_status_is}
use Rattle.cfi_stacks.proofs.folding.write_folded.Goals as goal

pub returns-in-None : goal.returns-in-None
returns-in-None g c = rw c.in-None.is (c.in_ok-write_text.ensures, refl)

pub returns-in-Some : goal.returns-in-Some
returns-in-Some g c =
    rw c.in-Some.is
    (last_written _ _ _ _ c.args.text.now (perf_refusal Text c.in-Some.error).text c.in_ok-write_text.ensures c.write_perf_refusal.ensures.0, c.write_perf_refusal.ensures.1)

pub returns-in_err-write_text : goal.returns-in_err-write_text
returns-in_err-write_text g c =
    let text = c.args.text.now in
    subst (λ (line : Line). Prints line (g.W.Write.contents c.args.output.now) (g.W.Write.contents c.write_text.new.output) c.from_residual.result) (behind Text text c.args.error)
    (first_refused _ _ _ text (profile_ended Text [] c.args.error).text c.from_residual.ensures.0 c.in_err-write_text.ensures, no_status_is c.from_residual.result (profile_ended Text [] c.args.error).status c.from_residual.ensures.0)
