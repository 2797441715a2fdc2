use Rattle.std.proofs.Common.{inr, refl}
use Rattle.cfi_frames.proofs.InputLemmas.{for_input}
use Rattle.cfi_stacks.proofs.NoticeLemmas.{left_said, says_then}
use Rattle.cfi_stacks.proofs.visits.visit_whole.Goals as goal

pub returns-in-Err-clause-visited : goal.returns-in-Err-clause-visited
returns-in-Err-clause-visited g c = for_input (g.I.FileInput.bytes c.args.input.now) _ (λ bytes. inr (c.in-Err.error, refl, refl))

pub returns-in-Ok-clause-said : goal.returns-in-Ok-clause-said
returns-in-Ok-clause-said g c =
    says_then c.visit_bytes.result (left_said (g.O.Opener.has_said c.args.visit.now.opener.now) (g.I.FileInput.bytes c.args.input.now) c.as_slice.result.now (rw c.as_slice.ensures.value c.in-Ok.ensures.read)) c.visit_bytes.ensures.said
