use Rattle.std.proofs.Common.{subst, sym}
use Rattle.std.specs.Prelude.{IfOk}
use Rattle.gimli_cfi.specs.Words.{IsOf}
use Rattle.gimli_cfi.proofs.Callers.{ok_answered_by}
use Rattle.cfi_files.proofs.dump.section.whole.Goals as goal

pub returns-clause-cie_part : goal.returns-clause-cie_part
returns-clause-cie_part g c =
    let own = (g.S._UnwindSectionPrivate.view c.args.section.now).position in
    ok_answered_by _ _ _ (λ fde. fde.cie) (λ f. IsOf (g.R.Reader.position f.0.now.initial_instructions) own) (λ cie. IsOf (g.R.Reader.position cie.initial_instructions) own) _
    (c.in_ok-cie.ensures.part c.requires.cies) _ c.parse.ensures.cie
    (λ f asked answer h holds call.
    let met = call.call.met in (
      subst (λ b. IsOf (g.R.Reader.position b.now.initial_instructions) own) (sym met.0) holds,
      subst (λ r. IfOk r (λ cie. IsOf (g.R.Reader.position cie.initial_instructions) own)) (sym met.1) holds,
    ))
