use Rattle.std.proofs.Common.{rules, subst}
use Rattle.gimli_cfi.specs.CheckVerdicts.{IsVerdictOf}
use Rattle.cfi_c.specs.PassedSections.{lent}
use Rattle.cfi_c.proofs.Sections.{passed_verdict}
use Rattle.cfi_c.proofs.check.check.Goals as goal

pub returns : goal.returns
returns c = (
  λ unsized. absurd (unsized (search rules)),
  λ sized.
      passed_verdict c.args.bases.now c.args.section.now (lent c.args.header) c.check.result c.written_if.result
      (subst (λ given. IsVerdictOf given c.check.result) c.source_of.ensures c.check.ensures) c.written_if.ensures,
)
