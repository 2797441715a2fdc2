use Rattle.std.proofs.Common.{true, Some, rules, subst}
use Rattle.cfi_read_core.specs.ReaderCalls.{map_ok}
use Rattle.gimli_cfi.specs.SectionSources.{IsGivenRow}
use Rattle.cfi_c.specs.PassedSections.{lent}
use Rattle.cfi_c.proofs.Sections.{passed_answer}
use Rattle.cfi_c.proofs.rows.find_row.Goals as goal

pub returns : goal.returns
returns c =
    let found = map_ok (λ row. row.now) c.row.result in (
      λ unsized. absurd (unsized (search rules)),
      λ sized.
          passed_answer c.args.asked.now.bases.now c.args.asked.now.section.now (lent c.args.asked.now.header) c.args.address found
          (subst (λ given. IsGivenRow (Some 192) (Some 4) true given c.args.address found) c.source_of.ensures c.row.ensures.row),
    )
