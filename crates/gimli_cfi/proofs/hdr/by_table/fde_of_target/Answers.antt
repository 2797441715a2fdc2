use Rattle.std.proofs.Common.{◌≡◌, rules, sym, ◌∙◌}
use Rattle.cfi_read_core.specs.ReaderCalls.{map_ok}
use Rattle.cfi_entry.specs.Entries.{cie_at}
use Rattle.cfi_entry.specs.EntryViews.{cie_view}
use Rattle.gimli_cfi.specs.HeaderViews.{section_view}
use Rattle.gimli_cfi.proofs.TableFinds.{at_own}
use Rattle.gimli_cfi.proofs.hdr.by_table.fde_of_target.Goals as goal

pub returns-clause-found : goal.returns-clause-found
returns-clause-found g c =
    at_own _ (section_view g.R.Reader.position c.args.frame.now c.args.bases.now)
    (λ f offset given h q.
    let own : map_ok (cie_view g.R.Reader.position g.R.Offset.ReaderOffset.number) q.answer ≡ cie_at (section_view g.R.Reader.position q.call.shown_section.now q.call.shown_bases.now) (g.R.Offset.ReaderOffset.number q.asked.0) = search rules in
    sym q.seen ∙ (rw (q.call.at_section, q.call.at_bases, q.at_offset) at own))
    _ _ _ _ _ c.fde_at_target.ensures.read
