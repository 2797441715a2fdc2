use Rattle.std.proofs.Common.{Bor, List, ℕ, option_map}
use Rattle.cfi_elf.specs.FunctionNames.{name_in}
use Rattle.cfi_unwind.specs.FdeViews.{fde_view}
use Rattle.cfi_files.proofs.EntryRowsSent.{line_put}
use Rattle.cfi_files.proofs.dump.addressed_rows.put_addresses.Goals as goal

pub returns : goal.returns
returns g c =
    line_put _ _ c.args.format (name_in c.args.functions.now) (fde_view g.R.Reader.position (λ n. n) c.args.fde.now) c.initial_address-start.result c.end_address.result c.initial_address-start.ensures c.end_address.ensures
    (option_map (λ (name : Bor (List ℕ)). name.now) c.name_at-name.result) c.name_at-name.ensures c.put_line.ensures
