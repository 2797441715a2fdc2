use Rattle.std.proofs.Common.{◌≡◌, drop}
use Rattle.cfi_unwind.specs.FdeViews.{fde_view}
use Rattle.cfi_files.specs.DumpRowTexts.{contains_any}
use Rattle.cfi_files.proofs.dump.addressed_rows.contains_any.Given as goal

-- the addresses that are left say what all say
abbrev pub invariant-loop-address : goal.invariant-loop-address
invariant-loop-address g l =
    let fde = fde_view g.R.Reader.position (λ n. n) l.fde in
    contains_any (drop l.address-index l.addresses) fde ≡ contains_any l.addresses fde
