use Rattle.std.proofs.Common.{◌⊎◌, ◌≡◌, refl}
use Rattle.std.specs.declared.io.Error.{Error}
use Rattle.cfi_cores.specs.CoreFiles.{core_view}
use Rattle.cfi_frames.specs.Outputs.{no_memory}
use Rattle.cfi_core_stacks.specs.CoreOutputs.{IsOfCore}
use Rattle.cfi_core_stacks.proofs.KnownLemmas.{all_found, begun_some}
use Rattle.cfi_core_stacks.proofs.core_run.print_read.Goals as goal

pub returns : goal.returns
returns g c =
    let core = core_view c.args.core.now in
    all_found Error (λ line. IsOfCore c.args.listing (g.O.Opener.may_open c.args.opener.now) g.O.File.Read.remaining core line ⊎ (line ≡ no_memory c.args.listing.format)) _ _ c.in_ok-status.status c.unwrap_or.result c.unwrap_or.ensures (c.in_ok-status.ensures core refl)

pub returns-in_err-status : goal.returns-in_err-status
returns-in_err-status g c =
    let core = core_view c.args.core.now in
    let (line, (begun, t), is) = c.in_err-status.ensures core refl in
    begun_some (λ line. IsOfCore c.args.listing (g.O.Opener.may_open c.args.opener.now) g.O.File.Read.remaining core line ⊎ (line ≡ no_memory c.args.listing.format)) _ _ c.from_residual.result line c.from_residual.ensures.0 begun is
