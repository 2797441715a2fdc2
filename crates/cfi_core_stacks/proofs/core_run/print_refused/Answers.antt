use Rattle.std.proofs.Common.{◌≡◌, refl}
use Rattle.cfi_frames.specs.Outputs.{no_memory}
use Rattle.cfi_core_stacks.proofs.KnownLemmas.{begun_found}
use Rattle.cfi_core_stacks.proofs.core_run.print_refused.Goals as goal

pub returns : goal.returns
returns g c = λ may_lack. (no_memory c.args.listing.format, c.in_ok-status.ensures, refl)

pub returns-in_err-status : goal.returns-in_err-status
returns-in_err-status g c = λ may_lack.
    begun_found (λ line. line ≡ no_memory c.args.listing.format) _ _ may_lack c.from_residual.result (no_memory c.args.listing.format) c.from_residual.ensures.0 c.in_err-status.ensures.0 refl
