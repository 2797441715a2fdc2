use Rattle.std.proofs.Common.{sym, subst, Option, Result}
use Rattle.cfi_perf.specs.declared.error.PerfError.{PerfError}
use Rattle.cfi_perf.specs.ProfileHeads.{ProfileHead}
use Rattle.cfi_perf.specs.ProfilesAround.{IsProfileAround}
use Rattle.cfi_perf.proofs.AroundLemmas.{is_around}
use Rattle.cfi_perf.proofs.profile.Profile.parse_around.Goals as goal

pub returns-clause-around : goal.returns-clause-around
returns-clause-around c bytes of =
    subst (λ (r : Result (Option ProfileHead) PerfError). IsProfileAround bytes r) (sym c.head_around.ensures)
    (is_around c.args.before.now c.args.after.now c.args.length bytes of)
