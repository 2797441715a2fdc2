use Rattle.std.proofs.Common.{◌≡◌, ◌*◌, Some, length, rules}
use Rattle.cfi_step.specs.PackedRows.{AreVacant, rows_in}
use Rattle.cfi_c.specs.CachedSteps.{cache_rows}
use Rattle.cfi_c.proofs.CachedSteps.{made}
use Rattle.cfi_c.proofs.caches.cfi_cache_new.Goals as goal

pub returns : goal.returns
returns c =
    let is : c.of.result.held.cache ≡ Some c.in-Ok.made = search rules in
    let empty : AreVacant (rows_in c.in-Ok.made) = search rules in
    let room : length (rows_in c.in-Ok.made) ≡ c.args.sets * 4 = search rules in
    made c.args.sets (cache_rows c.args.cache.now) c.of.result.held.cache c.in-Ok.made is empty room
