use Rattle.std.proofs.Common.{refl}
use Rattle.cfi_stacks.proofs.FoundLemmas.{none_found}
use Rattle.cfi_stacks.proofs.TallyLemmas.{no_tally}
use Rattle.cfi_stacks.proofs.profile_index.ProfileIndex.new.Goals as goal

pub returns-clause-found : goal.returns-clause-found
returns-clause-found c known = none_found _ c.new.ensures.indexed refl refl no_tally known
