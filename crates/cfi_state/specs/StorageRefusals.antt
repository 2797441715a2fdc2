-- The error for an item that a list does not take.
use Rattle.cfi_read_core.specs.declared.error.Error.{Error}
use Rattle.cfi_read_core.specs.declared.error.Error.TheVariants.{OutOfMemory}
use Rattle.cfi_read_core.specs.declared.array_like.Why.{Why}
use Rattle.cfi_read_core.specs.declared.array_like.Why.TheVariants.{Full, Memory}

-- `full` where the list is full
abbrev pub refusal_for : Why → Error → Error
refusal_for (Full _) full = full
refusal_for Memory full = OutOfMemory
