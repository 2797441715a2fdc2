-- What an operation returns that may allocate.
use Rattle.std.specs.Prelude.{◌≡◌, Bool, IsTrue, Result, Ok, Err, IsOk, ◌⊎◌}
use Rattle.cfi_read_core.specs.declared.error.Error.{Error}
use Rattle.cfi_read_core.specs.declared.error.Error.TheVariants.{OutOfMemory}

-- On success the value changes as expected; on an expected error it stays as it is. Where success
-- is expected and the operation may allocate, the result may also be `OutOfMemory`; then the value
-- stays, too.
abbrev pub Performs : {A B : Type 0} → Type 0 → Result A Error → A → A → Result B Error → Type 0
Performs may_allocate (Ok after) old new (Ok _) = new ≡ after
Performs may_allocate (Ok after) old new (Err error) =
    (error ≡ OutOfMemory) × (new ≡ old) × may_allocate
Performs may_allocate (Err refusal) old new (Ok _) = ⊥
Performs may_allocate (Err refusal) old new (Err error) = (error ≡ refusal) × (new ≡ old)

-- the error that is due; or, where none is due and the operation may allocate, `OutOfMemory`
abbrev pub IsDueOrMemory : Bool → Type 0 → Type 0 → Error → Type 0
IsDueOrMemory may_allocate is_due none_is_due error =
    is_due ⊎ (IsTrue may_allocate × none_is_due × (error ≡ OutOfMemory))

abbrev pub IsRefusal : {A : Type 0} → Bool → Result A Error → Error → Type 0
IsRefusal may_allocate due error = IsDueOrMemory may_allocate (due ≡ Err error) (IsOk due) error
