-- What an operation is read as and what memory gives, case by case, over plain values.
use Rattle.std.proofs.Common.{◌≡◌, ◌≤◌, ◌<◌, ◌-◌, ℕ, Some, None, Ok, Err, refl, sym, ap}
use Rattle.std.specs.Result.{result_ok}
use Rattle.std.proofs.lemmas.Bool.{le-ltb, lt-ltb}
use Rattle.cfi_read_core.specs.declared.error.Error.{Error}
use Rattle.cfi_read_core.specs.ReadFunctions.{Source, Position, Outcome}
use Rattle.cfi_expression.specs.declared.operation.StackOperation.TheVariants.{Constant}
use Rattle.cfi_expression.specs.Operations.{stack_operation}
use Rattle.cfi_expression.specs.Windows.{at_distance, number_in}

-- a number that an opcode has in itself
pub literal_read : (size : ℕ) (source : Source) (place : ℕ) {opcode value : ℕ} → 0x30 ≤ opcode → opcode < 0x50 → value ≡ opcode - 0x30 →
    stack_operation size opcode source place ≡ record { value = Ok (Constant value); place = place }
unfolding stack_operation
literal_read size source place {opcode = opcode} least most is = rw (le-ltb opcode 0x30 least, lt-ltb opcode 0x50 most, is) refl

-- ---- memory from an address on

module _ (window : Position) (base address size : ℕ) (within : base ≤ address) where
  pub number_there : {number after : ℕ} → at_distance (address - base) size window.source window.place ≡ record { value = Ok number; place = after } → Some number ≡ number_in window base address size
  number_there read = rw (le-ltb address base within) (sym (ap (λ (o : Outcome ℕ). result_ok o.value) read))

  pub number_missing : {e : Error} {after : ℕ} → at_distance (address - base) size window.source window.place ≡ record { value = Err e; place = after } → None ≡ number_in window base address size
  number_missing read = rw (le-ltb address base within) (sym (ap (λ (o : Outcome ℕ). result_ok o.value) read))
