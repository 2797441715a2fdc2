-- A reader that was past a place still is after a read.
use Rattle.std.proofs.Common.{◌≡◌, ◌≤◌, ℕ, Result, arith, ap}
use Rattle.cfi_read_core.specs.declared.error.Error.{Error}
use Rattle.cfi_read_core.specs.ReadFunctions.{Read, Source, Outcome}
use Rattle.cfi_read_core.proofs.Onward.{IsOnward}

pub stays_behind : {A : Type 0} {read : Read A} → IsOnward read → (first : ℕ) {source : Source} {place : ℕ} {value : Result A Error} {after : ℕ} →
    read source place ≡ record { value = value; place = after } → first ≤ place → first ≤ after
stays_behind onward first {source} {place} e h = let later = onward.after source place in let here = ap (λ (o : Outcome _). o.place) e in omega arith
