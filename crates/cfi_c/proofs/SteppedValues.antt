-- What is written of a step that is found, and of one that isn't.
use Rattle.std.proofs.Common.{◌≡◌, false, Result, Ok, Err, IfOk, true≢false}
use Rattle.std.specs.Prelude.{is_ok}

pub if_ok : {A E : Type 0} (r : Result A E) (P : Type 0) → P → IfOk r (λ x. P)
if_ok (Ok x) P holds = holds
if_ok (Err e) P holds = tt

pub if_not_ok : {A E : Type 0} (r : Result A E) (P : A → Type 0) → is_ok r ≡ false → IfOk r P
if_not_ok (Ok x) P fails = absurd (true≢false fails)
if_not_ok (Err e) P fails = tt
