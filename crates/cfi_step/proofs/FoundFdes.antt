-- An FDE that was found, as its view.
use Rattle.std.proofs.Common.{ℕ, Result, Ok, Err, IfOk}
use Rattle.cfi_read_core.specs.ReaderCalls.{map_ok}
use Rattle.cfi_entry.specs.Fdes.{Covers, Fde}

pub covers_if_found : {X E : Type 0} (view : X → Fde) (found : Result X E) (a : ℕ) → IfOk found (λ x. Covers (view x) a) → IfOk (map_ok view found) (λ fde. Covers fde a)
covers_if_found view (Ok x) a covers = covers
covers_if_found view (Err e) a none = none
