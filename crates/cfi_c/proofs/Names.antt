-- The name of a status, by its place among the names.
use Rattle.std.proofs.Common.{◌≡◌, ◌∙◌, ℕ, zero, suc, ◌-◌, ◌<◌, ◌≤◌, pos, Bool, List, [], ◌∷◌, map, length, get_or, slice_index_or, codes, refl, sym, ap, arith}
use Rattle.std.specs.Prelude.{if◌then◌else◌}
use Rattle.std.proofs.lemmas.Bool.{le-ltb, lt-ltb}
use Rattle.std.proofs.Math.ListN.{get_or-eq_default}
use Rattle.cfi_read_core.specs.RefusalNames.{errors, name_of}
use Rattle.cfi_read_core.specs.declared.error.Error.{Error}
use Rattle.cfi_c.specs.Refusals.{refusal_names, own_names, status_name}

mapped : (xs : List Error) (d : List ℕ) (e : Error) (k : ℕ) → k < length xs → slice_index_or (map name_of xs) k d ≡ name_of (get_or xs k e)
mapped [] d e k h = absurd (omega (arith, h))
mapped (x ∷ xs) d e zero h = refl
mapped (x ∷ xs) d e (suc k) h = mapped xs d e k (omega (arith, h))

by : ℕ → Bool → List ℕ
by n is_refusal = if is_refusal then slice_index_or refusal_names n (codes "Unknown") else slice_index_or own_names (n - 64) (codes "Unknown")

of_refusal : (n : ℕ) → n < 64 → status_name (pos n) ≡ slice_index_or refusal_names n (codes "Unknown")
unfolding by
of_refusal n below = ap (by n) (lt-ltb n 64 below)

pub named : (e : Error) (n : ℕ) → (n ≡ 0 → ⊥) → n ≤ 63 → n ≤ length errors → name_of (get_or errors (n - 1) e) ≡ status_name (pos n)
named e zero other below within = absurd (other refl)
named e (suc k) other below within =
    let one_less : suc k - 1 ≡ k = omega arith in
    let short : k < length errors = omega (arith, within) in
    rw one_less (sym (of_refusal (suc k) (omega (arith, below)) ∙ mapped errors (codes "Unknown") e k short))

-- a number that no refusal has yet
pub unused : (n : ℕ) → n ≤ 63 → length errors < n → codes "Unknown" ≡ status_name (pos n)
unused n below above =
    let count : length refusal_names ≡ suc (length errors) = refl in
    let far : length refusal_names ≤ n = omega (arith, above, count) in
    sym (of_refusal n (omega (arith, below)) ∙ get_or-eq_default refusal_names (codes "Unknown") far)

pub unnamed : (n : ℕ) → 69 < n → codes "Unknown" ≡ status_name (pos n)
unfolding by
unnamed n above =
    let far : 6 ≤ n - 64 = omega (arith, above) in
    sym (ap (by n) (le-ltb n 64 (omega (arith, above))) ∙ get_or-eq_default own_names (codes "Unknown") far)
