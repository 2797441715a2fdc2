-- How deep values nest.
use Rattle.std.proofs.Common.{ℕ, suc, ◌^◌, ◌≤◌, Bool, true, false, cond, nat_lt, List, [], ◌∷◌, map, arith}
use Rattle.std.specs.Fmt.{decimal}
use Rattle.std.proofs.Math.Nat.{max-le}
use Rattle.json.specs.Json as read
use Rattle.json.specs.Tree.{depth, items_depth, members_depth}
use Rattle.cfi_json.specs.Json.{Json, number, object, array, Members, member, value_read, items_read, members_read}
use Rattle.cfi_json.specs.Printed.{items_of}

abbrev pub IsShallow : ℕ → Json → Type 0
IsShallow k v = depth (value_read v) ≤ k

abbrev pub AreShallow : ℕ → Members → Type 0
AreShallow k ms = members_depth (members_read ms) ≤ k

pub shallow_number : (k n : ℕ) → IsShallow k (number n)
shallow_number k n = by (nat_lt n (2 ^ 53))
  where
    by : (b : Bool) → depth (cond b (read.number (decimal n)) (read.string (decimal n))) ≤ k
    by true = omega arith
    by false = omega arith

pub shallow_member : (k : ℕ) (key : List ℕ) (v : Json) (ms : Members) → IsShallow k v → AreShallow k ms → AreShallow k (member key v ms)
shallow_member k key v ms h more = max-le h more

pub shallow_object : (k : ℕ) (ms : Members) → AreShallow k ms → IsShallow (suc k) (object ms)
shallow_object k ms h = omega (arith, h)

shallow_items : {A : Type 0} (k : ℕ) (f : A → Json) → ((x : A) → IsShallow k (f x)) → (xs : List A) → items_depth (items_read (items_of (map f xs))) ≤ k
shallow_items k f h [] = omega arith
shallow_items k f h (x ∷ xs) = max-le (h x) (shallow_items k f h xs)

pub shallow_array : {A : Type 0} (k : ℕ) (f : A → Json) → ((x : A) → IsShallow k (f x)) → (xs : List A) → IsShallow (suc k) (array (items_of (map f xs)))
shallow_array k f h xs = omega (arith, shallow_items k f h xs)
