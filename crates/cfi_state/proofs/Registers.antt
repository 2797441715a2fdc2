-- Lists of registers with their rules, and the maps that they stand for.
use Rattle.std.proofs.Common.{◌≡◌, ◌≢◌, ℕ, Bool, true, false, eqb, Option, Some, None, IsNone, IsSomeAnd, is_some, List, [], ◌∷◌, length, map, refl, sym, ap, ◌∙◌, subst, cond, Result, Ok, Err, ◌↔◌, arith, inl, inr, ◌<◌, ◌≤◌, take, ◌⊎◌, IfErr, OnOk, OnErr}
use Rattle.std.proofs.Math.ListN.{set}
use Rattle.std.proofs.lemmas.List.{map-set, length-map, length-take-le}
use Rattle.std.proofs.lemmas.List.Elements.{All-head, All-tail}
use Rattle.std.proofs.lemmas.List.Sorted.{IsPermutation-sym, IsPermutation-insert, IsPermutation-remove, IsPermutation-map}
use Rattle.std.proofs.lemmas.Option.{slice_get_within, get_or_from_slice_get, slice_get-map}
use Rattle.std.proofs.lemmas.Bool.{cases_lt, false≢true}
use Rattle.std.proofs.lemmas.Bool.Decides.{nat_tests}
use Rattle.std.specs.Option.{option_map}
use Rattle.std.specs.Ordering.{nat_cmp, eq_by_cmp}
use Rattle.std.specs.Bool.{then_some}
use Rattle.std.specs.Cmp.{nat_cmp_total, unsigned_ties}
use Rattle.std.specs.List as list
use Rattle.std.specs.List.{All, slice_get}
use Rattle.std.specs.List.Sorted.{IsPermutation, IsStrictlySortedBy}
use Rattle.std.specs.FinMap.{nat_cmp-IsAntisymmetric, find, get, insert, remove, contains_key, get-from_entries, len}
use Rattle.cfi_read_core.specs.declared.common.Register.{Register}
use Rattle.cfi_read_core.specs.declared.error.Error.{Error}
use Rattle.cfi_read_core.specs.declared.error.Error.TheVariants.{TooManyRegisterRules, OutOfMemory}
use Rattle.cfi_state.specs.declared.table.rules.RegisterRule.{RegisterRule}
use Rattle.cfi_read_core.specs.declared.array_like.Why.{Why}
use Rattle.cfi_read_core.specs.declared.array_like.Why.TheVariants.{Full, Memory}
use Rattle.cfi_state.specs.AllocatingOperations.{Performs}
use Rattle.cfi_state.specs.StorageRefusals.{refusal_for}
use Rattle.cfi_read_core.specs.ListLimits.{IsAtLimit, IsWithinLimit}
use Rattle.cfi_state.specs.MachineSettings.{is_at_limit}
use Rattle.cfi_state.specs.Machine.{Rules}
use Rattle.cfi_state.specs.RulePairs.{numbered_pair, rules_of, map_set_rule, IsDistinctRegisters, IsRising, BelongsAt, AddsRule, AddsRules}
use Rattle.cfi_state.proofs.Entries.{find_at, from_entries-set, from_entries-permuted, from_entries-without, remove-absent, len-from_entries}
use Rattle.cfi_state.proofs.Rising.{distinct-from_rising, rising-inserted}

module _ {T : Type 0} (pairs : List (Register × RegisterRule T)) where
  pub rising-empty : pairs ≡ [] → IsRising pairs
  unfolding IsStrictlySortedBy
  rising-empty none = subst IsRising (sym none) tt

  -- the pair at the place where a register was found
  pub pair_at : (place : ℕ) (register : Register) → IsSomeAnd (slice_get pairs place) (λ pair. pair.0 ≡ register)
      → (rule : RegisterRule T) × (slice_get pairs place ≡ Some (register, rule))
  pair_at place register found =
      elim (slice_get pairs place) as (λ o. slice_get pairs place ≡ o → IsSomeAnd o (λ pair. pair.0 ≡ register) → (rule : RegisterRule T) × (slice_get pairs place ≡ Some (register, rule))) [
        | None ↦ λ at is. absurd is
        | Some pair ↦ λ at is. (pair.1, at ∙ ap (λ r. Some (r, pair.1)) is)
      ] refl found

  pub entry_at : (place : ℕ) (register : Register) (rule : RegisterRule T) → slice_get pairs place ≡ Some (register, rule)
      → slice_get (map numbered_pair pairs) place ≡ Some (register.0, rule)
  entry_at place register rule at = slice_get-map numbered_pair pairs place ∙ ap (option_map numbered_pair) at

  pub get-found : (place : ℕ) (register : Register) (rule : RegisterRule T) → IsDistinctRegisters pairs → slice_get pairs place ≡ Some (register, rule)
      → get (rules_of pairs) register.0 ≡ Some rule
  get-found place register rule distinct at =
      get-from_entries nat_cmp_total (map numbered_pair pairs) register.0
      ∙ find_at nat_cmp_total nat_cmp-IsAntisymmetric (map numbered_pair pairs) place register.0 rule distinct (entry_at place register rule at)

same_register : (a b : Register) → a.0 ≡ b.0 → a ≡ b
same_register a b same = λ i. record { 0 = same i }

pub find-none : {T : Type 0} (pairs : List (Register × RegisterRule T)) (register : Register) → All (λ pair. pair.0 ≢ register) pairs
    → find nat_cmp register.0 (map numbered_pair pairs) ≡ None
find-none [] register absent = refl
find-none {T = T} (pair ∷ pairs) register absent =
    let other : ¬ (pair.0.0 ≡ register.0) =
    λ same. All-head (λ (p : Register × RegisterRule T). p.0 ≢ register) pair pairs absent (same_register _ _ same) in
    let rest = find-none pairs register (All-tail (λ (p : Register × RegisterRule T). p.0 ≢ register) pair pairs absent) in
    let apart : eq_by_cmp nat_cmp register.0 pair.0.0 ≡ false = sym (unsigned_ties register.0 pair.0.0) ∙ grind (arith, nat_tests) in
    rw (apart, rest) refl

module _ {T : Type 0} (pairs : List (Register × RegisterRule T)) where
  pub get-absent : (register : Register) → All (λ pair. pair.0 ≢ register) pairs → get (rules_of pairs) register.0 ≡ None
  get-absent register absent =
      get-from_entries nat_cmp_total (map numbered_pair pairs) register.0 ∙ find-none pairs register absent

  pub len-rules_of : IsDistinctRegisters pairs → len (rules_of pairs) ≡ length pairs
  len-rules_of distinct =
      len-from_entries nat_cmp_total nat_cmp-IsAntisymmetric (map numbered_pair pairs) distinct ∙ length-map pairs numbered_pair

  -- a register that belongs at a place stands nowhere
  pub absent-elsewhere : (place : ℕ) (register : Register) → BelongsAt pairs place register → All (λ pair. pair.0 ≢ register) pairs
  absent-elsewhere place register belongs i d within =
      λ same.
      let number = ap (λ (r : Register). r.0) same in
      elim (cases_lt i place) [
        | inl before ↦ let lower = belongs.1 i d before in absurd (omega (arith, number, lower))
        | inr after ↦ let higher = belongs.2 i d after within in absurd (omega (arith, number, higher))
      ]

module _ {T : Type 0} (pairs : List (Register × RegisterRule T)) (rising : IsRising pairs) (register : Register) where
  pub rules_of-removed : (place : ℕ) → IsSomeAnd (slice_get pairs place) (λ other. other.0 ≡ register) → rules_of (list.remove pairs place) ≡ remove (rules_of pairs) register.0
  rules_of-removed place found =
      let at = pair_at pairs place register found in
      let pair : Register × RegisterRule T = (register, at.0) in
      from_entries-without nat_cmp_total nat_cmp-IsAntisymmetric (map numbered_pair pairs) (map numbered_pair (list.remove pairs place)) (numbered_pair pair) (distinct-from_rising pairs rising)
      (IsPermutation-map numbered_pair pairs (pair ∷ list.remove pairs place)
      (IsPermutation-remove pairs place pair (slice_get_within pairs place pair at.1) (sym (get_or_from_slice_get pairs place pair pair at.1))))

  pub rules_of-kept : All (λ pair. pair.0 ≢ register) pairs → rules_of pairs ≡ remove (rules_of pairs) register.0
  rules_of-kept absent =
      sym (remove-absent nat_cmp_total nat_cmp-IsAntisymmetric (rules_of pairs) register.0 (get-absent pairs register absent))

-- whether a list is full, as a test and as a fact
pub at_limit-true : {A : Type 0} (limit : Option ℕ) (items : List A) → IsAtLimit limit items → is_at_limit limit (length items) ≡ true
at_limit-true None items at = cc
at_limit-true (Some most) items at = let same : most ≡ length items = cc in grind (arith, nat_tests)

pub at_limit-false : {A : Type 0} (limit : Option ℕ) (items : List A) → ¬ IsAtLimit limit items → is_at_limit limit (length items) ≡ false
at_limit-false None items below = refl
at_limit-false (Some most) items below = let other : ¬ (length items ≡ most) = λ e. below (ap Some (sym e)) in grind (arith, nat_tests)

-- a list takes each item of one that is no longer than its limit, but for lack of memory
pub fill-refused : {A : Type 0} (limit : Option ℕ) (items held : List A) (index : ℕ) (why : Why) → IsWithinLimit limit items → held ≡ take index items → index < length items
    → (why ≡ Full (record {})) ↔ IsAtLimit limit held → (why ≡ Memory → IsNone limit)
    → (refusal_for why TooManyRegisterRules ≡ OutOfMemory) × IsNone limit × (1 ≤ length items)
fill-refused limit items held index (Full _) within is before full memory =
    let room : length items ≤ length held = subst (λ l. IsWithinLimit l items) (full.0 refl) within in
    absurd (omega (arith, room, ap length is, length-take-le index items (omega arith)))
fill-refused limit items held index Memory within is before full memory = (refl, memory refl, omega arith)

pub limited : (limit : Option ℕ) → is_some limit ≡ true → IsNone limit → ⊥
limited limit some none = false≢true (sym none ∙ some)

-- what was written over a list rises as what it was written from, or is empty
pub rising-filled : {T : Type 0} (new pairs items : List (Register × RegisterRule T)) (result : Result (Unit {0}) Error) → pairs ≡ items → IsRising items
    → OnOk result (new ≡ pairs) → OnErr result (new ≡ []) → IsRising new
rising-filled new pairs items (Ok _) same rising ok err = subst IsRising (sym (ok ∙ same)) rising
rising-filled new pairs items (Err _) same rising ok err = rising-empty new err

module _ {T : Type 0} (pairs items : List (Register × RegisterRule T)) (rules : Rules T) (limit : Option ℕ) (copies_free : Bool) where
  pub copy-refused : (result : Result (Unit {0}) Error) → rules_of items ≡ rules → IsRising items → pairs ≡ items → (copies_free ≡ false) ⊎ (IsNone limit → ⊥)
      → IfErr result (λ error. (error ≡ OutOfMemory) × IsNone limit × (1 ≤ length pairs))
      → IfErr result (λ error. (error ≡ OutOfMemory) × AddsRules limit copies_free rules)
  copy-refused (Ok _) shows rising same takes memory = tt
  copy-refused (Err error) shows rising same (inr limited) memory = absurd (limited memory.1)
  copy-refused (Err error) shows rising same (inl takes) memory =
      let count = sym (ap len shows) ∙ len-rules_of items (distinct-from_rising items rising) in
      (memory.0, (memory.1, takes, omega (arith, count, ap length same, memory.2)))

module _ {T : Type 0} (limit : Option ℕ) (pairs : List (Register × RegisterRule T)) (rising : IsRising pairs) (register : Register) (rule : RegisterRule T) where
  distinct : IsDistinctRegisters pairs
  distinct = distinct-from_rising pairs rising

  abbrev Sets : Rules T → Result (Unit {0}) Error → Type 0
  Sets new result =
      Performs (AddsRule limit (rules_of pairs) register.0) (map_set_rule limit (rules_of pairs) register.0 rule) (rules_of pairs) new result

  set_rule-found : (old : RegisterRule T) (place : ℕ) → slice_get pairs place ≡ Some (register, old)
      → map_set_rule limit (rules_of pairs) register.0 rule ≡ Ok (insert (rules_of pairs) register.0 rule)
  set_rule-found old place at = rw (get-found pairs place register old distinct at) refl

  set_rule-absent : All (λ pair. pair.0 ≢ register) pairs → (full : Bool) → is_at_limit limit (length pairs) ≡ full
      → map_set_rule limit (rules_of pairs) register.0 rule ≡ cond full (Err TooManyRegisterRules) (Ok (insert (rules_of pairs) register.0 rule))
  set_rule-absent absent full is = rw (get-absent pairs register absent, len-rules_of pairs distinct, is) refl

  pub sets-written : (place : ℕ) → IsSomeAnd (slice_get pairs place) (λ pair. pair.0 ≡ register) → Sets (rules_of (set pairs place (register, rule))) (Ok tt)
  sets-written place found =
      let at = pair_at pairs place register found in
      rw (set_rule-found at.0 place at.1, map-set numbered_pair pairs place (register, rule))
      (from_entries-set nat_cmp_total nat_cmp-IsAntisymmetric (map numbered_pair pairs) place register.0 at.0 rule distinct (entry_at pairs place register at.0 at.1))

  pub sets-inserted : (place : ℕ) → BelongsAt pairs place register → ¬ IsAtLimit limit pairs → Sets (rules_of (list.insert pairs place (register, rule))) (Ok tt)
  sets-inserted place belongs below =
      let pair : Register × RegisterRule T = (register, rule) in
      let moved : IsPermutation (map numbered_pair (list.insert pairs place pair)) (map numbered_pair (pair ∷ pairs)) =
      IsPermutation-map numbered_pair _ _ (IsPermutation-sym _ _ (IsPermutation-insert pairs place pair)) in
      rw (set_rule-absent (absent-elsewhere pairs place register belongs) false (at_limit-false limit pairs below))
      (from_entries-permuted nat_cmp_total nat_cmp-IsAntisymmetric _ _ moved (distinct-from_rising _ (rising-inserted pairs rising place register rule belongs)))

  pub sets-refused : All (λ pair. pair.0 ≢ register) pairs → (why : Why) → (why ≡ Full (record {})) ↔ IsAtLimit limit pairs → (why ≡ Memory → IsNone limit)
      → Sets (rules_of pairs) (Err (refusal_for why TooManyRegisterRules))
  sets-refused absent (Full _) full memory =
      rw (set_rule-absent absent true (at_limit-true limit pairs (full.0 refl))) (refl, refl)
  sets-refused absent Memory full memory =
      let below : ¬ IsAtLimit limit pairs = λ at. let e = full.1 at in cc in
      let absent_key : contains_key (rules_of pairs) register.0 ≡ false = ap is_some (get-absent pairs register absent) in
      rw (set_rule-absent absent false (at_limit-false limit pairs below)) (refl, refl, (memory refl, absent_key))

pub then_some-tied : {A : Type 0} (a b : ℕ) (x : A) → then_some (eqb a b) x ≡ cond (eq_by_cmp nat_cmp a b) (Some x) None
then_some-tied a b x =
    let chosen : (test : Bool) → then_some test x ≡ cond test (Some x) None = elim [ true ↦ refl | false ↦ refl ] in
    chosen (eqb a b) ∙ ap (λ test. cond test (Some x) None) (unsigned_ties a b)
