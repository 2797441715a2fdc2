-- The rules in turn.
use Rattle.std.proofs.Common.{append-nil, codes, ◌≡◌, ℕ, zero, suc, ◌+◌, ◌-◌, ◌<◌, ◌≤◌, List, [], ◌∷◌, ◌++◌, Option, Some, None, refl, sym, ◌∙◌, ap, inl, inr, arith, subst, false, true, map}
use Rattle.std.proofs.lemmas.Bool.{cases_lt}
use Rattle.std.proofs.lemmas.Bool.Decides.{nat_tests}
use Rattle.std.proofs.lemmas.Map.Keys.{below_from_sorted, sorted_tail, IsStrictlyIncreasing-from_sorted, sorted_from_strictly_increasing}
use Rattle.std.specs.List.Sorted.{IsStrictlyIncreasing, IsStrictlySortedBy}
use Rattle.std.specs.Cmp.{nat_cmp_total, unsigned_ties}
use Rattle.std.specs.Prelude.{⊤}
use Rattle.std.specs.Fmt.{decimal}
use Rattle.std.proofs.lemmas.Fmt.{decimal_digit}
use Rattle.std.specs.FinMap.{get, get-from_entries}
use Rattle.std.specs.Ordering.{nat_cmp, eq_by_cmp}
use Rattle.cfi_read_core.specs.declared.common.Register.{Register}
use Rattle.cfi_state.specs.RulePairs.{numbered_pair, rules_of, IsRising}
use Rattle.cfi_state.specs.declared.table.rules.RegisterRule.{RegisterRule}
use Rattle.cfi_text.specs.Texts.{Puts}
use Rattle.cfi_text.specs.declared.text.Text.{Text}
use Rattle.cfi_text.proofs.TextLemmas.{IsPut, put_all, put_more}
use Rattle.cfi_row_text.specs.RowLines.{ruled_by, rules_by}

pub rules_more : (text_of : ℕ → RegisterRule ℕ → List ℕ) (n r : ℕ) (rule_of : ℕ → Option (RegisterRule ℕ)) → r < n →
    rules_by text_of (n - r) r rule_of ≡ ruled_by text_of r (rule_of r) ++ rules_by text_of (n - (r + 1)) (r + 1) rule_of
unfolding rules_by
rules_more text_of n r rule_of h =
    let e : n - r ≡ suc (n - (r + 1)) = omega arith in
    rw e refl

pub rules_none : (text_of : ℕ → RegisterRule ℕ → List ℕ) (n r : ℕ) (rule_of : ℕ → Option (RegisterRule ℕ)) → ((k : ℕ) → r ≤ k → rule_of k ≡ None) → rules_by text_of n r rule_of ≡ []
unfolding rules_by
rules_none text_of zero r rule_of none = refl
rules_none text_of (suc n) r rule_of none =
    ap (λ rule. ruled_by text_of r rule ++ rules_by text_of n (r + 1) rule_of) (none r (omega arith)) ∙ rules_none text_of n (r + 1) rule_of (λ k h. none k (omega arith))

pub rules_with : (text_of : ℕ → RegisterRule ℕ → List ℕ) (n r : ℕ) (rule_of : ℕ → Option (RegisterRule ℕ)) (rule : RegisterRule ℕ) → r < n → Some rule ≡ rule_of r →
    rules_by text_of (n - r) r rule_of ≡ ruled_by text_of r (Some rule) ++ rules_by text_of (n - (r + 1)) (r + 1) rule_of
rules_with text_of n r rule_of rule h e = rules_more text_of n r rule_of h ∙ ap (λ x. ruled_by text_of r x ++ rules_by text_of (n - (r + 1)) (r + 1) rule_of) (sym e)

pub rules_without : (text_of : ℕ → RegisterRule ℕ → List ℕ) (n r : ℕ) (rule_of : ℕ → Option (RegisterRule ℕ)) → r < n → None ≡ rule_of r →
    rules_by text_of (n - r) r rule_of ≡ rules_by text_of (n - (r + 1)) (r + 1) rule_of
rules_without text_of n r rule_of h e = rules_more text_of n r rule_of h ∙ ap (λ xs. xs ++ rules_by text_of (n - (r + 1)) (r + 1) rule_of) (ap (ruled_by text_of r) (sym e))

-- ---- where the registers rise, the first rule comes first

rules_same : (text_of : ℕ → RegisterRule ℕ → List ℕ) (n k : ℕ) (a b : ℕ → Option (RegisterRule ℕ)) → ((j : ℕ) → k ≤ j → a j ≡ b j) → rules_by text_of n k a ≡ rules_by text_of n k b
unfolding rules_by
rules_same text_of zero k a b same = refl
rules_same text_of (suc n) k a b same =
    ap (λ x. ruled_by text_of k x ++ rules_by text_of n (k + 1) a) (same k (omega arith)) ∙ ap (λ xs. ruled_by text_of k (b k) ++ xs) (rules_same text_of n (k + 1) a b (λ j h. same j (omega arith)))

-- `more` has a rule for `first` and none below it, and `less` has above it the same and none up to it
record Leads (first : ℕ) (rule : RegisterRule ℕ) (more less : ℕ → Option (RegisterRule ℕ)) : Type 0 where
  pub here : more first ≡ Some rule
  pub below : (j : ℕ) → j < first → more j ≡ None
  pub above : (j : ℕ) → first < j → more j ≡ less j
  pub none : (j : ℕ) → j ≤ first → less j ≡ None

rules_here : (text_of : ℕ → RegisterRule ℕ → List ℕ) (n first : ℕ) (rule : RegisterRule ℕ) (more less : ℕ → Option (RegisterRule ℕ)) → Leads first rule more less →
    rules_by text_of (suc n) first more ≡ ruled_by text_of first (Some rule) ++ rules_by text_of (suc n) first less
unfolding rules_by
rules_here text_of n first rule more less leads =
    ap (λ x. ruled_by text_of first x ++ rules_by text_of n (first + 1) more) leads.here
    ∙ ap (λ xs. ruled_by text_of first (Some rule) ++ xs) (rules_same text_of n (first + 1) more less (λ j h. leads.above j (omega arith)))
    ∙ ap (λ x. ruled_by text_of first (Some rule) ++ (ruled_by text_of first x ++ rules_by text_of n (first + 1) less)) (sym (leads.none first (omega arith)))

rules_led : (text_of : ℕ → RegisterRule ℕ → List ℕ) (n k first : ℕ) (rule : RegisterRule ℕ) (more less : ℕ → Option (RegisterRule ℕ)) → k ≤ first → first < k + n → Leads first rule more less →
    rules_by text_of n k more ≡ ruled_by text_of first (Some rule) ++ rules_by text_of n k less
unfolding rules_by
rules_led text_of zero k first rule more less low high leads = absurd (omega arith)
rules_led text_of (suc n) k first rule more less low high leads =
    elim (cases_lt k first) [
      | inl before ↦ ap (λ x. ruled_by text_of k x ++ rules_by text_of n (k + 1) more) (leads.below k before)
          ∙ rules_led text_of n (k + 1) first rule more less (omega arith) (omega arith) leads
          ∙ ap (λ x. ruled_by text_of first (Some rule) ++ (ruled_by text_of k x ++ rules_by text_of n (k + 1) less)) (sym (leads.none k low))
      | inr at ↦ let here : first ≡ k = omega arith in
          let P : ℕ → Type 0 = λ r. rules_by text_of (suc n) r more ≡ ruled_by text_of first (Some rule) ++ rules_by text_of (suc n) r less in
          subst P here (rules_here text_of n first rule more less leads)
    ]

-- a register other than that of the first pair has a rule where it has one among the others
pub get_apart : (pair : Register × RegisterRule ℕ) (pairs : List (Register × RegisterRule ℕ)) (register : ℕ) → ¬ (pair.0.0 ≡ register) →
    get (rules_of (pair ∷ pairs)) register ≡ get (rules_of pairs) register
get_apart pair pairs register h =
    let apart : eq_by_cmp nat_cmp register pair.0.0 ≡ false = sym (unsigned_ties register pair.0.0) ∙ grind (arith, nat_tests) in
    get-from_entries nat_cmp_total (map numbered_pair (pair ∷ pairs)) register ∙ rw apart refl ∙ sym (get-from_entries nat_cmp_total (map numbered_pair pairs) register)

pub get_behind : (pair : Register × RegisterRule ℕ) (pairs : List (Register × RegisterRule ℕ)) (register : ℕ) → pair.0.0 < register →
    get (rules_of (pair ∷ pairs)) register ≡ get (rules_of pairs) register
get_behind pair pairs register h = get_apart pair pairs register (λ e. omega (arith, e))

pub get_first : (pair : Register × RegisterRule ℕ) (pairs : List (Register × RegisterRule ℕ)) → get (rules_of (pair ∷ pairs)) pair.0.0 ≡ Some pair.1
get_first pair pairs =
    let same : eq_by_cmp nat_cmp pair.0.0 pair.0.0 ≡ true = sym (unsigned_ties pair.0.0 pair.0.0) ∙ grind (arith, nat_tests) in
    get-from_entries nat_cmp_total (map numbered_pair (pair ∷ pairs)) pair.0.0 ∙ rw same refl

pub get_of_none : (register : ℕ) → get (rules_of {T = ℕ} []) register ≡ None
get_of_none register = get-from_entries nat_cmp_total [] register

second_above : (first second : Register × RegisterRule ℕ) (pairs : List (Register × RegisterRule ℕ)) → IsRising (first ∷ second ∷ pairs) → first.0.0 < second.0.0
second_above first second pairs rising = below_from_sorted (map (λ entry. entry.0) (map numbered_pair (first ∷ second ∷ pairs))) 0 1 0 rising (omega arith) (omega arith)

pub rising_rest : (pair : Register × RegisterRule ℕ) (pairs : List (Register × RegisterRule ℕ)) → IsRising (pair ∷ pairs) → IsRising pairs
rising_rest pair pairs rising = sorted_tail nat_cmp pair.0.0 (map (λ entry. entry.0) (map numbered_pair pairs)) rising

get_below : (pairs : List (Register × RegisterRule ℕ)) (pair : Register × RegisterRule ℕ) (register : ℕ) → IsRising (pair ∷ pairs) → register < pair.0.0 →
    get (rules_of (pair ∷ pairs)) register ≡ None
get_below [] pair register rising h = get_apart pair [] register (λ e. omega (arith, e)) ∙ get_of_none register
get_below (next ∷ pairs) pair register rising h =
    let above = second_above pair next pairs rising in
    get_apart pair (next ∷ pairs) register (λ e. omega (arith, e)) ∙ get_below pairs next register (rising_rest pair (next ∷ pairs) rising) (omega (arith, above))

get_up_to : (pair : Register × RegisterRule ℕ) (pairs : List (Register × RegisterRule ℕ)) (register : ℕ) → IsRising (pair ∷ pairs) → register ≤ pair.0.0 →
    get (rules_of pairs) register ≡ None
get_up_to pair [] register rising h = get_of_none register
get_up_to pair (next ∷ pairs) register rising h =
    let above = second_above pair next pairs rising in
    get_below pairs next register (rising_rest pair (next ∷ pairs) rising) (omega (arith, above))

pub rules_rise : (text_of : ℕ → RegisterRule ℕ → List ℕ) (pair : Register × RegisterRule ℕ) (pairs : List (Register × RegisterRule ℕ)) → IsRising (pair ∷ pairs) → pair.0.0 < 65536 →
    rules_by text_of 65536 0 (get (rules_of (pair ∷ pairs))) ≡ ruled_by text_of pair.0.0 (Some pair.1) ++ rules_by text_of 65536 0 (get (rules_of pairs))
rules_rise text_of pair pairs rising within =
    rules_led text_of 65536 0 pair.0.0 pair.1 (get (rules_of (pair ∷ pairs))) (get (rules_of pairs)) (omega arith) (omega arith) record {
      here = get_first pair pairs;
      below = λ j h. get_below pairs pair j rising h;
      above = λ j h. get_apart pair pairs j (λ e. omega (arith, e));
      none = λ j h. get_up_to pair pairs j rising h;
    }

-- ---- whether registers rise

abbrev registers : List (Register × RegisterRule ℕ) → List ℕ
registers pairs = map (λ (entry : ℕ × RegisterRule ℕ). entry.0) (map numbered_pair pairs)

abbrev pub StartsFrom : ℕ → List (Register × RegisterRule ℕ) → Type 0
StartsFrom from [] = ⊤
StartsFrom from (pair ∷ pairs) = from ≤ pair.0.0

pub rising_none : IsRising {T = ℕ} []
unfolding IsStrictlySortedBy
rising_none = tt

rises_more : (first : ℕ) (pairs : List (Register × RegisterRule ℕ)) → StartsFrom (first + 1) pairs → IsStrictlyIncreasing (registers pairs) → IsStrictlyIncreasing (first ∷ registers pairs)
rises_more first [] from rising k h = absurd (omega (arith, h))
rises_more first (pair ∷ pairs) from rising zero h = omega (arith, from)
rises_more first (pair ∷ pairs) from rising (suc k) h =
    let e : suc k + 1 ≡ suc (k + 1) = omega arith in
    rw e (rising k (omega (arith, h)))

pub rising_more : (pair : Register × RegisterRule ℕ) (pairs : List (Register × RegisterRule ℕ)) → StartsFrom (pair.0.0 + 1) pairs → IsRising pairs → IsRising (pair ∷ pairs)
rising_more pair pairs from rising =
    sorted_from_strictly_increasing (pair.0.0 ∷ registers pairs) (rises_more pair.0.0 pairs from (IsStrictlyIncreasing-from_sorted (registers pairs) rising))

-- ---- a frame above the stack pointer, at once

pub stack_frame : (x y : Text) (cfa : List ℕ) (offset args : ℕ) → cfa ≡ codes "rsp+" ++ decimal offset → args ≡ 0
    → Puts (codes " cfa=rsp+" ++ decimal offset ++ codes " args=0") x y → Puts (codes " cfa=" ++ (cfa ++ (codes " args=" ++ decimal args))) x y
stack_frame x y cfa offset args is none put = rw (is, none, decimal_digit 0 (omega arith)) put

-- ---- what is left of a text to put

pub put_next : (x y z : Text) (here part left all : List ℕ) → here ≡ part ++ left → IsPut x y here all → Puts part y z → IsPut x z left all
put_next x y z here part left all is given more = put_more x y z part left all (subst (λ (text : List ℕ). IsPut x y text all) is given) more

pub put_same : (x y : Text) (here left all : List ℕ) → here ≡ left → IsPut x y here all → IsPut x y left all
put_same x y here left all is given = subst (λ (text : List ℕ). IsPut x y text all) is given

pub put_last : (x y z : Text) (here last all : List ℕ) → here ≡ last → IsPut x y here all → Puts last y z → Puts all x z
put_last x y z here last all is given more = put_all x z [] all (put_next x y z here last [] all (is ∙ sym (append-nil last)) given more) refl
