-- How many restore_states of a list match nothing in it, and how many remember_states: the two numbers by which a list
-- of brackets is joined to another.
use Rattle.std.proofs.Common.{◌≡◌, ℕ, ◌+◌, ◌-◌, ◌<◌, ◌≤◌, Bool, true, false, cond, List, [], ◌∷◌, ◌++◌, refl, ap, ◌∙◌, arith, inl, inr, ◌⊎◌}
use Rattle.std.specs.List.{count_by}
use Rattle.std.proofs.lemmas.List.Sums.{sum_by-cons}
use Rattle.std.proofs.lemmas.Bool.{cases_lt}
use Rattle.cfi_read_core.specs.declared.instruction.CallFrameInstruction.{CallFrameInstruction}
use Rattle.cfi_state.specs.MachineSettings.{is_remember, is_restore}

append_step_closings : (c o C O C' t : ℕ) → t ≡ C + (C' - O) → c + (t - o) ≡ (c + (C - o)) + (C' - (O + (o - C)))
append_step_closings c o C O C' t e = omega arith

append_step_opens : (o C O C' O' t u : ℕ) → t ≡ C + (C' - O) → u ≡ O' + (O - C') → u + (o - t) ≡ O' + ((O + (o - C)) - C')
append_step_opens o C O C' O' t u e f = omega arith

count_step : (c o C O p q a b : ℕ) → p + C ≡ q + O → a ≡ o + p → b ≡ c + q → a + (c + (C - o)) ≡ b + (O + (o - C))
count_step c o C O p q a b e f g = omega arith

counted : (b : Bool) → 0 < cond b 1 0 → b ≡ true
counted true h = refl
counted false h = absurd (omega arith)

weight_bound : (b : Bool) → cond b 1 0 ≤ 1
weight_bound true = omega arith
weight_bound false = omega arith

module _ {T : Type 0} where
  abbrev pub closing : CallFrameInstruction T → ℕ
  closing x = cond (is_restore x) 1 0

  abbrev pub opening : CallFrameInstruction T → ℕ
  opening x = cond (is_remember x) 1 0

  abbrev pub closings : List (CallFrameInstruction T) → ℕ
  closings [] = 0
  closings (x ∷ xs) = closing x + (closings xs - opening x)

  abbrev pub opens : List (CallFrameInstruction T) → ℕ
  opens [] = 0
  opens (x ∷ xs) = opens xs + (opening x - closings xs)

  pub closings-append : (xs ys : List (CallFrameInstruction T)) → closings (xs ++ ys) ≡ closings xs + (closings ys - opens xs)
  closings-append [] ys = omega arith
  closings-append (x ∷ xs) ys = append_step_closings (closing x) (opening x) (closings xs) (opens xs) (closings ys) _ (closings-append xs ys)

  pub opens-append : (xs ys : List (CallFrameInstruction T)) → opens (xs ++ ys) ≡ opens ys + (opens xs - closings ys)
  opens-append [] ys = omega arith
  opens-append (x ∷ xs) ys = append_step_opens (opening x) (closings xs) (opens xs) (closings ys) (opens ys) _ _ (closings-append xs ys) (opens-append xs ys)

  -- the counts of the two kinds differ as these numbers do
  pub counts_differ : (xs : List (CallFrameInstruction T)) → count_by is_remember xs + closings xs ≡ count_by is_restore xs + opens xs
  counts_differ [] = refl
  counts_differ (x ∷ xs) = count_step (closing x) (opening x) (closings xs) (opens xs) _ _ _ _ (counts_differ xs) (sum_by-cons opening x xs) (sum_by-cons closing x xs)

  pub closing_bound : (x : CallFrameInstruction T) → closing x ≤ 1
  closing_bound x = weight_bound (is_restore x)

  pub opening_bound : (x : CallFrameInstruction T) → opening x ≤ 1
  opening_bound x = weight_bound (is_remember x)

  -- ---- the first restore_state after n others that match nothing

  pub record FirstClosing (xs : List (CallFrameInstruction T)) (n : ℕ) : Type 0 where
    pub before : List (CallFrameInstruction T)
    pub at : CallFrameInstruction T
    pub behind : List (CallFrameInstruction T)
    pub is : xs ≡ before ++ at ∷ behind
    pub restores : is_restore at ≡ true
    pub closed : closings before ≡ n
    pub none_open : opens before ≡ 0

  later_closing : (x : CallFrameInstruction T) (xs : List (CallFrameInstruction T)) (n m : ℕ) → closing x + (m - opening x) ≡ n → opening x ≤ m → FirstClosing xs m → FirstClosing (x ∷ xs) n
  later_closing x xs n m e h f = record {
    before = x ∷ f.before;
    at = f.at;
    behind = f.behind;
    is = ap (λ l. x ∷ l) f.is;
    restores = f.restores;
    closed = ap (λ k. closing x + (k - opening x)) f.closed ∙ e;
    none_open = omega (arith, f.closed, f.none_open);
  }

  pick_closing : (x : CallFrameInstruction T) (xs : List (CallFrameInstruction T)) (n : ℕ) → n < closings (x ∷ xs) → ((m : ℕ) → m < closings xs → FirstClosing xs m) → (n < closing x) ⊎ (closing x ≤ n) → FirstClosing (x ∷ xs) n
  pick_closing x xs n h rest (inl here) = record { before = []; at = x; behind = xs; is = refl; restores = counted (is_restore x) (omega arith); closed = omega (arith, closing_bound x); none_open = refl }
  pick_closing x xs n h rest (inr later) = later_closing x xs n (n - closing x + opening x) (omega arith) (omega arith) (rest (n - closing x + opening x) (omega arith))

  pub first_closing : (xs : List (CallFrameInstruction T)) (n : ℕ) → n < closings xs → FirstClosing xs n
  first_closing [] n h = absurd (omega arith)
  first_closing (x ∷ xs) n h = pick_closing x xs n h (first_closing xs) (cases_lt n (closing x))

  -- ---- the last remember_state that nothing matches

  pub record LastOpen (xs : List (CallFrameInstruction T)) : Type 0 where
    pub before : List (CallFrameInstruction T)
    pub at : CallFrameInstruction T
    pub behind : List (CallFrameInstruction T)
    pub is : xs ≡ before ++ at ∷ behind
    pub remembers : is_remember at ≡ true
    pub none_closed : closings behind ≡ 0
    pub none_open : opens behind ≡ 0

  later_open : (x : CallFrameInstruction T) (xs : List (CallFrameInstruction T)) → LastOpen xs → LastOpen (x ∷ xs)
  later_open x xs o = record { before = x ∷ o.before; at = o.at; behind = o.behind; is = ap (λ l. x ∷ l) o.is; remembers = o.remembers; none_closed = o.none_closed; none_open = o.none_open }

  pick_open : (x : CallFrameInstruction T) (xs : List (CallFrameInstruction T)) → 0 < opens (x ∷ xs) → (0 < opens xs → LastOpen xs) → (0 < opens xs) ⊎ (opens xs ≤ 0) → LastOpen (x ∷ xs)
  pick_open x xs h rest (inl later) = later_open x xs (rest later)
  pick_open x xs h rest (inr here) = record { before = []; at = x; behind = xs; is = refl; remembers = counted (is_remember x) (omega arith); none_closed = omega (arith, opening_bound x); none_open = omega arith }

  pub last_open : (xs : List (CallFrameInstruction T)) → 0 < opens xs → LastOpen xs
  last_open [] h = absurd (omega arith)
  last_open (x ∷ xs) h = pick_open x xs h (last_open xs) (cases_lt 0 (opens xs))
