-- The survivors of a list and the lists before its open remember_states, by recursion from the front; and what one
-- instruction more at the end changes.
use Rattle.std.proofs.Common.{◌≡◌, ℕ, zero, suc, ◌-◌, ◌<◌, ◌≤◌, Bool, true, false, cond, not, ◌&&◌, ◌||◌, List, [], ◌∷◌, ◌++◌, length, map, eqb, ltb, refl, sym, ap, subst, ◌∙◌, arith, append_assoc}
use Rattle.std.specs.List.{filter}
use Rattle.std.proofs.lemmas.List.{append-nil, map-id, map-append, length-append, length-map}
use Rattle.std.proofs.lemmas.Bool.{false≢true, lt-ltb, ne_eqb, eq-eqb}
use Rattle.cfi_read_core.specs.declared.instruction.CallFrameInstruction.{CallFrameInstruction}
use Rattle.cfi_read_core.specs.declared.instruction.CallFrameInstruction.TheVariants as instruction
use Rattle.cfi_state.specs.MachineSettings.{is_move, is_remember, is_restore}
use Rattle.cfi_state.proofs.RememberedStateCounts.{closing, opening, closings, opens, closings-append, opens-append, last_open}

pub no_length : {A : Type 0} (l : List A) → length l ≡ 0 → l ≡ []
no_length [] e = refl
no_length (x ∷ l) e = absurd (omega arith)

pub map_twice : {A B C : Type 0} (f : A → B) (g : B → C) (l : List A) → map g (map f l) ≡ map (λ a. g (f a)) l
map_twice f g [] = refl
map_twice f g (a ∷ l) = ap (λ t. g (f a) ∷ t) (map_twice f g l)

cond-append : {A : Type 0} (b : Bool) (x : A) (l m : List A) → cond b l (x ∷ l) ++ m ≡ cond b (l ++ m) (x ∷ (l ++ m))
cond-append true x l m = refl
cond-append false x l m = refl

length_when_open : {A : Type 0} (b : Bool) (c : ℕ) (l : A) → length (cond (b && eqb c 0) (l ∷ []) []) ≡ cond b 1 0 - c
length_when_open false c l = omega arith
length_when_open true zero l = refl
length_when_open {A} true (suc c) l = ap (λ b. length (cond {A = List A} b (l ∷ []) [])) (ne_eqb (suc c) 0 (λ e. absurd (omega arith))) ∙ omega arith

moves_left : {A : Type 0} (move restore closes : Bool) (x : A) (l : List A) → closes ≡ true → cond (not move && (restore || closes)) l (x ∷ l) ≡ cond move (x ∷ l) l
moves_left true restore closes x l e = refl
moves_left false true closes x l e = refl
moves_left false false closes x l e = ap (λ b. cond b l (x ∷ l)) e

open_at_zero : {A : Type 0} (remember : Bool) (c : ℕ) (l m : A) → remember ≡ true → c ≡ 0 → cond (remember && eqb c 0) l m ≡ l
open_at_zero remember c l m e z = ap (λ b. cond (b && eqb c 0) l m) e ∙ ap (λ b. cond b l m) (eq-eqb c 0 z)

module _ {T : Type 0} where
  -- struck, where so many restore_states after it match nothing there
  abbrev pub is_gone : CallFrameInstruction T → ℕ → Bool
  is_gone x c = not (is_move x) && (is_restore x || ltb 0 c)

  abbrev pub left : List (CallFrameInstruction T) → List (CallFrameInstruction T)
  left [] = []
  left (x ∷ xs) = cond (is_gone x (closings xs)) (left xs) (x ∷ left xs)

  -- a remember_state that nothing after it matches
  abbrev pub stays_open : CallFrameInstruction T → ℕ → Bool
  stays_open x c = is_remember x && eqb c 0

  abbrev pub fronts : List (CallFrameInstruction T) → List (List (CallFrameInstruction T))
  fronts [] = []
  fronts (x ∷ xs) = map (λ l. x ∷ l) (fronts xs) ++ cond (stays_open x (closings xs)) ([] ∷ []) []

  pub length-fronts : (xs : List (CallFrameInstruction T)) → length (fronts xs) ≡ opens xs
  length-fronts [] = refl
  length-fronts (x ∷ xs) = omega (arith, length-append (map (λ l. x ∷ l) (fronts xs)) (cond (stays_open x (closings xs)) ([] ∷ []) []), length-map (fronts xs) (λ l. x ∷ l), length-fronts xs, length_when_open {A = List (CallFrameInstruction T)} (is_remember x) (closings xs) [])

  -- ---- after a list, one that closes nothing of it

  pub closings_before : (xs ys : List (CallFrameInstruction T)) → closings ys ≡ 0 → closings (xs ++ ys) ≡ closings xs
  closings_before xs ys e = omega (arith, closings-append xs ys)

  pub left-append : (xs ys : List (CallFrameInstruction T)) → closings ys ≡ 0 → left (xs ++ ys) ≡ left xs ++ left ys
  left-append [] ys e = refl
  left-append (x ∷ xs) ys e =
      ap (λ c. cond (is_gone x c) (left (xs ++ ys)) (x ∷ left (xs ++ ys))) (closings_before xs ys e)
      ∙ ap (λ l. cond (is_gone x (closings xs)) l (x ∷ l)) (left-append xs ys e)
      ∙ sym (cond-append (is_gone x (closings xs)) x (left xs) (left ys))

  pub fronts-append : (xs ys : List (CallFrameInstruction T)) → closings ys ≡ 0 → fronts (xs ++ ys) ≡ map (λ l. xs ++ l) (fronts ys) ++ fronts xs
  fronts-append [] ys e = sym (append-nil _ ∙ map-id _)
  fronts-append (x ∷ xs) ys e =
      ap (λ c. map (λ l. x ∷ l) (fronts (xs ++ ys)) ++ cond (stays_open x c) ([] ∷ []) []) (closings_before xs ys e)
      ∙ ap (λ f. map (λ l. x ∷ l) f ++ cond (stays_open x (closings xs)) ([] ∷ []) []) (fronts-append xs ys e)
      ∙ ap (λ f. f ++ cond (stays_open x (closings xs)) ([] ∷ []) []) (map-append (λ l. x ∷ l) (map (λ l. xs ++ l) (fronts ys)) (fronts xs))
      ∙ ap (λ f. (f ++ map (λ l. x ∷ l) (fronts xs)) ++ cond (stays_open x (closings xs)) ([] ∷ []) []) (map_twice (λ l. xs ++ l) (λ l. x ∷ l) (fronts ys))
      ∙ append_assoc (map (λ l. x ∷ (xs ++ l)) (fronts ys)) (map (λ l. x ∷ l) (fronts xs)) (cond (stays_open x (closings xs)) ([] ∷ []) [])

  -- ---- a restore_state after an open remember_state

  remember_no_restore : (x : CallFrameInstruction T) → is_remember x ≡ true → is_restore x ≡ false
  remember_no_restore instruction.RememberState e = refl
  remember_no_restore _ e = absurd (false≢true e)

  remember_no_move : (x : CallFrameInstruction T) → is_remember x ≡ true → is_move x ≡ false
  remember_no_move instruction.RememberState e = refl
  remember_no_move _ e = absurd (false≢true e)

  -- a list in which nothing is open, with a restore_state after it, leaves its moves
  left_closed : (xs : List (CallFrameInstruction T)) → opens xs ≡ 0 → left (xs ++ instruction.RestoreState ∷ []) ≡ filter is_move xs
  left_closed [] none = refl
  left_closed (x ∷ xs) none =
      moves_left (is_move x) (is_restore x) _ x (left (xs ++ instruction.RestoreState ∷ [])) (lt-ltb 0 _ (omega (arith, closings-append xs (instruction.RestoreState ∷ []))))
      ∙ ap (λ l. cond (is_move x) (x ∷ l) l) (left_closed xs (omega arith))

  -- the last open remember_state is matched: what stands before it is left as it was, and after it only the moves
  pub record Restored (xs : List (CallFrameInstruction T)) : Type 0 where
    pub before : List (CallFrameInstruction T)
    pub behind : List (CallFrameInstruction T)
    pub closed : closings before ≤ closings xs
    pub survive : left (xs ++ instruction.RestoreState ∷ []) ≡ left before ++ filter is_move behind
    pub were_open : fronts xs ≡ before ∷ fronts before
    pub are_open : fronts (xs ++ instruction.RestoreState ∷ []) ≡ fronts before

  restored_at : (a b : List (CallFrameInstruction T)) (x : CallFrameInstruction T) → is_remember x ≡ true → closings b ≡ 0 → opens b ≡ 0 → Restored (a ++ x ∷ b)
  restored_at a b x remembers none_closed none_open =
      let end : List (CallFrameInstruction T) = instruction.RestoreState ∷ [] in
      let closing_0 : closing x ≡ 0 = ap (λ t. cond t 1 0) (remember_no_restore x remembers) in
      let opening_1 : opening x ≡ 1 = ap (λ t. cond t 1 0) remembers in
      let closings_end : closings (b ++ end) ≡ 1 = omega (arith, closings-append b end) in
      let opens_end : opens (b ++ end) ≡ 0 = omega (arith, opens-append b end) in
      let no_closing_end : closings (x ∷ (b ++ end)) ≡ 0 = omega arith in
      let no_closing : closings (x ∷ b) ≡ 0 = omega arith in
      let none : fronts b ≡ [] = no_length (fronts b) (length-fronts b ∙ none_open) in
      let none_end : fronts (x ∷ (b ++ end)) ≡ [] = no_length (fronts (x ∷ (b ++ end))) (length-fronts (x ∷ (b ++ end)) ∙ omega arith) in
      let one : fronts (x ∷ b) ≡ [] ∷ [] = ap (λ f. map (λ l. x ∷ l) f ++ cond (stays_open x (closings b)) ([] ∷ []) []) none ∙ open_at_zero (is_remember x) (closings b) ([] ∷ []) [] remembers none_closed in
      let gone : left (x ∷ (b ++ end)) ≡ left (b ++ end) = moves_left (is_move x) (is_restore x) _ x (left (b ++ end)) (lt-ltb 0 _ (omega arith)) ∙ ap (λ t. cond t (x ∷ left (b ++ end)) (left (b ++ end))) (remember_no_move x remembers) in
      record {
        before = a;
        behind = b;
        closed = omega (arith, closings-append a (x ∷ b));
        survive = ap left (append_assoc a (x ∷ b) end) ∙ left-append a (x ∷ (b ++ end)) no_closing_end ∙ ap (λ l. left a ++ l) (gone ∙ left_closed b none_open);
        were_open = fronts-append a (x ∷ b) no_closing ∙ ap (λ f. map (λ l. a ++ l) f ++ fronts a) one ∙ ap (λ l. l ∷ fronts a) (append-nil a);
        are_open = ap fronts (append_assoc a (x ∷ b) end) ∙ fronts-append a (x ∷ (b ++ end)) no_closing_end ∙ ap (λ f. map (λ l. a ++ l) f ++ fronts a) none_end;
      }

  pub restored : (xs : List (CallFrameInstruction T)) → 0 < opens xs → Restored xs
  restored xs h =
      let o = last_open xs h in
      subst Restored (sym o.is) (restored_at o.before o.behind o.at o.remembers o.none_closed o.none_open)
