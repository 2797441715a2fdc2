-- The matching pairs of a list by their places, and what they come to: an instruction is struck, or a remember_state is
-- open, by how many restore_states after it match nothing there.
use Rattle.std.proofs.Common.{◌≡◌, ℕ, zero, suc, ◌+◌, ◌-◌, ◌<◌, ◌≤◌, Bool, true, false, cond, not, ◌&&◌, ◌||◌, List, [], ◌∷◌, ◌++◌, length, map, take, drop, reverse, eqb, ltb, leb, Option, Some, None, refl, sym, ap, subst, ◌∙◌, arith, append_assoc, inl, inr, ◌⊎◌}
use Rattle.std.specs.List.{filter, filter_map, count_by, list_any, cons_option, range_with_len, slice_get, slice_range}
use Rattle.std.proofs.lemmas.List.{append-nil, map-id, length-map, length-reverse, length_push, length-append, length-drop, take-append-drop, take_at, drop_at, take_all, drop-append-le, map-append, reverse-append}
use Rattle.std.specs.Option.{option_map_or}
use Rattle.std.proofs.Math.Seq.{drop-append-add}
use Rattle.std.proofs.lemmas.Bool.{false≢true, and_parts, and_from, or_left, or_right, lt-ltb, ltb-true, le-leb, leb-true, eq-eqb, eqb-true, cases_lt, cases_Bool}
use Rattle.cfi_read_core.specs.declared.instruction.CallFrameInstruction.{CallFrameInstruction}
use Rattle.cfi_read_core.specs.declared.instruction.CallFrameInstruction.TheVariants as instruction
use Rattle.cfi_state.specs.MachineSettings.{is_move, is_remember, is_restore}
use Rattle.cfi_state.specs.RememberedStates.{indices, is_at, is_balanced, matches, is_struck, survivors, is_open, open_indices, before_open}
use Rattle.cfi_state.proofs.RememberedStateCounts.{closing, opening, closings, opens, closings-append, opens-append, counts_differ, FirstClosing, first_closing, LastOpen, last_open}
use Rattle.cfi_state.proofs.RememberedStateEnds.{is_gone, left, stays_open, fronts, length-fronts, map_twice}
use Rattle.cfi_state.proofs.Ranges.{same_bool, all_in_range, all_range_from, any_range_from, any_in_range, slice_get_seam, passes_at}

unmatched_at : (c : ℕ) (b : Bool) → (0 < c → b ≡ true) → not b ≡ true → eqb c 0 ≡ true
unmatched_at zero b closes e = refl
unmatched_at (suc c) b closes e = absurd (false≢true (sym (ap not (closes (omega arith))) ∙ e))

matched_by_none : (c : ℕ) (b : Bool) → (b ≡ true → 0 < c) → c ≡ 0 → not b ≡ true
matched_by_none c true closes e = absurd (let h : 0 < c = closes refl in omega arith)
matched_by_none c false closes e = refl

kept-cond : {A : Type 0} (b : Bool) (x : A) (l : List A) → cons_option (cond b None (Some x)) l ≡ cond b l (x ∷ l)
kept-cond true x l = refl
kept-cond false x l = refl

map-reverse-cond : {A B : Type 0} (f : A → B) (k : A) (l : List A) (b : Bool) → map f (reverse (cond b (k ∷ l) l)) ≡ map f (reverse l) ++ cond b (f k ∷ []) []
map-reverse-cond f k l true = ap (map f) (reverse-append (k ∷ []) l) ∙ map-append f (reverse l) (k ∷ [])
map-reverse-cond f k l false = sym (append-nil _)

one_front : {A : Type 0} (before : List A) (b : Bool) → cond b (before ∷ []) [] ≡ map (λ l. before ++ l) (cond b ([] ∷ []) [])
one_front before true = ap (λ l. l ∷ []) (sym (append-nil before))
one_front before false = refl

module _ {T : Type 0} where
  pub restore_no_remember : (x : CallFrameInstruction T) → is_restore x ≡ true → is_remember x ≡ false
  restore_no_remember instruction.RestoreState e = refl
  restore_no_remember _ e = absurd (false≢true e)

  -- ---- balanced lists

  restores_within : (xs : List (CallFrameInstruction T)) → is_balanced xs ≡ true → (k : ℕ) → k ≤ length xs → count_by is_restore (take k xs) ≤ count_by is_remember (take k xs)
  restores_within xs balanced k bound =
      let parts = and_parts (eqb (count_by is_remember xs) (count_by is_restore xs)) _ balanced in
      let inside : k < length xs → count_by is_restore (take k xs) ≤ count_by is_remember (take k xs) = λ h. leb-true _ _ (all_in_range _ 0 (length xs) parts.1 k (omega arith) (omega arith)) in
      let whole : length xs ≤ k → count_by is_restore (take k xs) ≤ count_by is_remember (take k xs) = λ h. rw (take_all k xs h) (omega (arith, eqb-true _ _ parts.0)) in
      let pick : (k < length xs) ⊎ (length xs ≤ k) → count_by is_restore (take k xs) ≤ count_by is_remember (take k xs) = elim [ inl h ↦ inside h | inr h ↦ whole h ] in
      pick (cases_lt k (length xs))

  closing_refuted : (xs : List (CallFrameInstruction T)) → is_balanced xs ≡ true → 0 < closings xs → ⊥
  closing_refuted xs balanced h =
      let f = first_closing xs 0 h in
      let front : List (CallFrameInstruction T) = f.before ++ f.at ∷ [] in
      let is : xs ≡ front ++ f.behind = f.is ∙ sym (append_assoc f.before (f.at ∷ []) f.behind) in
      let short : length front ≤ length xs = omega (arith, ap length is, length-append front f.behind) in
      let taken : take (length front) xs ≡ front = ap (take (length front)) is ∙ take_at front f.behind (length front) refl in
      let within : count_by is_restore front ≤ count_by is_remember front = subst (λ l. count_by is_restore l ≤ count_by is_remember l) taken (restores_within xs balanced (length front) short) in
      let closing_1 : closing f.at ≡ 1 = ap (λ t. cond t 1 0) f.restores in
      let opening_0 : opening f.at ≡ 0 = ap (λ t. cond t 1 0) (restore_no_remember f.at f.restores) in
      omega (arith, counts_differ front, closings-append f.before (f.at ∷ []), opens-append f.before (f.at ∷ []), f.closed, f.none_open)

  pub balanced_closings : (xs : List (CallFrameInstruction T)) → is_balanced xs ≡ true → closings xs ≡ 0
  balanced_closings xs balanced =
      let pick : (0 < closings xs) ⊎ (closings xs ≤ 0) → closings xs ≡ 0 = elim [ inl h ↦ absurd (closing_refuted xs balanced h) | inr h ↦ omega arith ] in
      pick (cases_lt 0 (closings xs))

  pub balanced_opens : (xs : List (CallFrameInstruction T)) → is_balanced xs ≡ true → opens xs ≡ 0
  balanced_opens xs balanced =
      let parts = and_parts (eqb (count_by is_remember xs) (count_by is_restore xs)) _ balanced in
      omega (arith, eqb-true _ _ parts.0, counts_differ xs, balanced_closings xs balanced)

  closings_take : (xs : List (CallFrameInstruction T)) (k : ℕ) → closings (take k xs) ≤ closings xs
  closings_take xs k = omega (arith, ap closings (take-append-drop k xs), closings-append (take k xs) (drop k xs))

  opens_drop : (xs : List (CallFrameInstruction T)) (k : ℕ) → opens (drop k xs) ≤ opens xs
  opens_drop xs k = omega (arith, ap opens (take-append-drop k xs), opens-append (take k xs) (drop k xs))

  pub balanced_from : (xs : List (CallFrameInstruction T)) → closings xs ≡ 0 → opens xs ≡ 0 → is_balanced xs ≡ true
  balanced_from xs none_closed none_open =
      and_from _ _ (eq-eqb _ _ (omega (arith, counts_differ xs))) (all_range_from _ 0 (length xs) (λ k low high. le-leb _ _ (omega (arith, counts_differ (take k xs), closings_take xs k))))

  -- ---- matching pairs

  at_seam : (p : CallFrameInstruction T → Bool) (before : List (CallFrameInstruction T)) (x : CallFrameInstruction T) (behind : List (CallFrameInstruction T)) (k : ℕ) → length before ≡ k → is_at p (before ++ x ∷ behind) k ≡ p x
  at_seam p before x behind k e = ap (λ n. is_at p (before ++ x ∷ behind) n) (sym e) ∙ ap (λ o. option_map_or p o false) (slice_get_seam before x behind)

  pub matches_from : (a m b : List (CallFrameInstruction T)) (x y : CallFrameInstruction T) → is_remember x ≡ true → is_restore y ≡ true → closings m ≡ 0 → opens m ≡ 0 → (i j : ℕ) → length a ≡ i → i + 1 + length m ≡ j → matches (a ++ x ∷ (m ++ y ∷ b)) i j ≡ true
  matches_from a m b x y remembers restores none_closed none_open i j at_i at_j =
      let xs : List (CallFrameInstruction T) = a ++ x ∷ (m ++ y ∷ b) in
      let at_first : is_at is_remember xs i ≡ true = at_seam is_remember a x (m ++ y ∷ b) i at_i ∙ remembers in
      let at_last : is_at is_restore xs j ≡ true = ap (λ l. is_at is_restore l j) (sym (append_assoc a (x ∷ m) (y ∷ b))) ∙ at_seam is_restore (a ++ x ∷ m) y b j (omega (arith, length-append a (x ∷ m))) ∙ restores in
      let rest : drop (i + 1) xs ≡ m ++ y ∷ b = ap (drop (i + 1)) (sym (append_assoc a (x ∷ []) (m ++ y ∷ b))) ∙ drop_at (a ++ x ∷ []) (m ++ y ∷ b) (i + 1) (omega (arith, length-append a (x ∷ []))) in
      let between : slice_range xs (i + 1) j ≡ m = ap (take (j - (i + 1))) rest ∙ take_at m (y ∷ b) (j - (i + 1)) (omega arith) in
      and_from (ltb i j) _ (lt-ltb i j (omega arith)) (and_from (is_at is_remember xs i) _ at_first (and_from (is_at is_restore xs j) _ at_last (ap is_balanced between ∙ balanced_from m none_closed none_open)))

  matches_along : (xs ys : List (CallFrameInstruction T)) (i j : ℕ) → xs ≡ ys → matches ys i j ≡ true → matches xs i j ≡ true
  matches_along xs ys i j e h = ap (λ l. matches l i j) e ∙ h

  pub record Matched (xs : List (CallFrameInstruction T)) (i j : ℕ) : Type 0 where
    pub before : List (CallFrameInstruction T)
    pub between : List (CallFrameInstruction T)
    pub behind : List (CallFrameInstruction T)
    pub remember : CallFrameInstruction T
    pub restore : CallFrameInstruction T
    pub is : xs ≡ before ++ remember ∷ (between ++ restore ∷ behind)
    pub first : length before ≡ i
    pub last : i + 1 + length between ≡ j
    pub restores : is_restore restore ≡ true
    pub none_closed : closings between ≡ 0
    pub none_open : opens between ≡ 0

  pub matched : (xs : List (CallFrameInstruction T)) (i j : ℕ) → matches xs i j ≡ true → Matched xs i j
  matched xs i j e =
      let parts = and_parts (ltb i j) _ e in
      let ends = and_parts (is_at is_remember xs i) _ parts.1 in
      let last_and_balanced = and_parts (is_at is_restore xs j) _ ends.1 in
      let order = ltb-true i j parts.0 in
      let r = passes_at is_remember xs i ends.0 in
      let q = passes_at is_restore xs j last_and_balanced.0 in
      let between : List (CallFrameInstruction T) = drop (i + 1) q.before in
      let rest : drop (i + 1) xs ≡ between ++ q.at ∷ q.behind = ap (drop (i + 1)) q.is ∙ drop-append-le (i + 1) q.before (q.at ∷ q.behind) (omega (arith, q.place)) in
      let behind : drop (i + 1) xs ≡ r.behind = ap (drop (i + 1)) (r.is ∙ sym (append_assoc r.before (r.at ∷ []) r.behind)) ∙ drop_at (r.before ++ r.at ∷ []) r.behind (i + 1) (omega (arith, r.place, length-append r.before (r.at ∷ []))) in
      let long : length between ≡ j - (i + 1) = length-drop (i + 1) q.before ∙ ap (λ n. n - (i + 1)) q.place in
      let sliced : slice_range xs (i + 1) j ≡ between = ap (take (j - (i + 1))) rest ∙ take_at between (q.at ∷ q.behind) (j - (i + 1)) long in
      let balanced : is_balanced between ≡ true = ap is_balanced (sym sliced) ∙ last_and_balanced.1 in
      record {
        before = r.before;
        between = between;
        behind = q.behind;
        remember = r.at;
        restore = q.at;
        is = r.is ∙ ap (λ l. r.before ++ r.at ∷ l) (sym behind ∙ rest);
        first = r.place;
        last = omega arith;
        restores = q.passes;
        none_closed = balanced_closings between balanced;
        none_open = balanced_opens between balanced;
      }

  -- what stands after a place before the restore_state of a pair has a restore_state that matches nothing there
  pub closes_behind : (before behind : List (CallFrameInstruction T)) (x : CallFrameInstruction T) (i j : ℕ) → matches (before ++ x ∷ behind) i j ≡ true → i ≤ length before → length before < j → 0 < closings behind
  closes_behind before behind x i j e low high =
      let xs : List (CallFrameInstruction T) = before ++ x ∷ behind in
      let m = matched xs i j e in
      let n : ℕ = length before - i in
      let short : n ≤ length m.between = omega (arith, m.last) in
      let place : (length before + 1) ≡ length (m.before ++ m.remember ∷ []) + n = omega (arith, m.first, length-append m.before (m.remember ∷ [])) in
      let here : drop (length before + 1) xs ≡ behind = ap (drop (length before + 1)) (sym (append_assoc before (x ∷ []) behind)) ∙ drop_at (before ++ x ∷ []) behind (length before + 1) (length-append before (x ∷ [])) in
      let there : drop (length before + 1) xs ≡ drop n m.between ++ m.restore ∷ m.behind =
      ap (drop (length before + 1)) (m.is ∙ sym (append_assoc m.before (m.remember ∷ []) (m.between ++ m.restore ∷ m.behind)))
      ∙ ap (λ k. drop k ((m.before ++ m.remember ∷ []) ++ (m.between ++ m.restore ∷ m.behind))) place
      ∙ drop-append-add (m.before ++ m.remember ∷ []) (m.between ++ m.restore ∷ m.behind) n
      ∙ drop-append-le n m.between (m.restore ∷ m.behind) short in
      let closing_1 : closing m.restore ≡ 1 = ap (λ t. cond t 1 0) m.restores in
      let closes : 0 < closings (drop n m.between ++ m.restore ∷ m.behind) = omega (arith, closings-append (drop n m.between) (m.restore ∷ m.behind), opens_drop m.between n, m.none_open) in
      subst (λ l. 0 < closings l) (sym there ∙ here) closes

  -- ---- an open remember_state

  regroup : (before a b c : List (CallFrameInstruction T)) (x : CallFrameInstruction T) → before ≡ a ++ x ∷ b → before ++ c ≡ a ++ x ∷ (b ++ c)
  regroup before a b c x e = ap (λ l. l ++ c) e ∙ append_assoc a (x ∷ b) c

  regroup_both : (before a b behind c d : List (CallFrameInstruction T)) (x y z : CallFrameInstruction T) → before ≡ a ++ y ∷ b → behind ≡ c ++ z ∷ d → before ++ x ∷ behind ≡ a ++ y ∷ ((b ++ x ∷ c) ++ z ∷ d)
  regroup_both before a b behind c d x y z e f = ap (λ l. before ++ x ∷ l) f ∙ regroup before a b (x ∷ (c ++ z ∷ d)) y e ∙ ap (λ l. a ++ y ∷ l) (sym (append_assoc b (x ∷ c) (z ∷ d)))

  length_seam : (before behind : List (CallFrameInstruction T)) (x : CallFrameInstruction T) → length (before ++ x ∷ behind) ≡ length before + suc (length behind)
  length_seam before behind x = length-append before (x ∷ behind)

  is_matched_at : (before behind : List (CallFrameInstruction T)) (x : CallFrameInstruction T) → Bool
  is_matched_at before behind x = list_any (matches (before ++ x ∷ behind) (length before)) (indices (before ++ x ∷ behind))

  matched_closes : (before behind : List (CallFrameInstruction T)) (x : CallFrameInstruction T) → is_matched_at before behind x ≡ true → 0 < closings behind
  unfolding is_matched_at
  matched_closes before behind x e =
      let r = any_in_range _ 0 (length (before ++ x ∷ behind)) e in
      let order = ltb-true (length before) r.at ((and_parts (ltb (length before) r.at) _ r.passes).0) in
      closes_behind before behind x (length before) r.at r.passes (omega arith) order

  first_closing_matches : (before behind : List (CallFrameInstruction T)) (x : CallFrameInstruction T) → is_remember x ≡ true → (f : FirstClosing behind 0) → matches (before ++ x ∷ behind) (length before) (length before + 1 + length f.before) ≡ true
  first_closing_matches before behind x remembers f =
      matches_along (before ++ x ∷ behind) (before ++ x ∷ (f.before ++ f.at ∷ f.behind)) (length before) (length before + 1 + length f.before) (ap (λ l. before ++ x ∷ l) f.is)
      (matches_from before f.before f.behind x f.at remembers f.restores f.closed f.none_open _ _ refl refl)

  closes_matched : (before behind : List (CallFrameInstruction T)) (x : CallFrameInstruction T) → is_remember x ≡ true → FirstClosing behind 0 → is_matched_at before behind x ≡ true
  unfolding is_matched_at
  closes_matched before behind x remembers f =
      any_range_from _ 0 (length (before ++ x ∷ behind)) (length before + 1 + length f.before) (omega arith) (omega (arith, length_seam before behind x, ap length f.is, length-append f.before (f.at ∷ f.behind)))
      (first_closing_matches before behind x remembers f)

  is_open_seam : (before behind : List (CallFrameInstruction T)) (x : CallFrameInstruction T) → is_open (before ++ x ∷ behind) (length before) ≡ stays_open x (closings behind)
  unfolding is_matched_at
  is_open_seam before behind x =
      ap (λ b. b && not (is_matched_at before behind x)) (at_seam is_remember before x behind (length before) refl)
      ∙ same_bool (is_remember x && not (is_matched_at before behind x)) (is_remember x && eqb (closings behind) 0)
      (λ e. let parts = and_parts (is_remember x) _ e in and_from (is_remember x) _ parts.0 (unmatched_at (closings behind) (is_matched_at before behind x) (λ h. closes_matched before behind x parts.0 (first_closing behind 0 h)) parts.1))
      (λ e. let parts = and_parts (is_remember x) _ e in and_from (is_remember x) _ parts.0 (matched_by_none (closings behind) (is_matched_at before behind x) (matched_closes before behind x) (eqb-true _ _ parts.1)))

  -- ---- the lists before the open remember_states

  fronts_behind : (xs before behind : List (CallFrameInstruction T)) → xs ≡ before ++ behind → map (λ i. take i xs) (reverse (filter (is_open xs) (range_with_len (length before) (length behind)))) ≡ map (λ l. before ++ l) (fronts behind)
  fronts_behind xs before [] e = refl
  fronts_behind xs before (x ∷ behind) e =
      let k : ℕ = length before in
      let front : ℕ → List (CallFrameInstruction T) = λ i. take i xs in
      let later : List ℕ = filter (is_open xs) (range_with_len (k + 1) (length behind)) in
      let stays : Bool = stays_open x (closings behind) in
      let opened : is_open xs k ≡ stays = ap (λ l. is_open l k) e ∙ is_open_seam before behind x in
      let at_k : front k ≡ before = ap (take k) e ∙ take_at before (x ∷ behind) k refl in
      let rest : map front (reverse later) ≡ map (λ l. (before ++ x ∷ []) ++ l) (fronts behind) =
      ap (λ n. map front (reverse (filter (is_open xs) (range_with_len n (length behind))))) (sym (length_push before x)) ∙ fronts_behind xs (before ++ x ∷ []) behind (e ∙ sym (append_assoc before (x ∷ []) behind)) in
      let regrouped : map (λ l. (before ++ x ∷ []) ++ l) (fronts behind) ≡ map (λ l. before ++ l) (map (λ l. x ∷ l) (fronts behind)) =
      ap (λ f. map f (fronts behind)) (λ i l. append_assoc before (x ∷ []) l i) ∙ sym (map_twice (λ l. x ∷ l) (λ l. before ++ l) (fronts behind)) in
      ap (λ b. map front (reverse (cond b (k ∷ later) later))) opened
      ∙ map-reverse-cond front k later stays
      ∙ ap (λ u. u ++ cond stays (front k ∷ []) []) (rest ∙ regrouped)
      ∙ ap (λ v. map (λ l. before ++ l) (map (λ l. x ∷ l) (fronts behind)) ++ v) (ap (λ l. cond stays (l ∷ []) []) at_k ∙ one_front before stays)
      ∙ sym (map-append (λ l. before ++ l) (map (λ l. x ∷ l) (fronts behind)) (cond stays ([] ∷ []) []))

  pub before_open-fronts : (xs : List (CallFrameInstruction T)) → before_open xs ≡ fronts xs
  before_open-fronts xs = fronts_behind xs [] xs refl ∙ map-id (fronts xs)

  pub open_places-length : (xs : List (CallFrameInstruction T)) → length (open_indices xs) ≡ opens xs
  open_places-length xs = sym (length-reverse (open_indices xs)) ∙ sym (length-map (reverse (open_indices xs)) (λ i. take i xs)) ∙ ap length (before_open-fronts xs) ∙ length-fronts xs

  -- ---- a struck instruction

  is_enclosed : (before behind : List (CallFrameInstruction T)) (x : CallFrameInstruction T) → Bool
  is_enclosed before behind x =
      list_any (λ i. leb i (length before) && list_any (λ j. leb (length before) j && matches (before ++ x ∷ behind) i j) (indices (before ++ x ∷ behind))) (indices (before ++ x ∷ behind))

  enclosed_gone : (before behind : List (CallFrameInstruction T)) (x : CallFrameInstruction T) → is_enclosed before behind x ≡ true → (is_restore x || ltb 0 (closings behind)) ≡ true
  unfolding is_enclosed
  enclosed_gone before behind x e =
      let xs : List (CallFrameInstruction T) = before ++ x ∷ behind in
      let k : ℕ = length before in
      let first = any_in_range _ 0 (length xs) e in
      let i : ℕ = first.at in
      let first_parts = and_parts (leb i k) _ first.passes in
      let last = any_in_range _ 0 (length xs) first_parts.1 in
      let j : ℕ = last.at in
      let last_parts = and_parts (leb k j) _ last.passes in
      let low : i ≤ k = leb-true i k first_parts.0 in
      let high : k ≤ j = leb-true k j last_parts.0 in
      let restores : is_at is_restore xs j ≡ true = (and_parts (is_at is_restore xs j) _ ((and_parts (is_at is_remember xs i) _ ((and_parts (ltb i j) _ last_parts.1).1)).1)).0 in
      let inside : k < j → (is_restore x || ltb 0 (closings behind)) ≡ true = λ h. or_right (is_restore x) _ (lt-ltb 0 _ (closes_behind before behind x i j last_parts.1 low h)) in
      let at_end : j ≤ k → (is_restore x || ltb 0 (closings behind)) ≡ true = λ h. or_left (is_restore x) _ (sym (at_seam is_restore before x behind j (omega arith)) ∙ restores) in
      let pick : (k < j) ⊎ (j ≤ k) → (is_restore x || ltb 0 (closings behind)) ≡ true = elim [ inl h ↦ inside h | inr h ↦ at_end h ] in
      pick (cases_lt k j)

  enclosed_by : (before behind : List (CallFrameInstruction T)) (x : CallFrameInstruction T) (i j : ℕ) → i ≤ length before → length before ≤ j → j < length (before ++ x ∷ behind) → matches (before ++ x ∷ behind) i j ≡ true → is_enclosed before behind x ≡ true
  unfolding is_enclosed
  enclosed_by before behind x i j low high within e =
      any_range_from _ 0 (length (before ++ x ∷ behind)) i (omega arith) (omega arith) (and_from (leb i (length before)) _ (le-leb _ _ low)
      (any_range_from _ 0 (length (before ++ x ∷ behind)) j (omega arith) (omega arith) (and_from (leb (length before) j) _ (le-leb _ _ high) e)))

  -- a restore_state is the end of a pair
  restore_in_pair : (before behind : List (CallFrameInstruction T)) (x : CallFrameInstruction T) → is_restore x ≡ true → LastOpen before → is_enclosed before behind x ≡ true
  restore_in_pair before behind x restores o =
      let long : length before ≡ length o.before + suc (length o.behind) = ap length o.is ∙ length-append o.before (o.at ∷ o.behind) in
      enclosed_by before behind x (length o.before) (length before) (omega arith) (omega arith) (omega (arith, length_seam before behind x))
      (matches_along (before ++ x ∷ behind) (o.before ++ o.at ∷ (o.behind ++ x ∷ behind)) (length o.before) (length before)
      (regroup before o.before o.behind (x ∷ behind) o.at o.is)
      (matches_from o.before o.behind behind o.at x o.remembers restores o.none_closed o.none_open _ _ refl (omega arith)))

  restore_enclosed : (before behind : List (CallFrameInstruction T)) (x : CallFrameInstruction T) → closings (before ++ x ∷ behind) ≡ 0 → is_restore x ≡ true → is_enclosed before behind x ≡ true
  restore_enclosed before behind x closed restores =
      let closing_1 : closing x ≡ 1 = ap (λ t. cond t 1 0) restores in
      restore_in_pair before behind x restores (last_open before (omega (arith, closings-append before (x ∷ behind))))

  -- a remember_state that is closed later is the beginning of a pair
  remember_enclosed : (before behind : List (CallFrameInstruction T)) (x : CallFrameInstruction T) → is_remember x ≡ true → FirstClosing behind 0 → is_enclosed before behind x ≡ true
  remember_enclosed before behind x remembers f =
      enclosed_by before behind x (length before) (length before + 1 + length f.before) (omega arith) (omega arith) (omega (arith, length_seam before behind x, ap length f.is, length-append f.before (f.at ∷ f.behind)))
      (first_closing_matches before behind x remembers f)

  -- another instruction with a close after it has an open remember_state before it
  other_in_pair : (before behind : List (CallFrameInstruction T)) (x : CallFrameInstruction T) → closing x ≡ 0 → opening x ≡ 0 → LastOpen before → FirstClosing behind 0 → is_enclosed before behind x ≡ true
  other_in_pair before behind x no_closing no_opening o f =
      let before_long : length before ≡ length o.before + suc (length o.behind) = ap length o.is ∙ length-append o.before (o.at ∷ o.behind) in
      let between_long : length (o.behind ++ x ∷ f.before) ≡ length o.behind + suc (length f.before) = length-append o.behind (x ∷ f.before) in
      let behind_long : length behind ≡ length f.before + suc (length f.behind) = ap length f.is ∙ length-append f.before (f.at ∷ f.behind) in
      enclosed_by before behind x (length o.before) (length o.before + 1 + length (o.behind ++ x ∷ f.before)) (omega arith) (omega arith) (omega (arith, length_seam before behind x))
      (matches_along (before ++ x ∷ behind) (o.before ++ o.at ∷ ((o.behind ++ x ∷ f.before) ++ f.at ∷ f.behind)) (length o.before) _
      (regroup_both before o.before o.behind behind f.before f.behind x o.at f.at o.is f.is)
      (matches_from o.before (o.behind ++ x ∷ f.before) f.behind o.at f.at o.remembers f.restores
      (omega (arith, closings-append o.behind (x ∷ f.before), o.none_closed, f.closed)) (omega (arith, opens-append o.behind (x ∷ f.before), o.none_open, f.none_open)) _ _ refl refl))

  other_enclosed : (before behind : List (CallFrameInstruction T)) (x : CallFrameInstruction T) → closings (before ++ x ∷ behind) ≡ 0 → is_remember x ≡ false → is_restore x ≡ false → 0 < closings behind → is_enclosed before behind x ≡ true
  other_enclosed before behind x closed remembers restores h =
      let no_closing : closing x ≡ 0 = ap (λ t. cond t 1 0) restores in
      let no_opening : opening x ≡ 0 = ap (λ t. cond t 1 0) remembers in
      other_in_pair before behind x no_closing no_opening (last_open before (omega (arith, closings-append before (x ∷ behind)))) (first_closing behind 0 h)

  gone_enclosed : (before behind : List (CallFrameInstruction T)) (x : CallFrameInstruction T) → closings (before ++ x ∷ behind) ≡ 0 → (is_restore x || ltb 0 (closings behind)) ≡ true → is_enclosed before behind x ≡ true
  gone_enclosed before behind x closed e =
      let restoring : is_restore x ≡ true → is_enclosed before behind x ≡ true = restore_enclosed before behind x closed in
      let closing_behind : is_restore x ≡ false → 0 < closings behind → is_enclosed before behind x ≡ true = λ r h.
      let pick : (is_remember x ≡ true) ⊎ (is_remember x ≡ false) → is_enclosed before behind x ≡ true = elim [ inl m ↦ remember_enclosed before behind x m (first_closing behind 0 h) | inr m ↦ other_enclosed before behind x closed m r h ] in
      pick (cases_Bool (is_remember x)) in
      let closes : is_restore x ≡ false → ltb 0 (closings behind) ≡ true = λ r. ap (λ b. b || ltb 0 (closings behind)) (sym r) ∙ e in
      let pick : (is_restore x ≡ true) ⊎ (is_restore x ≡ false) → is_enclosed before behind x ≡ true = elim [ inl r ↦ restoring r | inr r ↦ closing_behind r (ltb-true 0 _ (closes r)) ] in
      pick (cases_Bool (is_restore x))

  is_struck_seam : (before behind : List (CallFrameInstruction T)) (x : CallFrameInstruction T) → closings (before ++ x ∷ behind) ≡ 0 → is_struck (before ++ x ∷ behind) (length before) ≡ is_gone x (closings behind)
  unfolding is_enclosed
  is_struck_seam before behind x closed =
      ap (λ b. not b && is_enclosed before behind x) (at_seam is_move before x behind (length before) refl)
      ∙ ap (λ b. not (is_move x) && b) (same_bool (is_enclosed before behind x) (is_restore x || ltb 0 (closings behind)) (enclosed_gone before behind x) (gone_enclosed before behind x closed))

  survivors_behind : (xs before behind : List (CallFrameInstruction T)) → xs ≡ before ++ behind → closings xs ≡ 0 → filter_map (λ k. cond (is_struck xs k) None (slice_get xs k)) (range_with_len (length before) (length behind)) ≡ left behind
  survivors_behind xs before [] e closed = refl
  survivors_behind xs before (x ∷ behind) e closed =
      let k : ℕ = length before in
      let keep : ℕ → Option (CallFrameInstruction T) = λ n. cond (is_struck xs n) None (slice_get xs n) in
      let struck : is_struck xs k ≡ is_gone x (closings behind) = ap (λ l. is_struck l k) e ∙ is_struck_seam before behind x (ap closings (sym e) ∙ closed) in
      let here : slice_get xs k ≡ Some x = ap (λ l. slice_get l k) e ∙ slice_get_seam before x behind in
      let rest : filter_map keep (range_with_len (k + 1) (length behind)) ≡ left behind =
      ap (λ n. filter_map keep (range_with_len n (length behind))) (sym (length_push before x)) ∙ survivors_behind xs (before ++ x ∷ []) behind (e ∙ sym (append_assoc before (x ∷ []) behind)) closed in
      ap (λ b. cons_option (cond b None (slice_get xs k)) (filter_map keep (range_with_len (k + 1) (length behind)))) struck
      ∙ ap (λ o. cons_option (cond (is_gone x (closings behind)) None o) (filter_map keep (range_with_len (k + 1) (length behind)))) here
      ∙ ap (cons_option (cond (is_gone x (closings behind)) None (Some x))) rest
      ∙ kept-cond (is_gone x (closings behind)) x (left behind)

  pub survivors-left : (xs : List (CallFrameInstruction T)) → closings xs ≡ 0 → survivors xs ≡ left xs
  survivors-left xs closed = survivors_behind xs [] xs refl closed
