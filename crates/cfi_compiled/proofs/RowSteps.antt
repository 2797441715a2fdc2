-- The rows of an FDE as steps.
use Rattle.std.proofs.Common.{◌≡◌, ℕ, ◌<◌, ◌≤◌, Bool, true, false, cond, ◌&&◌, List, [], ◌∷◌, ltb, leb, Option, Some, None, Result, Ok, Err, refl, sym, ap, subst, ◌∙◌, inl, inr, ⊎_elim, arith}
use Rattle.std.specs.Prelude.{length, ◌⊎◌}
use Rattle.std.specs.Borrow.{Bor}
use Rattle.std.specs.Option.{option_map}
use Rattle.std.specs.Result.{result_transpose}
use Rattle.std.proofs.lemmas.Bool.{cases_lt, lt-ltb, le-ltb, le-leb}
use Rattle.cfi_read_core.specs.declared.error.Error.{Error}
use Rattle.cfi_read_core.specs.declared.error.Error.TheVariants.{OutOfMemory}
use Rattle.cfi_read_core.specs.ReaderCalls.{map_ok}
use Rattle.cfi_state.specs.Row.{Row}
use Rattle.cfi_state.specs.MachineSettings.{Setting}
use Rattle.cfi_state.specs.Machine.{State}
use Rattle.cfi_state.specs.UnwindContexts.{ContextState}
use Rattle.cfi_state.specs.FdeAnswers.{AreConsecutive, answer_at, rows_of}
use Rattle.cfi_state.specs.UnwindTableStates.{TableState, run_answers_to_come, IsNext}
use Rattle.cfi_state.specs.MappedStates.{map_row}
use Rattle.cfi_state.proofs.MappedEquality.{as_it_is, same_row}
use Rattle.cfi_unwind.specs.UnwindTableCalls.{LendsNextRow}
use Rattle.cfi_compiled.specs.FrameParts.{FrameParts, frame_parts, frame_of_row}
use Rattle.cfi_compiled.specs.declared.facts.CieFacts.{CieFacts}

abbrev pub Answers : Type 0
Answers = List (Result (Row ℕ) Error)

-- ---- what a call of `next_row` lends

abbrev pub Lent : Type 0
Lent = Result (Option (Bor (Row ℕ))) Error

-- of the answers that were to come the first is this, and the others are to come
abbrev pub Comes : Answers → Result (Bor (Row ℕ)) Error → Answers → Type 0
Comes left answer later = left ≡ map_ok (λ row. row.now) answer ∷ later

abbrev numbered : Lent → Result (Option (Row ℕ)) Error
numbered r = map_ok (option_map (λ row. map_row as_it_is row.now)) r

comes_first : (left later : Answers) (r : Lent) (answer : Result (Bor (Row ℕ)) Error) → result_transpose r ≡ Some answer → IsNext left (numbered r) later → Comes left answer later
comes_first left later (Ok None) answer is next = cc
comes_first left later (Ok (Some row)) answer is next =
    let same : ◌≡◌ {A = Result (Bor (Row ℕ)) Error} (Ok row) answer = cc in
    next ∙ ap (λ x. Ok x ∷ later) (same_row row.now) ∙ ap (λ a. map_ok (λ (x : Bor (Row ℕ)). x.now) a ∷ later) same
comes_first left later (Err e) answer is next =
    let same : ◌≡◌ {A = Result (Bor (Row ℕ)) Error} (Err e) answer = cc in
    next ∙ ap (λ a. map_ok (λ (x : Bor (Row ℕ)). x.now) a ∷ later) same

comes_none : (left later : Answers) (r : Lent) → result_transpose r ≡ None → IsNext left (numbered r) later → left ≡ []
comes_none left later (Ok None) is next = next.0
comes_none left later (Ok (Some row)) is next = cc
comes_none left later (Err e) is next = cc

-- memory isn't refused where none or another answer is lent
none_is_no_refusal : (r : Lent) → result_transpose r ≡ None → numbered r ≡ Err OutOfMemory → ⊥
none_is_no_refusal (Ok None) is memory = cc
none_is_no_refusal (Ok (Some row)) is memory = cc
none_is_no_refusal (Err e) is memory = cc

other_answer : (r : Lent) (answer : Result (Bor (Row ℕ)) Error) → result_transpose r ≡ Some answer → (answer ≡ Err OutOfMemory → ⊥) → numbered r ≡ Err OutOfMemory → ⊥
other_answer (Ok None) answer is other memory = cc
other_answer (Ok (Some row)) answer is other memory = cc
other_answer (Err e) answer is other memory =
    other
    (let same : ◌≡◌ {A = Result (Bor (Row ℕ)) Error} (Err e) answer = cc in
    let refused : ◌≡◌ {A = Result (Option (Row ℕ)) Error} (Err e) (Err OutOfMemory) = memory in
    let error : e ≡ OutOfMemory = cc in
    sym same ∙ ap (λ (x : Error). Err x) error)

module _ (s t : Setting) (same : t ≡ s) (copies_free : Bool) (p q : TableState (State ℕ) ℕ) (r : Lent) (context : ContextState ℕ) (holds : Bool)
    (lent : LendsNextRow as_it_is t copies_free p r q context holds) where
  next : (numbered r ≡ Err OutOfMemory → ⊥) → IsNext (run_answers_to_come s p) (numbered r) (run_answers_to_come s q)
  next other =
      subst (λ (x : Setting). IsNext (run_answers_to_come x p) (numbered r) (run_answers_to_come x q)) same
      (⊎_elim (λ (due : IsNext (run_answers_to_come t p) (numbered r) (run_answers_to_come t q)). due) (λ (memory : numbered r ≡ Err OutOfMemory). absurd (other memory)) lent.due.due)

  pub none_comes : result_transpose r ≡ None → run_answers_to_come s p ≡ []
  none_comes is = comes_none _ _ r is (next (none_is_no_refusal r is))

  module _ (answer : Result (Bor (Row ℕ)) Error) (is : result_transpose r ≡ Some answer) where
    comes : (answer ≡ Err OutOfMemory → ⊥) → Comes (run_answers_to_come s p) answer (run_answers_to_come s q)
    comes other = comes_first _ _ r answer is (next (other_answer r answer is other))

    pub row_comes : (row : Bor (Row ℕ)) → answer ≡ Ok row → run_answers_to_come s p ≡ Ok row.now ∷ run_answers_to_come s q
    row_comes row ok = comes (λ memory. cc) ∙ ap (λ (a : Result (Bor (Row ℕ)) Error). map_ok (λ (x : Bor (Row ℕ)). x.now) a ∷ run_answers_to_come s q) ok

    pub fewer : (row : Bor (Row ℕ)) → answer ≡ Ok row → length (run_answers_to_come s q) < length (run_answers_to_come s p)
    fewer row ok = let longer = ap (λ (l : Answers). length l) (row_comes row ok) in omega (arith, longer)

    pub refusal_comes : (e : Error) → (e ≡ OutOfMemory → ⊥) → answer ≡ Err e → run_answers_to_come s p ≡ Err e ∷ run_answers_to_come s q
    refusal_comes e other err = comes (λ memory. other (let same : ◌≡◌ {A = Result (Bor (Row ℕ)) Error} (Err e) (Err OutOfMemory) = sym err ∙ memory in cc)) ∙ ap (λ (a : Result (Bor (Row ℕ)) Error). map_ok (λ (x : Bor (Row ℕ)). x.now) a ∷ run_answers_to_come s q) err

-- ---- how far the rows were walked

-- The answers from `from` on are those of what is left, whose rows follow each other up to the last address; below it they are taken.
pub record Walked (facts : CieFacts) (all left : Answers) (first from end last : ℕ) (old now : ℕ → Result FrameParts Error) : Type 0 where
  pub at : ℕ
  pub reached : at ≤ from
  pub up : first ≤ from
  pub inside : from < end
  pub ends : end ≤ last
  pub consecutive : AreConsecutive at (rows_of left) last
  pub before : (a : ℕ) → a < first → now a ≡ old a
  pub within : (a : ℕ) → first ≤ a → a < from → now a ≡ frame_of_row facts (answer_at a all)
  pub rest : (a : ℕ) → from ≤ a → answer_at a all ≡ answer_at a left

module _ (facts : CieFacts) (all : Answers) (first end last : ℕ) (old : ℕ → Result FrameParts Error) where
  pub walked_none : (start : ℕ) → start ≤ first → first < end → end ≤ last → AreConsecutive start (rows_of all) last → Walked facts all all first first end last old old
  walked_none start below some ends follow = record {
    at = start;
    reached = below;
    up = omega arith;
    inside = some;
    ends = ends;
    consecutive = follow;
    before = λ a below. refl;
    within = λ a from to. absurd (omega arith);
    rest = λ a from. refl;
  }

  row_starts : (row : Row ℕ) (rows : List (Row ℕ)) (at : ℕ) → AreConsecutive at (row ∷ rows) last → row.start_address ≡ at
  row_starts row [] at follow = follow.0
  row_starts row (second ∷ rows) at follow = follow.0

  -- a row that ends before the last address is followed by others
  row_ends : (row : Row ℕ) (rows : List (Row ℕ)) (at : ℕ) → AreConsecutive at (row ∷ rows) last → row.end_address < last → AreConsecutive row.end_address rows last
  row_ends row [] at follow before = absurd (omega (arith, follow.1))
  row_ends row (second ∷ rows) at follow before = follow.2

  holds_row : (row : Row ℕ) (later : Answers) (a : ℕ) → row.start_address ≤ a → a < row.end_address → answer_at a (Ok row ∷ later) ≡ Ok row
  holds_row row later a from to = ap (λ b. cond b (Ok row) (answer_at a later)) (ap (λ b. b && ltb a row.end_address) (le-leb row.start_address a from) ∙ lt-ltb a row.end_address to)

  passes_row : (row : Row ℕ) (later : Answers) (a : ℕ) → row.end_address ≤ a → answer_at a (Ok row ∷ later) ≡ answer_at a later
  passes_row row later a after = ap (λ b. cond b (Ok row) (answer_at a later)) (no_end (leb row.start_address a) _ (le-ltb a row.end_address after))
    where
      no_end : (b c : Bool) → c ≡ false → (b && c) ≡ false
      no_end true c is = is
      no_end false c is = refl

  module _ (left : Answers) (from : ℕ) (now : ℕ → Result FrameParts Error) (walked : Walked facts all left first from end last old now) where
    -- something is left
    pub walked_nothing : left ≡ [] → ⊥
    walked_nothing is = subst (λ (l : Answers). AreConsecutive walked.at (rows_of l) last) is walked.consecutive

    module _ (newer : ℕ → Result FrameParts Error) (same : (a : ℕ) → a < from → newer a ≡ now a) where
      -- the answers of what was taken, where the new ones differ from `from` on alone
      pub kept_before : (a : ℕ) → a < first → newer a ≡ old a
      kept_before a below = same a (omega (arith, walked.up)) ∙ walked.before a below

      kept_within : (a : ℕ) → first ≤ a → a < from → newer a ≡ frame_of_row facts (answer_at a all)
      kept_within a low high = same a high ∙ walked.within a low high

      -- up to a refusal, which is the answer from there on
      pub walked_refusal : (later : Answers) (e : Error) → left ≡ Err e ∷ later → ((a : ℕ) → from ≤ a → newer a ≡ Err e) → (a : ℕ) → first ≤ a → newer a ≡ frame_of_row facts (answer_at a all)
      walked_refusal later e is taken a low =
          ⊎_elim (λ below. kept_within a low below) (λ here. taken a here ∙ ap (frame_of_row facts) (sym (walked.rest a here ∙ ap (answer_at a) is))) (cases_lt a from)

    module _ (later : Answers) (row : Row ℕ) (is : left ≡ Ok row ∷ later) where
      follow : AreConsecutive walked.at (row ∷ rows_of later) last
      follow = subst (λ (l : Answers). AreConsecutive walked.at (rows_of l) last) is walked.consecutive

      starts : row.start_address ≡ walked.at
      starts = row_starts row (rows_of later) walked.at follow

      due : (a : ℕ) → from ≤ a → a < row.end_address → answer_at a all ≡ Ok row
      due a low high = walked.rest a low ∙ ap (answer_at a) is ∙ holds_row row later a (omega (arith, starts, walked.reached)) high

      after_row : (a : ℕ) → from ≤ a → row.end_address ≤ a → answer_at a all ≡ answer_at a later
      after_row a low high = walked.rest a low ∙ ap (answer_at a) is ∙ passes_row row later a high

      -- the step of the row was taken, or the row is empty or ends before
      module _ (newer : ℕ → Result FrameParts Error) (same : (a : ℕ) → a < from → newer a ≡ now a) (taken : (a : ℕ) → from ≤ a → a < row.end_address → newer a ≡ Ok (frame_parts facts row.parts)) where
        up_to_row : (a : ℕ) → first ≤ a → a < row.end_address → newer a ≡ frame_of_row facts (answer_at a all)
        up_to_row a low high =
            ⊎_elim (λ below. kept_within newer same a low below) (λ here. taken a here high ∙ ap (frame_of_row facts) (sym (due a here high))) (cases_lt a from)

        pub walked_row : (next : ℕ) → row.end_address < end → from ≤ next → row.end_address ≤ next → (next ≡ from) ⊎ (next ≡ row.end_address) → Walked facts all later first next end last old newer
        walked_row next before low high (inl is_from) = record {
          at = row.end_address;
          reached = high;
          up = omega (arith, walked.up);
          inside = omega (arith, is_from, walked.inside);
          ends = walked.ends;
          consecutive = row_ends row (rows_of later) walked.at follow (omega (arith, before, walked.ends));
          before = kept_before newer same;
          within = λ a from_first to. kept_within newer same a from_first (omega (arith, is_from, to));
          rest = λ a up. after_row a (omega (arith, low, up)) (omega (arith, high, up));
        }
        walked_row next before low high (inr is_end) = record {
          at = row.end_address;
          reached = high;
          up = omega (arith, walked.up);
          inside = omega (arith, is_end, before);
          ends = walked.ends;
          consecutive = row_ends row (rows_of later) walked.at follow (omega (arith, before, walked.ends));
          before = kept_before newer same;
          within = λ a from_first to. up_to_row a from_first (omega (arith, is_end, to));
          rest = λ a up. after_row a (omega (arith, low, up)) (omega (arith, high, up));
        }

        pub walked_all : end ≤ row.end_address → (a : ℕ) → first ≤ a → a < end → newer a ≡ frame_of_row facts (answer_at a all)
        walked_all past a low high = up_to_row a low (omega arith)
