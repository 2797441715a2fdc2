-- The answer by the instructions that are kept, and the answer that is due or `OutOfMemory` on the way to it: each gives
-- the other.
--     kept_is_due, due_is_kept      of an FDE, for an address
--     never_out      where nothing allocates there is no such instruction
use Rattle.std.proofs.Common.{◌≡◌, ◌⊎◌, inl, inr, ℕ, ◌+◌, ◌≤◌, ◌<◌, Bool, true, false, cond, not, ◌&&◌, ◌||◌, leb, ltb, List, [], ◌∷◌, ◌++◌, Option, Some, None, Result, Ok, Err, append_assoc, refl, sym, ap, subst, ◌∙◌, arith}
use Rattle.std.specs.Prelude.{is_none}
use Rattle.std.specs.Bool.{IsTrue}
use Rattle.std.specs.Option.{option_or}
use Rattle.std.proofs.lemmas.Bool.{true≢false, false≢true, and_from, and_parts, and_cases, and_left, and_right, or_cases, or_left, or_right, or_from, ltb-false, le-leb, lt-leb, le-ltb, cases_lt}
use Rattle.std.proofs.lemmas.List.{append-nil}
use Rattle.cfi_read_core.specs.ReadFunctions.{Readings, with_first, no_values}
use Rattle.cfi_read_core.specs.declared.error.Error.{Error}
use Rattle.cfi_read_core.specs.declared.error.Error.TheVariants.{OutOfMemory, NoUnwindInfoForAddress}
use Rattle.cfi_read_core.specs.declared.instruction.CallFrameInstruction.{CallFrameInstruction}
use Rattle.cfi_state.specs.Row.{Row, row_contains}
use Rattle.cfi_state.specs.Actions.{Action, sets_location, advances_location, action}
use Rattle.cfi_state.specs.MachineSettings.{Setting, location_after, moves, next_location, is_move}
use Rattle.cfi_state.specs.Program.{Program, in_cie, in_fde, followed_by, refused_if, location_of, refusal_of, refusal, refusal_at_end}
use Rattle.cfi_state.specs.FdeAnswers.{row_until, answers_of, answer_at, answers, first_refusal, cie_refusal, program_state}
use Rattle.cfi_state.specs.Cases.{or_refused, on_option}
use Rattle.cfi_state.specs.UnwindTableStates.{TableState, before_last_row, after_last_row, answers_to_come, IsNext}
use Rattle.cfi_state.specs.MachineRuns.{FindsRow, contains_it, goes_on, is_refused, comes_to_end}
use Rattle.cfi_state.specs.Allocation.{MayAllocate, AreNever}
use Rattle.cfi_state.specs.AcceptedInstructions.{IsLeftOut, NextAcceptedAnswer, keeps, keeps_move, leaves_out, finds_unreadable, gives_last_row, gives_no_row, AcceptsInitialInstructions, cie_keeps, cie_leaves_out, cie_finds_unreadable, cie_is_kept, cie_end_left_out, AnswersByAccepted, refused_by_cie, found_in_rows}
use Rattle.cfi_state.specs.MemoryOnTheWay.{has_passed, reaches_allocation, may_allocate_on_the_way, AnswersOrRunsOut}
use Rattle.cfi_state.proofs.Law.{location_push}
use Rattle.cfi_state.proofs.AcceptedAnswers.{answers-other, answers-move, answers-refused}

-- ---- tests and options

not_true : (b : Bool) → not b ≡ true → b ≡ false
not_true true e = sym e
not_true false e = refl

none_at : (o : Option Error) → is_none o ≡ true → o ≡ None
none_at None e = refl
none_at (Some d) e = absurd (false≢true e)

either : {A B C D : Type 0} → (A → C) → (B → D) → A ⊎ B → C ⊎ D
either f g (inl a) = inl (f a)
either f g (inr b) = inr (g b)

or_from_either : (x y : Bool) → (x ≡ true) ⊎ (y ≡ true) → (x || y) ≡ true
or_from_either x y (inl e) = or_left x y e
or_from_either x y (inr e) = or_right x y e

passed_case : (first a here next : ℕ) → (leb here a ≡ false) ⊎ (ltb a next ≡ false) → (leb first a ≡ false) ⊎ (ltb a here ≡ false) → (leb first a && ltb a next) ≡ false
passed_case first a here next (inr above) known = and_right (leb first a) (ltb a next) above
passed_case first a here next (inl below) (inl known) = and_left (leb first a) (ltb a next) known
passed_case first a here next (inl below) (inr known) = absurd (true≢false (sym (le-leb here a (ltb-false a here known)) ∙ below))

-- an address that the rows up to here do not contain, nor the next row, is in none of those up to the next place
not_passed : (first a here next : ℕ) → (leb first a && ltb a here) ≡ false → (leb here a && ltb a next) ≡ false → (leb first a && ltb a next) ≡ false
not_passed first a here next before outside = passed_case first a here next (and_cases _ _ outside) (and_cases _ _ before)

as_far : (n : ℕ) → n ≤ n
as_far n = omega arith

further : (n m : ℕ) → n ≤ n + m
further n m = omega arith

not_refused : (b : Bool) (e : Error) → refused_if b e ≡ None → b ≡ false
not_refused true e h = absurd (let wrong : Some e ≡ None = h in cc)
not_refused false e h = refl

none_second : (o p : Option Error) → option_or o p ≡ None → (o ≡ None) × (p ≡ None)
none_second None p e = (refl, e)
none_second (Some a) p e = absurd (let wrong : Some a ≡ None = e in cc)

module _ {T : Type 0} where
  -- ---- locations

  -- an accepted action does not move back
  moves_on-by : (s : Setting) (p : Program T) (a : Action T) → refusal_of s p a ≡ None → location_of s p ≤ location_after s (location_of s p) a
  moves_on-by s p (sets_location address) e = ltb-false address (location_of s p) (not_refused _ _ e)
  moves_on-by s p (advances_location delta) e = further (location_of s p) _
  moves_on-by s p _ e = as_far (location_of s p)

  pub moves_on : (s : Setting) (p : Program T) (i : CallFrameInstruction T) → refusal s p i ≡ None → location_of s p ≤ next_location s (location_of s p) i
  moves_on s p i accepted = moves_on-by s p (action i) accepted

  still_there-by : (s : Setting) (location : ℕ) (a : Action T) → moves a ≡ false → location_after s location a ≡ location
  still_there-by s location (sets_location address) e = absurd (false≢true (sym e))
  still_there-by s location (advances_location delta) e = absurd (false≢true (sym e))
  still_there-by s location _ e = refl

  pub still_there : (s : Setting) (location : ℕ) (i : CallFrameInstruction T) → is_move i ≡ false → next_location s location i ≡ location
  still_there s location i still = still_there-by s location (action i) still

  goes_up : (s : Setting) (p : Program T) (i : CallFrameInstruction T) → refusal s p i ≡ None → location_of s p ≤ location_of s (followed_by p i)
  goes_up s p i accepted = subst (λ l. location_of s p ≤ l) (sym (location_push s p i)) (moves_on s p i accepted)

  -- what is found from a place on is found from one before it, where no answer comes between them
  leads_on : {P : Type 0} (Next : P → Result (Option (Row T)) Error → P → Type 0) (address : ℕ) (before p : P) (result : Result (Row T) Error)
      → ((answer : Result (Option (Row T)) Error) (q : P) → Next p answer q → Next before answer q) → FindsRow Next address p result → FindsRow Next address before result
  leads_on Next address before p result leads (contains_it p' q row next inside) = contains_it before q row (leads (Ok (Some row)) q next) inside
  leads_on Next address before p result leads (goes_on p' q row result' next outside finds) = goes_on before q row result' (leads (Ok (Some row)) q next) outside finds
  leads_on Next address before p result leads (is_refused p' q e next) = is_refused before q e (leads (Err e) q next)
  leads_on Next address before p result leads (comes_to_end p' q next) = comes_to_end before q (leads (Ok None) q next)

module _ {T : Type 0} (allocates : MayAllocate T) (s : Setting) (address : ℕ) where
  abbrev Instructions : Type 0
  Instructions = List (CallFrameInstruction T)

  abbrev reaches : Program T → Instructions → Bool
  reaches p xs = reaches_allocation allocates s address p xs

  abbrev Reached : Program T → Instructions → Type 0
  Reached p xs = IsTrue (reaches p xs)

  -- `OutOfMemory` is answered where such an instruction is reached
  abbrev OutOf : {A : Type 0} → Result A Error → Type 0 → Type 0
  OutOf result wanted = wanted × (result ≡ Err OutOfMemory)

  -- ---- one instruction more

  still_reached : (p : Program T) (i : CallFrameInstruction T) (xs : Instructions) → has_passed s address p ≡ false → refusal s p i ≡ None
      → IsTrue (allocates.at (program_state s p) i) ⊎ Reached (followed_by p i) xs → Reached p (i ∷ xs)
  still_reached p i xs here accepted wanted =
      and_from _ _ (and_from _ _ (ap not here) (ap is_none accepted)) (or_from_either _ _ wanted)

  reached_parts : (p : Program T) (i : CallFrameInstruction T) (xs : Instructions) → Reached p (i ∷ xs)
      → (has_passed s address p ≡ false) × (refusal s p i ≡ None) × (IsTrue (allocates.at (program_state s p) i) ⊎ Reached (followed_by p i) xs)
  reached_parts p i xs is =
      let parts = and_parts _ _ is in
      let before = and_parts _ _ parts.0 in
      (not_true (has_passed s address p) before.0, none_at (refusal s p i) before.1, or_cases _ _ parts.1)

  passed_stays : (p : Program T) (i : CallFrameInstruction T) → is_move i ≡ false → has_passed s address (followed_by p i) ≡ has_passed s address p
  passed_stays (in_cie cie) i still = refl
  passed_stays (in_fde cie fde) i still = ap (λ l. leb s.initial_address address && ltb address l) (location_push s (in_fde cie fde) i ∙ still_there s (location_of s (in_fde cie fde)) i still)

  -- a row that ends without the address
  passed_none : (p : Program T) (i : CallFrameInstruction T) → has_passed s address p ≡ false → row_contains address (row_until s p (location_of s (followed_by p i))) ≡ false → has_passed s address (followed_by p i) ≡ false
  passed_none (in_cie cie) i here outside = refl
  passed_none (in_fde cie fde) i here outside = not_passed s.initial_address address (location_of s (in_fde cie fde)) (location_of s (followed_by (in_fde cie fde) i)) here outside

  -- ---- by the kept instructions: due, or out of memory

  abbrev NextIs : TableState (Program T) T → Result (Option (Row T)) Error → TableState (Program T) T → Type 0
  NextIs p answer q = IsNext (answers_to_come s p) answer (answers_to_come s q)

  left_out_due : (p : Program T) (i : CallFrameInstruction T) (rest : Readings (CallFrameInstruction T)) (e : Error) → has_passed s address p ≡ false
      → IsLeftOut (allocates.at (program_state s p) i) (refusal s p i) e → NextIs (before_last_row p (with_first i rest)) (Err e) (before_last_row p rest) ⊎ OutOf {A = Option (Row T)} (Err e) (Reached p (i ∷ rest.values))
  left_out_due p i rest e here (inl is) = inl (answers-refused s p i rest.values rest.refusal e is)
  left_out_due p i rest e here (inr wanting) = inr (still_reached p i rest.values here wanting.1 (inl wanting.0), ap Err wanting.2)

  next_due : (p : TableState (Program T) T) (answer : Result (Option (Row T)) Error) (q : TableState (Program T) T) → NextAcceptedAnswer allocates s p answer q → has_passed s address p.so_far ≡ false
      → NextIs p answer q ⊎ OutOf answer (Reached p.so_far p.left.values)
  next_due p answer q (keeps g i rest answer' q' still accepted next) here =
      either (λ is. subst (λ l. IsNext l answer' (answers_to_come s q')) (sym (answers-other s g i rest.values rest.refusal accepted still)) is)
      (λ out. (still_reached g i rest.values here accepted (inr out.0), out.1))
      (next_due (before_last_row (followed_by g i) rest) answer' q' next (passed_stays g i still ∙ here))
  next_due p answer q (keeps_move g i rest moves accepted) here = inl (answers-move s g i rest.values rest.refusal accepted moves)
  next_due p answer q (leaves_out g i rest e out) here = left_out_due g i rest e here out
  next_due p answer q (finds_unreadable g e) here = inl refl
  next_due p answer q (gives_last_row g) here = inl refl
  next_due p answer q (gives_no_row g left) here = inl (refl, refl)

  -- after a row without the address
  abbrev GoesOn : TableState (Program T) T → TableState (Program T) T → Type 0
  GoesOn p q = (has_passed s address q.so_far ≡ false) × (Reached q.so_far q.left.values → Reached p.so_far p.left.values)

  same_row : (given row : Row T) → ◌≡◌ {A = Result (Option (Row T)) Error} (Ok (Some given)) (Ok (Some row)) → given ≡ row
  same_row given row e = cc

  after_row : (p : TableState (Program T) T) (answer : Result (Option (Row T)) Error) (q : TableState (Program T) T) → NextAcceptedAnswer allocates s p answer q
      → (row : Row T) → answer ≡ Ok (Some row) → row_contains address row ≡ false → has_passed s address p.so_far ≡ false → GoesOn p q
  after_row p answer q (keeps g i rest answer' q' still accepted next) row is outside here =
      let more = after_row (before_last_row (followed_by g i) rest) answer' q' next row is outside (passed_stays g i still ∙ here) in
      (more.0, λ reached. still_reached g i rest.values here accepted (inr (more.1 reached)))
  after_row p answer q (keeps_move g i rest moves accepted) row is outside here = (
    passed_none g i here (ap (row_contains address) (same_row _ row is) ∙ outside),
    λ reached. still_reached g i rest.values here accepted (inr reached),
  )
  after_row p answer q (leaves_out g i rest e out) row is outside here = absurd (let wrong : ◌≡◌ {A = Result (Option (Row T)) Error} (Err e) (Ok (Some row)) = is in cc)
  after_row p answer q (finds_unreadable g e) row is outside here = absurd (let wrong : ◌≡◌ {A = Result (Option (Row T)) Error} (Err e) (Ok (Some row)) = is in cc)
  after_row p answer q (gives_last_row g) row is outside here = (here, λ reached. reached)
  after_row p answer q (gives_no_row g left) row is outside here = absurd (let wrong : ◌≡◌ {A = Result (Option (Row T)) Error} (Ok None) (Ok (Some row)) = is in cc)

  due_row : (p q : TableState (Program T) T) (row : Row T) (wanted : Type 0) → NextIs p (Ok (Some row)) q ⊎ OutOf {A = Option (Row T)} (Ok (Some row)) wanted → answers_to_come s p ≡ Ok row ∷ answers_to_come s q
  due_row p q row wanted (inl is) = is
  due_row p q row wanted (inr out) = absurd (let wrong : ◌≡◌ {A = Result (Option (Row T)) Error} (Ok (Some row)) (Err OutOfMemory) = out.1 in cc)

  due_end : (p q : TableState (Program T) T) (wanted : Type 0) → NextIs p (Ok None) q ⊎ OutOf {A = Option (Row T)} (Ok None) wanted → answers_to_come s p ≡ []
  due_end p q wanted (inl is) = is.0
  due_end p q wanted (inr out) = absurd (let wrong : ◌≡◌ {A = Result (Option (Row T)) Error} (Ok None) (Err OutOfMemory) = out.1 in cc)

  same_refusal : (e : Error) → ◌≡◌ {A = Result (Option (Row T)) Error} (Err e) (Err OutOfMemory) → e ≡ OutOfMemory
  same_refusal e is = cc

  finds_due : (p : TableState (Program T) T) (result : Result (Row T) Error) → FindsRow (NextAcceptedAnswer allocates s) address p result → has_passed s address p.so_far ≡ false
      → (answer_at address (answers_to_come s p) ≡ result) ⊎ OutOf result (Reached p.so_far p.left.values)
  finds_due p result (contains_it p' q row next inside) here =
      inl (ap (answer_at address) (due_row p' q row _ (next_due p' (Ok (Some row)) q next here)) ∙ ap (λ b. cond b (Ok row) (answer_at address (answers_to_come s q))) inside)
  finds_due p result (goes_on p' q row result' next outside finds) here =
      let more = after_row p' (Ok (Some row)) q next row refl outside here in
      either (λ is. ap (answer_at address) (due_row p' q row _ (next_due p' (Ok (Some row)) q next here)) ∙ ap (λ b. cond b (Ok row) (answer_at address (answers_to_come s q))) outside ∙ is)
      (λ out. (more.1 out.0, out.1))
      (finds_due q result' finds more.0)
  finds_due p result (is_refused p' q e next) here = either (λ is. ap (answer_at address) is) (λ out. (out.0, ap Err (same_refusal e out.1))) (next_due p' (Err e) q next here)
  finds_due p result (comes_to_end p' q next) here = inl (ap (answer_at address) (due_end p' q _ (next_due p' (Ok None) q next here)))

  -- ---- the same of the program of a CIE

  -- why the instructions that are read after some of a CIE's are refused
  abbrev refusal_after : Instructions → Readings (CallFrameInstruction T) → Option Error
  refusal_after cie reads = option_or (first_refusal s (in_cie cie) reads.values) (option_or reads.refusal (refusal_at_end s (cie ++ reads.values)))

  abbrev cie_due : Instructions → Readings (CallFrameInstruction T) → Result Instructions Error
  cie_due cie reads = or_refused (refusal_after cie reads) (cie ++ reads.values)

  abbrev EndReached : Instructions → Readings (CallFrameInstruction T) → Type 0
  EndReached cie reads = (refusal_after cie reads ≡ None) × IsTrue (allocates.at_end (program_state s (in_cie (cie ++ reads.values))))

  abbrev CieReached : Instructions → Readings (CallFrameInstruction T) → Type 0
  CieReached cie reads = Reached (in_cie cie) reads.values ⊎ EndReached cie reads

  module _ (cie : Instructions) (i : CallFrameInstruction T) (rest : Readings (CallFrameInstruction T)) (accepted : refusal s (in_cie cie) i ≡ None) where
    refusal_on : refusal_after cie (with_first i rest) ≡ refusal_after (cie ++ i ∷ []) rest
    refusal_on =
        ap (λ o. option_or (option_or o (first_refusal s (in_cie (cie ++ i ∷ [])) rest.values)) (option_or rest.refusal (refusal_at_end s (cie ++ i ∷ rest.values)))) accepted
        ∙ ap (λ l. option_or (first_refusal s (in_cie (cie ++ i ∷ [])) rest.values) (option_or rest.refusal (refusal_at_end s l))) (sym (append_assoc cie (i ∷ []) rest.values))

    due_on : cie_due cie (with_first i rest) ≡ cie_due (cie ++ i ∷ []) rest
    due_on = λ k. or_refused (refusal_on k) (sym (append_assoc cie (i ∷ []) rest.values) k)

    reached_on : CieReached (cie ++ i ∷ []) rest → CieReached cie (with_first i rest)
    reached_on = either (λ reached. still_reached (in_cie cie) i rest.values refl accepted (inr reached))
        (λ at. (refusal_on ∙ at.0, subst (λ l. IsTrue (allocates.at_end (program_state s (in_cie l)))) (append_assoc cie (i ∷ []) rest.values) at.1))

    reached_from : CieReached cie (with_first i rest) → IsTrue (allocates.at (program_state s (in_cie cie)) i) ⊎ CieReached (cie ++ i ∷ []) rest
    reached_from (inl reached) = either (λ at. at) (λ more. inl more) (reached_parts (in_cie cie) i rest.values reached).2
    reached_from (inr at) = inr (inr (sym refusal_on ∙ at.0, subst (λ l. IsTrue (allocates.at_end (program_state s (in_cie l)))) (sym (append_assoc cie (i ∷ []) rest.values)) at.1))

  left_out_of_cie : (cie : Instructions) (i : CallFrameInstruction T) (rest : Readings (CallFrameInstruction T)) (e : Error) → IsLeftOut (allocates.at (program_state s (in_cie cie)) i) (refusal s (in_cie cie) i) e
      → (cie_due cie (with_first i rest) ≡ Err e) ⊎ OutOf {A = Instructions} (Err e) (CieReached cie (with_first i rest))
  left_out_of_cie cie i rest e (inl is) =
      inl (ap (λ o. or_refused (option_or (option_or o (first_refusal s (in_cie (cie ++ i ∷ [])) rest.values)) (option_or rest.refusal (refusal_at_end s (cie ++ i ∷ rest.values)))) (cie ++ i ∷ rest.values)) is)
  left_out_of_cie cie i rest e (inr wanting) = inr (inl (still_reached (in_cie cie) i rest.values refl wanting.1 (inl wanting.0)), ap Err wanting.2)

  end_is : (cie : Instructions) → cie_due cie (no_values None) ≡ or_refused (refusal_at_end s cie) cie
  end_is cie = ap (λ l. or_refused (refusal_at_end s l) l) (append-nil cie)

  end_left_out_of_cie : (cie : Instructions) (e : Error) → IsLeftOut (allocates.at_end (program_state s (in_cie cie))) (refusal_at_end s cie) e
      → (cie_due cie (no_values None) ≡ Err e) ⊎ OutOf {A = Instructions} (Err e) (CieReached cie (no_values None))
  end_left_out_of_cie cie e (inl is) = inl (end_is cie ∙ ap (λ o. or_refused o cie) is)
  end_left_out_of_cie cie e (inr wanting) = inr (
    inr (ap (refusal_at_end s) (append-nil cie) ∙ wanting.1, subst (λ l. IsTrue (allocates.at_end (program_state s (in_cie l)))) (sym (append-nil cie)) wanting.0),
    ap Err wanting.2,
  )

  keeps_one : (cie : Instructions) (i : CallFrameInstruction T) (rest : Readings (CallFrameInstruction T)) (result : Result Instructions Error) → refusal s (in_cie cie) i ≡ None
      → (cie_due (cie ++ i ∷ []) rest ≡ result) ⊎ OutOf result (CieReached (cie ++ i ∷ []) rest) → (cie_due cie (with_first i rest) ≡ result) ⊎ OutOf result (CieReached cie (with_first i rest))
  keeps_one cie i rest result accepted (inl is) = inl (due_on cie i rest accepted ∙ is)
  keeps_one cie i rest result accepted (inr out) = inr (reached_on cie i rest accepted out.0, out.1)

  keeps_due : (cie : Instructions) (reads : Readings (CallFrameInstruction T)) (result : Result Instructions Error) → AcceptsInitialInstructions allocates s cie reads result
      → (cie_due cie reads ≡ result) ⊎ OutOf result (CieReached cie reads)
  keeps_due cie reads result (cie_keeps cie' i rest result' accepted keeps_rest) = keeps_one cie' i rest result' accepted (keeps_due (cie' ++ i ∷ []) rest result' keeps_rest)
  keeps_due cie reads result (cie_leaves_out cie' i rest e out) = left_out_of_cie cie' i rest e out
  keeps_due cie reads result (cie_finds_unreadable cie' e) = inl refl
  keeps_due cie reads result (cie_is_kept cie' accepted) = inl (end_is cie' ∙ ap (λ o. or_refused o cie') accepted)
  keeps_due cie reads result (cie_end_left_out cie' e out) = end_left_out_of_cie cie' e out

  -- ---- of an FDE, for an address

  abbrev Wanted : Readings (CallFrameInstruction T) → Readings (CallFrameInstruction T) → Type 0
  Wanted cie fde = IsTrue (may_allocate_on_the_way allocates s cie fde address)

  wanted_in_cie : (cie fde : Readings (CallFrameInstruction T)) → CieReached [] cie → Wanted cie fde
  wanted_in_cie cie fde (inl reached) = or_left _ _ reached
  wanted_in_cie cie fde (inr at) = or_right _ _ (and_from _ _ (ap is_none at.0) (or_left _ _ at.1))

  wanted_in_fde : (cie fde : Readings (CallFrameInstruction T)) → cie_refusal s cie ≡ None → Reached (in_fde cie.values []) fde.values → Wanted cie fde
  wanted_in_fde cie fde accepted reached = or_right _ _ (and_from _ _ (ap is_none accepted) (or_right _ _ reached))

  same_error : {A : Type 0} (e : Error) → ◌≡◌ {A = Result A Error} (Err e) (Err OutOfMemory) → e ≡ OutOfMemory
  same_error e is = cc

  accepted_of : (o : Option Error) (xs all : Instructions) → or_refused o xs ≡ Ok all → (o ≡ None) × (all ≡ xs)
  accepted_of None xs all is = (refl, (let same : ◌≡◌ {A = Result Instructions Error} (Ok all) (Ok xs) = sym is in cc))
  accepted_of (Some e) xs all is = absurd (let wrong : ◌≡◌ {A = Result Instructions Error} (Err e) (Ok all) = is in cc)

  refused_of : (o : Option Error) (xs : Instructions) (e : Error) → or_refused o xs ≡ Err e → o ≡ Some e
  refused_of None xs e is = absurd (let wrong : ◌≡◌ {A = Result Instructions Error} (Ok xs) (Err e) = is in cc)
  refused_of (Some d) xs e is = let same : ◌≡◌ {A = Result Instructions Error} (Err d) (Err e) = is in cc

  not_started : (first a : ℕ) → (leb first a && ltb a first) ≡ false
  not_started first a = let cases : (a < first) ⊎ (first ≤ a) → (leb first a && ltb a first) ≡ false = elim [ inl below ↦ and_left _ _ (lt-leb first a below) | inr above ↦ and_right _ _ (le-ltb a first above) ] in cases (cases_lt a first)

  by_cie_due : (cie fde : Readings (CallFrameInstruction T)) (e : Error) → (cie_due [] cie ≡ Err e) ⊎ OutOf {A = Instructions} (Err e) (CieReached [] cie) → AnswersOrRunsOut allocates s cie fde address (Err e)
  by_cie_due cie fde e (inl is) = inl (sym (ap (on_option (answer_at address (answers s (in_fde cie.values []) fde)) (λ d. Err d)) (refused_of (cie_refusal s cie) cie.values e is)))
  by_cie_due cie fde e (inr out) = inr (wanted_in_cie cie fde out.0, ap Err (same_error e out.1))

  by_rows_found : (cie fde : Readings (CallFrameInstruction T)) (result : Result (Row T) Error) → cie_refusal s cie ≡ None
      → (answer_at address (answers s (in_fde cie.values []) fde) ≡ result) ⊎ OutOf result (Reached (in_fde cie.values []) fde.values) → AnswersOrRunsOut allocates s cie fde address result
  by_rows_found cie fde result accepted (inl found) = inl (sym (ap (on_option (answer_at address (answers s (in_fde cie.values []) fde)) (λ d. Err d)) accepted ∙ found))
  by_rows_found cie fde result accepted (inr out) = inr (wanted_in_fde cie fde accepted out.0, out.1)

  by_rows_of_all : (cie fde : Readings (CallFrameInstruction T)) (all : Instructions) (result : Result (Row T) Error) → cie_refusal s cie ≡ None → all ≡ cie.values
      → FindsRow (NextAcceptedAnswer allocates s) address (before_last_row (in_fde all []) fde) result → AnswersOrRunsOut allocates s cie fde address result
  by_rows_of_all cie fde all result accepted same finds =
      by_rows_found cie fde result accepted
      (finds_due (before_last_row (in_fde cie.values []) fde) result
      (subst (λ l. FindsRow (NextAcceptedAnswer allocates s) address (before_last_row (in_fde l []) fde) result) same finds)
      (not_started s.initial_address address))

  ok_is_no_error : (all : Instructions) (e : Error) → ◌≡◌ {A = Result Instructions Error} (Ok all) (Err e) → ⊥
  ok_is_no_error all e is = cc

  by_rows_due : (cie fde : Readings (CallFrameInstruction T)) (all : Instructions) (result : Result (Row T) Error) → (cie_due [] cie ≡ Ok all) ⊎ OutOf {A = Instructions} (Ok all) (CieReached [] cie)
      → FindsRow (NextAcceptedAnswer allocates s) address (before_last_row (in_fde all []) fde) result → AnswersOrRunsOut allocates s cie fde address result
  by_rows_due cie fde all result (inl is) finds =
      by_rows_of_all cie fde all result (accepted_of (cie_refusal s cie) cie.values all is).0 (accepted_of (cie_refusal s cie) cie.values all is).1 finds
  by_rows_due cie fde all result (inr out) finds = absurd (ok_is_no_error all OutOfMemory out.1)

  pub kept_is_due : (cie fde : Readings (CallFrameInstruction T)) (result : Result (Row T) Error) → AnswersByAccepted allocates s cie fde address result → AnswersOrRunsOut allocates s cie fde address result
  kept_is_due cie fde result (refused_by_cie e keeps_all) = by_cie_due cie fde e (keeps_due [] cie (Err e) keeps_all)
  kept_is_due cie fde result (found_in_rows all result' keeps_all finds) = by_rows_due cie fde all result' (keeps_due [] cie (Ok all) keeps_all) finds

  -- ---- what is due, and `OutOfMemory` where it may come, is answered by kept instructions

  -- an instruction of a CIE, by why it is refused
  cie_first : (cie : Instructions) (i : CallFrameInstruction T) (rest : Readings (CallFrameInstruction T)) (o : Option Error) → refusal s (in_cie cie) i ≡ o
      → AcceptsInitialInstructions allocates s (cie ++ i ∷ []) rest (cie_due (cie ++ i ∷ []) rest) → AcceptsInitialInstructions allocates s cie (with_first i rest) (cie_due cie (with_first i rest))
  cie_first cie i rest None accepted more =
      subst (AcceptsInitialInstructions allocates s cie (with_first i rest)) (sym (due_on cie i rest accepted)) (cie_keeps cie i rest (cie_due (cie ++ i ∷ []) rest) accepted more)
  cie_first cie i rest (Some e) refused more =
      subst (AcceptsInitialInstructions allocates s cie (with_first i rest))
      (sym (ap (λ o. or_refused (option_or (option_or o (first_refusal s (in_cie (cie ++ i ∷ [])) rest.values)) (option_or rest.refusal (refusal_at_end s (cie ++ i ∷ rest.values)))) (cie ++ i ∷ rest.values)) refused))
      (cie_leaves_out cie i rest e (inl refused))

  cie_last : (cie : Instructions) (o : Option Error) → refusal_at_end s cie ≡ o → AcceptsInitialInstructions allocates s cie (no_values None) (or_refused o cie)
  cie_last cie None accepted = cie_is_kept cie accepted
  cie_last cie (Some e) refused = cie_end_left_out cie e (inl refused)

  due_is_kept_from : (xs : Instructions) (unread : Option Error) (cie : Instructions) → AcceptsInitialInstructions allocates s cie (record { values = xs; refusal = unread }) (cie_due cie (record { values = xs; refusal = unread }))
  due_is_kept_from [] None cie = subst (AcceptsInitialInstructions allocates s cie (no_values None)) (sym (end_is cie)) (cie_last cie (refusal_at_end s cie) refl)
  due_is_kept_from [] (Some e) cie = cie_finds_unreadable cie e
  due_is_kept_from (i ∷ xs) unread cie = cie_first cie i (record { values = xs; refusal = unread }) (refusal s (in_cie cie) i) refl (due_is_kept_from xs unread (cie ++ i ∷ []))

  -- `OutOfMemory` in the initial instructions of a CIE or at their end
  accepted_first : (cie : Instructions) (i : CallFrameInstruction T) (rest : Readings (CallFrameInstruction T)) → CieReached cie (with_first i rest) → refusal s (in_cie cie) i ≡ None
  accepted_first cie i rest (inl reached) = (reached_parts (in_cie cie) i rest.values reached).1
  accepted_first cie i rest (inr at) = (none_second (refusal s (in_cie cie) i) _ (none_second (first_refusal s (in_cie cie) (i ∷ rest.values)) _ at.0).0).0

  out_of_cie_first : (cie : Instructions) (i : CallFrameInstruction T) (rest : Readings (CallFrameInstruction T)) → refusal s (in_cie cie) i ≡ None
      → (CieReached (cie ++ i ∷ []) rest → AcceptsInitialInstructions allocates s (cie ++ i ∷ []) rest (Err OutOfMemory))
      → IsTrue (allocates.at (program_state s (in_cie cie)) i) ⊎ CieReached (cie ++ i ∷ []) rest → AcceptsInitialInstructions allocates s cie (with_first i rest) (Err OutOfMemory)
  out_of_cie_first cie i rest accepted more (inl at) = cie_leaves_out cie i rest OutOfMemory (inr (at, accepted, refl))
  out_of_cie_first cie i rest accepted more (inr reached) = cie_keeps cie i rest (Err OutOfMemory) accepted (more reached)

  out_of_cie : (xs : Instructions) (unread : Option Error) (cie : Instructions) → CieReached cie (record { values = xs; refusal = unread }) → AcceptsInitialInstructions allocates s cie (record { values = xs; refusal = unread }) (Err OutOfMemory)
  out_of_cie [] unread cie (inl reached) = absurd (false≢true reached)
  out_of_cie [] None cie (inr at) =
      cie_end_left_out cie OutOfMemory (inr (subst (λ l. IsTrue (allocates.at_end (program_state s (in_cie l)))) (append-nil cie) at.1, sym (ap (refusal_at_end s) (append-nil cie)) ∙ at.0, refl))
  out_of_cie [] (Some e) cie (inr at) = absurd (let wrong : Some e ≡ None = at.0 in cc)
  out_of_cie (i ∷ xs) unread cie reached =
      let accepted = accepted_first cie i (record { values = xs; refusal = unread }) reached in
      out_of_cie_first cie i (record { values = xs; refusal = unread }) accepted (out_of_cie xs unread (cie ++ i ∷ [])) (reached_from cie i (record { values = xs; refusal = unread }) accepted reached)

  -- of the rows of an FDE
  abbrev Finds : Program T → Readings (CallFrameInstruction T) → Result (Row T) Error → Type 0
  Finds p reads result = FindsRow (NextAcceptedAnswer allocates s) address (before_last_row p reads) result

  module _ (p : Program T) (i : CallFrameInstruction T) (rest : Readings (CallFrameInstruction T)) where
    finds_after_still : (result : Result (Row T) Error) → is_move i ≡ false → refusal s p i ≡ None → Finds (followed_by p i) rest result → Finds p (with_first i rest) result
    finds_after_still result still accepted finds =
        leads_on (NextAcceptedAnswer allocates s) address (before_last_row p (with_first i rest)) (before_last_row (followed_by p i) rest) result (λ answer q next. keeps p i rest answer q still accepted next) finds

    abbrev row_before : Row T
    row_before = row_until s p (location_of s (followed_by p i))

    finds_in_row : (b : Bool) (result : Result (Row T) Error) → row_contains address row_before ≡ b → is_move i ≡ true → refusal s p i ≡ None → Finds (followed_by p i) rest result → Finds p (with_first i rest) (cond b (Ok row_before) result)
    finds_in_row true result inside moves accepted finds = contains_it _ (before_last_row (followed_by p i) rest) row_before (keeps_move p i rest moves accepted) inside
    finds_in_row false result outside moves accepted finds = goes_on _ (before_last_row (followed_by p i) rest) row_before result (keeps_move p i rest moves accepted) outside finds

    abbrev DueFirst : Type 0
    DueFirst = Finds p (with_first i rest) (answer_at address (answers s p (with_first i rest)))

    finds_accepted : (b : Bool) → is_move i ≡ b → refusal s p i ≡ None → Finds (followed_by p i) rest (answer_at address (answers s (followed_by p i) rest)) → DueFirst
    finds_accepted false still accepted more =
        subst (λ l. Finds p (with_first i rest) (answer_at address l)) (sym (answers-other s p i rest.values rest.refusal accepted still)) (finds_after_still _ still accepted more)
    finds_accepted true moves accepted more =
        subst (λ l. Finds p (with_first i rest) (answer_at address l)) (sym (answers-move s p i rest.values rest.refusal accepted moves)) (finds_in_row (row_contains address row_before) _ refl moves accepted more)

    finds_first : (o : Option Error) → refusal s p i ≡ o → Finds (followed_by p i) rest (answer_at address (answers s (followed_by p i) rest)) → DueFirst
    finds_first None accepted more = finds_accepted (is_move i) refl accepted more
    finds_first (Some e) refused more =
        subst (λ l. Finds p (with_first i rest) (answer_at address l)) (sym (answers-refused s p i rest.values rest.refusal e refused)) (is_refused _ (before_last_row p rest) e (leaves_out p i rest e (inl refused)))

  finds_last : (p : Program T) (b : Bool) → row_contains address (row_until s p s.end_address) ≡ b → Finds p (no_values None) (cond b (Ok (row_until s p s.end_address)) (Err NoUnwindInfoForAddress))
  finds_last p true inside = contains_it _ (after_last_row p (no_values None)) (row_until s p s.end_address) (gives_last_row p) inside
  finds_last p false outside = goes_on _ (after_last_row p (no_values None)) (row_until s p s.end_address) (Err NoUnwindInfoForAddress) (gives_last_row p) outside (comes_to_end _ _ (gives_no_row p (no_values None)))

  due_is_found : (xs : Instructions) (unread : Option Error) (p : Program T) → Finds p (record { values = xs; refusal = unread }) (answer_at address (answers_of s p xs unread))
  due_is_found [] None p = finds_last p (row_contains address (row_until s p s.end_address)) refl
  due_is_found [] (Some e) p = is_refused _ (before_last_row p (no_values None)) e (finds_unreadable p e)
  due_is_found (i ∷ xs) unread p = finds_first p i (record { values = xs; refusal = unread }) (refusal s p i) refl (due_is_found xs unread (followed_by p i))

  -- `OutOfMemory` among them
  reached_here : (p : Program T) (xs : Instructions) → Reached p xs → has_passed s address p ≡ false
  reached_here p [] reached = absurd (false≢true reached)
  reached_here p (i ∷ xs) reached = (reached_parts p i xs reached).0

  outside_case : (first a here next : ℕ) → first ≤ here → (leb first a ≡ false) ⊎ (ltb a next ≡ false) → (a < here) ⊎ (here ≤ a) → (leb here a && ltb a next) ≡ false
  outside_case first a here next up known (inl below) = and_left (leb here a) (ltb a next) (lt-leb here a below)
  outside_case first a here next up (inl known) (inr above) = absurd (true≢false (sym (le-leb first a (omega (arith, up, above))) ∙ known))
  outside_case first a here next up (inr known) (inr above) = and_right (leb here a) (ltb a next) known

  outside_row : (cie fde : Instructions) (i : CallFrameInstruction T) → s.initial_address ≤ location_of s (in_fde cie fde) → has_passed s address (in_fde cie (fde ++ i ∷ [])) ≡ false → row_contains address (row_until s (in_fde cie fde) (location_of s (in_fde cie (fde ++ i ∷ [])))) ≡ false
  outside_row cie fde i up here =
      outside_case s.initial_address address (location_of s (in_fde cie fde)) (location_of s (in_fde cie (fde ++ i ∷ []))) up (and_cases _ _ here) (cases_lt address (location_of s (in_fde cie fde)))

  module _ (cie fde : Instructions) (i : CallFrameInstruction T) (rest : Readings (CallFrameInstruction T)) (up : s.initial_address ≤ location_of s (in_fde cie fde)) (accepted : refusal s (in_fde cie fde) i ≡ None) where
    out_after : (b : Bool) → is_move i ≡ b → Reached (in_fde cie (fde ++ i ∷ [])) rest.values → Finds (in_fde cie (fde ++ i ∷ [])) rest (Err OutOfMemory) → Finds (in_fde cie fde) (with_first i rest) (Err OutOfMemory)
    out_after false still reached more = finds_after_still (in_fde cie fde) i rest (Err OutOfMemory) still accepted more
    out_after true moves reached more = finds_in_row (in_fde cie fde) i rest false (Err OutOfMemory) (outside_row cie fde i up (reached_here _ rest.values reached)) moves accepted more

    out_at : (Reached (in_fde cie (fde ++ i ∷ [])) rest.values → Finds (in_fde cie (fde ++ i ∷ [])) rest (Err OutOfMemory))
        → IsTrue (allocates.at (program_state s (in_fde cie fde)) i) ⊎ Reached (in_fde cie (fde ++ i ∷ [])) rest.values → Finds (in_fde cie fde) (with_first i rest) (Err OutOfMemory)
    out_at more (inl at) = is_refused _ (before_last_row (in_fde cie fde) rest) OutOfMemory (leaves_out (in_fde cie fde) i rest OutOfMemory (inr (at, accepted, refl)))
    out_at more (inr reached) = out_after (is_move i) refl reached (more reached)

  out_is_found : (xs : Instructions) (unread : Option Error) (cie fde : Instructions) → s.initial_address ≤ location_of s (in_fde cie fde) → Reached (in_fde cie fde) xs → Finds (in_fde cie fde) (record { values = xs; refusal = unread }) (Err OutOfMemory)
  out_is_found [] unread cie fde up reached = absurd (false≢true reached)
  out_is_found (i ∷ xs) unread cie fde up reached =
      let parts = reached_parts (in_fde cie fde) i xs reached in
      let higher : s.initial_address ≤ location_of s (in_fde cie (fde ++ i ∷ [])) = let next = goes_up s (in_fde cie fde) i parts.1 in omega (arith, up, next) in
      out_at cie fde i (record { values = xs; refusal = unread }) up parts.1 (out_is_found xs unread cie (fde ++ i ∷ []) higher) parts.2

  -- of the FDE
  module _ (cie fde : Readings (CallFrameInstruction T)) where
    cie_is_kept_whole : cie_refusal s cie ≡ None → AcceptsInitialInstructions allocates s [] cie (Ok cie.values)
    cie_is_kept_whole accepted = subst (λ o. AcceptsInitialInstructions allocates s [] cie (or_refused o cie.values)) accepted (due_is_kept_from cie.values cie.refusal [])

    due_by_refusal : (o : Option Error) → cie_refusal s cie ≡ o → AnswersByAccepted allocates s cie fde address (on_option (answer_at address (answers s (in_fde cie.values []) fde)) (λ e. Err e) o)
    due_by_refusal None accepted = found_in_rows cie.values _ (cie_is_kept_whole accepted) (due_is_found fde.values fde.refusal (in_fde cie.values []))
    due_by_refusal (Some e) refused = refused_by_cie e (subst (λ o. AcceptsInitialInstructions allocates s [] cie (or_refused o cie.values)) refused (due_is_kept_from cie.values cie.refusal []))

    out_by : (IsTrue (allocates.at_end (program_state s (in_cie cie.values))) ⊎ Reached (in_fde cie.values []) fde.values) → cie_refusal s cie ≡ None → AnswersByAccepted allocates s cie fde address (Err OutOfMemory)
    out_by (inl at) accepted = refused_by_cie OutOfMemory (out_of_cie cie.values cie.refusal [] (inr (accepted, at)))
    out_by (inr reached) accepted = found_in_rows cie.values (Err OutOfMemory) (cie_is_kept_whole accepted) (out_is_found fde.values fde.refusal cie.values [] (omega arith) reached)

    out_by_place : Reached (in_cie []) cie.values ⊎ IsTrue (is_none (cie_refusal s cie) && (allocates.at_end (program_state s (in_cie cie.values)) || reaches (in_fde cie.values []) fde.values)) → AnswersByAccepted allocates s cie fde address (Err OutOfMemory)
    out_by_place (inl reached) = refused_by_cie OutOfMemory (out_of_cie cie.values cie.refusal [] (inl reached))
    out_by_place (inr after) = let parts = and_parts _ _ after in out_by (or_cases _ _ parts.1) (none_at (cie_refusal s cie) parts.0)

    pub due_is_kept : (result : Result (Row T) Error) → AnswersOrRunsOut allocates s cie fde address result → AnswersByAccepted allocates s cie fde address result
    due_is_kept result (inl is) = subst (AnswersByAccepted allocates s cie fde address) (sym is) (due_by_refusal (cie_refusal s cie) refl)
    due_is_kept result (inr out) = subst (AnswersByAccepted allocates s cie fde address) (sym out.1) (out_by_place (or_cases _ _ out.0))

-- ---- where nothing allocates

module _ {T : Type 0} (allocates : MayAllocate T) (s : Setting) (never : AreNever allocates) (address : ℕ) where
  never_reached : (p : Program T) (xs : List (CallFrameInstruction T)) → reaches_allocation allocates s address p xs ≡ false
  never_reached p [] = refl
  never_reached p (i ∷ xs) = and_right _ _ (or_from _ _ (never.at (program_state s p) i) (never_reached (followed_by p i) xs))

  pub never_out : (cie fde : Readings (CallFrameInstruction T)) → may_allocate_on_the_way allocates s cie fde address ≡ false
  never_out cie fde = or_from _ _ (never_reached (in_cie []) cie.values) (and_right _ _ (or_from _ _ (never.at_end (program_state s (in_cie cie.values))) (never_reached (in_fde cie.values []) fde.values)))
