-- How the evaluation of single instructions makes up the rows of a table and the program of a CIE, in numbers.
use Rattle.std.proofs.Common.{◌≡◌, ℕ, ◌<◌, Bool, true, false, [], length, ◌+◌, ◌≤◌, cond, Option, Some, None, Result, Ok, Err, suc, is_some, refl, sym, ap, subst, ◌∙◌, arith}
use Rattle.std.specs.Result.{IfOk}
use Rattle.std.specs.Option.{option_map, IfSome}
use Rattle.std.specs.Borrow.{Bor}
use Rattle.std.proofs.lemmas.Bool.Decides.{nat_tests}
use Rattle.cfi_read_core.specs.ReadFunctions.{Readings, with_first, no_values}
use Rattle.cfi_read_core.specs.ReaderCalls.{map_ok}
use Rattle.cfi_read_core.specs.declared.error.Error.{Error}
use Rattle.cfi_read_core.specs.declared.error.Error.TheVariants.{NoUnwindInfoForAddress}
use Rattle.cfi_read_core.specs.declared.instruction.CallFrameInstruction.{CallFrameInstruction}
use Rattle.cfi_parts.specs.Instructions.{Instruction}
use Rattle.cfi_parts.specs.InstructionReaders.{InstructionReader, Meets, instructions_left}
use Rattle.cfi_parts.specs.InstructionVisits.{VisitsNext}
use Rattle.cfi_read_core.specs.MappedInstructions.{map_instruction}
use Rattle.cfi_state.specs.Row.{Row, row_contains}
use Rattle.cfi_state.specs.MachineSettings.{Setting, is_move}
use Rattle.cfi_state.specs.Machine.{State, fresh_state, step}
use Rattle.cfi_state.specs.UnwindContexts.{ContextState, machine_state, empty_context}
use Rattle.cfi_state.specs.ContextEffects.{Evaluates, EndsCie, Runs}
use Rattle.cfi_state.specs.MappedStates.{map_row}
use Rattle.cfi_state.specs.UnwindTableStates.{TableState, before_last_row, after_last_row}
use Rattle.cfi_state.specs.MachineRuns.{NextAnswer, passes, ends_row, refuses, cannot_read, last_row, no_row, RunsInitialInstructions, FindsRow, contains_it, goes_on, is_refused, comes_to_end, AnswersFde, by_cie, by_rows}
use Rattle.cfi_state.specs.Allocation.{MayAllocate, may_allocate}
use Rattle.cfi_state.proofs.MappedRuns.{step_ok-mapped, end_ok-mapped, step_refusal-mapped, end_refusal-mapped}
use Rattle.cfi_state.proofs.MappedSteps.{is_move-mapped, fresh-mapped}
use Rattle.cfi_state.proofs.RunSteps.{LeadsTo, leads-on, next-row, LeadsToCie, cie-leads-on, cie-refused, cie-unreadable, cie-ended, cie-end-refused}
use Rattle.cfi_state.proofs.AcceptedAnswers.{keeps_next, keeps_cie}
use Rattle.cfi_state.proofs.IsStateAfter.{stands_fresh}
use Rattle.cfi_state.proofs.FixedStorage.{fixed_never}
use Rattle.cfi_state.proofs.RunAnswers.{next_or_memory, next_is_due}
use Rattle.cfi_state.proofs.RowExpressions.{next_holds}
use Rattle.cfi_read_core.specs.ExpressionPlaces.{LiesIn}
use Rattle.cfi_unwind.specs.UnwindTableCalls.{GivesNextAnswer, AnswersWithoutMachine, IsNextOrMemory, KeepsExpressionsIn, AcceptsCieProgram, state_in_numbers, row_due, state_after, LendsNextRow}

-- what an instruction leaves as it was
module _ {T : Type 0} (s : Setting) (free : Bool) (location : ℕ) (i : CallFrameInstruction T) (old new : ContextState T) (answer : Result (Option ℕ) Error) (evaluated : Evaluates s free location i old new answer) where
  pub initial-stays : answer ≡ Ok None → new.initial_rules ≡ old.initial_rules
  initial-stays is = (subst (λ r. Evaluates s free location i old new r) is evaluated).initial_rules

  pub moved-same : (address : ℕ) → answer ≡ Ok (Some address) → new ≡ old
  moved-same address is = (subst (λ r. Evaluates s free location i old new r) is evaluated).1

module _ {T : Type 0} (number : T → ℕ) where
  abbrev Given : Type 0
  Given = Result (Option (CallFrameInstruction T)) Error

  -- ---- what was read

  module _ (given : Given) (before after : Readings Instruction) (met : Meets (map_instruction number) given before after) where
    pub reads-first : (i : CallFrameInstruction T) → given ≡ Ok (Some i) → before ≡ with_first (map_instruction number i) after
    reads-first i is = subst (λ r. Meets (map_instruction number) r before after) is met

    pub reads-none : given ≡ Ok None → (before ≡ no_values None) × (after ≡ no_values None)
    reads-none is = subst (λ r. Meets (map_instruction number) r before after) is met

    pub reads-refusal : (e : Error) → given ≡ Err e → (before ≡ no_values (Some e)) × (after ≡ no_values None)
    reads-refusal e is = subst (λ r. Meets (map_instruction number) r before after) is met

    pub reads-fewer : (i : CallFrameInstruction T) → given ≡ Ok (Some i) → length after.values < length before.values
    reads-fewer i is = let longer : length before.values ≡ suc (length after.values) = ap (λ (r : Readings Instruction). length r.values) (reads-first i is) in omega (arith, longer)

  -- ---- what was run

  module _ (s : Setting) (free : Bool) (location : ℕ) (i : CallFrameInstruction T) (old new : ContextState T) (answer : Result (Option ℕ) Error) (evaluated : Evaluates s free location i old new answer) where
    stepped : answer ≡ Ok None → step s (state_in_numbers number location old) (map_instruction number i) ≡ Ok (state_in_numbers number location new)
    stepped is = step_ok-mapped number s (machine_state location old) (machine_state location new) i (subst (λ r. Evaluates s free location i old new r) is evaluated).accepted

    moved : (address : ℕ) → answer ≡ Ok (Some address) → (step s (state_in_numbers number location old) (map_instruction number i) ≡ Ok (state_in_numbers number address old)) × (new ≡ old)
    moved address is =
        let moves = subst (λ r. Evaluates s free location i old new r) is evaluated in
        (step_ok-mapped number s (machine_state location old) (machine_state address old) i moves.0, moves.1)

    move_is : (o : Option ℕ) → answer ≡ Ok o → IfOk answer (λ found. is_some found ≡ is_move i) → is_move (map_instruction number i) ≡ is_some o
    move_is o is moves = is_move-mapped number i ∙ sym (subst (λ r. IfOk r (λ found. is_some found ≡ is_move i)) is moves)

    -- ---- as part of the rows

    module _ (first : TableState (State ℕ) ℕ) (left rest : Readings Instruction) (leads : LeadsTo (may_allocate s free) s first (before_last_row (state_in_numbers number location old) left))
        (reads : left ≡ with_first (map_instruction number i) rest) where
      pub row-goes-on : answer ≡ Ok None → IfOk answer (λ found. is_some found ≡ is_move i) → LeadsTo (may_allocate s free) s first (before_last_row (state_in_numbers number location new) rest)
      row-goes-on is moves = leads-on (may_allocate s free) s first _ left leads (map_instruction number i) rest reads (state_in_numbers number location new) (move_is None is moves) (stepped is)

      pub row-moved : (address : ℕ) → answer ≡ Ok (Some address) → IfOk answer (λ found. is_some found ≡ is_move i)
          → NextAnswer (may_allocate s free) s first (row_due number s location new (Ok (Some address))) (state_after number location new rest (Ok (Some address)))
      row-moved address is moves =
          subst (λ c. NextAnswer (may_allocate s free) s first (row_due number s location c (Ok (Some address))) (state_after number location c rest (Ok (Some address)))) (sym (moved address is).1)
          (next-row (may_allocate s free) s first _ left leads (map_instruction number i) rest reads (state_in_numbers number address old) (move_is (Some address) is moves) (moved address is).0)

      pub row-refused : (e : Error) → answer ≡ Err e → NextAnswer (may_allocate s free) s first (Err e) (before_last_row (state_in_numbers number location new) rest)
      row-refused e is =
          let refusal = subst (λ r. Evaluates s free location i old new r) is evaluated in
          subst (λ c. NextAnswer (may_allocate s free) s first (Err e) (before_last_row (state_in_numbers number location c) rest)) (sym refusal.0)
          (leads (Err e) (before_last_row (state_in_numbers number location old) rest) (subst (λ l. NextAnswer (may_allocate s free) s (before_last_row (state_in_numbers number location old) l) (Err e) (before_last_row (state_in_numbers number location old) rest)) (sym reads)
          (refuses (state_in_numbers number location old) (map_instruction number i) rest e (step_refusal-mapped number s free (machine_state location old) i e refusal.1))))

    -- ---- as part of a CIE's initial instructions

    module _ (all left rest : Readings Instruction) (leads : LeadsToCie (may_allocate s free) s fresh_state all (state_in_numbers number location old) left) (reads : left ≡ with_first (map_instruction number i) rest) where
      pub cie-stays : answer ≡ Ok None → LeadsToCie (may_allocate s free) s fresh_state all (state_in_numbers number location new) rest
      cie-stays is = cie-leads-on (may_allocate s free) s fresh_state all _ left leads (map_instruction number i) rest reads (state_in_numbers number location new) (stepped is)

      pub cie-moves : (address : ℕ) → answer ≡ Ok (Some address) → LeadsToCie (may_allocate s free) s fresh_state all (state_in_numbers number address new) rest
      cie-moves address is =
          subst (λ c. LeadsToCie (may_allocate s free) s fresh_state all (state_in_numbers number address c) rest) (sym (moved address is).1)
          (cie-leads-on (may_allocate s free) s fresh_state all _ left leads (map_instruction number i) rest reads (state_in_numbers number address old) (moved address is).0)

      pub cie-refuses : (e : Error) → answer ≡ Err e → RunsInitialInstructions (may_allocate s free) s fresh_state all (Err e)
      cie-refuses e is =
          cie-refused (may_allocate s free) s fresh_state all _ left leads (map_instruction number i) rest reads e
          (step_refusal-mapped number s free (machine_state location old) i e (subst (λ r. Evaluates s free location i old new r) is evaluated).1)

  -- the empty context is the machine's fresh state
  pub cie-starts : (allocates : MayAllocate ℕ) (s : Setting) (context : ContextState T) (all : Readings Instruction) → context ≡ empty_context → LeadsToCie allocates s fresh_state all (state_in_numbers number 0 context) all
  cie-starts allocates s context all empty result runs = subst (λ x. RunsInitialInstructions allocates s x all result) (ap (state_in_numbers number 0) empty ∙ fresh-mapped number) runs

  -- the end of a CIE's initial instructions
  module _ (s : Setting) (free : Bool) (location : ℕ) (old new : ContextState T) (all left : Readings Instruction) (leads : LeadsToCie (may_allocate s free) s fresh_state all (state_in_numbers number location old) left) (nothing : left ≡ no_values None) where
    pub cie-ends : (result : Result (Unit {0}) Error) → EndsCie s free location old new result → RunsInitialInstructions (may_allocate s free) s fresh_state all (map_ok (λ _. state_in_numbers number s.initial_address new) result)
    cie-ends (Ok _) ends =
        cie-ended (may_allocate s free) s fresh_state all _ left leads (state_in_numbers number s.initial_address new) nothing
        (end_ok-mapped number s (machine_state location old) (machine_state s.initial_address new) ends.accepted)
    cie-ends (Err e) refused =
        cie-end-refused (may_allocate s free) s fresh_state all _ left leads e nothing (end_refusal-mapped number s free (machine_state location old) e refused.1)

-- the loops' ends
module _ {T : Type 0} (number : T → ℕ) (given : Result (Option (CallFrameInstruction T)) Error) (before after : Readings Instruction) (met : Meets (map_instruction number) given before after) where
  module _ (allocates : MayAllocate ℕ) (s : Setting) (first : TableState (State ℕ) ℕ) (location : ℕ) (context : ContextState T) (leads : LeadsTo allocates s first (before_last_row (state_in_numbers number location context) before)) where
    comes-next : (left : Readings Instruction) (answer : Result (Option (Row ℕ)) Error) (q : Readings Instruction → TableState (State ℕ) ℕ) → before ≡ left → after ≡ no_values None → NextAnswer allocates s (before_last_row (state_in_numbers number location context) left) answer (q (no_values None)) → NextAnswer allocates s first answer (q after)
    comes-next left answer q was is next =
        subst (λ l. NextAnswer allocates s first answer (q l)) (sym is)
        (leads answer (q (no_values None)) (subst (λ l. NextAnswer allocates s (before_last_row (state_in_numbers number location context) l) answer (q (no_values None))) (sym was) next))

    pub row-unreadable : (e : Error) → given ≡ Err e → NextAnswer allocates s first (Err e) (before_last_row (state_in_numbers number location context) after)
    row-unreadable e is =
        let nothing = reads-refusal number given before after met e is in
        comes-next (no_values (Some e)) (Err e) (before_last_row (state_in_numbers number location context)) nothing.0 nothing.1 (cannot_read (state_in_numbers number location context) e)

    pub row-last : given ≡ Ok None → NextAnswer allocates s first (row_due number s location context (Ok None)) (state_after number location context after (Ok None))
    row-last is =
        let nothing = reads-none number given before after met is in
        comes-next (no_values None) (row_due number s location context (Ok None)) (after_last_row (state_in_numbers number location context)) nothing.0 nothing.1 (last_row (state_in_numbers number location context))

  pub cie-unread : (allocates : MayAllocate ℕ) (s : Setting) (all : Readings Instruction) (x : State ℕ) → LeadsToCie allocates s fresh_state all x before → (e : Error) → given ≡ Err e → RunsInitialInstructions allocates s fresh_state all (Err e)
  cie-unread allocates s all x leads e is = cie-unreadable allocates s fresh_state all x before leads e (reads-refusal number given before after met e is).0

-- ---- what a visit of the next instruction does

abbrev VisitRuns : {T : Type 0} → (T → ℕ) → Setting → Bool → ℕ → InstructionReader → InstructionReader → ContextState T → ContextState T → Result (Option (Result (Option ℕ) Error)) Error → Type 0
VisitRuns number s free location from to old new given = VisitsNext number (λ i before after answer. Runs s free location i before after answer) from to old new given

module _ {T : Type 0} (number : T → ℕ) (s : Setting) (free : Bool) (location : ℕ) (from to : InstructionReader) (old new : ContextState T) (given : Result (Option (Result (Option ℕ) Error)) Error)
    (visited : VisitRuns number s free location from to old new given) where
  ran : (answer : Result (Option ℕ) Error) → given ≡ Ok (Some answer) → VisitRuns number s free location from to old new (Ok (Some answer))
  ran answer is = subst (λ r. VisitRuns number s free location from to old new r) is visited

  ended : given ≡ Ok None → VisitRuns number s free location from to old new (Ok None)
  ended is = subst (λ r. VisitRuns number s free location from to old new r) is visited

  unread : (e : Error) → given ≡ Err e → VisitRuns number s free location from to old new (Err e)
  unread e is = subst (λ r. VisitRuns number s free location from to old new r) is visited

  pub visit-fewer : (answer : Result (Option ℕ) Error) → given ≡ Ok (Some answer) → length (instructions_left to).values < length (instructions_left from).values
  visit-fewer answer is =
      let v = ran answer is in
      reads-fewer number (Ok (Some v.0)) (instructions_left from) (instructions_left to) v.1 v.0 refl

  pub visit-initial-stays : (answer : Result (Option ℕ) Error) → given ≡ Ok (Some answer) → answer ≡ Ok None → new.initial_rules ≡ old.initial_rules
  visit-initial-stays answer is still = let v = ran answer is in initial-stays s free location v.0 old new answer v.2.0 still

  pub visit-initial-moves : (answer : Result (Option ℕ) Error) → given ≡ Ok (Some answer) → (address : ℕ) → answer ≡ Ok (Some address) → new.initial_rules ≡ old.initial_rules
  visit-initial-moves answer is address moves =
      let v = ran answer is in
      ap (λ (x : ContextState T). x.initial_rules) (moved-same s free location v.0 old new answer v.2.0 address moves)

  pub visit-initial-ends : given ≡ Ok None → new.initial_rules ≡ old.initial_rules
  visit-initial-ends is = ap (λ (x : ContextState T). x.initial_rules) (ended is).1

  -- ---- as part of the rows

  module _ (first : TableState (State ℕ) ℕ) (leads : LeadsTo (may_allocate s free) s first (before_last_row (state_in_numbers number location old) (instructions_left from))) where
    pub visit-goes-on : (answer : Result (Option ℕ) Error) → given ≡ Ok (Some answer) → answer ≡ Ok None
        → LeadsTo (may_allocate s free) s first (before_last_row (state_in_numbers number location new) (instructions_left to))
    visit-goes-on answer is still =
        let v = ran answer is in
        row-goes-on number s free location v.0 old new answer v.2.0 first (instructions_left from) (instructions_left to) leads v.1 still v.2.1

    pub visit-moves : (answer : Result (Option ℕ) Error) → given ≡ Ok (Some answer) → (address : ℕ) → answer ≡ Ok (Some address)
        → NextAnswer (may_allocate s free) s first (row_due number s location new (Ok (Some address))) (state_after number location new (instructions_left to) (Ok (Some address)))
    visit-moves answer is address moves =
        let v = ran answer is in
        row-moved number s free location v.0 old new answer v.2.0 first (instructions_left from) (instructions_left to) leads v.1 address moves v.2.1

    pub visit-refused : (answer : Result (Option ℕ) Error) → given ≡ Ok (Some answer) → (e : Error) → answer ≡ Err e
        → NextAnswer (may_allocate s free) s first (Err e) (before_last_row (state_in_numbers number location new) (instructions_left to))
    visit-refused answer is e refused =
        let v = ran answer is in
        row-refused number s free location v.0 old new answer v.2.0 first (instructions_left from) (instructions_left to) leads v.1 e refused

    pub visit-unreadable : (e : Error) → given ≡ Err e → NextAnswer (may_allocate s free) s first (Err e) (before_last_row (state_in_numbers number location new) (instructions_left to))
    visit-unreadable e is =
        let v = unread e is in
        subst (λ c. NextAnswer (may_allocate s free) s first (Err e) (before_last_row (state_in_numbers number location c) (instructions_left to))) (sym v.1)
        (row-unreadable number (Err e) (instructions_left from) (instructions_left to) v.0 (may_allocate s free) s first location old leads e refl)

    pub visit-last : given ≡ Ok None → NextAnswer (may_allocate s free) s first (row_due number s location new (Ok None)) (state_after number location new (instructions_left to) (Ok None))
    visit-last is =
        let v = ended is in
        subst (λ c. NextAnswer (may_allocate s free) s first (row_due number s location c (Ok None)) (state_after number location c (instructions_left to) (Ok None))) (sym v.1)
        (row-last number (Ok None) (instructions_left from) (instructions_left to) v.0 (may_allocate s free) s first location old leads refl)

  -- ---- as part of a CIE's initial instructions

  module _ (all : Readings Instruction) (leads : LeadsToCie (may_allocate s free) s fresh_state all (state_in_numbers number location old) (instructions_left from)) where
    pub visit-cie-stays : (answer : Result (Option ℕ) Error) → given ≡ Ok (Some answer) → answer ≡ Ok None
        → LeadsToCie (may_allocate s free) s fresh_state all (state_in_numbers number location new) (instructions_left to)
    visit-cie-stays answer is still =
        let v = ran answer is in
        cie-stays number s free location v.0 old new answer v.2.0 all (instructions_left from) (instructions_left to) leads v.1 still

    pub visit-cie-moves : (answer : Result (Option ℕ) Error) → given ≡ Ok (Some answer) → (address : ℕ) → answer ≡ Ok (Some address)
        → LeadsToCie (may_allocate s free) s fresh_state all (state_in_numbers number address new) (instructions_left to)
    visit-cie-moves answer is address moves =
        let v = ran answer is in
        cie-moves number s free location v.0 old new answer v.2.0 all (instructions_left from) (instructions_left to) leads v.1 address moves

    pub visit-cie-refuses : (answer : Result (Option ℕ) Error) → given ≡ Ok (Some answer) → (e : Error) → answer ≡ Err e → RunsInitialInstructions (may_allocate s free) s fresh_state all (Err e)
    visit-cie-refuses answer is e refused =
        let v = ran answer is in
        cie-refuses number s free location v.0 old new answer v.2.0 all (instructions_left from) (instructions_left to) leads v.1 e refused

    pub visit-cie-unread : (e : Error) → given ≡ Err e → RunsInitialInstructions (may_allocate s free) s fresh_state all (Err e)
    visit-cie-unread e is =
        let v = unread e is in
        cie-unread number (Err e) (instructions_left from) (instructions_left to) v.0 (may_allocate s free) s all (state_in_numbers number location old) leads e refl

    -- all are read: the context is as it was, and none is left
    pub visit-cie-ends : given ≡ Ok None → LeadsToCie (may_allocate s free) s fresh_state all (state_in_numbers number location new) (instructions_left from)
    visit-cie-ends is =
        subst (λ c. LeadsToCie (may_allocate s free) s fresh_state all (state_in_numbers number location c) (instructions_left from)) (sym (ended is).1) leads

  pub visit-none-left : given ≡ Ok None → instructions_left from ≡ no_values None
  visit-none-left is = (ended is).0.0

-- ---- the answers of a table

module _ (allocates : MayAllocate ℕ) (s : Setting) where
  -- a table whose last row was returned stays
  pub table-ended : (p : TableState (State ℕ) ℕ) → p.has_ended ≡ true → NextAnswer allocates s p (Ok None) p
  table-ended p is = let same : after_last_row p.so_far p.left ≡ p = λ k. record { so_far = p.so_far; left = p.left; has_ended = sym is k } in subst (λ q. NextAnswer allocates s q (Ok None) q) same (no_row p.so_far p.left)

  module _ {T : Type 0} (number : T → ℕ) (location : ℕ) (old after : ContextState T) (left rest : Readings Instruction) (has_ended : Bool) (answer : Result (Option ℕ) Error)
      (runs : has_ended ≡ false)
      (next : NextAnswer allocates s (before_last_row (state_in_numbers number location old) left) (row_due number s location after answer) (state_after number location after rest answer)) where
    abbrev before : TableState (State ℕ) ℕ
    before = record { so_far = state_in_numbers number location old; left = left; has_ended = has_ended }

    from_before : (given : Result (Option ℕ) Error) → answer ≡ given → NextAnswer allocates s before (row_due number s location after given) (state_after number location after rest given)
    from_before given is =
        let same : before_last_row (state_in_numbers number location old) left ≡ before = λ k. record { so_far = state_in_numbers number location old; left = left; has_ended = sym runs k } in
        subst (λ p. NextAnswer allocates s p (row_due number s location after given) (state_after number location after rest given)) same
        (subst (λ r. NextAnswer allocates s (before_last_row (state_in_numbers number location old) left) (row_due number s location after r) (state_after number location after rest r)) is next)

    pub table-refuses : (e : Error) → answer ≡ Err e → NextAnswer allocates s before (Err e) (record { so_far = state_in_numbers number location after; left = rest; has_ended = has_ended })
    table-refuses e is =
        subst (λ b. NextAnswer allocates s before (Err e) (record { so_far = state_in_numbers number location after; left = rest; has_ended = b })) (sym runs) (from_before (Err e) is)

-- how many answers a table still has at most
abbrev pub answers_left : TableState (State ℕ) ℕ → ℕ
answers_left p = length p.left.values + cond p.has_ended 0 1

-- a row is one of the answers
pub fewer-answers : (allocates : MayAllocate ℕ) (s : Setting) (p : TableState (State ℕ) ℕ) (row : Row ℕ) (answer : Result (Option (Row ℕ)) Error) (q : TableState (State ℕ) ℕ) → answer ≡ Ok (Some row) → NextAnswer allocates s p answer q → answers_left q < answers_left p
fewer-answers allocates s p row answer q is (passes x y i rest answer' q' still stepped next) = let fewer = fewer-answers allocates s (before_last_row y rest) row answer' q' is next in omega (arith, fewer)
fewer-answers allocates s p row answer q is (ends_row x y i rest moves stepped) = omega arith
fewer-answers allocates s p row answer q is (refuses x i rest e refusal) = absurd (let wrong : ◌≡◌ {A = Result (Option (Row ℕ)) Error} (Err e) (Ok (Some row)) = is in cc)
fewer-answers allocates s p row answer q is (cannot_read x e) = absurd (let wrong : ◌≡◌ {A = Result (Option (Row ℕ)) Error} (Err e) (Ok (Some row)) = is in cc)
fewer-answers allocates s p row answer q is (last_row x) = omega arith
fewer-answers allocates s p row answer q is (no_row x left) = absurd (let wrong : ◌≡◌ {A = Result (Option (Row ℕ)) Error} (Ok None) (Ok (Some row)) = is in cc)

-- ---- without a machine

pub keeps-on : (s : Setting) (free : Bool) (p : TableState (State ℕ) ℕ) (answer : Result (Option (Row ℕ)) Error) (q : TableState (State ℕ) ℕ) → GivesNextAnswer s free p answer q → AnswersWithoutMachine s free p answer q
keeps-on s free p answer q next = record { from = keeps_next (may_allocate s free) s p answer q next }

pub comes-due : (s : Setting) (free : Bool) (p : TableState (State ℕ) ℕ) (answer : Result (Option (Row ℕ)) Error) (q : TableState (State ℕ) ℕ) → GivesNextAnswer s free p answer q → IsNextOrMemory s free p answer q
comes-due s free p answer q next = record {
  due = next_or_memory (may_allocate s free) s p answer q next;
  fixed = λ is_fixed. next_is_due (may_allocate s free) s (fixed_never s free is_fixed.0 is_fixed.1 is_fixed.2) p answer q next;
}

pub keeps-expressions : (s : Setting) (free : Bool) (p : TableState (State ℕ) ℕ) (answer : Result (Option (Row ℕ)) Error) (q : TableState (State ℕ) ℕ) → GivesNextAnswer s free p answer q → KeepsExpressionsIn p answer q
keeps-expressions s free p answer q next section each =
    let held = next_holds (LiesIn section) (may_allocate s free) s p answer q next each in (held.1, held.0)

pub keeps-program : (s : Setting) (free : Bool) (cie : Readings Instruction) (expected : Result (State ℕ) Error) → RunsInitialInstructions (may_allocate s free) s fresh_state cie expected → AcceptsCieProgram s free cie expected
keeps-program s free cie (Ok x) runs = keeps_cie (may_allocate s free) s fresh_state cie (Ok x) runs [] (stands_fresh s)
keeps-program s free cie (Err e) runs = keeps_cie (may_allocate s free) s fresh_state cie (Err e) runs [] (stands_fresh s)

-- ---- the answer for an address

module _ (s : Setting) (free : Bool) (cie fde : Readings Instruction) (address : ℕ) where
  -- what is found from a place on is the answer of the FDE
  abbrev pub LeadsToAnswer : TableState (State ℕ) ℕ → Type 0
  LeadsToAnswer p = (result : Result (Row ℕ) Error) → FindsRow (GivesNextAnswer s free) address p result → AnswersFde (may_allocate s free) s cie fde address result

  pub answer-starts : (expected : Result (State ℕ) Error) (p : TableState (State ℕ) ℕ) → RunsInitialInstructions (may_allocate s free) s fresh_state cie expected → expected ≡ Ok p.so_far → p.left ≡ fde → p.has_ended ≡ false → LeadsToAnswer p
  answer-starts expected p runs is left going_on result finds =
      by_rows p.so_far result (subst (λ r. RunsInitialInstructions (may_allocate s free) s fresh_state cie r) is runs)
      (subst (λ q. FindsRow (GivesNextAnswer s free) address q result) (λ k. record { so_far = p.so_far; left = left k; has_ended = going_on k }) finds)

  pub answer-refused : (expected : Result (State ℕ) Error) (e : Error) → RunsInitialInstructions (may_allocate s free) s fresh_state cie expected → expected ≡ Err e → AnswersFde (may_allocate s free) s cie fde address (Err e)
  answer-refused expected e runs is = by_cie e (subst (λ r. RunsInitialInstructions (may_allocate s free) s fresh_state cie r) is runs)

  module _ {T : Type 0} (number : T → ℕ) (p : TableState (State ℕ) ℕ) (leads : LeadsToAnswer p) (t : Setting) (same : t ≡ s) (given : Result (Option (Bor (Row T))) Error) (q : TableState (State ℕ) ℕ) (context : ContextState T) (holds_row : Bool)
      (lent : LendsNextRow number t free p given q context holds_row) where
    out : LendsNextRow number s free p given q context holds_row
    out = subst (λ r. LendsNextRow number r free p given q context holds_row) same lent

    abbrev Numbered : Result (Option (Bor (Row T))) Error → Result (Option (Row ℕ)) Error
    Numbered r = map_ok (option_map (λ row. map_row number row.now)) r

    next_is : (answer : Result (Option (Bor (Row T))) Error) → given ≡ answer → GivesNextAnswer s free p (Numbered answer) q
    next_is answer is = subst (λ r. GivesNextAnswer s free p (Numbered r) q) is out.next

    row-is : (row : Bor (Row T)) → given ≡ Ok (Some row) → row.now ≡ context.row
    row-is row is = subst (λ r. IfOk r (λ found. IfSome found (λ row. row.now ≡ context.row))) is out.row

    pub answer-goes-on : (row : Bor (Row T)) → given ≡ Ok (Some row) → row_contains address row.now ≡ false → LeadsToAnswer q
    answer-goes-on row is outside result finds = leads result (goes_on p q (map_row number row.now) result (next_is (Ok (Some row)) is) outside finds)

    pub answer-row : (row : Bor (Row T)) → given ≡ Ok (Some row) → row_contains address row.now ≡ true → AnswersFde (may_allocate s free) s cie fde address (Ok (map_row number context.row))
    answer-row row is inside =
        subst (λ r. AnswersFde (may_allocate s free) s cie fde address (Ok (map_row number r))) (row-is row is)
        (leads _ (contains_it p q (map_row number row.now) (next_is (Ok (Some row)) is) inside))

    pub answer-refusal : (e : Error) → given ≡ Err e → AnswersFde (may_allocate s free) s cie fde address (Err e)
    answer-refusal e is = leads _ (is_refused p q e (next_is (Err e) is))

    pub answer-none : given ≡ Ok None → AnswersFde (may_allocate s free) s cie fde address (Err NoUnwindInfoForAddress)
    answer-none is = leads _ (comes_to_end p q (next_is (Ok None) is))

    pub answer-fewer : (row : Bor (Row T)) → given ≡ Ok (Some row) → answers_left q < answers_left p
    answer-fewer row is = fewer-answers (may_allocate s free) s p (map_row number row.now) _ q (ap Numbered is) out.next

pub row-inside : {T : Type 0} (address : ℕ) (row : Row T) → (row.start_address ≤ address) × (address < row.end_address) → row_contains address row ≡ true
row-inside address row inside = let above = inside.0 in let below = inside.1 in grind (arith, nat_tests)

pub row-outside : {T : Type 0} (address : ℕ) (row : Row T) → ¬ ((row.start_address ≤ address) × (address < row.end_address)) → row_contains address row ≡ false
row-outside address row outside = let apart : (row.start_address ≤ address) → address < row.end_address → ⊥ = λ above below. outside (above, below) in grind (arith, nat_tests)
