-- The frames of a walk where less of the memory is known: they are those where more is, unless something is lacking.
use Rattle.std.proofs.Common.{◌≡◌, ◌∙◌, ◌⊎◌, ◌<◌, ◌≤◌, ◌==◌, ℕ, Bool, true, false, List, [], ◌∷◌, Option, Some, None, Result, Ok, Err, IfOk, OnErr, length, map, refl, sym, ap, subst, inl, inr, true≢false, slice_index_or, arith}
use Rattle.std.specs.Prelude.{if◌then◌else◌}
use Rattle.std.specs.FinMap as fin
use Rattle.std.specs.List.{range_with_len}
use Rattle.std.proofs.lemmas.Bool.{cases_lt}
use Rattle.std.proofs.lemmas.List.{get_or_past}
use Rattle.std.proofs.lemmas.List.FromFn.{get_or-map-range_with_len, length-map-range_with_len}
use Rattle.cfi_read_core.specs.declared.common.Register.{Register}
use Rattle.cfi_read_core.specs.declared.error.Error.{Error}
use Rattle.cfi_read_core.specs.declared.instruction.UnwindExpression.{UnwindExpression}
use Rattle.cfi_read_core.specs.ExpressionPlaces.{expression_bytes}
use Rattle.cfi_read_core.specs.MappedInstructions.{map_expression}
use Rattle.cfi_read_core.specs.ReadFunctions.{Extent, Position}
use Rattle.cfi_read_core.specs.ReaderCalls.{map_ok, read_at}
use Rattle.cfi_state.specs.declared.table.rules.CfaRule.{CfaRule}
use Rattle.cfi_state.specs.declared.table.rules.CfaRule.TheVariants as cfa
use Rattle.cfi_state.specs.declared.table.rules.RegisterRule.{RegisterRule}
use Rattle.cfi_state.specs.declared.table.rules.RegisterRule.TheVariants as rule
use Rattle.cfi_state.specs.Machine.{Parts}
use Rattle.cfi_state.specs.Row.{Row}
use Rattle.cfi_entry.specs.Augmentations.{is_trampoline}
use Rattle.cfi_entry.specs.Fdes.{Fde}
use Rattle.cfi_entry.specs.Sections.{Section}
use Rattle.cfi_entry.specs.SectionViews.{debug_frame_view, eh_frame_view}
use Rattle.cfi_compiled.specs.CompiledTables.{TableContents, frame_at}
use Rattle.cfi_compiled.specs.FrameParts.{FrameParts}
use Rattle.std.specs.Borrow.{Bor}
use Rattle.cfi_expression.specs.declared.error.FrameError.{FrameError}
use Rattle.cfi_expression.specs.declared.error.FrameError.TheVariants.{NoRow}
use Rattle.cfi_expression.specs.Frames.{Frame, known}
use Rattle.cfi_expression.proofs.LesserFrames.{AreKnown, Extends, Same, is_lacking, lacks, same_number, same_register, same_self, same_value}
use Rattle.cfi_step.specs.declared.abi.Abi.{Abi}
use Rattle.cfi_step.specs.declared.step.Caller.{Caller}
use Rattle.cfi_step.specs.declared.module.DebugTable.{DebugTable}
use Rattle.cfi_step.specs.declared.module.LoadedModule.{LoadedModule}
use Rattle.cfi_step.specs.declared.walk.End.{End}
use Rattle.cfi_step.specs.declared.walk.End.TheVariants.{Failed, NoModule}
use Rattle.cfi_step.specs.declared.walk.StackFrame.{StackFrame}
use Rattle.cfi_step.specs.declared.walk.Start.{Start}
use Rattle.cfi_step.specs.Callers.{AreRecovered, by_rule, cfa_of, expression_value, found_value, is_signed, on_ok, pc_of, read_part, recovered, recovered_by, return_by, saved_at, value_at}
use Rattle.cfi_step.specs.Modules.{IsStepByDebug, IsStepIn, IsStepOr, IsStepVia, address_in_file, first_module, module_section}
use Rattle.cfi_step.specs.Steps.{IsStepByRow, IsStepBy, caller_by}
use Rattle.cfi_step.specs.StepsByTable.{IsStepByFrame}
use Rattle.cfi_step.specs.Walks.{IsStepAmong, IsStepOf, IsStepOver, IsWalkAmong, IsWalkBy, State, checked, resumed, written, address_of}

-- ---- one result after the other

same_then : {A B : Type 0} (r r' : Result A FrameError) (next next' : A → Result B FrameError) → Same r r' → ((x : A) → Same (next x) (next' x)) → Same (on_ok next r) (on_ok next' r')
same_then (Ok x) r' next next' first others = record { same = λ whole. (others x).same whole ∙ ap (on_ok next') (first.same refl) }
same_then (Err e) r' next next' first others = record { same = λ whole. ap (on_ok next') (first.same whole) }

same_map : {A B : Type 0} (f : A → B) (r r' : Result A FrameError) → Same r r' → Same (map_ok f r) (map_ok f r')
same_map f (Ok x) r' first = record { same = λ whole. ap (map_ok f) (first.same refl) }
same_map f (Err e) r' first = record { same = λ whole. ap (map_ok f) (first.same whole) }

-- ---- the value of a register, which may be known only where more is

abbrev unsure : Result (Option ℕ) FrameError → Bool
unsure (Ok None) = true
unsure (Ok (Some n)) = false
unsure (Err e) = is_lacking e

record Kept (r r' : Result (Option ℕ) FrameError) : Type 0 where
  kept : unsure r ≡ false → r ≡ r'

kept_same : (r r' : Result (Option ℕ) FrameError) → Same r r' → Kept r r'
kept_same (Ok None) r' is = record { kept = λ sure. is.same refl }
kept_same (Ok (Some n)) r' is = record { kept = λ sure. is.same refl }
kept_same (Err e) r' is = record { kept = λ sure. is.same sure }

kept_self : (r : Result (Option ℕ) FrameError) → Kept r r
kept_self r = record { kept = λ sure. refl }

kept_known : (o o' : Option ℕ) → ((n : ℕ) → o ≡ Some n → o' ≡ Some n) → Kept (Ok o) (Ok o')
kept_known (Some n) o' more = record { kept = λ sure. ap (λ (o : Option ℕ). Ok o) (sym (more n refl)) }
kept_known None o' more = record { kept = λ sure. absurd (true≢false sure) }

kept_if : {x x' y y' : Result (Option ℕ) FrameError} (b : Bool) → Kept x x' → Kept y y' → Kept (if b then x else y) (if b then x' else y')
kept_if true first second = first
kept_if false first second = second

given_more : (r r' : Result (Option ℕ) FrameError) → Kept r r' → (n : ℕ) → found_value r ≡ Some n → found_value r' ≡ Some n
given_more (Ok None) r' is n there = absurd (cc)
given_more (Ok (Some v)) r' is n there = ap found_value (sym (is.kept refl)) ∙ there
given_more (Err e) r' is n there = absurd (cc)

-- ---- a step

-- what it writes where more is known, in this room
abbrev Follows : Result Caller FrameError → List (Option ℕ) → List (Option ℕ) → List (Option ℕ) → Type 0
Follows (Ok c) room caller caller' = (length caller' ≡ length room) × AreKnown caller caller'
Follows (Err e) room caller caller' = caller' ≡ room

record More (IsStep : List (Option ℕ) → Type 0) (result : Result Caller FrameError) (room caller : List (Option ℕ)) : Type 0 where
  written : List (Option ℕ)
  is_step : IsStep written
  follows : Follows result room caller written

more_by : {P Q : List (Option ℕ) → Type 0} (result : Result Caller FrameError) (room caller : List (Option ℕ)) → ((c : List (Option ℕ)) → P c → Q c) → More P result room caller → More Q result room caller
more_by result room caller f m = record { written = m.written; is_step = f m.written m.is_step; follows = m.follows }

module _ {m m' : ℕ → ℕ → Option ℕ} {rs rs' : List (Option ℕ)} (size : ℕ) (more : Extends m m') (are : AreKnown rs rs') where
  abbrev less : Frame
  less = record { registers = rs; memory = m; size = size }

  abbrev all : Frame
  all = record { registers = rs'; memory = m'; size = size }

  module _ (section : Position) (abi : Abi) where
    same_value_at : (initial : Option ℕ) (r : Result Extent Error) → Same (value_at less section abi initial r) (value_at all section abi initial r)
    same_value_at initial (Ok extent) = same_value size more are (read_part section extent) initial abi.max_iterations
    same_value_at initial (Err e) = same_self _

    same_expression : (e : UnwindExpression ℕ) (initial : Option ℕ) → Same (expression_value less section abi e initial) (expression_value all section abi e initial)
    same_expression e initial = same_value_at initial (read_at section (expression_bytes e))

    same_saved : (a : ℕ) → Same (saved_at less a) (saved_at all a)
    same_saved a = same_map Some _ _ (same_number size more are a size)

    module _ {T : Type 0} (number : T → ℕ) where
      same_cfa : (r : CfaRule T) → Same (cfa_of less section abi number r) (cfa_of all section abi number r)
      same_cfa (cfa.RegisterAndOffset r offset) = same_then _ _ _ _ (same_register size more are r) (λ value. same_self _)
      same_cfa (cfa.Expression e) = same_expression (map_expression number e) None

      kept_by_rule : (the_cfa k : ℕ) (r : RegisterRule T) → Kept (by_rule less section abi number the_cfa k r) (by_rule all section abi number the_cfa k r)
      kept_by_rule the_cfa k rule.SameValue = kept_known _ _ (are.each k)
      kept_by_rule the_cfa k (rule.Offset n) = kept_same _ _ (same_saved _)
      kept_by_rule the_cfa k (rule.Register r) = kept_known _ _ (are.each r.0)
      kept_by_rule the_cfa k (rule.Expression e) =
          kept_same _ _ (same_then _ _ (saved_at less) (saved_at all) (same_expression (map_expression number e) (Some the_cfa)) (λ a. same_saved a))
      kept_by_rule the_cfa k (rule.ValExpression e) = kept_same _ _ (same_map Some _ _ (same_expression (map_expression number e) (Some the_cfa)))
      kept_by_rule the_cfa k rule.Undefined = kept_self _
      kept_by_rule the_cfa k (rule.ValOffset n) = kept_self _
      kept_by_rule the_cfa k rule.Architectural = kept_self _
      kept_by_rule the_cfa k (rule.Constant n) = kept_self _

      kept_recovered_by : (the_cfa k : ℕ) (r : Option (RegisterRule T)) → Kept (recovered_by less section abi number the_cfa k r) (recovered_by all section abi number the_cfa k r)
      kept_recovered_by the_cfa k None = kept_if (k == abi.stack_pointer.0) (kept_self _) (kept_known _ _ (are.each k))
      kept_recovered_by the_cfa k (Some r) = kept_by_rule the_cfa k r

      kept_recovered : (parts : Parts T) (the_cfa k : ℕ) → Kept (recovered less section abi number parts the_cfa k) (recovered all section abi number parts the_cfa k)
      kept_recovered parts the_cfa k = kept_recovered_by the_cfa k (fin.get parts.rules k)

      same_pc : (signed : Bool) (ra : Register) (r r' : Result (Option ℕ) FrameError) → Kept r r' → Same (on_ok (pc_of less section abi number signed ra) r) (on_ok (pc_of all section abi number signed ra) r')
      same_pc signed ra (Ok (Some a)) r' is = record { same = λ whole. ap (on_ok (pc_of all section abi number signed ra)) (is.kept refl) }
      same_pc signed ra (Ok None) r' is = record { same = λ whole. absurd (true≢false whole) }
      same_pc signed ra (Err e) r' is = record { same = λ whole. ap (on_ok (pc_of all section abi number signed ra)) (is.kept whole) }

      same_return_by : (parts : Parts T) (the_cfa : ℕ) (ra : Register) (r : Option (RegisterRule T)) → Same (return_by less section abi number parts the_cfa ra r) (return_by all section abi number parts the_cfa ra r)
      same_return_by parts the_cfa ra (Some rule.Undefined) = same_self _
      same_return_by parts the_cfa ra r = same_pc (is_signed (fin.get parts.rules 34)) ra _ _ (kept_recovered_by the_cfa ra.0 r)

      same_caller : (ra : Register) (trampoline : Bool) (parts : Parts T) → Same (caller_by less section abi number ra trampoline parts) (caller_by all section abi number ra trampoline parts)
      same_caller ra trampoline parts =
          same_then _ _ _ _ (same_cfa parts.cfa) (λ the_cfa. same_map _ _ _ (same_return_by parts the_cfa ra (fin.get parts.rules ra.0)))

      -- ---- the registers

      abbrev value_in_all : Parts T → ℕ → ℕ → Option ℕ
      value_in_all parts the_cfa k = found_value (recovered all section abi number parts the_cfa k)

      abbrev registers_in_all : Parts T → ℕ → ℕ → List (Option ℕ)
      registers_in_all parts the_cfa count = map (value_in_all parts the_cfa) (range_with_len 0 count)

      in_all : (parts : Parts T) (the_cfa count k : ℕ) → k < count → slice_index_or (registers_in_all parts the_cfa count) k None ≡ value_in_all parts the_cfa k
      in_all parts the_cfa count k below = get_or-map-range_with_len (value_in_all parts the_cfa) 0 count k k None below (omega arith)

      recovered_in_all : (parts : Parts T) (the_cfa count : ℕ) → AreRecovered all section abi number parts the_cfa (length (registers_in_all parts the_cfa count)) (registers_in_all parts the_cfa count)
      recovered_in_all parts the_cfa count =
          let long = length-map-range_with_len (value_in_all parts the_cfa) 0 count in
          record { each = λ k below. in_all parts the_cfa count k (omega (arith, below, long)) }

      known_in_all : (parts : Parts T) (the_cfa : ℕ) (caller : List (Option ℕ)) → AreRecovered less section abi number parts the_cfa (length caller) caller → (k n : ℕ) → known caller k ≡ Some n → (k < length caller) ⊎ (length caller ≤ k)
          → known (registers_in_all parts the_cfa (length caller)) k ≡ Some n
      known_in_all parts the_cfa caller are_less k n is (inl below) =
          in_all parts the_cfa (length caller) k below ∙ given_more _ _ (kept_recovered parts the_cfa k) n (sym (are_less.each k below) ∙ is)
      known_in_all parts the_cfa caller are_less k n is (inr past) = absurd (let none = get_or_past caller k None past in let both : None ≡ Some n = sym none ∙ is in cc)

      -- ---- the caller

      abbrev IsBy : Frame → Register → Bool → Parts T → Result Caller FrameError → List (Option ℕ) → Type 0
      IsBy frame ra trampoline parts result caller =
          (result ≡ caller_by frame section abi number ra trampoline parts)
          × IfOk result (λ c. AreRecovered frame section abi number parts c.cfa (length caller) caller)

      caller_more : (ra : Register) (trampoline : Bool) (parts : Parts T) (result : Result Caller FrameError) (room caller : List (Option ℕ)) → length caller ≡ length room → lacks result ≡ false
          → IsBy less ra trampoline parts result caller → More (IsBy all ra trampoline parts result) result room caller
      caller_more ra trampoline parts (Ok c) room caller long whole (is, are_less) = record {
        written = registers_in_all parts c.cfa (length caller);
        is_step = (is ∙ (same_caller ra trampoline parts).same (ap lacks (sym is)), recovered_in_all parts c.cfa (length caller));
        follows = (length-map-range_with_len (value_in_all parts c.cfa) 0 (length caller) ∙ long, record { each = λ k n there. known_in_all parts c.cfa caller are_less k n there (cases_lt k (length caller)) });
      }
      caller_more ra trampoline parts (Err e) room caller long whole (is, are_less) = record {
        written = room;
        is_step = (is ∙ (same_caller ra trampoline parts).same (ap lacks (sym is) ∙ whole), tt);
        follows = refl;
      }

  -- ---- by a row, or the error in its place

  no_row : (e : Error) (result : Result Caller FrameError) (room caller : List (Option ℕ)) → result ≡ Err (NoRow e) → Follows result room caller room
  no_row e (Ok c) room caller is = absurd (cc)
  no_row e (Err f) room caller is = refl

  module _ (section : Position) (abi : Abi) {T : Type 0} (number : T → ℕ) (result : Result Caller FrameError) (room caller : List (Option ℕ)) (long : length caller ≡ length room) (whole : lacks result ≡ false) where
    by_row : (ra : Register) (trampoline : Bool) (row : Result (Row T) Error) → IsStepByRow less section abi number ra trampoline row result caller → More (IsStepByRow all section abi number ra trampoline row result) result room caller
    by_row ra trampoline (Ok row) is = caller_more section abi number ra trampoline row.parts result room caller long whole is
    by_row ra trampoline (Err e) is = record { written = room; is_step = is; follows = no_row e result room caller is }

    by_fde : (rule_limit stack_limit : Option ℕ) (copies_free : Bool) (entries : Section) (a : ℕ) (found : Result Fde Error) → IsStepBy less section abi number rule_limit stack_limit copies_free entries a found result caller
        → More (IsStepBy all section abi number rule_limit stack_limit copies_free entries a found result) result room caller
    by_fde rule_limit stack_limit copies_free entries a (Ok fde) (row, of_fde, is) =
        more_by result room caller (λ c so. (row, of_fde, so)) (by_row fde.cie.return_address_register (is_trampoline fde.cie.augmentation) row is)
    by_fde rule_limit stack_limit copies_free entries a (Err e) is = record { written = room; is_step = is; follows = no_row e result room caller is }

  module _ (section : Position) (abi : Abi) (result : Result Caller FrameError) (room caller : List (Option ℕ)) (long : length caller ≡ length room) (whole : lacks result ≡ false) where
    by_frame : (found : Result FrameParts Error) → IsStepByFrame less section abi found result caller → More (IsStepByFrame all section abi found result) result room caller
    by_frame (Ok found) is = caller_more section abi (λ (n : ℕ). n) found.return_address found.is_signal_trampoline found.parts result room caller long whole is
    by_frame (Err e) is = record { written = room; is_step = is; follows = no_row e result room caller is }

  -- ---- by a module

  module _ {R T : Type 0} (position : R → Position) (number : T → ℕ) (abi : Abi) (rule_limit stack_limit : Option ℕ) (copies_free : Bool) (loaded : LoadedModule R) (result : Result Caller FrameError)
      (room caller : List (Option ℕ)) (long : length caller ≡ length room) (whole : lacks result ≡ false) where
    via : (table : Option (Bor TableContents)) (a : ℕ) → IsStepVia position number less abi rule_limit stack_limit copies_free table loaded a result caller
        → More (IsStepVia position number all abi rule_limit stack_limit copies_free table loaded a result) result room caller
    via None a (found, (found_in, covers, is)) =
        more_by result room caller (λ c so. (found, (found_in, covers, so)))
        (by_fde (eh_frame_view position loaded.frame).position abi number result room caller long whole rule_limit stack_limit copies_free (module_section position size loaded) a found is)
    via (Some table) a is = by_frame (eh_frame_view position loaded.frame).position abi result room caller long whole (frame_at table.now a) is

  module _ {R T : Type 0} (position : R → Position) (number : T → ℕ) (abi : Abi) (rule_limit stack_limit : Option ℕ) (copies_free : Bool) (loaded : LoadedModule R) (a : ℕ) (result : Result Caller FrameError)
      (room caller : List (Option ℕ)) (long : length caller ≡ length room) (whole : lacks result ≡ false) where
    abbrev by_less : Result Caller FrameError → List (Option ℕ) → Type 0
    by_less = IsStepVia position number less abi rule_limit stack_limit copies_free loaded.compiled loaded a

    abbrev by_all : Result Caller FrameError → List (Option ℕ) → Type 0
    by_all = IsStepVia position number all abi rule_limit stack_limit copies_free loaded.compiled loaded a

    -- of two sections the first that has an FDE
    either : (debug : Option (DebugTable R)) → IsStepOr debug by_less (λ debug. IsStepByDebug position less abi debug a) result caller
        → More (IsStepOr debug by_all (λ debug. IsStepByDebug position all abi debug a) result) result room caller
    either None is = via position number abi rule_limit stack_limit copies_free loaded result room caller long whole loaded.compiled a is
    either (Some debug) (first, left, is, inl (none, other)) =
        let before = via position number abi rule_limit stack_limit copies_free loaded first left left refl (ap lacks none) loaded.compiled a is in
        more_by result room caller (λ c so. (first, before.written, before.is_step, inl (none, so)))
        (by_frame (debug_frame_view position debug.frame.now).position abi result room caller long whole (frame_at debug.compiled.now a) other)
    either (Some debug) (first, left, is, inr (found, same, same_caller)) =
        let here : by_less result caller = subst (λ (r : Result Caller FrameError). by_less r caller) (sym same) (subst (λ (c : List (Option ℕ)). by_less first c) (sym same_caller) is) in
        more_by result room caller (λ c so. (first, c, subst (λ (r : Result Caller FrameError). by_all r c) same so, inr (found, same, refl)))
        (via position number abi rule_limit stack_limit copies_free loaded result room caller long whole loaded.compiled a here)

  module _ {R T : Type 0} (position : R → Position) (number : T → ℕ) (abi : Abi) (rule_limit stack_limit : Option ℕ) (copies_free : Bool) (loaded : LoadedModule R) (result : Result Caller FrameError)
      (room caller : List (Option ℕ)) (long : length caller ≡ length room) (whole : lacks result ≡ false) where
    in_module : (a : ℕ) → IsStepIn position number less abi rule_limit stack_limit copies_free loaded a result caller → More (IsStepIn position number all abi rule_limit stack_limit copies_free loaded a result) result room caller
    in_module a is = either position number abi rule_limit stack_limit copies_free loaded (address_in_file loaded.bias a) result room caller long whole loaded.debug is

-- ---- a walk

-- whether a walk ends for something that is lacking
abbrev pub lacks_end : End → Bool
lacks_end (Failed e) = is_lacking e
lacks_end end = false

-- the same of a step, by which ends lack something
abbrev pub lacks_by : (End → Bool) → Result Caller End → Bool
lacks_by lacking (Ok c) = false
lacks_by lacking (Err end) = lacking end

abbrev pub lacks_step : Result Caller End → Bool
lacks_step = lacks_by lacks_end

-- what a step writes where more is known
abbrev pub Goes : Result Caller End → List (Option ℕ) → List (Option ℕ) → Type 0
Goes (Ok c) found found' = (length found ≡ length found') × AreKnown found found'
Goes (Err end) found found' = Unit {0}

raw_whole : (at : Start) (raw : Result Caller FrameError) (step : Result Caller End) → step ≡ checked at raw → lacks_step step ≡ false → lacks raw ≡ false
raw_whole at (Ok c) step is whole = refl
raw_whole at (Err e) step is whole = sym (ap lacks_step is) ∙ whole

goes_on : (raw : Result Caller FrameError) (at : Start) (step : Result Caller End) (room room' found found' : List (Option ℕ)) → step ≡ checked at raw → length found ≡ length room → length room ≡ length room' → Follows raw room' found found' → Goes step found found'
goes_on (Ok c) at (Ok d) room room' found found' is long same (long', known) = (long ∙ (same ∙ sym long'), known)
goes_on (Err e) at (Ok d) room room' found found' is long same follows = absurd (cc)
goes_on raw at (Err end) room room' found found' is long same follows = tt

long_after : (raw : Result Caller FrameError) (room found found' : List (Option ℕ)) → Follows raw room found found' → length found' ≡ length room
long_after (Ok c) room found found' (long, known) = long
long_after (Err e) room found found' is = ap length is

left_after : (raw : Result Caller FrameError) (room found found' : List (Option ℕ)) → Follows raw room found found' → OnErr raw (found' ≡ room)
left_after (Ok c) room found found' follows = tt
left_after (Err e) room found found' is = is

last_whole : (lacking : End → Bool) (step : Result Caller End) (end : End) → resumed step ≡ Err end → lacking end ≡ false → lacks_by lacking step ≡ false
last_whole lacking (Ok c) end is whole = refl
last_whole lacking (Err e) end is whole = let same : e ≡ end = cc in ap lacking same ∙ whole

next_whole : (lacking : End → Bool) (step : Result Caller End) (next : Start) → resumed step ≡ Ok next → lacks_by lacking step ≡ false
next_whole lacking (Ok c) next is = refl
next_whole lacking (Err e) next is = absurd (cc)

next_goes : (step : Result Caller End) (next : Start) (found found' : List (Option ℕ)) → resumed step ≡ Ok next → Goes step found found' → (length found ≡ length found') × AreKnown found found'
next_goes (Ok c) next found found' is goes = goes
next_goes (Err e) next found found' is goes = absurd (cc)

abbrev pub state : Start → List (Option ℕ) → List (Option ℕ) → State
state at rs room = record { at = at; registers = rs; caller = room }

-- the same step where more is known
pub record Stepped (IsStep : List (Option ℕ) → Type 0) (step : Result Caller End) (found : List (Option ℕ)) : Type 0 where
  pub written : List (Option ℕ)
  pub is_step : IsStep written
  pub goes : Goes step found written

-- each step that ends for nothing that is lacking is also one where more is known
abbrev pub AreMore : (End → Bool) → (State → Result Caller End → List (Option ℕ) → Type 0) → (State → Result Caller End → List (Option ℕ) → Type 0) → Type 0
AreMore lacking IsLess IsAll =
    (at : Start) (rs rs' room room' : List (Option ℕ)) → AreKnown rs rs' → length room ≡ length room' → (step : Result Caller End) (found : List (Option ℕ)) → lacks_by lacking step ≡ false
    → IsLess (state at rs room) step found → Stepped (IsAll (state at rs' room') step) step found

module _ {R T : Type 0} (position : R → Position) (number : T → ℕ) {m m' : ℕ → ℕ → Option ℕ} (more : Extends m m') (size : ℕ) (abi : Abi) (rule_limit stack_limit : Option ℕ) (copies_free : Bool) where
  by_module : (at : Start) (rs rs' room room' : List (Option ℕ)) → AreKnown rs rs' → length room ≡ length room' → (loaded : Option (LoadedModule R)) (step : Result Caller End) (found : List (Option ℕ)) → lacks_step step ≡ false
      → IsStepOf (IsStepOver position number m size abi rule_limit stack_limit copies_free) loaded (state at rs room) step found
      → Stepped (IsStepOf (IsStepOver position number m' size abi rule_limit stack_limit copies_free) loaded (state at rs' room') step) step found
  by_module at rs rs' room room' are same None step found whole (none, left) = record { written = room'; is_step = (none, refl); goes = no_goes step none }
    where
      no_goes : (step : Result Caller End) → step ≡ Err NoModule → Goes step found room'
      no_goes (Ok c) is = absurd (cc)
      no_goes (Err end) is = tt
  by_module at rs rs' room room' are same (Some loaded) step found whole (raw, is, long, left, checks) =
      let m = in_module size more are position number abi rule_limit stack_limit copies_free loaded raw room' found (long ∙ same) (raw_whole at raw step checks whole) (address_of (state at rs room)) is in
      record {
        written = m.written;
        is_step = (raw, m.is_step, long_after raw room' found m.written m.follows, left_after raw room' found m.written m.follows, checks);
        goes = goes_on raw at step room room' found m.written checks long same m.follows;
      }

  module _ (modules : List (LoadedModule R)) where
    abbrev pub IsLess : State → Result Caller End → List (Option ℕ) → Type 0
    IsLess = IsStepAmong position number m size abi rule_limit stack_limit copies_free modules

    abbrev pub IsAll : State → Result Caller End → List (Option ℕ) → Type 0
    IsAll = IsStepAmong position number m' size abi rule_limit stack_limit copies_free modules

    pub steps_more : AreMore lacks_end IsLess IsAll
    steps_more at rs rs' room room' are same step found whole is = by_module at rs rs' room room' are same (first_module modules (address_of (state at rs room))) step found whole is

-- ---- by any steps

module _ (lacking : End → Bool) (IsLess IsAll : State → Result Caller End → List (Option ℕ) → Type 0) (more : AreMore lacking IsLess IsAll) where
  -- the same frames, and the same end; more registers may be known in the last one
  pub record Walked (s : State) (frames : List StackFrame) (end : End) : Type 0 where
    pub registers : List (Option ℕ)
    pub caller : List (Option ℕ)
    pub walked : IsWalkBy written IsAll s frames end registers caller

  walk_more : (frames : List StackFrame) (at : Start) (rs rs' room room' registers caller : List (Option ℕ)) (end : End) → AreKnown rs rs' → length room ≡ length room' → lacking end ≡ false
      → IsWalkBy written IsLess (state at rs room) frames end registers caller → Walked (state at rs' room') frames end
  walk_more [] at rs rs' room room' registers caller end are same whole (full, left, left_too) = record { registers = rs'; caller = room'; walked = (full, refl, refl) }
  walk_more (frame ∷ frames) at rs rs' room room' registers caller end are same whole (step, found, is, shown, inl (none, ends, left, left_too)) =
      let s = more at rs rs' room room' are same step found (last_whole lacking step end ends whole) is in
      record { registers = rs'; caller = s.written; walked = (step, s.written, s.is_step, shown, inl (none, ends, refl, refl)) }
  walk_more (frame ∷ frames) at rs rs' room room' registers caller end are same whole (step, found, is, shown, inr (next, goes, rest)) =
      let s = more at rs rs' room room' are same step found (next_whole lacking step next goes) is in
      let (long, known) = next_goes step next found s.written goes s.goes in
      let w = walk_more frames next found s.written found s.written registers caller end known long whole rest in
      record { registers = w.registers; caller = w.caller; walked = (step, s.written, s.is_step, shown, inr (next, goes, w.walked)) }

  -- a walk over less memory that ends for nothing that is lacking is one over more
  pub walk_by_more : (s : State) (frames : List StackFrame) (end : End) (registers caller : List (Option ℕ)) → lacking end ≡ false → IsWalkBy written IsLess s frames end registers caller → Walked s frames end
  walk_by_more s frames end registers caller whole is =
      walk_more frames s.at s.registers s.registers s.caller s.caller registers caller end (record { each = λ k n there. there }) refl whole is

-- ---- in modules

module _ {R T : Type 0} (position : R → Position) (number : T → ℕ) {m m' : ℕ → ℕ → Option ℕ} (more : Extends m m') (size : ℕ) (abi : Abi) (rule_limit stack_limit : Option ℕ) (copies_free : Bool) (modules : List (LoadedModule R)) where
  pub walk_over_more : (s : State) (frames : List StackFrame) (end : End) (registers caller : List (Option ℕ)) → lacks_end end ≡ false
      → IsWalkAmong position number m size abi rule_limit stack_limit copies_free modules s frames end registers caller
      → Walked lacks_end (IsLess position number more size abi rule_limit stack_limit copies_free modules) (IsAll position number more size abi rule_limit stack_limit copies_free modules)
      (steps_more position number more size abi rule_limit stack_limit copies_free modules) s frames end
  walk_over_more =
      walk_by_more lacks_end (IsLess position number more size abi rule_limit stack_limit copies_free modules) (IsAll position number more size abi rule_limit stack_limit copies_free modules)
      (steps_more position number more size abi rule_limit stack_limit copies_free modules)
