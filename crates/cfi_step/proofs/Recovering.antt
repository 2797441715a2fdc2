-- The registers of a caller, one rule after the other from the last to the first.
use Rattle.std.proofs.Common.{◌≡◌, ◌≢◌, ◌<◌, ◌≤◌, ◌+◌, ◌∙◌, ℕ, List, [], ◌∷◌, length, map, drop, Option, Some, None, true, false, refl, sym, ap, subst, inl, inr, get_or, arith, get_or-set_other}
use Rattle.std.proofs.lemmas.Bool.{cases_eq, eq-eqb, ne_eqb}
use Rattle.std.proofs.lemmas.Grind.{get_or-set_at}
use Rattle.std.proofs.lemmas.List.{drop_more, length-set}
use Rattle.std.proofs.lemmas.Bool.Decides.{nat_tests}
use Rattle.std.specs.Prelude.{slice_set}
use Rattle.std.specs.Cmp.{nat_cmp_total, unsigned_ties}
use Rattle.std.specs.FinMap.{get, get-from_entries}
use Rattle.std.specs.Ordering.{nat_cmp, eq_by_cmp}
use Rattle.cfi_read_core.specs.declared.common.Register.{Register}
use Rattle.cfi_read_core.specs.ReadFunctions.{Position}
use Rattle.cfi_state.specs.declared.table.rules.RegisterRule.{RegisterRule}
use Rattle.cfi_state.specs.Machine.{Parts}
use Rattle.cfi_state.specs.RulePairs.{numbered_pair, rules_of}
use Rattle.cfi_expression.specs.Frames.{Frame, known}
use Rattle.cfi_step.specs.declared.abi.Abi.{Abi}
use Rattle.cfi_step.specs.Callers.{AreRecovered, by_rule, found_value, recovered, recovered_by}

module _ {T : Type 0} where
  -- what the row would say with these rules of registers alone
  abbrev pub with_rules : Parts T → List (Register × RegisterRule T) → Parts T
  with_rules parts pairs = record parts { rules = rules_of pairs }

  get_apart : (pair : Register × RegisterRule T) (pairs : List (Register × RegisterRule T)) (register : ℕ) → register ≢ pair.0.0 →
      get (rules_of (pair ∷ pairs)) register ≡ get (rules_of pairs) register
  get_apart pair pairs register h =
      let apart : eq_by_cmp nat_cmp register pair.0.0 ≡ false = sym (unsigned_ties register pair.0.0) ∙ grind (arith, nat_tests) in
      get-from_entries nat_cmp_total (map numbered_pair (pair ∷ pairs)) register ∙ rw apart refl ∙ sym (get-from_entries nat_cmp_total (map numbered_pair pairs) register)

  get_first : (pair : Register × RegisterRule T) (pairs : List (Register × RegisterRule T)) → get (rules_of (pair ∷ pairs)) pair.0.0 ≡ Some pair.1
  get_first pair pairs =
      let same : eq_by_cmp nat_cmp pair.0.0 pair.0.0 ≡ true = sym (unsigned_ties pair.0.0 pair.0.0) ∙ grind (arith, nat_tests) in
      get-from_entries nat_cmp_total (map numbered_pair (pair ∷ pairs)) pair.0.0 ∙ rw same refl

  get_of_none : (register : ℕ) → get (rules_of {T = T} []) register ≡ None
  get_of_none register = get-from_entries nat_cmp_total [] register

  module _ (frame : Frame) (section : Position) (abi : Abi) (number : T → ℕ) (parts : Parts T) (the_cfa : ℕ) where
    abbrev AreRecoveredBy : List (Register × RegisterRule T) → List (Option ℕ) → Type 0
    AreRecoveredBy pairs caller = AreRecovered frame section abi number (with_rules parts pairs) the_cfa (length caller) caller

    abbrev value_by : ℕ → List (Register × RegisterRule T) → Option ℕ
    value_by k pairs = found_value (recovered frame section abi number (with_rules parts pairs) the_cfa k)

    -- without a rule a register keeps its value, and the stack pointer is the CFA
    pub none_yet : (pairs : List (Register × RegisterRule T)) (caller written : List (Option ℕ)) → pairs ≡ [] →
        ((k : ℕ) → k < length caller → get_or caller k None ≡ known frame.registers k) → written ≡ slice_set caller abi.stack_pointer.0 (Some the_cfa) →
        AreRecoveredBy pairs written
    none_yet pairs caller written empty kept is =
        let same_length : length written ≡ length caller = ap length is ∙ length-set caller abi.stack_pointer.0 (Some the_cfa) in
        record {
          each = λ k h.
              let none : value_by k pairs ≡ found_value (recovered_by frame section abi number the_cfa k None) =
              ap (value_by k) empty ∙ ap (λ rule. found_value (recovered_by frame section abi number the_cfa k rule)) (get_of_none k) in
              ap (λ l. get_or l k None) is ∙ elim (cases_eq k abi.stack_pointer.0) [
                | inl same ↦ get_or-set_at caller abi.stack_pointer.0 k (Some the_cfa) None same (omega (arith, h, same, same_length)) ∙ sym (none ∙ rw (eq-eqb k abi.stack_pointer.0 same) refl)
                | inr other ↦ get_or-set_other caller abi.stack_pointer.0 k (Some the_cfa) None other ∙ kept k (omega (arith, h, same_length)) ∙ sym (none ∙ rw (ne_eqb k abi.stack_pointer.0 other) refl)
              ];
        }

    module _ (all : List (Register × RegisterRule T)) (pair : Register × RegisterRule T) (pairs : List (Register × RegisterRule T)) (whole : all ≡ pair ∷ pairs)
        (caller : List (Option ℕ)) (so_far : AreRecoveredBy pairs caller) where
      by_others : (k : ℕ) → k ≢ pair.0.0 → k < length caller → get_or caller k None ≡ value_by k all
      by_others k other h =
          so_far.each k h ∙ ap (λ rule. found_value (recovered_by frame section abi number the_cfa k rule)) (sym (get_apart pair pairs k other)) ∙ ap (value_by k) (sym whole)

      -- the rule holds in place of one of these
      pub one_more : (value : Option ℕ) (written : List (Option ℕ)) → value ≡ found_value (by_rule frame section abi number the_cfa pair.0.0 pair.1) → written ≡ slice_set caller pair.0.0 value → AreRecoveredBy all written
      one_more value written is_given is =
          let same_length : length written ≡ length caller = ap length is ∙ length-set caller pair.0.0 value in
          let P : ℕ → Type 0 = λ k. value ≡ value_by k all in
          let first : P pair.0.0 =
          is_given ∙ ap (λ rule. found_value (recovered_by frame section abi number the_cfa pair.0.0 rule)) (sym (get_first pair pairs)) ∙ ap (value_by pair.0.0) (sym whole) in
          record {
            each = λ k h.
                ap (λ l. get_or l k None) is ∙ elim (cases_eq k pair.0.0) [
                  | inl same ↦ get_or-set_at caller pair.0.0 k value None same (omega (arith, h, same, same_length)) ∙ subst P (sym same) first
                  | inr other ↦ get_or-set_other caller pair.0.0 k value None other ∙ by_others k other (omega (arith, h, same_length))
                ];
          }

      -- there is no room for it
      pub none_more : length caller ≤ pair.0.0 → AreRecoveredBy all caller
      none_more outside = record { each = λ k h. by_others k (λ e. omega (arith, e, h, outside)) h }

-- the pairs from one on
pub from_here : {A : Type 0} (pairs : List A) (i n : ℕ) (pair : A) → i < length pairs → n ≡ i + 1 → pair ≡ get_or pairs i pair → drop i pairs ≡ pair ∷ drop n pairs
from_here pairs i n pair inside next at = drop_more pairs i pair inside ∙ ap (λ p. p ∷ drop (i + 1) pairs) (sym at) ∙ ap (λ m. pair ∷ drop m pairs) (sym next)
