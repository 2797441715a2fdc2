-- The registers of a caller by packed rules, from the last to the first.
use Rattle.std.proofs.Common.{◌≡◌, ◌∙◌, ℕ, false, List, [], ◌∷◌, drop, length, map, Option, Some, refl, sym, ap, subst}
use Rattle.std.proofs.lemmas.List.{length-map}
use Rattle.std.specs.Prelude.{slice_set}
use Rattle.cfi_read_core.specs.ReadFunctions.{Position}
use Rattle.cfi_read_core.specs.SliceReaders.{slice_over}
use Rattle.cfi_state.specs.Machine.{Parts}
use Rattle.cfi_step.specs.declared.packed_rules.PackedRule.{PackedRule}
use Rattle.cfi_step.specs.declared.packed_rows.PackedRow.{PackedRow}
use Rattle.cfi_step.specs.Callers.{AreRecovered, by_rule, found_value}
use Rattle.cfi_step.specs.PackedRows.{counted_rules, parts_packed}
use Rattle.cfi_step.specs.PackedRules.{pair_of}
use Rattle.cfi_step.proofs.Recovering.{none_yet, one_more, with_rules}
use Rattle.cfi_c.specs.declared.memory.CfiMemory.{CfiMemory}
use Rattle.cfi_c.specs.declared.register.CfiValue.{CfiValue}
use Rattle.cfi_c.specs.PackedSteps.{AreOfCaller, passed_frame}
use Rattle.cfi_c.specs.PassedRegisters.{values_of}
use Rattle.cfi_c.specs.PassedMemories.{abi_in}
use Rattle.cfi_c.specs.PassedRegisters.{known_value}
use Rattle.cfi_c.specs.PassedRegisters.{AreValues}
use Rattle.cfi_c.specs.PassedRegisters.{written_value}
use Rattle.cfi_c.proofs.PackedValues.{copied, plain, still_plain, values_set}

module _ (memory : CfiMemory) (registers : List CfiValue) (parts : Parts ℕ) (cfa : ℕ) where
  abbrev AreBy : Position → List PackedRule → ℕ → List (Option ℕ) → Type 0
  AreBy bytes rules count values =
      AreRecovered (passed_frame memory registers) bytes (abi_in memory) (λ (n : ℕ). n) (with_rules parts (map pair_of rules)) cfa count values

  -- the registers are those by these rules
  abbrev pub AreWrittenBy : List PackedRule → List CfiValue → Type 0
  AreWrittenBy rules new = ((bytes : Position) → AreBy bytes rules (length new) (values_of new)) × AreValues (values_of new) new

  pub begun : (rules : List PackedRule) (copy new : List CfiValue) → rules ≡ [] → AreValues (values_of registers) copy → new ≡ slice_set copy memory.stack_pointer (written_value (Some cfa))
      → AreWrittenBy rules new
  begun rules copy new none are is = (
    λ bytes.
        subst (λ (n : ℕ). AreBy bytes rules n (values_of new)) (length-map new known_value)
        (none_yet (passed_frame memory registers) bytes (abi_in memory) (λ (n : ℕ). n) parts cfa (map pair_of rules) (values_of copy) (values_of new) (ap (map pair_of) none)
        (copied (values_of registers) copy are) (ap values_of is ∙ values_set copy memory.stack_pointer (Some cfa))),
    still_plain copy new memory.stack_pointer (Some cfa) is (plain (values_of registers) copy are),
  )

  module _ (rules later : List PackedRule) (rule : PackedRule) (whole : rules ≡ rule ∷ later) (caller new : List CfiValue) where
    abbrev pub value_by : Position → Option ℕ
    value_by bytes = found_value (by_rule (passed_frame memory registers) bytes (abi_in memory) (λ (n : ℕ). n) cfa (pair_of rule).0.0 (pair_of rule).1)

    pub one_further : AreWrittenBy later caller → ((bytes : Position) → new ≡ slice_set caller (pair_of rule).0.0 (written_value (value_by bytes))) → AreWrittenBy rules new
    one_further before is = (
      λ bytes.
          subst (λ (n : ℕ). AreBy bytes rules n (values_of new)) (length-map new known_value)
          (one_more (passed_frame memory registers) bytes (abi_in memory) (λ (n : ℕ). n) parts cfa (map pair_of rules) (pair_of rule) (map pair_of later) (ap (map pair_of) whole) (values_of caller)
          (subst (λ (n : ℕ). AreBy bytes later n (values_of caller)) (sym (length-map caller known_value)) (before.0 bytes))
          (value_by bytes) (values_of new) refl (ap values_of (is bytes) ∙ values_set caller (pair_of rule).0.0 (value_by bytes))),
      still_plain caller new (pair_of rule).0.0 (value_by (slice_over [] false)) (is (slice_over [] false)) before.1,
    )

-- all rules are those of the row
pub by_all : (memory : CfiMemory) (registers : List CfiValue) (row : PackedRow) (cfa index : ℕ) (rules : List PackedRule) (new : List CfiValue) → index ≡ 0 → rules ≡ counted_rules row.numbers
    → AreWrittenBy memory registers (parts_packed row) cfa (drop index rules) new → AreOfCaller memory registers row cfa new
by_all memory registers row cfa index rules new none same written =
    let all : drop index rules ≡ counted_rules row.numbers = ap (λ (n : ℕ). drop n rules) none ∙ same in
    subst (λ (l : List PackedRule). AreWrittenBy memory registers (parts_packed row) cfa l new) all written
