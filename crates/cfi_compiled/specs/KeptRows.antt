-- Rows as a table keeps them: the rule of the CFA beside the number of the rest, and each rest
-- once.
--     RestLists      the rests, and the rules of all of them in one list
--     rules_at rules rest      the registers with their rules of a rest
--     HasRulesIn rules rest      its rules are in the list, and no register has two
--     rest_rules, rest_args, rest_facts lists number      what the rest with a number says
--     frame_of_kept lists row, results_in lists rows      what kept rows say; an error is kept as
--         it is
--     IsRestOf lists facts parts number      the rest with this number is what the CIE says, and
--         the parts but for the CFA
--     IsGrown old new      what a number meant it means still
--     AreNamed lists rows      each row names a rest that there is
use Rattle.std.specs.Prelude.{◌≡◌, ◌<◌, ◌≤◌, ◌+◌, ◌^◌, ℕ, false, List, length, map, get_or}
use Rattle.std.specs.Prelude.{slice_range}
use Rattle.std.specs.Prelude.{Result, IfOk}
use Rattle.std.specs.List.{All}
use Rattle.cfi_read_core.specs.declared.common.Register.{Register}
use Rattle.cfi_state.specs.Machine.{Rules}
use Rattle.cfi_state.specs.declared.table.rules.RegisterRule.{RegisterRule}
use Rattle.cfi_read_core.specs.declared.error.Error.{Error}
use Rattle.cfi_state.specs.RulePairs.{IsDistinctRegisters, rules_of}
use Rattle.cfi_state.specs.Machine.{Parts}
use Rattle.cfi_read_core.specs.ReaderCalls.{map_ok}
use Rattle.cfi_compiled.specs.FrameParts.{FrameParts, frame_parts}
use Rattle.cfi_compiled.specs.declared.facts.CieFacts.{CieFacts}
use Rattle.cfi_compiled.specs.declared.rests.KeptRest.{KeptRest}
use Rattle.cfi_compiled.specs.declared.rests.KeptRow.{KeptRow}

pub record RestLists : Type 0 where
  pub rests : List KeptRest
  pub rules : List (Register × RegisterRule ℕ)

abbrev pub rules_at :
    List (Register × RegisterRule ℕ) → KeptRest → List (Register × RegisterRule ℕ)
rules_at rules rest = slice_range rules rest.begin rest.end

pub record HasRulesIn (rules : List (Register × RegisterRule ℕ)) (rest : KeptRest) : Type 0 where
  pub order : rest.begin ≤ rest.end
  pub inside : rest.end ≤ length rules
  pub distinct : IsDistinctRegisters (rules_at rules rest)

abbrev pub no_facts : CieFacts
no_facts = record { return_address = record { 0 = 0 }; is_signal_trampoline = false }

abbrev pub no_rest : KeptRest
no_rest = record { saved_args_size = 0; facts = no_facts; begin = 0; end = 0 }

abbrev pub rest_rules : RestLists → ℕ → Rules ℕ
rest_rules lists number = rules_of (rules_at lists.rules (get_or lists.rests number no_rest))

abbrev pub rest_args : RestLists → ℕ → ℕ
rest_args lists number = (get_or lists.rests number no_rest).saved_args_size

abbrev pub rest_facts : RestLists → ℕ → CieFacts
rest_facts lists number = (get_or lists.rests number no_rest).facts

abbrev pub parts_of_kept : RestLists → KeptRow → Parts ℕ
parts_of_kept lists row = record {
  cfa = row.cfa;
  rules = rest_rules lists row.rest;
  args_size = rest_args lists row.rest;
}

abbrev pub frame_of_kept : RestLists → KeptRow → FrameParts
frame_of_kept lists row = frame_parts (rest_facts lists row.rest) (parts_of_kept lists row)

abbrev pub results_in :
    RestLists → List (Result KeptRow Error) → List (Result FrameParts Error)
results_in lists rows = map (map_ok (frame_of_kept lists)) rows

pub record IsRestOf (lists : RestLists) (facts : CieFacts) (parts : Parts ℕ) (number : ℕ) : Type 0
  where
    pub inside : number < length lists.rests
    pub room : number + 1 < 2 ^ 64
    pub rules : rest_rules lists number ≡ parts.rules
    pub args : rest_args lists number ≡ parts.args_size
    pub said : rest_facts lists number ≡ facts

pub record IsGrown (old new : RestLists) : Type 0 where
  pub more : length old.rests ≤ length new.rests
  pub rules : (n : ℕ) → n < length old.rests → rest_rules new n ≡ rest_rules old n
  pub args : (n : ℕ) → n < length old.rests → rest_args new n ≡ rest_args old n
  pub facts : (n : ℕ) → n < length old.rests → rest_facts new n ≡ rest_facts old n

abbrev pub AreNamed : RestLists → List (Result KeptRow Error) → Type 0
AreNamed lists rows = All (λ row. IfOk row (λ row. row.rest < length lists.rests)) rows
