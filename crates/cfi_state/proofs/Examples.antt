-- Worked rows: what the machine answers, by evaluation, and what the struck-out form says, by the law that they are the same.
use Rattle.std.proofs.Common.{◌≡◌, ℕ, ℤ, pos, negsuc, List, [], ◌∷◌, ◌++◌, map, Option, Some, None, Result, Ok, Err, refl, sym, ap, ◌∙◌}
use Rattle.std.specs.FinMap as map
use Rattle.cfi_read_core.specs.declared.common.Register.{Register}
use Rattle.cfi_read_core.specs.ReadFunctions.{Readings}
use Rattle.cfi_read_core.specs.declared.error.Error.{Error}
use Rattle.cfi_read_core.specs.declared.error.Error.TheVariants.{AddressOverflow, InvalidCfiSetLoc, CfiInstructionInInvalidContext, StackFull, PopWithEmptyStack, TooManyRegisterRules}
use Rattle.cfi_read_core.specs.declared.instruction.CallFrameInstruction.{CallFrameInstruction}
use Rattle.cfi_read_core.specs.declared.instruction.CallFrameInstruction.TheVariants as instruction
use Rattle.cfi_state.specs.declared.table.rules.CfaRule.{CfaRule}
use Rattle.cfi_state.specs.declared.table.rules.CfaRule.TheVariants as cfa
use Rattle.cfi_state.specs.declared.table.rules.RegisterRule.{RegisterRule}
use Rattle.cfi_state.specs.declared.table.rules.RegisterRule.TheVariants as rule
use Rattle.cfi_state.specs.Row.{Row}
use Rattle.cfi_state.specs.MachineSettings.{Setting}
use Rattle.cfi_state.specs.Program.{in_fde}
use Rattle.cfi_state.specs.FdeAnswers.{answers, cie_refusal, run_answers, run_cie, program_state}
use Rattle.cfi_state.specs.Cases.{or_refused, on_result}
use Rattle.cfi_state.proofs.IsStateAfter.{run_law, cie_law, cie_accepted}
use Rattle.cfi_state.proofs.RuleMaps.{map_values}

abbrev Instructions : Type 0
Instructions = List (CallFrameInstruction ℕ)

-- a row's two addresses, its CFA, its argument size, how many rules it has, and the rules of some registers
abbrev Shown : Type 0
Shown = Result (ℕ × ℕ × CfaRule ℕ × ℕ × ℕ × List (Option (RegisterRule ℕ))) Error

abbrev shown : List ℕ → Result (Row ℕ) Error → Shown
shown registers (Ok row) = Ok (row.start_address, row.end_address, row.parts.cfa, row.parts.args_size, map.len row.parts.rules, map (map.get row.parts.rules) registers)
shown registers (Err e) = Err e

abbrev read : Instructions → Readings (CallFrameInstruction ℕ)
read xs = record { values = xs; refusal = None }

-- the answers of a CIE and an FDE after it, or the refusal of the CIE's initial instructions
abbrev by_machine : Setting → List ℕ → Instructions → Instructions → Result (List Shown) Error
by_machine s registers cie fde = on_result (λ x. Ok (map (shown registers) (run_answers s x (read fde)))) (λ e. Err e) (run_cie s (read cie))

abbrev struck_out : Setting → List ℕ → Instructions → Instructions → Result (List Shown) Error
struck_out s registers cie fde = or_refused (cie_refusal s (read cie)) (map (shown registers) (answers s (in_fde cie []) (read fde)))

record BothAnswer (s : Setting) (registers : List ℕ) (cie fde : Instructions) (expected : Result (List Shown) Error) : Type 0 where
  of_machine : by_machine s registers cie fde ≡ expected
  of_struck_out : struck_out s registers cie fde ≡ expected

-- the two are the same
module _ (s : Setting) (registers : List ℕ) (cie fde : Instructions) where
  after_cie : (o : Option Error) → cie_refusal s (read cie) ≡ o
      → on_result (λ x. Ok (map (shown registers) (run_answers s x (read fde)))) (λ e. Err e) (or_refused o (program_state s (in_fde cie []))) ≡ or_refused o (map (shown registers) (answers s (in_fde cie []) (read fde)))
  after_cie None accepted = ap (λ l. Ok (map (shown registers) l)) (run_law s fde None (in_fde cie []) (cie_accepted s (read cie) accepted))
  after_cie (Some e) refused = refl

  agree : by_machine s registers cie fde ≡ struck_out s registers cie fde
  agree = ap (on_result (λ x. Ok (map (shown registers) (run_answers s x (read fde)))) (λ e. Err e)) (cie_law s (read cie)) ∙ after_cie (cie_refusal s (read cie)) refl

both : {s : Setting} {registers : List ℕ} {cie fde : Instructions} {expected : Result (List Shown) Error} → by_machine s registers cie fde ≡ expected → BothAnswer s registers cie fde expected
both {s = s} {registers = registers} {cie = cie} {fde = fde} is = record { of_machine = is; of_struck_out = sym (agree s registers cie fde) ∙ is }

abbrev r : ℕ → Register
r n = record { 0 = n }

abbrev at_register : ℕ → ℤ → CfaRule ℕ
at_register n offset = cfa.RegisterAndOffset (r n) offset

-- 4 rows and 192 rules; the FDE covers 0x1000 up to 0x1020
abbrev on_heap : Setting
on_heap = record { address_size = 8; code_alignment_factor = 1; data_alignment_factor = negsuc 7; initial_address = 4096; end_address = 4128; rule_limit = Some 192; stack_limit = Some 4 }

abbrev one_rule_and_row : Setting
one_rule_and_row = record on_heap { rule_limit = Some 1; stack_limit = Some 1 }

-- r7+8, and r16 at -8
abbrev usual_cie : Instructions
usual_cie = instruction.DefCfa (r 7) 8 ∷ instruction.Offset (r 16) 1 ∷ []

abbrev minus_8 : Option (RegisterRule ℕ)
minus_8 = Some (rule.Offset (negsuc 7))

abbrev minus_16 : Option (RegisterRule ℕ)
minus_16 = Some (rule.Offset (negsuc 15))

abbrev constant : ℕ → Option (RegisterRule ℕ)
constant n = Some (rule.Constant n)

-- each part as its last writer left it
three_rows : BothAnswer on_heap (6 ∷ 7 ∷ 16 ∷ []) (usual_cie) (instruction.AdvanceLoc 1 ∷ instruction.DefCfaOffset 16 ∷ instruction.Offset (r 6) 2 ∷ instruction.AdvanceLoc 3 ∷ instruction.DefCfaRegister (r 6) ∷ []) (
    Ok (Ok (4096, 4097, at_register 7 (pos 8), 0, 1, None ∷ None ∷ minus_8 ∷ []) ∷
    Ok (4097, 4100, at_register 7 (pos 16), 0, 2, minus_16 ∷ None ∷ minus_8 ∷ []) ∷
    Ok (4100, 4128, at_register 6 (pos 16), 0, 2, minus_16 ∷ None ∷ minus_8 ∷ []) ∷
    []))
three_rows = both (simp map_values)

-- the move inside the struck stretch stays
move_inside_stretch : BothAnswer on_heap (16 ∷ []) (usual_cie) (instruction.RememberState ∷ instruction.DefCfaOffset 32 ∷ instruction.AdvanceLoc 2 ∷ instruction.RestoreState ∷ []) (
    Ok (Ok (4096, 4098, at_register 7 (pos 32), 0, 1, minus_8 ∷ []) ∷
    Ok (4098, 4128, at_register 7 (pos 8), 0, 1, minus_8 ∷ []) ∷
    []))
move_inside_stretch = both (simp map_values)

-- a move of the CIE's makes no row
move_in_cie : BothAnswer on_heap (16 ∷ []) (usual_cie ++ instruction.AdvanceLoc 1 ∷ []) ([]) (
    Ok (Ok (4096, 4128, at_register 7 (pos 8), 0, 1, minus_8 ∷ []) ∷
    []))
move_in_cie = both (simp map_values)

-- with two initial rules the stack has room for two remembered rows
third_remember_refused : BothAnswer on_heap (6 ∷ 16 ∷ []) (usual_cie ++ instruction.Offset (r 6) 2 ∷ []) (instruction.RememberState ∷ instruction.RememberState ∷ instruction.RememberState ∷ []) (
    Ok (Err StackFull ∷
    Ok (4096, 4128, at_register 7 (pos 8), 0, 2, minus_16 ∷ minus_8 ∷ []) ∷
    []))
third_remember_refused = both (simp map_values)

-- with one it has room for three
fourth_remember_refused : BothAnswer on_heap (16 ∷ []) (usual_cie) (instruction.RememberState ∷ instruction.RememberState ∷ instruction.RememberState ∷ instruction.RememberState ∷ []) (
    Ok (Err StackFull ∷
    Ok (4096, 4128, at_register 7 (pos 8), 0, 1, minus_8 ∷ []) ∷
    []))
fourth_remember_refused = both (simp map_values)

-- the end of the CIE's initial instructions is refused where the copy of its rules has no room
end_refused : BothAnswer on_heap ([]) (usual_cie ++ instruction.Offset (r 6) 2 ∷ [] ++ instruction.RememberState ∷ instruction.RememberState ∷ instruction.RememberState ∷ []) ([]) (
    Err StackFull)
end_refused = both (simp map_values)

-- a stretch over the end of the CIE is struck, and its rule is restored all the same
stretch_over_the_end : BothAnswer on_heap (16 ∷ []) (instruction.DefCfa (r 7) 8 ∷ instruction.RememberState ∷ instruction.Offset (r 16) 1 ∷ []) (instruction.RestoreState ∷ instruction.AdvanceLoc 1 ∷ instruction.Restore (r 16) ∷ []) (
    Ok (Ok (4096, 4097, at_register 7 (pos 8), 0, 0, None ∷ []) ∷
    Ok (4097, 4128, at_register 7 (pos 8), 0, 1, minus_8 ∷ []) ∷
    []))
stretch_over_the_end = both (simp map_values)

-- a toggle inside a struck stretch does not count
toggle_restored : BothAnswer on_heap (34 ∷ []) ([]) (instruction.NegateRaState ∷ instruction.AdvanceLoc 1 ∷ instruction.RememberState ∷ instruction.NegateRaState ∷ instruction.AdvanceLoc 1 ∷ instruction.RestoreState ∷ []) (
    Ok (Ok (4096, 4097, at_register 0 (pos 0), 0, 1, constant 1 ∷ []) ∷
    Ok (4097, 4098, at_register 0 (pos 0), 0, 1, constant 0 ∷ []) ∷
    Ok (4098, 4128, at_register 0 (pos 0), 0, 1, constant 1 ∷ []) ∷
    []))
toggle_restored = both (simp map_values)

-- the answers go on after a refusal
refused_and_on : BothAnswer on_heap (6 ∷ 16 ∷ []) (usual_cie) (instruction.Offset (r 6) 2 ∷ instruction.DefCfaExpression (record { offset = 48; length = 1 }) ∷ instruction.DefCfaRegister (r 6) ∷ []) (
    Ok (Err CfiInstructionInInvalidContext ∷
    Ok (4096, 4128, cfa.Expression (record { offset = 48; length = 1 }), 0, 2, minus_16 ∷ minus_8 ∷ []) ∷
    []))
refused_and_on = both (simp map_values)

-- a rule is replaced at the limit, and a second register refused
one_rule : BothAnswer one_rule_and_row (6 ∷ 7 ∷ []) (instruction.DefCfa (r 7) 8 ∷ []) (instruction.Offset (r 6) 2 ∷ instruction.Offset (r 6) 3 ∷ instruction.Offset (r 7) 1 ∷ []) (
    Ok (Err TooManyRegisterRules ∷
    Ok (4096, 4128, at_register 7 (pos 8), 0, 1, Some (rule.Offset (negsuc 23)) ∷ None ∷ []) ∷
    []))
one_rule = both (simp map_values)

-- a restore brings the argument size back
args_size_restored : BothAnswer on_heap (16 ∷ []) (usual_cie) (instruction.ArgsSize 16 ∷ instruction.RememberState ∷ instruction.ArgsSize 32 ∷ instruction.AdvanceLoc 1 ∷ instruction.RestoreState ∷ []) (
    Ok (Ok (4096, 4097, at_register 7 (pos 8), 32, 1, minus_8 ∷ []) ∷
    Ok (4097, 4128, at_register 7 (pos 8), 16, 1, minus_8 ∷ []) ∷
    []))
args_size_restored = both (simp map_values)

-- a stretch within a stretch
nested_stretches : BothAnswer on_heap (16 ∷ []) (usual_cie) (instruction.RememberState ∷ instruction.DefCfaOffset 32 ∷ instruction.RememberState ∷ instruction.DefCfaOffset 48 ∷ instruction.AdvanceLoc 1 ∷ instruction.RestoreState ∷ instruction.AdvanceLoc 2 ∷ instruction.RestoreState ∷ instruction.AdvanceLoc 3 ∷ []) (
    Ok (Ok (4096, 4097, at_register 7 (pos 48), 0, 1, minus_8 ∷ []) ∷
    Ok (4097, 4099, at_register 7 (pos 32), 0, 1, minus_8 ∷ []) ∷
    Ok (4099, 4102, at_register 7 (pos 8), 0, 1, minus_8 ∷ []) ∷
    Ok (4102, 4128, at_register 7 (pos 8), 0, 1, minus_8 ∷ []) ∷
    []))
nested_stretches = both (simp map_values)

-- a restore with no open remember is refused
nothing_remembered : BothAnswer on_heap (16 ∷ []) (usual_cie) (instruction.RestoreState ∷ instruction.DefCfaOffset 16 ∷ []) (
    Ok (Err PopWithEmptyStack ∷
    Ok (4096, 4128, at_register 7 (pos 16), 0, 1, minus_8 ∷ []) ∷
    []))
nothing_remembered = both (simp map_values)

-- of the toggles that are left only the parity counts
parity : BothAnswer on_heap (34 ∷ []) ([]) (instruction.NegateRaState ∷ instruction.NegateRaState ∷ instruction.AdvanceLoc 1 ∷ instruction.RememberState ∷ instruction.NegateRaState ∷ instruction.NegateRaState ∷ instruction.NegateRaState ∷ instruction.AdvanceLoc 2 ∷ instruction.RestoreState ∷ instruction.NegateRaState ∷ []) (
    Ok (Ok (4096, 4097, at_register 0 (pos 0), 0, 1, constant 0 ∷ []) ∷
    Ok (4097, 4099, at_register 0 (pos 0), 0, 1, constant 1 ∷ []) ∷
    Ok (4099, 4128, at_register 0 (pos 0), 0, 1, constant 1 ∷ []) ∷
    []))
parity = both (simp map_values)

-- a restore of the sign state gives the CIE's toggles back
toggle_in_cie : BothAnswer on_heap (34 ∷ []) (instruction.NegateRaState ∷ []) (instruction.NegateRaState ∷ instruction.AdvanceLoc 1 ∷ instruction.Restore (r 34) ∷ []) (
    Ok (Ok (4096, 4097, at_register 0 (pos 0), 0, 1, constant 0 ∷ []) ∷
    Ok (4097, 4128, at_register 0 (pos 0), 0, 1, constant 1 ∷ []) ∷
    []))
toggle_in_cie = both (simp map_values)

-- a toggle after the restore of a state that was set
toggle_after_restore : BothAnswer on_heap (34 ∷ []) (instruction.NegateRaState ∷ []) (instruction.Restore (r 34) ∷ instruction.NegateRaState ∷ instruction.AdvanceLoc 1 ∷ instruction.NegateRaState ∷ []) (
    Ok (Ok (4096, 4097, at_register 0 (pos 0), 0, 1, constant 0 ∷ []) ∷
    Ok (4097, 4128, at_register 0 (pos 0), 0, 1, constant 1 ∷ []) ∷
    []))
toggle_after_restore = both (simp map_values)

-- a location may be set to itself, which ends an empty row, and not to a lower one
set_to_itself : BothAnswer on_heap (16 ∷ []) (usual_cie) (instruction.SetLoc 4096 ∷ instruction.DefCfaOffset 16 ∷ instruction.SetLoc 4100 ∷ instruction.SetLoc 4099 ∷ []) (
    Ok (Ok (4096, 4096, at_register 7 (pos 8), 0, 1, minus_8 ∷ []) ∷
    Ok (4096, 4100, at_register 7 (pos 16), 0, 1, minus_8 ∷ []) ∷
    Err (InvalidCfiSetLoc 4099) ∷
    Ok (4100, 4128, at_register 7 (pos 16), 0, 1, minus_8 ∷ []) ∷
    []))
set_to_itself = both (simp map_values)

-- the sum of a location and a distance doesn't wrap
past_the_last_address : BothAnswer (record on_heap { initial_address = 18446744073709551600; end_address = 18446744073709551615 }) (16 ∷ []) (usual_cie) (instruction.AdvanceLoc 8 ∷ instruction.AdvanceLoc 8 ∷ []) (
    Ok (Ok (18446744073709551600, 18446744073709551608, at_register 7 (pos 8), 0, 1, minus_8 ∷ []) ∷
    Err AddressOverflow ∷
    Ok (18446744073709551608, 18446744073709551615, at_register 7 (pos 8), 0, 1, minus_8 ∷ []) ∷
    []))
past_the_last_address = both (simp map_values)
