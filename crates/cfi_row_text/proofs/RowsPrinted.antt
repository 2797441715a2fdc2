-- Lines of rows, by computation.
use Rattle.std.proofs.Common.{◌≡◌, ℕ, ◌++◌, Option, Some, None, pos, negsuc, refl, codes, ◌==◌, if◌then◌else◌}
use Rattle.cfi_state.specs.declared.table.rules.CfaRule.TheVariants as cfas
use Rattle.cfi_state.specs.declared.table.rules.RegisterRule.{RegisterRule}
use Rattle.cfi_state.specs.declared.table.rules.RegisterRule.TheVariants as rules
use Rattle.cfi_text.specs.declared.register_names.RegisterNames.TheVariants.{Numbers, X86_64}
use Rattle.std.specs.FinMap as map
use Rattle.cfi_state.specs.declared.table.rules.CfaRule.{CfaRule}
use Rattle.cfi_state.specs.Row.{Row}
use Rattle.cfi_row_text.specs.RowLines.{row_head, ruled, rules_by}
use Rattle.cfi_row_text.proofs.Computing.{computing}

abbrev row_of : ℕ → ℕ → CfaRule ℕ → ℕ → Row ℕ
row_of start end cfa args_size = record { start_address = start; end_address = end; parts = record { cfa = cfa; rules = map.empty; args_size = args_size } }

abbrev second_rule : ℕ → Option (RegisterRule ℕ)
second_rule r = if r == 6 then Some (rules.Offset (negsuc 15)) else if r == 16 then Some (rules.Offset (negsuc 7)) else None

printed : row_head Numbers (row_of 0x1001 0x1004 (cfas.RegisterAndOffset (record { 0 = 7 }) (pos 16)) 0) ++ rules_by (ruled Numbers) 65536 0 second_rule ≡
    codes "0x1001 0x1004 cfa=r7+16 args=0 r6=offset(-16) r16=offset(-8)"
unfolding computing
printed = refl

abbrev expression_rule : ℕ → Option (RegisterRule ℕ)
expression_rule r =
    if r == 0 then Some (rules.ValExpression (record { offset = 3; length = 6 }))
    else if r == 2 then Some (rules.Register (record { 0 = 3 }))
    else if r == 31 then Some rules.SameValue
    else None

printed_expression : row_head Numbers (row_of 0 0 (cfas.Expression (record { offset = 48; length = 1 })) 7) ++ rules_by (ruled Numbers) 32 0 expression_rule ≡
    codes "0x0 0x0 cfa=expr@48:1 args=7 r0=val_expr@3:6 r2=r3 r31=same"
unfolding computing
printed_expression = refl

printed_by_name : row_head X86_64 (row_of 0x1001 0x1004 (cfas.RegisterAndOffset (record { 0 = 7 }) (pos 16)) 0) ++ rules_by (ruled X86_64) 65536 0 second_rule ≡
    codes "0x1001 0x1004 cfa=rsp+16 args=0 rbp=offset(-16) ra=offset(-8)"
unfolding computing
printed_by_name = refl
