-- Rows in JSON, by computation.
use Rattle.std.proofs.Common.{◌≡◌, ℕ, Option, [], Some, None, true, pos, negsuc, refl, codes, ◌==◌, if◌then◌else◌}
use Rattle.cfi_state.specs.declared.table.rules.CfaRule.TheVariants as cfas
use Rattle.cfi_state.specs.declared.table.rules.CfaRule.{CfaRule}
use Rattle.cfi_state.specs.declared.table.rules.RegisterRule.{RegisterRule}
use Rattle.cfi_state.specs.declared.table.rules.RegisterRule.TheVariants as rules
use Rattle.cfi_state.specs.Row.{Row}
use Rattle.std.specs.FinMap as map
use Rattle.cfi_text.specs.declared.register_names.RegisterNames.TheVariants.{X86_64}
use Rattle.cfi_row_text.specs.JsonRows.{bytes_of_rule, json_head, json_rule, rules_end}
use Rattle.cfi_text.specs.JsonTexts.{separated}
use Rattle.std.specs.Fmt.{decimal}
use Rattle.cfi_text.specs.declared.register_names.RegisterNames.{RegisterNames}
use Rattle.cfi_row_text.specs.RowLines.{expression_text, rules_by}
use Rattle.cfi_row_text.specs.Wordings.{Wording}
use Rattle.cfi_text.specs.declared.style.Format.TheVariants.{Json}
use Rattle.cfi_row_text.proofs.Computing.{computing}

-- where an expression is said by its place, and its bytes by its length
abbrev plainly : RegisterNames → Wording
plainly names = record { names = names; format = Json; words = expression_text; bytes = λ e. decimal e.length }

abbrev row_of : ℕ → ℕ → CfaRule ℕ → ℕ → Row ℕ
row_of start end cfa args_size = record { start_address = start; end_address = end; parts = record { cfa = cfa; rules = map.empty; args_size = args_size } }

-- ---- a row

before_the_rules : json_head (plainly X86_64) (row_of 0x1001 0x1004 (cfas.RegisterAndOffset (record { 0 = 7 }) (pos 16)) 0) ≡
    codes "\"start\":\"0x1001\",\"end\":\"0x1004\",\"cfa\":\"rsp+16\",\"args\":0,\"rules\":{"
unfolding computing
before_the_rules = refl

abbrev two_rules : ℕ → Option (RegisterRule ℕ)
two_rules r = if r == 6 then Some (rules.Offset (negsuc 15)) else if r == 16 then Some rules.Undefined else None

two_members : separated true (rules_by (json_rule (plainly X86_64)) 32 0 two_rules) ≡ codes "\"rbp\":\"offset(-16)\",\"ra\":\"undefined\""
unfolding computing
two_members = refl

abbrev no_rule : ℕ → Option (RegisterRule ℕ)
no_rule r = None

no_member : separated true (rules_by (json_rule (plainly X86_64)) 32 0 no_rule) ≡ []
unfolding computing
no_member = refl

expression_before_the_rules : json_head (plainly X86_64) (row_of 0x1001 0x1004 (cfas.Expression (record { offset = 48; length = 11 })) 0) ≡
    codes "\"start\":\"0x1001\",\"end\":\"0x1004\",\"cfa\":\"expr@48:11\",\"cfa_bytes\":\"11\",\"args\":0,\"rules\":{"
unfolding computing
expression_before_the_rules = refl

abbrev two_expressions : ℕ → Option (RegisterRule ℕ)
two_expressions r =
    if r == 6 then Some (rules.ValExpression (record { offset = 48; length = 11 }))
    else if r == 7 then Some rules.SameValue
    else if r == 16 then Some (rules.Expression (record { offset = 60; length = 2 }))
    else None

bytes_behind : rules_end true (rules_by (bytes_of_rule (plainly X86_64)) 32 0 two_expressions) ≡ codes "},\"rules_bytes\":{\"rbp\":\"11\",\"ra\":\"2\"}"
unfolding computing
bytes_behind = refl

no_bytes : rules_end true (rules_by (bytes_of_rule (plainly X86_64)) 32 0 two_rules) ≡ codes "}"
unfolding computing
no_bytes = refl
