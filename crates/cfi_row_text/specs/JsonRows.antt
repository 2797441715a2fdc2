-- A row as an object of JSON (RFC 8259).
--     json_row wording row      a row
--     json_members wording row      its members, and the brace after them
use Rattle.std.specs.Prelude.{ℕ, Bool, true, false, List, [], ◌∷◌, ◌++◌, Option, Some, None, codes}
use Rattle.std.specs.FinMap.{get}
use Rattle.cfi_read_core.specs.declared.instruction.UnwindExpression.{UnwindExpression}
use Rattle.cfi_state.specs.declared.table.rules.CfaRule.{CfaRule}
use Rattle.cfi_state.specs.declared.table.rules.CfaRule.TheVariants as cfas
use Rattle.cfi_state.specs.declared.table.rules.RegisterRule.{RegisterRule}
use Rattle.cfi_state.specs.Machine.{Parts}
use Rattle.cfi_state.specs.Row.{Row}
use Rattle.cfi_text.specs.RegisterNames.{register_text}
use Rattle.cfi_text.specs.JsonTexts.{json_number, separated}
use Rattle.cfi_text.specs.Lines.{address_text}
use Rattle.cfi_row_text.specs.RowLines.{cfa_saying, expression_in, rule_saying, rules_by}
use Rattle.cfi_row_text.specs.Wordings.{Wording}

-- the addresses of a row, from the first up to the end
abbrev pub address_members : ℕ → ℕ → List ℕ
address_members start end =
    codes "\"start\":\"" ++ address_text start ++ codes "\",\"end\":\"" ++ address_text end
    ++ codes "\","

module _ (wording : Wording) where
  -- a register and its rule
  abbrev pub json_member : ℕ → RegisterRule ℕ → List ℕ
  json_member register rule =
      codes "\"" ++ register_text wording.names register ++ codes "\":\""
      ++ (rule_saying wording.words wording.names rule ++ codes "\"")

  -- after a comma (44)
  abbrev pub json_rule : ℕ → RegisterRule ℕ → List ℕ
  json_rule register rule = 44 ∷ json_member register rule

-- the bytes of rules' expressions, if there are any, are an object after that of the rules, which
-- ends before it
abbrev pub rules_end : Bool → List ℕ → List ℕ
rules_end true [] = codes "}"
rules_end true (comma ∷ members) = codes "},\"rules_bytes\":{" ++ (members ++ codes "}")
rules_end false members = members ++ codes "}"

-- what comes before such a member
abbrev pub bytes_opening : Bool → List ℕ
bytes_opening true = codes "},\"rules_bytes\":{"
bytes_opening false = codes ","

module _ (wording : Wording) where
  -- the rules of all registers, by rising number
  abbrev pub json_rules : Parts ℕ → List ℕ
  json_rules parts = separated true (rules_by (json_rule wording) 65536 0 (get parts.rules))

  -- a register and the bytes of its expression
  abbrev pub bytes_member : ℕ → UnwindExpression ℕ → List ℕ
  bytes_member register e =
      codes "\"" ++ register_text wording.names register ++ codes "\":\""
      ++ (wording.bytes e ++ codes "\"")

  -- after a comma, if there is one
  abbrev pub bytes_member_at : ℕ → Option (UnwindExpression ℕ) → List ℕ
  bytes_member_at register None = []
  bytes_member_at register (Some e) = 44 ∷ bytes_member register e

  abbrev pub bytes_of_rule : ℕ → RegisterRule ℕ → List ℕ
  bytes_of_rule register rule = bytes_member_at register (expression_in rule)

  abbrev pub json_bytes : Parts ℕ → List ℕ
  json_bytes parts = rules_end true (rules_by bytes_of_rule 65536 0 (get parts.rules))

  abbrev pub cfa_bytes : CfaRule ℕ → List ℕ
  cfa_bytes (cfas.RegisterAndOffset register n) = []
  cfa_bytes (cfas.Expression e) =
      codes ",\"cfa_bytes\":\"" ++ (wording.bytes e ++ codes "\"")

  -- after the addresses
  abbrev pub json_cfa : CfaRule ℕ → List ℕ
  json_cfa cfa =
      codes "\"cfa\":\"" ++ (cfa_saying wording.words wording.names cfa
      ++ (codes "\"" ++ cfa_bytes cfa))

  -- what comes before the rules
  abbrev pub json_head : Row ℕ → List ℕ
  json_head row =
      address_members row.start_address row.end_address
      ++ (json_cfa row.parts.cfa
      ++ (codes ",\"args\":" ++ json_number row.parts.args_size ++ codes ",\"rules\":{"))

  abbrev pub json_members : Row ℕ → List ℕ
  json_members row =
      json_head row ++ (json_rules row.parts ++ (json_bytes row.parts ++ codes "}"))

  abbrev pub json_row : Row ℕ → List ℕ
  json_row row = codes "{" ++ json_members row
