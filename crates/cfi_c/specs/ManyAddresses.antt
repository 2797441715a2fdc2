-- The rows of many addresses, as C gets them.
--     AreAnswered live .. n ..      the first n of the addresses; IsCount says which n
use Rattle.std.specs.Prelude.{◌≡◌, ◌⊎◌, ℕ, ◌+◌, ◌<◌, ◌≤◌, ◌*◌, pos, Bool, List, Option}
use Rattle.std.specs.Prelude.{slice_index_or}
use Rattle.cfi_c.specs.declared.section.CfiBases.{CfiBases}
use Rattle.cfi_c.specs.declared.written.CfiRow.{CfiRow}
use Rattle.cfi_c.specs.declared.written.CfiRule.{CfiRule}
use Rattle.cfi_c.specs.WrittenRows.{rule_in}
use Rattle.cfi_c.specs.AddressRows.{IsAnswerForC}

-- as many as there are addresses, rows, and rules for each row
pub record IsCount (addresses rows rules per_row n : ℕ) : Type 0 where
  pub addressed : n ≤ addresses
  pub rowed : n ≤ rows
  pub ruled : n * per_row ≤ rules
  pub greatest : (n ≡ addresses) ⊎ (n ≡ rows) ⊎ (rules < n * per_row + per_row)

abbrev pub no_row : CfiRow
no_row = record {
  start = 0;
  end = 0;
  args_size = 0;
  cfa_kind = 0;
  cfa_register = 0;
  cfa_offset = pos 0;
  cfa_place = 0;
  cfa_length = 0;
  refused = 0;
  status = pos 0;
}

abbrev pub row_at_index : List CfiRow → ℕ → CfiRow
row_at_index rows k = slice_index_or rows k no_row

-- each of the first n addresses has its row, and its rules from the `per_row` times as many-th on;
-- nothing after them is written
pub record AreAnswered (live : Bool) (bases : CfiBases) (bytes : List ℕ) (header : Option (List ℕ))
    (addresses : List ℕ) (per_row n : ℕ) (rows new_rows : List CfiRow)
    (rules new_rules : List CfiRule) : Type 0 where
  pub each :
      (i : ℕ) → i < n →
      IsAnswerForC live bases bytes header (slice_index_or addresses i 0) (row_at_index new_rows i)
      new_rules (i * per_row) per_row
  pub rows_kept : (i : ℕ) → n ≤ i → row_at_index new_rows i ≡ row_at_index rows i
  pub rules_kept : (k : ℕ) → n * per_row ≤ k → rule_in new_rules k ≡ rule_in rules k
