-- Results as a table keeps them: rows, some of which stand for errors.
--     error_mark      what the rows that stand for errors have in place of the number of a rest
--     index_in cfa      the index of the error, which is kept where an expression's place is
--     result_kept errors row, results_kept errors rows      what they stand for
--     IsErrorIn errors row      the error that the row stands for is there
use Rattle.std.specs.Prelude.{◌≡◌, ◌<◌, ◌-◌, ◌^◌, ◌==◌, if◌then◌else◌, ℕ, List, length, map, get_or}
use Rattle.std.specs.Prelude.{Result, Ok, Err}
use Rattle.cfi_state.specs.declared.table.rules.CfaRule.{CfaRule}
use Rattle.cfi_state.specs.declared.table.rules.CfaRule.TheVariants as cfa
use Rattle.cfi_read_core.specs.declared.error.Error.{Error}
use Rattle.cfi_read_core.specs.declared.error.Error.TheVariants.{NoUnwindInfoForAddress}
use Rattle.cfi_compiled.specs.declared.rests.KeptRow.{KeptRow}

abbrev pub error_mark : ℕ
error_mark = 2 ^ 64 - 1

abbrev pub index_in : CfaRule ℕ → ℕ
index_in (cfa.RegisterAndOffset register offset) = 0
index_in (cfa.Expression e) = e.offset

abbrev pub result_kept : List Error → KeptRow → Result KeptRow Error
result_kept errors row =
    if row.rest == error_mark
    then Err (get_or errors (index_in row.cfa) NoUnwindInfoForAddress)
    else Ok row

abbrev pub results_kept : List Error → List KeptRow → List (Result KeptRow Error)
results_kept errors rows = map (result_kept errors) rows

abbrev pub IsErrorIn : List Error → KeptRow → Type 0
IsErrorIn errors row = row.rest ≡ error_mark → index_in row.cfa < length errors
