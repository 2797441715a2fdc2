-- A compiled table as what it means.
--     TableContents      the distinct results as they are kept, and the steps, which name them by
--         number
--     results_of, steps_of table      its results, and its steps in the order of their addresses
--     frame_at table address      what it has for an address; `parts_at` the row alone
--     IsSoundTable table      what holds of each table: the steps rise, and name results that there
--         are
--     IsCompiled rule_limit stack_limit section table      for every address what the FDE and the
--         row say that the scan gives, but a row's addresses
use Rattle.std.specs.Prelude.{◌≡◌, ◌+◌, ◌<◌, ◌≤◌, ◌⊎◌, ℕ, List, [], ◌∷◌, ◌++◌, length, map, get_or}
use Rattle.std.specs.Prelude.{Option, Some, None, Result, Err}
use Rattle.std.specs.List.{All}
use Rattle.cfi_read_core.specs.declared.error.Error.{Error}
use Rattle.cfi_read_core.specs.declared.error.Error.TheVariants.{NoUnwindInfoForAddress}
use Rattle.cfi_state.specs.Machine.{Parts}
use Rattle.cfi_entry.specs.Sections.{Section}
use Rattle.cfi_compiled.specs.FrameParts.{FrameParts, frame_by_scan, parts_of_frame}
use Rattle.cfi_compiled.specs.declared.rests.KeptRow.{KeptRow}
use Rattle.cfi_compiled.specs.declared.row.CompiledRow.{CompiledRow}
use Rattle.cfi_compiled.specs.declared.step_list.NumberedStep.{NumberedStep}
use Rattle.cfi_compiled.specs.CompiledRows.{frame_lent}
use Rattle.cfi_compiled.specs.KeptRows.{RestLists, AreNamed, results_in}
use Rattle.cfi_compiled.specs.Steps.{Step, Rise, frame_by_steps}

pub record TableContents : Type 0 where
  pub lists : RestLists
  pub rows : List (Result KeptRow Error)
  pub numbers : List NumberedStep

abbrev pub frame_numbered : List (Result FrameParts Error) → ℕ → Result FrameParts Error
frame_numbered results number = get_or results number (Err NoUnwindInfoForAddress)

abbrev pub step_named : List (Result FrameParts Error) → NumberedStep → Step
step_named results step =
    record { start = step.start; frame = frame_numbered results step.number }

abbrev pub results_of : TableContents → List (Result FrameParts Error)
results_of table = results_in table.lists table.rows

abbrev pub steps_of : TableContents → List Step
steps_of table = map (step_named (results_of table)) table.numbers

abbrev pub AreNumbersOf : List (Result FrameParts Error) → List NumberedStep → Type 0
AreNumbersOf results steps = All (λ step. step.number < length results) steps

pub record IsSoundTable (table : TableContents) : Type 0 where
  pub rise : Rise 0 (steps_of table)
  pub numbers : AreNumbersOf (results_of table) table.numbers
  pub named : AreNamed table.lists table.rows

-- the result with this number is this one
abbrev pub IsResultAt : TableContents → Result FrameParts Error → ℕ → Type 0
IsResultAt table result number =
    (number < length (results_of table)) × (frame_numbered (results_of table) number ≡ result)

-- the last step has this number
abbrev pub EndsWith : ℕ → List NumberedStep → Type 0
EndsWith number steps =
    (last : NumberedStep) × (index : ℕ) × (index + 1 ≡ length steps)
    × (get_or steps index last ≡ last) × (last.number ≡ number)

-- the item is added at the end, or nothing is
abbrev pub IsAdded : {X : Type 0} → X → List X → List X → Type 0
IsAdded item old new = (new ≡ old) ⊎ (new ≡ old ++ item ∷ [])

abbrev pub frame_at : TableContents → ℕ → Result FrameParts Error
frame_at table address = frame_by_steps (steps_of table) address

abbrev pub parts_at : TableContents → ℕ → Result (Parts ℕ) Error
parts_at table address = parts_of_frame (frame_at table address)

abbrev pub IsCompiled : Option ℕ → Option ℕ → Section → TableContents → Type 0
IsCompiled rule_limit stack_limit section table =
    (address : ℕ)
    → frame_at table address ≡ frame_by_scan rule_limit stack_limit section address

-- the start and the result of the step with the index k; none behind the last one
abbrev pub IsStepAtIndex :
    TableContents → ℕ → Option (ℕ × Result CompiledRow Error) → Type 0
IsStepAtIndex table k None = length table.numbers ≤ k
IsStepAtIndex table k (Some step) =
    (k < length table.numbers)
    × ((d : NumberedStep)
    → step_named (results_of table) (get_or table.numbers k d)
    ≡ record { start = step.0; frame = frame_lent step.1 })
