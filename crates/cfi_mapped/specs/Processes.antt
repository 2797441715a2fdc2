-- What is mapped in each process.
--     process_mappings processes pid      what is mapped in a process, in the order of addresses
--     IsChangedBy change old new      in each process the mappings after a change
--     IsAfter changes processes      each address of each process belongs to the file and place
--         that a history says
--     Continues change old new      one more change after any history
--     IsUnchanged old new      the same is mapped in each process
use Rattle.std.specs.Prelude.{◌≡◌, ℕ, List, [], ◌∷◌, ◌++◌, unwrap_or}
use Rattle.std.specs.Ordering.{nat_cmp}
use Rattle.std.specs.BTreeMap.{get}
use Rattle.cfi_mapped.specs.declared.mappings.MappedCode.{MappedCode}
use Rattle.cfi_mapped.specs.declared.processes.Processes.{Processes}
use Rattle.cfi_mapped.specs.Mappings.{place_at_address}
use Rattle.cfi_mapped.specs.Histories.{Change, mappings_after, places_after}

abbrev pub process_mappings : Processes → ℕ → List MappedCode
process_mappings processes pid = unwrap_or (get nat_cmp processes.by_pid pid) []

abbrev pub IsChangedBy : Change → Processes → Processes → Type 0
IsChangedBy change old new =
    (pid : ℕ) → process_mappings new pid ≡ mappings_after change (process_mappings old) pid

abbrev pub IsUnchanged : Processes → Processes → Type 0
IsUnchanged old new = (pid : ℕ) → process_mappings new pid ≡ process_mappings old pid

-- ---- histories

abbrev pub IsAfter : List Change → Processes → Type 0
IsAfter changes processes =
    (pid a : ℕ) → place_at_address (process_mappings processes pid) a ≡ places_after changes pid a

abbrev pub Continues : Change → Processes → Processes → Type 0
Continues change old new =
    (past : List Change) → IsAfter past old → IsAfter (past ++ change ∷ []) new
