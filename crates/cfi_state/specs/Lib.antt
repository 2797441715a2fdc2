-- What call frame instructions mean (DWARF 5 section 6.4): the machine that runs them, and the same
-- without a machine.
pub mod Actions
pub mod MachineSettings
pub mod Machine
pub mod Row
pub mod AllocatingOperations
pub mod Allocation
pub mod RememberedStates
pub mod LastWriters
pub mod Program
pub mod Cases
pub mod FdeAnswers
pub mod MappedStates
pub mod MemoryOnTheWay
pub mod UnwindTableStates
pub mod RowExpressions
pub mod MachineRuns
pub mod AcceptedInstructions
pub mod StorageRefusals
pub mod RulePairs
pub mod UnwindContexts
pub mod ContextEffects
pub mod Equality
pub mod EqualityLaws
pub mod RegisterRuleIters
