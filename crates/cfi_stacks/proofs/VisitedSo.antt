-- What holds where a profile is visited, by what a visitor makes of a stack: this says which types the rest has.
use Rattle.std.proofs.Common.{ℕ, Bool, List, Option, Result}
use Rattle.std.specs.Prelude.{⊤}
use Rattle.cfi_perf.specs.declared.error.PerfError.{PerfError}
use Rattle.cfi_perf.specs.Events.{Record}
use Rattle.cfi_mapped.specs.Wanted.{FilePlace}
use Rattle.cfi_processes.specs.declared.registers.SampleMachine.{SampleMachine}
use Rattle.cfi_processes.specs.KnownFiles.{KnownFile}
use Rattle.cfi_stacks.specs.declared.visitor.VisitError.{VisitError}
use Rattle.cfi_stacks.specs.Choices.{Choice}
use Rattle.cfi_stacks.specs.SampleOutputs.{Stack}
use Rattle.cfi_stacks.specs.Visits.{IsMachineUnknown, IsProfileRefused, VisitsAll}

module _ {V E : Type 0} (visits : V → Stack → V → Type 0) (refuses : V → Stack → V → E → Type 0) where
  abbrev pub Refused : V → V → Result ⊤ (VisitError E) → PerfError → Type 0
  Refused old new r e = IsProfileRefused old new r e

  abbrev pub Unknown : V → V → Result ⊤ (VisitError E) → Type 0
  Unknown old new r = IsMachineUnknown old new r

  abbrev pub AllOf : (with_functions : Bool) (choice : Choice) {Handle : Type 0} (may_open : FilePlace → Option Handle → Type 0) (remaining : Handle → Option (List ℕ)) (old new : V) (r : Result ⊤ (VisitError E))
      → SampleMachine → List KnownFile → List Record → Option PerfError → Type 0
  AllOf with_functions choice may_open remaining old new r machine files records error = VisitsAll visits refuses with_functions choice may_open remaining old new r machine files records error
