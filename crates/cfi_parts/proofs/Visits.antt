-- What is visited, by what is read.
use Rattle.std.proofs.Common.{◌≡◌, ◌∙◌, ◌-◌, ◌%◌, ℕ, Option, Some, None, Result, Ok, Err, sym, ap, subst}
use Rattle.std.specs.Prelude.{◌≢◌}
use Rattle.std.proofs.lemmas.Bool.{ne_eqb}
use Rattle.std.specs.Int.{w8}
use Rattle.cfi_read_core.specs.declared.error.Error.{Error}
use Rattle.cfi_read_core.specs.declared.instruction.CallFrameInstruction.{CallFrameInstruction}
use Rattle.cfi_read_core.specs.MappedInstructions.{map_instruction}
use Rattle.cfi_read_core.specs.ReadFunctions.{Position, Source, Outcome, Read, carry_on}
use Rattle.cfi_read_core.specs.ReaderCalls.{Reads}
use Rattle.cfi_read_core.specs.Numbers.{unsigned}
use Rattle.cfi_parts.specs.Instructions.{Instruction, InstructionContext, by_extended_opcode, by_opcode, instruction}
use Rattle.cfi_parts.specs.InstructionVisits.{VisitsRead, VisitsNext}
use Rattle.cfi_parts.specs.InstructionReaders.{InstructionReader, MeetsNext, IfFound, IsShorter, HasExpressionOf}

module _ {T C A : Type 0} (number : T → ℕ) (visits : CallFrameInstruction T → C → C → A → Type 0) where
  -- what one read gives, another one gives that comes before it
  pub visits_by : (read whole : Read Instruction) (old first new : Position) (before after : C) (result : Result A Error) → VisitsRead number visits read first new before after result →
      ((found : Result (CallFrameInstruction T) Error) → Reads (map_instruction number) read first found new → Reads (map_instruction number) whole old found new) →
      VisitsRead number visits whole old new before after result
  visits_by read whole old first new before after (Ok answer) visited given = (visited.0, given (Ok visited.0) visited.1, visited.2)
  visits_by read whole old first new before after (Err e) visited given = (given (Err e) visited.0, visited.1)

-- an opcode whose two high bits are none of the primary ones, and what is read after it
pub by_extended : (c : InstructionContext) (source further : Source) (place : ℕ) {opcode at : ℕ} → unsigned w8 source place ≡ record { value = Ok opcode; place = at } → further ≡ source →
    opcode - opcode % 64 ≢ 0x40 → opcode - opcode % 64 ≢ 0x80 → opcode - opcode % 64 ≢ 0xc0 →
    instruction c source place ≡ by_extended_opcode c opcode further at
unfolding instruction
by_extended c source further place {opcode = opcode} {at = at} reads same advances offsets restores =
    ap (λ (o : Outcome ℕ). carry_on (by_opcode c) source o.value o.place) reads
    ∙ rw (ne_eqb 0x40 (opcode - opcode % 64) (λ e. advances (sym e)), ne_eqb 0x80 (opcode - opcode % 64) (λ e. offsets (sym e)), ne_eqb 0xc0 (opcode - opcode % 64) (λ e. restores (sym e))) (ap (λ (s : Source). by_extended_opcode c opcode s at) (sym same))

-- a visitor that returns the instruction
module _ {T C : Type 0} (number : T → ℕ) (old new : InstructionReader) (before after : C) where
  abbrev ReturnsNext : Result (Option (CallFrameInstruction T)) Error → Type 0
  ReturnsNext result = VisitsNext {T = T} {C = C} {A = CallFrameInstruction T} number (λ i _ _ answer. answer ≡ i) old new before after result

  pub next_met : (result : Result (Option (CallFrameInstruction T)) Error) → ReturnsNext result → MeetsNext number result old new
  next_met (Ok (Some answer)) visited = subst (λ i. MeetsNext number (Ok (Some i)) old new) (sym visited.2) visited.1
  next_met (Ok None) visited = visited.0
  next_met (Err e) visited = visited.0

  pub next_fewer : (result : Result (Option (CallFrameInstruction T)) Error) → ReturnsNext result → IfFound result (λ _. IsShorter new old)
  next_fewer (Ok (Some answer)) visited = visited.3
  next_fewer (Ok None) visited = tt
  next_fewer (Err e) visited = tt

  pub next_expressions : (result : Result (Option (CallFrameInstruction T)) Error) → ReturnsNext result → IfFound result (HasExpressionOf number old)
  next_expressions (Ok (Some answer)) visited = subst (λ i. HasExpressionOf number old i) (sym visited.2) visited.4
  next_expressions (Ok None) visited = tt
  next_expressions (Err e) visited = tt
