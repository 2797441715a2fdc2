-- The instructions that are still to be read in order.
use Rattle.std.specs.Prelude.{◌≡◌, ◌≤◌, ◌<◌, ℕ, List, [], ◌∷◌, ◌++◌, map, Option, Some, None}
use Rattle.std.specs.Prelude.{IfSome, Result, Ok, Err, IfOk}
use Rattle.cfi_read_core.specs.declared.error.Error.{Error}
use Rattle.cfi_read_core.specs.ReadFunctions.{Readings, Position, with_first, no_values}
use Rattle.cfi_read_core.specs.ReaderCalls.{extent_of, remaining}
use Rattle.cfi_read_core.specs.declared.instruction.CallFrameInstruction.{CallFrameInstruction}
use Rattle.cfi_read_core.specs.MappedInstructions.{map_instruction}
use Rattle.cfi_read_core.specs.ExpressionPlaces.{HasExpressionIn}
use Rattle.cfi_parts.specs.Instructions.{Instruction, InstructionContext, instructions}

-- A reader at an instruction, and the parameters for reading it.
pub record InstructionReader : Type 0 where
  pub context : InstructionContext
  pub position : Position

-- The section of the pointers is this one, and the reader ends with it at the latest.
pub record ReadsIn (section : Position) (reader : InstructionReader) : Type 0 where
  pub first : reader.context.pointers.section ≡ section.place
  pub last : reader.position.source.last ≤ section.source.last

abbrev pub instructions_left : InstructionReader → Readings Instruction
instructions_left p = instructions p.context (extent_of p.position) p.position.source

-- What a call returns, of what was to be read before it and what is left after it. After an error
-- nothing is left.
abbrev pub Meets :
    {X A : Type 0} → (X → A) → Result (Option X) Error → Readings A → Readings A → Type 0
Meets view (Ok (Some x)) before after = before ≡ with_first (view x) after
Meets view (Ok None) before after = (before ≡ no_values None) × (after ≡ no_values None)
Meets view (Err e) before after = (before ≡ no_values (Some e)) × (after ≡ no_values None)

-- ---- reading the next instruction, seen by the numbers of its offsets

-- the call returns the next instruction, or none at the end
abbrev pub MeetsNext :
    {T : Type 0} → (T → ℕ) → Result (Option (CallFrameInstruction T)) Error → InstructionReader →
    InstructionReader → Type 0
MeetsNext number result before after =
    Meets (map_instruction number) result (instructions_left before) (instructions_left after)

-- a fact for the value that a call found, if it found one
abbrev pub IfFound : {X : Type 0} → Result (Option X) Error → (X → Type 0) → Type 0
IfFound result fact = IfOk result (λ found. IfSome found fact)

abbrev pub SameContext : InstructionReader → InstructionReader → Type 0
SameContext before after = after.context ≡ before.context

abbrev pub SameSource : InstructionReader → InstructionReader → Type 0
SameSource before after = after.position.source ≡ before.position.source

-- fewer bytes are left
abbrev pub IsShorter : InstructionReader → InstructionReader → Type 0
IsShorter after before = remaining after.position < remaining before.position

-- the expression of the instruction lies in the section from which the instruction was read
abbrev pub HasExpressionOf :
    {T : Type 0} → (T → ℕ) → InstructionReader → CallFrameInstruction T → Type 0
HasExpressionOf number before instruction =
    (section : Position) → ReadsIn section before → HasExpressionIn number section instruction

-- a reader of a section still is one
abbrev pub StaysWithin : InstructionReader → InstructionReader → Type 0
StaysWithin before after = (section : Position) → ReadsIn section before → ReadsIn section after

-- ---- as the items of an iterator

abbrev pub refusal_item : {A : Type 0} → Option Error → List (Result A Error)
refusal_item None = []
refusal_item (Some e) = Err e ∷ []

abbrev pub items : {A : Type 0} → Readings A → List (Result A Error)
items r = map Ok r.values ++ refusal_item r.refusal
