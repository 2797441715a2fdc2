-- The instructions that are left, one at a time.
use Rattle.std.proofs.Common.{◌≡◌, ◌<◌, ℕ, Bool, true, false, Some, None, Ok, Err, refl, sym, ap, ◌∙◌, arith}
use Rattle.std.specs.Prelude.{nat_le, ◌==◌}
use Rattle.std.proofs.lemmas.Bool.{eqb-true, eqb-false, eq-eqb}
use borrow.Author.Tests.{le-leb, lt-leb}
use Rattle.cfi_read_core.specs.declared.error.Error.{Error}
use Rattle.cfi_read_core.specs.ReadFunctions.{Source, Position, Outcome, with_first, no_values, readings_with}
use Rattle.cfi_read_core.specs.ReaderCalls.{remaining, end_position}
use Rattle.cfi_read_core.proofs.Repeating.{readings_from, one_turn}
use Rattle.cfi_parts.specs.Instructions.{Instruction, InstructionContext, instruction}
use Rattle.cfi_parts.specs.InstructionReaders.{instructions_left}
use Rattle.cfi_parts.proofs.InstructionLemmas.{advances_instruction}

-- the readings from the place on, by what is read there
turn : (c : InstructionContext) (s : Position) (ended : Bool) (read : Outcome Instruction) → nat_le s.source.last s.place ≡ ended → instruction c s.source s.place ≡ read →
    instructions_left (record { context = c; position = s }) ≡ readings_with ended read.value (readings_from (instruction c) s.source read.place)
turn c s ended read b e =
    one_turn (instruction c) (advances_instruction c) s.source s.place
    ∙ ap (λ (t : Bool). readings_with t (instruction c s.source s.place).value (readings_from (instruction c) s.source (instruction c s.source s.place).place)) b
    ∙ ap (λ (o : Outcome Instruction). readings_with ended o.value (readings_from (instruction c) s.source o.place)) e

some_left : (s : Position) → (remaining s == 0) ≡ false → nat_le s.source.last s.place ≡ false
some_left s h = let ne = eqb-false (remaining s) 0 h in lt-leb _ _ (omega arith)

module _ (c : InstructionContext) (old new : Position) (same : new.source ≡ old.source) where
  pub one_read : (x : Instruction) → (remaining old == 0) ≡ false → instruction c old.source old.place ≡ record { value = Ok x; place = new.place } →
      instructions_left (record { context = c; position = old }) ≡ with_first x (instructions_left (record { context = c; position = new }))
  one_read x h e =
      turn c old false (record { value = Ok x; place = new.place }) (some_left old h) e
      ∙ ap (λ (s : Source). with_first x (readings_from (instruction c) s new.place)) (sym same)

  pub further : (x : Instruction) → instruction c old.source old.place ≡ record { value = Ok x; place = new.place } → old.place < new.place
  further x e =
      let taken = (advances_instruction c).taken old.source old.place x (ap (λ (o : Outcome Instruction). o.value) e) in
      let after = ap (λ (o : Outcome Instruction). o.place) e in
      omega arith

  pub fewer_left : (x : Instruction) → (remaining old == 0) ≡ false → instruction c old.source old.place ≡ record { value = Ok x; place = new.place } → remaining new < remaining old
  fewer_left x h e =
      let on = further x e in
      let ne = eqb-false (remaining old) 0 h in
      let last = ap (λ (s : Source). s.last) same in
      omega arith

pub refused : (c : InstructionContext) (old : Position) (e : Error) (place : ℕ) → (remaining old == 0) ≡ false → instruction c old.source old.place ≡ record { value = Err e; place = place } →
    instructions_left (record { context = c; position = old }) ≡ no_values (Some e)
refused c old e place h is = turn c old false (record { value = Err e; place = place }) (some_left old h) is

pub at_end : (c : InstructionContext) (s : Position) → (remaining s == 0) ≡ true → instructions_left (record { context = c; position = s }) ≡ no_values None
at_end c s h =
    let none = eqb-true (remaining s) 0 h in
    turn c s true (instruction c s.source s.place) (le-leb _ _ (omega arith)) refl

pub at_exhausted : (c : InstructionContext) (s t : Position) → t ≡ end_position s → instructions_left (record { context = c; position = t }) ≡ no_values None
at_exhausted c s t e =
    ap (λ (u : Position). instructions_left (record { context = c; position = u })) e
    ∙ at_end c (end_position s) (eq-eqb (remaining (end_position s)) 0 (omega arith))
