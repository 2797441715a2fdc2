use Rattle.std.proofs.Common.{◌∙◌, ◌≤◌, refl, sym, arith}
use Rattle.cfi_parts.specs.ReadingParameters.{instruction_context}
use Rattle.cfi_parts.proofs.ExpressionPlaces.{read_in}
use Rattle.cfi_parts.proofs.Walk.{one_read, further, fewer_left, refused, at_end, at_exhausted}
use Rattle.cfi_parts.proofs.instruction.CallFrameInstructionIter.visit_next.Goals as goal

pub returns-then-is_empty-clause-visits : goal.returns-then-is_empty-clause-visits
returns-then-is_empty-clause-visits g c =
    let context = instruction_context g.R.Reader.position c.args.self.now.parameters in
    let none_left = at_end context (g.R.Reader.position c.args.self.now.input) (sym c.is_empty.ensures ∙ c.if-is_empty.true) in
    ((none_left, none_left), refl)

pub returns-in-Ok-clause-visits : goal.returns-in-Ok-clause-visits
returns-in-Ok-clause-visits g c =
    let some_left = sym c.is_empty.ensures ∙ c.if-is_empty.false in
    let sound = g.met.R.Reader.sound c.args.self.now.input in
    let visited = c.in-Ok.ensures in
    let context = instruction_context g.R.Reader.position c.args.self.now.parameters in (
      visited.0,
      one_read context _ _ visited.1.1 _ some_left visited.1.0,
      visited.2,
      fewer_left context _ _ visited.1.1 _ some_left visited.1.0,
      λ section reads. read_in g.R.Offset.ReaderOffset.number section _ _ _ _ reads c.args.self.now.behind sound.ordered visited.1.0,
    )

pub returns-in-Err-clause-visits : goal.returns-in-Err-clause-visits
returns-in-Err-clause-visits g c =
    let some_left = sym c.is_empty.ensures ∙ c.if-is_empty.false in
    let read = c.in-Err.ensures in
    let context = instruction_context g.R.Reader.position c.args.self.now.parameters in
    ((refused context (g.R.Reader.position c.args.self.now.input) _ _ some_left read.0.0, at_exhausted context (g.R.Reader.position c.visit_instruction.new.input) _ c.empty.ensures), read.1)

pub invariant_of-self : goal.invariant_of-self
invariant_of-self g c =
    let read = c.in-Ok.ensures.1 in
    let on = further _ _ _ read.1 _ read.0 in
    let behind : (g.R.Reader.position c.args.self.now.parameters.pointers.section.now).place ≤ (g.R.Reader.position c.visit_instruction.new.input).place = omega (arith, c.args.self.now.behind) in
    record { behind = behind }
