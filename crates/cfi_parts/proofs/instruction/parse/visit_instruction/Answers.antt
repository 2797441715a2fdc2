use Rattle.std.proofs.Common.{◌≡◌, ◌∙◌, ◌-◌, ◌%◌, rules}
use Rattle.std.specs.Prelude.{◌≢◌}
use Rattle.std.specs.Int.{w8}
use Rattle.cfi_read_core.proofs.Onward.{onward_unsigned}
use Rattle.cfi_parts.specs.Instructions.{instruction, by_extended_opcode}
use Rattle.cfi_parts.specs.ReadingParameters.{instruction_context}
use Rattle.cfi_parts.proofs.Behind.{stays_behind}
use Rattle.cfi_parts.proofs.Visits.{by_extended, visits_by}
use Rattle.cfi_parts.proofs.instruction.parse.visit_instruction.Goals as goal

pub visit_extended-requires : goal.visit_extended-requires
visit_extended-requires g c = stays_behind (onward_unsigned w8) _ c.in_ok-opcode.ensures.0 c.requires

pub returns-then-opcode : goal.returns-then-opcode
returns-then-opcode g c =
    let context = instruction_context g.R.Reader.position c.args.parameters.now in
    let opcode = c.in_ok-opcode.opcode in
    let advances : opcode - opcode % 64 ≢ 0x40 = search rules in
    let offsets : opcode - opcode % 64 ≢ 0x80 = search rules in
    let restores : opcode - opcode % 64 ≢ 0xc0 = search rules in
    let byte = c.in_ok-opcode.ensures in
    visits_by g.R.Offset.ReaderOffset.number (g.V.InstructionVisitor.visits c.args.visitor.now) (by_extended_opcode context opcode) (instruction context)
    (g.R.Reader.position c.args.input.now) (g.R.Reader.position c.read_u8.new.self) (g.R.Reader.position c.visit_extended.new.input) _ _ c.visit_extended.result c.visit_extended.ensures
    (λ found reads. (by_extended context _ _ _ byte.0 byte.1 advances offsets restores ∙ reads.0, reads.1 ∙ byte.1))
