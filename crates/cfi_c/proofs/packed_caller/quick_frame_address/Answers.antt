use Rattle.std.proofs.Common.{◌∙◌, ℤ, FitsSigned, ap, rules, sym}
use Rattle.std.proofs.lemmas.Int.{to_z-of_z}
use Rattle.std.specs.Int.{w64}
use Rattle.cfi_expression.specs.Arithmetic.{displaced}
use Rattle.cfi_c.proofs.PackedReads.{quick_cfa}
use Rattle.cfi_c.proofs.packed_caller.quick_frame_address.Goals as goal

pub returns-in-Some : goal.returns-in-Some
returns-in-Some c =
    let offset = c.cfa_offset.result in
    let fits : FitsSigned w64 offset = search rules in
    quick_cfa c.args.memory.now c.args.registers.now c.args.row.now c.in-Some.value c.cfa_register.result offset c.displaced.result c.requires.size (sym c.known.ensures ∙ c.in-Some.is)
    c.cfa_register.ensures c.cfa_offset.ensures (c.displaced.ensures ∙ ap (λ (z : ℤ). displaced 8 c.in-Some.value z) (to_z-of_z w64 offset fits))
