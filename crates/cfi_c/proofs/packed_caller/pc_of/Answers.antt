use Rattle.std.proofs.Common.{◌≡◌, ◌<◌, ◌^◌, ℕ, None, Option, Ok, Err, Some, ap, rules, subst, sym}
use Rattle.std.specs.Int.{w64, bit_not}
use Rattle.std.specs.Prelude.{bit_and}
use Rattle.cfi_step.specs.PackedRules.{register_numbered}
use Rattle.cfi_c.specs.PackedSteps.{IsPcOf}
use Rattle.cfi_c.proofs.PackedReads.{found_at}
use Rattle.cfi_c.proofs.packed_caller.pc_of.Goals as goal

pub returns-in-Some : goal.returns-in-Some
returns-in-Some c = λ mask signed clears.
    let is : c.args.value ≡ Some c.in-Some.pc = search rules in
    let small : c.in-Some.pc < 2 ^ 64 = search rules in
    subst (λ (o : Option ℕ). IsPcOf mask signed o (register_numbered c.args.register) (Ok (Some (bit_and c.in-Some.pc (bit_not w64 c.args.signature))))) (sym is)
    (ap found_at (clears c.in-Some.pc small))

pub returns-in-None : goal.returns-in-None
returns-in-None c = λ mask signed clears.
    let is : c.args.value ≡ None = search rules in
    subst (λ (o : Option ℕ). IsPcOf mask signed o (register_numbered c.args.register) (Err c.unknown.result)) (sym is) (ap Err c.unknown.ensures)
