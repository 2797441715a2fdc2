use Rattle.std.proofs.Common.{◌-◌, ℕ, List, Option, arith, subst}
use Rattle.cfi_object.specs.FileInputs.{IsPartRead}
use Rattle.cfi_stacks.proofs.AroundLemmas.{sides_read}
use Rattle.cfi_stacks.proofs.around.read_sides.Goals as goal

pub returns-clause-read : goal.returns-clause-read
returns-clause-read g c =
    sides_read (g.I.FileInput.bytes c.args.input.now) c.in_ok-before.before.items c.in_ok-behind.behind.items c.min.result c.args.end c.args.length c.requires.length (omega arith) c.requires.end c.in_ok-before.ensures.read
    (subst (λ (known : Option (List ℕ)). IsPartRead known c.args.end (c.args.length - c.args.end) c.in_ok-behind.behind.items) c.in_ok-before.ensures.same c.in_ok-behind.ensures.read)
