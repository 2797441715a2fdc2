use Rattle.std.proofs.Common.{◌∙◌, ℕ, IfOk, List, Option, arith, subst, sym}
use Rattle.cfi_object.specs.FileInputs.{IsLength, IsPartRead}
use Rattle.cfi_stacks.specs.ProfileIndexes.{IsReadAround}
use Rattle.cfi_stacks.proofs.AroundLemmas.{first_read}
use Rattle.cfi_stacks.proofs.around.read_around.Goals as goal

pub read_sides-requires-clause-length : goal.read_sides-requires-clause-length
read_sides-requires-clause-length g c =
    subst (λ (known : Option (List ℕ)). IsLength known c.in_ok-length.length) (sym (c.in_ok-first.ensures.same ∙ c.in_ok-length.ensures.same)) c.in_ok-length.ensures.length

pub returns-in-Some-clause-read : goal.returns-in-Some-clause-read
returns-in-Some-clause-read g c =
    subst (λ (known : Option (List ℕ)). IfOk c.read_sides.result (λ around. IsReadAround known around.before.items around.behind.items around.length)) (c.in_ok-first.ensures.same ∙ c.in_ok-length.ensures.same) c.read_sides.ensures.read

pub returns-in-None-clause-read : goal.returns-in-None-clause-read
returns-in-None-clause-read g c =
    let known = g.I.FileInput.bytes c.args.input.now in
    let part = subst (λ (k : Option (List ℕ)). IsPartRead k 0 c.min.result c.in_ok-first.first.items) c.in_ok-length.ensures.same c.in_ok-first.ensures.read in
    subst (λ (behind : List ℕ). IsReadAround known c.in_ok-first.first.items behind c.in_ok-length.length) (sym c.new.ensures.items)
    (first_read known c.in_ok-first.first.items c.min.result c.in_ok-length.length c.in_ok-length.ensures.length (omega (arith, c.min.ensures)) part)
