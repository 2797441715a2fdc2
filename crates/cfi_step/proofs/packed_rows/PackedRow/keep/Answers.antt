use Rattle.std.proofs.Common.{◌≡◌, ◌∙◌, refl, rules, sym}
use Rattle.cfi_step.proofs.PackedKeeps.{packed_at_most}
use Rattle.cfi_step.proofs.packed_rows.PackedRow.keep.Goals as goal

pub returns-then-is_same : goal.returns-then-is_same
returns-then-is_same g c =
    let same_file : c.in-Ok.number ≡ c.args.file = search rules in
    let same : c.function.result ≡ c.args.function.now = c.is_same.ensures c.if-is_same.true in
    packed_at_most c.args.file c.args.address c.args.row.now.parts c.args.function.now
    (record { address = c.args.address; file = c.in-Ok.number; distances = c.distances_of-self.result; numbers = c.in-Some.numbers })
    same_file refl c.in-Some.ensures (sym c.function.ensures ∙ same)
