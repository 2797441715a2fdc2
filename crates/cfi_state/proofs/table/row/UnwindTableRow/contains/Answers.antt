use Rattle.std.proofs.lemmas.Bool.{ltb-true, lt-ltb}
use Rattle.cfi_state.proofs.table.row.UnwindTableRow.contains.Goals as goal

pub returns-then-self-address : goal.returns-then-self-address
returns-then-self-address g c =
    let address = c.args.address in
    let end = c.self.inside.end_address in
    rw (← c.self.view_is) (λ below. (c.if-self-address.true, ltb-true address end below), λ within. lt-ltb address end within.1)
