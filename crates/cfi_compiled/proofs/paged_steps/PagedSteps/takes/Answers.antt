use Rattle.std.proofs.Common.{length, ap, arith}
use Rattle.cfi_compiled.specs.PagedSteps.{PagedView}
use Rattle.cfi_compiled.proofs.PagedSearch.{how_many}
use Rattle.cfi_compiled.proofs.paged_steps.PagedSteps.takes.Goals as goal

pub returns-clause-room : goal.returns-clause-room
returns-clause-room c few =
    let many = how_many c.self.inside.lead c.self.inside.first c.self.inside.ends.items c.self.inside.steps.items c.self.invariant in
    let is = ap (λ (v : PagedView). length v.steps) c.self.view_is in
    omega (arith, many, is, c.len-count.ensures, c.self.inside.steps.ok.0, c.if-count.false)
