use Rattle.std.proofs.Common.{◌≡◌, ◌||◌, refl}
use Rattle.cfi_stacks.proofs.TallyLemmas.{with_lost, with_other, with_sample}
use Rattle.cfi_stacks.proofs.profile_index.Tally.count.Goals as goal
use Rattle.cfi_stacks.proofs.profile_index.Tally.count.Goals.{then-self, else-self}

pub returns-after-self : goal.returns-after-self
returns-after-self c records is =
    let stacks : c.if-self.self ≡ (c.args.self.now.has_stacks || c.in-Sample.sample.copies_stack) = elim c.if-self.branch [
      | then-self w ↦ rw (w.self-is, w.if-self.true) refl
      | else-self w ↦ rw (w.self-is, w.if-self.false) refl
    ] in
    with_sample c.args.self.now records is c.args.item.now.time c.args.item.now.event c.in-Sample.sample c.if-self.self c.in-Sample.is stacks

pub returns-in-Lost : goal.returns-in-Lost
returns-in-Lost c records is =
    with_lost c.args.self.now records is c.args.item.now.time c.args.item.now.event c.in-Lost.lost c.lose.new.self c.in-Lost.is c.lose.ensures.has_samples c.lose.ensures.has_stacks c.lose.ensures.records c.lose.ensures.samples

pub returns-in_default : goal.returns-in_default
returns-in_default c records is = with_other c.args.self.now records is c.args.item.now.time c.args.item.now.event c.in_default.not-Sample c.in_default.not-Lost
