use Rattle.std.proofs.Common.{refl}
use Rattle.cfi_stacks.specs.Choices.{choice_view}
use Rattle.cfi_stacks.proofs.NoticeLemmas.{after_end}
use Rattle.cfi_stacks.proofs.ShowLemmas.{stacks_printed}
use Rattle.cfi_stacks.proofs.sample_stacks.print_stacks.Goals as goal

pub returns-clause-printed : goal.returns-clause-printed
returns-clause-printed g c =
    let (bytes, left, visited) = c.visit_profile-visited.ensures.visited in (
      bytes,
      left,
      stacks_printed (c.visit_profile-visited.new.visitor, c.visit_profile-visited.new.target) (λ printed. printed.0.style) (λ printed. g.W.Write.contents printed.1) c.args.style (choice_view c.args.choice.now) (g.O.Opener.may_open c.args.opener.now) g.O.File.Read.remaining _ refl
          c.visit_profile-visited.result (g.W.Write.contents c.write_end.new.output) c.write_end.result bytes c.write_end.ensures visited,
    )

pub returns-clause-said : goal.returns-clause-said
returns-clause-said g c = after_end _ c.args.style.format c.visit_profile-visited.result _ _ c.write_end.result c.write_end.ensures c.visit_profile-visited.ensures.said
