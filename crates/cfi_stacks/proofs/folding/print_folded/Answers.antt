use Rattle.std.proofs.Common.{refl}
use Rattle.cfi_flame.specs.FoldedCounts.{counted_in}
use Rattle.cfi_stacks.specs.Choices.{choice_view}
use Rattle.cfi_stacks.proofs.CountedLemmas.{folded_printed}
use Rattle.cfi_stacks.proofs.NoticeLemmas.{after_counts}
use Rattle.cfi_stacks.proofs.folding.print_folded.Goals as goal

pub returns-clause-printed : goal.returns-clause-printed
returns-clause-printed g c =
    let (bytes, left, visited) = c.visit_profile-visited.ensures.visited in (
      bytes,
      left,
      folded_printed (c.visit_profile-visited.new.visitor, c.visit_profile-visited.new.target) (λ folded. folded.0.by_period) (λ folded. counted_in folded.1) c.args.by_period (choice_view c.args.choice.now) (g.O.Opener.may_open c.args.opener.now) g.O.File.Read.remaining _ refl c.new-counts.ensures
          c.visit_profile-visited.result (g.W.Write.contents c.args.output.now) (g.W.Write.contents c.write_folded_end.new.output) c.write_folded_end.result bytes c.write_folded_end.ensures visited,
    )

pub returns-clause-said : goal.returns-clause-said
returns-clause-said g c = after_counts _ _ c.visit_profile-visited.result _ _ c.write_folded_end.result c.write_folded_end.ensures c.visit_profile-visited.ensures.said
