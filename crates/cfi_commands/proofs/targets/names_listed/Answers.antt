use Rattle.std.proofs.Common.{◌∙◌}
use Rattle.std.proofs.lemmas.Result.{IfOk-weaker}
use Rattle.cfi_commands.proofs.TargetLemmas.{names_are}
use Rattle.cfi_commands.proofs.targets.names_listed.Goals as goal

pub returns-in-Some : goal.returns-in-Some
returns-in-Some c =
    IfOk-weaker c.with_rest.result _ _ (λ all h. h ∙ names_are c.in_ok-names.names.items c.pop.new.self.items c.in-Some.rest _ c.in_ok-names.ensures c.in-Some.ensures.items) c.with_rest.ensures
