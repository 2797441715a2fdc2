use Rattle.std.proofs.Common.{ap, ◌∙◌}
use Rattle.cfi_compiled.specs.CompiledTables.{TableContents, frame_at, steps_of}
use Rattle.cfi_compiled.specs.Steps.{free_from}
use Rattle.cfi_compiled.proofs.Grown.{if_ok}
use Rattle.cfi_compiled.proofs.KeptResults.{free_grown, frame_grown, sound_grown}
use Rattle.cfi_compiled.proofs.builder.TableBuilder.rest_of.Goals as goal

pub invariant_of-self : goal.invariant_of-self
invariant_of-self g c = sound_grown _ _ c.number_of.ensures.grown _ _ c.self.invariant

pub returns-clause-same : goal.returns-clause-same
returns-clause-same g c =
    if_ok c.number_of.result
    (λ a. frame_grown _ _ c.number_of.ensures.grown _ _ c.self.invariant a ∙ ap (λ (f : TableContents). frame_at f a) c.self.view_is)

pub returns-clause-free : goal.returns-clause-free
returns-clause-free g c =
    if_ok c.number_of.result
    (free_grown _ _ c.number_of.ensures.grown _ _ c.self.invariant ∙ ap (λ (f : TableContents). free_from 0 (steps_of f)) c.self.view_is)
