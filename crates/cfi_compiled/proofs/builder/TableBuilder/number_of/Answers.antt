use Rattle.std.proofs.Common.{◌<◌, length, sym, ap, subst, ◌∙◌}
use Rattle.std.specs.Prelude.{IfOk}
use Rattle.cfi_compiled.specs.CompiledTables.{TableContents, frame_at, steps_of}
use Rattle.cfi_compiled.specs.Steps.{free_from}
use Rattle.cfi_compiled.proofs.Grown.{if_ok, rise_kept, same_before, same_free}
use Rattle.cfi_compiled.proofs.KeptResults.{added_extends, added_named, result_named}
use Rattle.cfi_compiled.proofs.builder.TableBuilder.number_of.Goals as goal

pub invariant_of-self : goal.invariant_of-self
invariant_of-self c =
    let extends = added_extends c.self.inside.rests c.args.answer _ _ c.number_of.ensures.added in
    let kept = rise_kept _ _ extends _ c.self.invariant.rise c.self.invariant.numbers in
    let names = subst (λ (t : TableContents). IfOk c.args.answer (λ row. row.rest < length t.lists.rests)) (sym c.self.view_is) c.requires.names in
    record {
      rise = kept.0;
      numbers = kept.1;
      named = added_named c.self.inside.rests c.args.answer _ _ c.number_of.ensures.added c.self.invariant.named names;
    }

pub returns-clause-same : goal.returns-clause-same
returns-clause-same c =
    let extends = added_extends c.self.inside.rests c.args.answer _ _ c.number_of.ensures.added in
    if_ok c.number_of.result
    (λ a.
    same_before _ _ extends _ c.self.invariant.rise c.self.invariant.numbers a
    ∙ ap (λ (f : TableContents). frame_at f a) c.self.view_is)

pub returns-clause-free : goal.returns-clause-free
returns-clause-free c =
    let extends = added_extends c.self.inside.rests c.args.answer _ _ c.number_of.ensures.added in
    if_ok c.number_of.result
    (same_free _ _ extends _ c.self.invariant.rise c.self.invariant.numbers
    ∙ ap (λ (f : TableContents). free_from 0 (steps_of f)) c.self.view_is)

pub returns-clause-number : goal.returns-clause-number
returns-clause-number c =
    result_named c.self.inside.rests c.args.self.now.lists (ap (λ (t : TableContents). t.lists) c.self.view_is) _ c.args.answer c.number_of.result c.number_of.ensures.number c.number_of.ensures.means
