use Rattle.std.proofs.Common.{Some, get_or, sym, ap, ◌∙◌}
use Rattle.std.proofs.lemmas.Option.{slice_get-get_or}
use Rattle.std.specs.List.{swap_remove}
use Rattle.cfi_read_core.proofs.array_like.BoxArrayVecArrayLike.swap_remove.Goals as goal

pub returns-clause-value : goal.returns-clause-value
returns-clause-value g c =
    let item = c.swap_remove.result in
    slice_get-get_or c.args.self.now.value.items c.args.index item c.requires
    ∙ ap Some (sym (c.swap_remove.ensures.value ∙ ap (λ list. get_or list.items c.args.index item) c.as_mut.ensures.value))

pub returns-clause-items : goal.returns-clause-items
returns-clause-items g c = c.swap_remove.ensures.items ∙ ap (λ list. swap_remove list.items c.args.index c.swap_remove.result) c.as_mut.ensures.value
