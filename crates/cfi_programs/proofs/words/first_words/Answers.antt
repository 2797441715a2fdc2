use Rattle.std.proofs.Common.{◌≡◌, Some, sym, ◌∙◌}
use Rattle.cfi_programs.specs.Words.{kind_named, order_named, size_named}
use Rattle.cfi_programs.proofs.words.first_words.Goals as goal

pub returns : goal.returns
returns c =
    let kind : kind_named c.args.kind.now ≡ Some c.in_ok-kind_named.field-0 = sym c.kind_named.ensures ∙ c.in_ok-kind_named.was in
    let order : order_named c.args.order.now ≡ Some c.in_ok-order_named.field-0 = sym c.order_named.ensures ∙ c.in_ok-order_named.was in
    let size : size_named c.args.size.now ≡ Some c.in_ok-size_named.field-0 = sym c.size_named.ensures ∙ c.in_ok-size_named.was in
    rw (kind, order, size)
