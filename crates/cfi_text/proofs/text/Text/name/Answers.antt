use Rattle.std.proofs.Common.{sym, ◌∙◌}
use Rattle.cfi_text.proofs.NameLemmas.{all_shown}
use Rattle.cfi_text.proofs.TextLemmas.{same}
use Rattle.cfi_text.proofs.text.Text.name.Goals as goal

pub returns-then-is_plain : goal.returns-then-is_plain
returns-then-is_plain c = same _ _ _ _ (sym (all_shown c.args.name.now (sym c.is_plain.ensures ∙ c.if-is_plain.true))) c.put.ensures
