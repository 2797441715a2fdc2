use Rattle.cfi_row_text.proofs.KeptRulesLemmas.{kept_none}
use Rattle.cfi_row_text.proofs.kept_rules.KeptRules.new.Goals as goal

pub returns : goal.returns
returns c names = kept_none names _ _ c.new.ensures c.new-2.ensures.items
