use Rattle.cfi_row_text.proofs.KeptRulesLemmas.{kept_none}
use Rattle.cfi_row_text.proofs.kept_rules.KeptRules.keep_anew.Goals as goal

pub returns-clause-kept : goal.returns-clause-kept
returns-clause-kept c = kept_none c.args.names _ _ c.clear-2.ensures.rules c.clear-2.ensures.text
