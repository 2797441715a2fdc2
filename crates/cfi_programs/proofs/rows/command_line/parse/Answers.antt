use Rattle.std.proofs.Common.{◌∙◌, ap}
use Rattle.std.specs.Option.{option_and_then}
use Rattle.cfi_programs.specs.RowsCommandLine.{option_words}
use Rattle.cfi_programs.proofs.RowsCommandLineLemmas.{too_few, four}
use Rattle.cfi_programs.proofs.rows.command_line.parse.Goals as goal

pub returns-in_default : goal.returns-in_default
returns-in_default c = too_few _ c.in_default.len_below

pub returns-in_err-first_four_words : goal.returns-in_err-first_four_words
returns-in_err-first_four_words c = c.from_residual.ensures ∙ ap (option_and_then (option_words _)) c.in_err-first_four_words.ensures ∙ four _ c.args.words.now c.in-len4-up.len_at_least

pub returns : goal.returns
returns c = c.with_options.ensures ∙ ap (option_and_then (option_words _)) c.in_ok-first_four_words.ensures ∙ four _ c.args.words.now c.in-len4-up.len_at_least
