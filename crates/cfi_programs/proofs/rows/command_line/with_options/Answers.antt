use Rattle.std.proofs.Common.{sym, ◌∙◌, ap, arith}
use Rattle.std.specs.Option.{option_and_then}
use Rattle.cfi_programs.specs.RowsCommandLine.{option_word, option_words}
use Rattle.cfi_programs.proofs.WordLemmas.{one_more, none_more}
use Rattle.cfi_programs.proofs.rows.command_line.with_options.Goals as goal

pub loop-word-preserved : goal.loop-word-preserved
loop-word-preserved c = ap (option_and_then (option_words _)) c.in_ok-request.ensures ∙ sym (one_more option_word _ c.args.options.now _ _ c.loop-word-test.true) ∙ c.loop-word.invariant

pub returns-in_err-request : goal.returns-in_err-request
returns-in_err-request c = c.from_residual.ensures ∙ ap (option_and_then (option_words _)) c.in_err-request.ensures ∙ sym (one_more option_word _ c.args.options.now _ _ c.loop-word-test.true) ∙ c.loop-word.invariant

pub returns : goal.returns
returns c = sym (none_more option_word c.args.options.now c.loop-word.word-index _ (omega arith)) ∙ c.loop-word.invariant
