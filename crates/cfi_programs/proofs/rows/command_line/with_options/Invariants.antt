use Rattle.std.proofs.Common.{◌≡◌, drop}
use Rattle.cfi_text.specs.WordTexts.{texts}
use Rattle.cfi_programs.specs.RowsCommandLine.{option_words}
use Rattle.cfi_programs.proofs.rows.command_line.with_options.Given as goal

abbrev pub invariant-loop-word : goal.invariant-loop-word
invariant-loop-word l = option_words (texts (drop l.word-index l.options)) l.request ≡ option_words (texts l.options) l.initial.request
