use Rattle.std.proofs.Common.{◌≡◌, drop}
use Rattle.std.specs.List.{list_any}
use Rattle.cfi_object.specs.Targets.{names_entry}
use Rattle.cfi_text.specs.WordTexts.{texts}
use Rattle.cfi_files.proofs.request.any_names_entry.Given as goal

-- the words that are left say what all say
abbrev pub invariant-loop-word : goal.invariant-loop-word
invariant-loop-word l = list_any names_entry (texts (drop l.word-index l.words)) ≡ list_any names_entry (texts l.words)
