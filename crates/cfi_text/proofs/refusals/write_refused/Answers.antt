use Rattle.cfi_text.specs.declared.style.Format.TheVariants.{Json}
use Rattle.cfi_text.specs.ErrorWords.{error_words}
use Rattle.cfi_text.proofs.RefusedLines.{object_written}
use Rattle.cfi_text.proofs.refusals.write_refused.Goals as goal

pub returns-in-Json : goal.returns-in-Json
returns-in-Json g c = rw c.in-Json.is (object_written _ _ _ (error_words Json c.args.error) c.write_error_words-in-Json.ensures)
