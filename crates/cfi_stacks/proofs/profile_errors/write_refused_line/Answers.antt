use Rattle.cfi_text.specs.declared.style.Format.TheVariants.{Json}
use Rattle.cfi_text.proofs.RefusedLines.{object_written}
use Rattle.cfi_stacks.specs.ProfileErrors.{perf_words}
use Rattle.cfi_stacks.proofs.profile_errors.write_refused_line.Goals as goal

pub returns-in-Json : goal.returns-in-Json
returns-in-Json g c = rw c.in-Json.is (object_written _ _ _ (perf_words Json c.args.error) c.write_perf_words-in-Json.ensures)
