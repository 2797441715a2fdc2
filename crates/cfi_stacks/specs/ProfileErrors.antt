-- What is printed of an error of a profile: its name, what it says, and what to do about it.
--     perf_refusal format error      the line
use Rattle.std.specs.Prelude.{ℕ, List, [], ◌++◌, codes}
use Rattle.cfi_perf.specs.declared.error.PerfError.{PerfError}
use Rattle.cfi_perf.specs.declared.error.PerfError.TheVariants.{AttributeSize, MixedEvents}
use Rattle.cfi_perf.specs.declared.error.PerfError.TheVariants.{Compressed, Directory}
use Rattle.cfi_perf.specs.ErrorNames.{name_of_perf}
use Rattle.cfi_perf.specs.ErrorTexts.{text_of_perf}
use Rattle.cfi_text.specs.declared.style.Format.{Format}
use Rattle.cfi_text.specs.ErrorWords.{parting}
use Rattle.cfi_text.specs.Lines.{Line}
use Rattle.cfi_text.specs.Refusals.{refusal_saying}

abbrev pub perf_advice : PerfError → List ℕ
perf_advice (AttributeSize size) = codes "; record with perf of Linux 3.7 or later"
perf_advice Directory = codes "; perf record without --threads writes one file"
perf_advice MixedEvents = codes "; record each event by itself"
perf_advice Compressed = codes "; perf record without -z doesn't compress them"
perf_advice _ = []

abbrev pub perf_words : Format → PerfError → List ℕ
perf_words format error =
    name_of_perf error ++ (parting format ++ (text_of_perf error ++ perf_advice error))

abbrev pub perf_refusal : Format → PerfError → Line
perf_refusal format error = refusal_saying format (perf_words format error)
