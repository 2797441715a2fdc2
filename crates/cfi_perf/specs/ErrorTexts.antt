-- What an error says, in a sentence, with the number that it carries.
--     text_of_perf error      the sentence, and the number after it if there is one
use Rattle.std.specs.Prelude.{ℕ, List, [], ◌++◌, Option, Some, None, codes}
use Rattle.std.specs.Fmt.{decimal}
use Rattle.cfi_perf.specs.declared.error.PerfError.{PerfError}
use Rattle.cfi_perf.specs.declared.error.PerfError.TheVariants.{NotPerf, PipeMode, HeaderCut}
use Rattle.cfi_perf.specs.declared.error.PerfError.TheVariants.{HeaderSize, AttributeSize}
use Rattle.cfi_perf.specs.declared.error.PerfError.TheVariants.{AttributesOutOfBounds, NoEvents}
use Rattle.cfi_perf.specs.declared.error.PerfError.TheVariants.{MixedEvents, DataOutOfBounds}
use Rattle.cfi_perf.specs.declared.error.PerfError.TheVariants.{FeatureOutOfBounds, RecordSize}
use Rattle.cfi_perf.specs.declared.error.PerfError.TheVariants.{RecordCut, Compressed, Directory}

-- up to the number
abbrev pub sentence_of_perf : PerfError → List ℕ
sentence_of_perf NotPerf = codes "not a profile of perf record"
sentence_of_perf PipeMode = codes "a pipe whose events don't stand first"
sentence_of_perf HeaderCut = codes "the profile ends in its header"
sentence_of_perf (HeaderSize size) = codes "a header of size "
sentence_of_perf Directory = codes "the samples are in other files of the folder"
sentence_of_perf (AttributeSize size) = codes "events of size "
sentence_of_perf AttributesOutOfBounds = codes "the events go past the file's end"
sentence_of_perf NoEvents = codes "the profile has no events"
sentence_of_perf MixedEvents = codes "the events' samples have different fields"
sentence_of_perf DataOutOfBounds = codes "the file ends before the records do"
sentence_of_perf FeatureOutOfBounds = codes "a feature goes past the file's end"
sentence_of_perf (RecordSize size) = codes "a record of size "
sentence_of_perf RecordCut = codes "a record ends in its fields"
sentence_of_perf Compressed = codes "the records are compressed"

abbrev pub number_of_perf : PerfError → Option ℕ
number_of_perf (HeaderSize size) = Some size
number_of_perf (AttributeSize size) = Some size
number_of_perf (RecordSize size) = Some size
number_of_perf _ = None

abbrev pub decimal_if : Option ℕ → List ℕ
decimal_if None = []
decimal_if (Some n) = decimal n

abbrev pub text_of_perf : PerfError → List ℕ
text_of_perf error = sentence_of_perf error ++ decimal_if (number_of_perf error)
