-- The names of the errors, without what they carry.
use Rattle.std.specs.Prelude.{ℕ, List, codes}
use Rattle.cfi_perf.specs.declared.error.PerfError.{PerfError}
use Rattle.cfi_perf.specs.declared.error.PerfError.TheVariants.{NotPerf, PipeMode, HeaderCut}
use Rattle.cfi_perf.specs.declared.error.PerfError.TheVariants.{HeaderSize, AttributeSize}
use Rattle.cfi_perf.specs.declared.error.PerfError.TheVariants.{AttributesOutOfBounds, NoEvents}
use Rattle.cfi_perf.specs.declared.error.PerfError.TheVariants.{MixedEvents, DataOutOfBounds}
use Rattle.cfi_perf.specs.declared.error.PerfError.TheVariants.{FeatureOutOfBounds, RecordSize}
use Rattle.cfi_perf.specs.declared.error.PerfError.TheVariants.{RecordCut, Compressed, Directory}

abbrev pub name_of_perf : PerfError → List ℕ
name_of_perf NotPerf = codes "NotPerf"
name_of_perf PipeMode = codes "PipeMode"
name_of_perf HeaderCut = codes "HeaderCut"
name_of_perf (HeaderSize size) = codes "HeaderSize"
name_of_perf Directory = codes "Directory"
name_of_perf (AttributeSize size) = codes "AttributeSize"
name_of_perf AttributesOutOfBounds = codes "AttributesOutOfBounds"
name_of_perf NoEvents = codes "NoEvents"
name_of_perf MixedEvents = codes "MixedEvents"
name_of_perf DataOutOfBounds = codes "DataOutOfBounds"
name_of_perf FeatureOutOfBounds = codes "FeatureOutOfBounds"
name_of_perf (RecordSize size) = codes "RecordSize"
name_of_perf RecordCut = codes "RecordCut"
name_of_perf Compressed = codes "Compressed"
