-- A sample, with what was known of its process and its thread when it was taken.
--     Taken, taken_view taken      this, and that of the code
--     taken_of files of      a sample as it was taken, by what the records before it say
use Rattle.std.specs.Prelude.{ℕ, List, Option, map}
use Rattle.cfi_perf.specs.Samples.{Sample, sample_view}
use Rattle.cfi_mapped.specs.declared.mappings.MappedCode.{MappedCode}
use Rattle.cfi_processes.specs.KernelSites.{kernel_site}
use Rattle.cfi_processes.specs.KnownFiles.{KnownFile, known_view}
use Rattle.cfi_processes.specs.Sites.{Site}
use Rattle.cfi_mapped.specs.ThreadNames.{name_bytes}
use Rattle.cfi_stacks.specs.declared.taken_sample.TakenSample.{TakenSample}
use Rattle.cfi_stacks.specs.KnownSamples.{KnownSample, in_kernel_of}

-- Where an address of the kernel is, the files, what is mapped in the process, the thread's name,
-- and the sample at its time.
pub record Taken : Type 0 where
  pub in_kernel : ℕ → Site
  pub files : List KnownFile
  pub mapped : List MappedCode
  pub name : Option (List ℕ)
  pub time : ℕ
  pub sample : Sample

abbrev pub taken_view : TakenSample → Taken
taken_view taken = record {
  in_kernel =
      kernel_site (map known_view taken.kernel.files.now) taken.kernel.mappings.now;
  files = map known_view taken.code.files.now;
  mapped = taken.code.mappings.now;
  name = name_bytes taken.name;
  time = taken.time;
  sample = sample_view taken.sample;
}

abbrev pub taken_of : List KnownFile → KnownSample → Taken
taken_of files of = record {
  in_kernel = in_kernel_of files of.known;
  files = files;
  mapped = of.known.mapped of.sample.pid;
  name = of.known.names of.sample.tid;
  time = of.time;
  sample = of.sample;
}
