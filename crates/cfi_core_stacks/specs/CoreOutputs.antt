-- Which output is right for a core file.
--     AreThreadsPrinted listing files memory core line      the stacks of the threads, and then the
--         error that ended the notes
--     PrintsFound, WritesFound      a line or a text is written, unless it may lack something and
--         does
--     IsCoreOutput listing may_open remaining bytes line      the output of a core file of these
--         bytes, whose files may be opened so
use Rattle.std.specs.Prelude.{◌≡◌, ◌⊎◌, ℕ, Bool, true, false, List, ◌++◌, Option, Some, None}
use Rattle.std.specs.Prelude.{Result, Ok, Err, codes, not, take}
use Rattle.std.specs.Io.KnownBytes.{Appends}
use Rattle.cfi_text.specs.declared.style.Format.{Format}
use Rattle.cfi_text.specs.Readings.{AreLeft}
use Rattle.cfi_text.specs.declared.reading.InputError.{InputError}
use Rattle.cfi_text.specs.InputRefusals.{input_refusal}
use Rattle.cfi_text.specs.Lines.{Line}
use Rattle.cfi_text.specs.Refusals.{reason_line as why_line, refusal_saying}
use Rattle.cfi_text.specs.WriterOutput.{IsBeginning, PrintsSome}
use Rattle.cfi_processes.specs.KnownFiles.{KnownFile}
use Rattle.cfi_mapped.specs.OpenedFiles.{Opened}
use Rattle.cfi_processes.specs.ProfileFiles.{AreProfileFilesOf}
use Rattle.cfi_mapped.specs.FileReads.{AreOpened}
use Rattle.cfi_mapped.specs.Wanted.{FilePlace, Wanted}
use Rattle.cfi_cores.specs.declared.error.CoreError.{CoreError}
use Rattle.cfi_cores.specs.CoreFiles.{Core, IsSortedCore, core_of}
use Rattle.cfi_cores.specs.CoreMemories.{memory_number}
use Rattle.cfi_cores.specs.CoreSegments.{CoreSegment}
use Rattle.cfi_cores.specs.CoreThreads.{CoreThread}
use Rattle.cfi_cores.specs.ErrorNames.{name_of_core}
use Rattle.cfi_core_stacks.specs.declared.listing.ThreadListing.{ThreadListing}
use Rattle.cfi_frames.specs.Sequences.{AreOfAll}
use Rattle.cfi_core_stacks.specs.ThreadOutputs.{IsThreadText}
use Rattle.cfi_core_stacks.specs.CoreCode.{core_code_files, core_mappings, with_vdso_file}
use Rattle.cfi_core_stacks.specs.CoreWindows.{AreWindows}
use Rattle.cfi_core_stacks.specs.AskedThreads.{asked_threads, lacks_thread}
use Rattle.cfi_frames.specs.Outputs.{no_memory}

abbrev pub core_refusal : Format → CoreError → Line
core_refusal format error = refusal_saying format (name_of_core error)

-- memory was refused, or the input can't be read
abbrev pub IsInputRefused : Format → Line → Type 0
IsInputRefused format printed = (why : InputError) × (printed ≡ input_refusal format why)

abbrev pub no_thread : Format → Line
no_thread format = why_line format (codes "no thread") 1

-- after the stacks
abbrev pub core_ended : Format → List ℕ → Option CoreError → Line
core_ended format text None = record { text = text; status = 0 }
core_ended format text (Some error) =
    record { text = text ++ (core_refusal format error).text; status = 1 }

module _ (listing : ThreadListing) (files : List KnownFile) (memory : ℕ → ℕ → Option ℕ)
    (core : Core) where
  abbrev pub AreOfThreads : List CoreThread → List ℕ → Type 0
  AreOfThreads threads =
      AreOfAll
      (IsThreadText listing core.machine files (core_mappings files core.segments core.mapped)
      memory core.name)
      (asked_threads listing threads)

  -- or memory was refused after the first of them
  abbrev pub AreThreadsPrinted : Line → Type 0
  AreThreadsPrinted printed =
      ((text : List ℕ) × AreOfThreads core.threads text
      × (printed ≡ core_ended listing.format text core.error))
      ⊎ ((n : ℕ) × (text : List ℕ) × AreOfThreads (take n core.threads) text
      × (printed ≡ record { text = text ++ (no_memory listing.format).text; status = 1 }))

-- ---- unless something is lacking

module _ {E : Type 0} (Is : Line → Type 0) (old new : Option (List ℕ)) (may_lack : Bool) where
  abbrev pub PrintsFound : Result (Option ℕ) E → Type 0
  PrintsFound (Ok (Some status)) = PrintsSome {E = E} Is old new (Ok status)
  PrintsFound (Ok None) = may_lack ≡ true
  PrintsFound (Err e) = PrintsSome {E = E} Is old new (Err e)

module _ {E : Type 0} (Is : List ℕ → Type 0) (old new : Option (List ℕ)) (may_lack : Bool) where
  abbrev pub WritesFound : Result Bool E → Type 0
  WritesFound (Ok true) = (text : List ℕ) × Appends old new text × Is text
  WritesFound (Ok false) = may_lack ≡ true
  WritesFound (Err e) =
      (text : List ℕ) × ((front : List ℕ) × Appends old new front × IsBeginning front text)
      × Is text

-- ---- a core file

abbrev pub core_memory : Core → List CoreSegment → ℕ → ℕ → Option ℕ
core_memory core windows = memory_number (record { dumped = core.segments; mapped = windows })

-- in the memory that the core and the files have
abbrev pub IsCoreOfFiles : ThreadListing → Core → List Opened → List KnownFile → Line → Type 0
IsCoreOfFiles listing core opened files printed =
    (windows : List CoreSegment) × AreWindows opened core.mapped windows
    × AreThreadsPrinted listing files (core_memory core windows) core printed

-- by files that were opened
abbrev pub IsCoreOfOpened : ThreadListing → Core → List Opened → Line → Type 0
IsCoreOfOpened listing core opened printed =
    (files : List KnownFile) × AreProfileFilesOf (not listing.raw) opened files
    × IsCoreOfFiles listing core opened files printed

module _ (listing : ThreadListing) {Handle : Type 0}
    (may_open : FilePlace → Option Handle → Type 0) (remaining : Handle → Option (List ℕ)) where
  -- by these files and the vdso
  abbrev pub IsCoreOfWanted : Core → List Wanted → Line → Type 0
  IsCoreOfWanted core wanted printed =
      (opened : List Opened) × AreOpened may_open remaining wanted opened
      × IsCoreOfOpened listing core (with_vdso_file core opened) printed

  -- where a thread is asked for that isn't there, that is all
  abbrev pub IsOfLacking : Bool → Core → Line → Type 0
  IsOfLacking true core printed = printed ≡ no_thread listing.format
  IsOfLacking false core printed =
      IsCoreOfWanted core (core_code_files core.segments core.mapped) printed

  abbrev pub IsOfCore : Core → Line → Type 0
  IsOfCore core printed = IsOfLacking (lacks_thread listing core) core printed

  abbrev pub IsOfRead : Result Core CoreError → Line → Type 0
  IsOfRead (Err e) printed = printed ≡ core_refusal listing.format e
  IsOfRead (Ok found) printed =
      (core : Core) × IsSortedCore found core × IsOfCore core printed

  -- or memory was refused before the first stack
  abbrev pub IsCoreOutput : List ℕ → Line → Type 0
  IsCoreOutput bytes printed =
      IsOfRead (core_of bytes) printed ⊎ (printed ≡ no_memory listing.format)

  -- or the input can't be read
  abbrev pub IsCoreOwed : List ℕ → Line → Type 0
  IsCoreOwed bytes printed = IsCoreOutput bytes printed ⊎ IsInputRefused listing.format printed

  -- of an input that has the known bytes, where these are known
  abbrev pub PrintsCoreOwed :
      {E : Type 0} → Option (List ℕ) → Option (List ℕ) → Option (List ℕ) → Result ℕ E → Type 0
  PrintsCoreOwed known old new result =
      (bytes : List ℕ) × AreLeft known bytes
      × PrintsSome (λ line. IsCoreOwed bytes line) old new result
