-- What holds of a profile, from the records of an index up to the bytes of the file.
use Rattle.std.proofs.Common.{◌≡◌, ◌⊎◌, ◌+◌, ℕ, Bool, List, Option, Some, None, Result, Ok, Err, inl, inr, map, refl, replicate, subst, sym}
use Rattle.std.proofs.lemmas.List.{length-replicate}
use Rattle.std.specs.Prelude.{slice_range}
use Rattle.cfi_text.specs.Readings.{AreLeft}
use Rattle.cfi_perf.specs.declared.error.PerfError.{PerfError}
use Rattle.cfi_perf.specs.declared.windows.RecordWalk.{RecordWalk}
use Rattle.cfi_perf.specs.Events.{Record}
use Rattle.cfi_perf.specs.Profiles.{Profile, architecture, profile, profile_records, records_by}
use Rattle.cfi_perf.specs.ProfilesAround.{IsProfileAround, profile_around}
use Rattle.cfi_perf.specs.Records.{Records}
use Rattle.cfi_perf.specs.ProfileHeads.{ProfileHead}
use Rattle.cfi_perf.specs.Windows.{next_place, record_bytes_left, records_in}
use Rattle.cfi_perf.proofs.AroundLemmas.{is_around}
use Rattle.cfi_text.specs.declared.style.Format.{Format}
use Rattle.cfi_text.specs.Lines.{Line}
use Rattle.cfi_text.specs.WriterOutput.{Prints, PrintsSome}
use Rattle.cfi_processes.specs.declared.registers.SampleMachine.{SampleMachine}
use Rattle.cfi_processes.specs.KnownFiles.{KnownFile}
use Rattle.cfi_mapped.specs.OpenedFiles.{Opened}
use Rattle.cfi_processes.specs.ProfileFiles.{AreProfileFilesOf}
use Rattle.cfi_mapped.specs.FileReads.{AreOpened}
use Rattle.cfi_processes.specs.Registers.{machine_named}
use Rattle.cfi_mapped.specs.WantedFiles.{wanted_of}
use Rattle.cfi_mapped.specs.Wanted.{FilePlace, Wanted}
use Rattle.cfi_stacks.specs.declared.profile_index.ProfileIndex.{ProfileIndex}
use Rattle.cfi_stacks.specs.ProfileContents.{HoldsOfHead, HoldsOfMachine, HoldsOfParsed, HoldsOfProfile, HoldsOfRecords, HoldsOfSorted}
use Rattle.cfi_stacks.specs.ProfileIndexes.{AreBytesAt, AreBytesOf, AreRecordsOf, HasRecordsAt, HoldsOf, IsIndexOf, IsReadAround, Piece, record_of}
use Rattle.cfi_stacks.specs.ProfileErrors.{perf_refusal}
use Rattle.cfi_stacks.specs.ProfileOutputs.{IsInputRefused, IsOwed, unknown_machine}
use Rattle.cfi_stacks.proofs.AroundLemmas.{own_records, whole_of}
use Rattle.cfi_stacks.proofs.PieceLemmas.{records_of_index}

-- bytes of the records, where there are none else
some_bytes : (known : Option (List ℕ)) (place size : ℕ) → HasRecordsAt known place size → (all : List ℕ) × AreBytesAt known place size all
some_bytes None place size has = (replicate size 0, (length-replicate {A = ℕ} size 0, tt))
some_bytes (Some file) place size has = (slice_range file place (place + size), (has, refl))

module _ (with_functions : Bool) {Handle : Type 0} (may_open : FilePlace → Option Handle → Type 0) (remaining : Handle → Option (List ℕ)) (Is : SampleMachine → List KnownFile → List Record → Option PerfError → Type 0) where
  -- ---- the records of an index

  -- the files that are wanted are those of the records
  pub by_files : (known : Option (List ℕ)) (index : ProfileIndex) (machine : SampleMachine) (wanted : List Wanted) (opened : List Opened) (files : List KnownFile) → ((pieces : List Piece) → IsIndexOf known index pieces → wanted ≡ wanted_of (map record_of pieces))
      → AreOpened may_open remaining wanted opened → AreProfileFilesOf with_functions opened files → HoldsOf known index (λ sorted. Is machine files sorted index.error)
      → HoldsOf known index (λ sorted. HoldsOfSorted with_functions may_open remaining Is machine sorted index.error)
  by_files known index machine wanted opened files of are named (pieces, is, so) =
      (pieces, is, (opened, subst (λ (l : List Wanted). AreOpened may_open remaining l opened) (of pieces is) are, files, named, so))

  -- ---- the records of some bytes

  abbrev pub IsOfBytes : Option (List ℕ) → RecordWalk → SampleMachine → Type 0
  IsOfBytes known walk machine = (all : List ℕ) × AreBytesOf known walk all × HoldsOfRecords with_functions may_open remaining Is machine (records_in walk all)

  of_records : (known : Option (List ℕ)) (index : ProfileIndex) (machine : SampleMachine) (sorted : List Record) → AreRecordsOf known index sorted → HoldsOfSorted with_functions may_open remaining Is machine sorted index.error
      → IsOfBytes known index.walk machine
  of_records known index machine sorted (all, records, are, reads, order) of =
      (all, are, subst (λ (found : Records). HoldsOfRecords with_functions may_open remaining Is machine found) (sym reads) (sorted, order, of))

  -- or nothing was visited
  pub of_index : {N : Type 0} (known : Option (List ℕ)) (index : ProfileIndex) (walk : RecordWalk) (machine : SampleMachine) → index.walk ≡ walk
      → HoldsOf known index (λ sorted. HoldsOfSorted with_functions may_open remaining Is machine sorted index.error) ⊎ N → IsOfBytes known walk machine ⊎ N
  of_index known index walk machine same (inl (pieces, is, of)) =
      inl (subst (λ (w : RecordWalk). IsOfBytes known w machine) same (of_records known index machine (map record_of pieces) (records_of_index known index pieces is) of))
  of_index known index walk machine same (inr none) = inr none

  module _ (IsRefused : PerfError → Type 0) (IsUnknown : Type 0) where
    -- ---- by what the profile says before them

    abbrev Holds : Result (Option (List ℕ)) PerfError → Records → Type 0
    Holds architecture found = HoldsOfHead with_functions may_open remaining Is IsRefused IsUnknown architecture found

    abbrev pub IsOfHead : Option (List ℕ) → ProfileHead → Type 0
    IsOfHead known head = (all : List ℕ) × AreBytesAt known head.place head.size all × Holds head.architecture (records_by head all)

    -- without a record
    without_records : (known : Option (List ℕ)) (head : ProfileHead) → HasRecordsAt known head.place head.size → ((found : Records) → Holds head.architecture found) → IsOfHead known head
    without_records known head has each = let (all, are) = some_bytes known head.place head.size has in (all, are, each (records_by head all))

    by_machine : (architecture : Result (Option (List ℕ)) PerfError) (name : List ℕ) (machine : Option SampleMachine) → architecture ≡ Ok (Some name) → machine_named name ≡ machine → (found : Records)
        → HoldsOfMachine with_functions may_open remaining Is IsRefused IsUnknown machine found → Holds architecture found
    by_machine architecture name machine is named found of =
        subst (λ (a : Result (Option (List ℕ)) PerfError). Holds a found) (sym is)
        (subst (λ (m : Option SampleMachine). HoldsOfMachine with_functions may_open remaining Is IsRefused IsUnknown m found) (sym named) of)

    pub no_machine : (known : Option (List ℕ)) (head : ProfileHead) (name : List ℕ) → HasRecordsAt known head.place head.size → head.architecture ≡ Ok (Some name) → machine_named name ≡ None → IsUnknown → IsOfHead known head
    no_machine known head name has is named unknown = without_records known head has (λ found. by_machine head.architecture name None is named found unknown)

    pub no_name : (known : Option (List ℕ)) (head : ProfileHead) → HasRecordsAt known head.place head.size → head.architecture ≡ Ok None → IsUnknown → IsOfHead known head
    no_name known head has is unknown = without_records known head has (λ found. subst (λ (a : Result (Option (List ℕ)) PerfError). Holds a found) (sym is) unknown)

    pub name_refused : (known : Option (List ℕ)) (head : ProfileHead) (e : PerfError) → HasRecordsAt known head.place head.size → head.architecture ≡ Err e → IsRefused e → IsOfHead known head
    name_refused known head e has is refused = without_records known head has (λ found. subst (λ (a : Result (Option (List ℕ)) PerfError). Holds a found) (sym is) refused)

    pub of_walk : {N : Type 0} (known : Option (List ℕ)) (head : ProfileHead) (walk : RecordWalk) (name : List ℕ) (machine : SampleMachine) → head.architecture ≡ Ok (Some name) → machine_named name ≡ Some machine
        → ((all : List ℕ) → records_in walk all ≡ records_by head all) → record_bytes_left walk ≡ head.size → next_place walk ≡ head.place → IsOfBytes known walk machine ⊎ N → IsOfHead known head ⊎ N
    of_walk known head walk name machine is named same left place (inl (all, are, of)) = inl (
      all,
      subst (λ (n : ℕ). AreBytesAt known head.place n all) left (subst (λ (n : ℕ). AreBytesAt known n (record_bytes_left walk) all) place are),
      by_machine head.architecture name (Some machine) is named (records_by head all) (subst (λ (found : Records). HoldsOfRecords with_functions may_open remaining Is machine found) (same all) of),
    )
    of_walk known head walk name machine is named same left place (inr none) = inr none

    -- ---- the bytes of the file

    abbrev HoldsIf : Result Profile PerfError → Type 0
    HoldsIf r = HoldsOfParsed with_functions may_open remaining Is IsRefused IsUnknown r

    -- all of them
    pub of_parsed : {N : Type 0} (bytes : List ℕ) (p : Profile) (head : ProfileHead) → profile bytes ≡ Ok p → head ≡ p.head → IsOfHead (Some bytes) head ⊎ N → HoldsIf (profile bytes) ⊎ N
    of_parsed bytes p head is same (inl of) =
        let (all, are, by_architecture) = subst (λ (h : ProfileHead). IsOfHead (Some bytes) h) same of in
        let by_records = subst (λ (l : List ℕ). Holds p.head.architecture (records_by p.head l)) (own_records bytes p is all are) by_architecture in
        inl (subst HoldsIf (sym is) by_records)
    of_parsed bytes p head is same (inr none) = inr none

    pub not_parsed : {N : Type 0} (bytes : List ℕ) (e : PerfError) → profile bytes ≡ Err e → IsRefused e → HoldsIf (profile bytes) ⊎ N
    not_parsed bytes e is refused = inl (subst HoldsIf (sym is) refused)

    abbrev pub IsOfFile : Type 0 → Option (List ℕ) → Type 0
    IsOfFile N known = (bytes : List ℕ) × AreLeft known bytes × (HoldsIf (profile bytes) ⊎ N)

    -- those that were read around the records, and these
    pub of_around : {N : Type 0} (known k : Option (List ℕ)) (before behind : List ℕ) (count : ℕ) (head : ProfileHead) → IsReadAround known before behind count
        → profile_around before behind count ≡ Ok (Some head) → k ≡ known → IsOfHead k head ⊎ N → IsOfFile N known
    of_around known k before behind count head around read same (inl of) =
        let (all, are, holds) = subst (λ (k : Option (List ℕ)). IsOfHead k head) same of in
        let (bytes, left, is) = whole_of before behind count head read known all around are in
        (bytes, left, inl (subst HoldsIf (sym is) holds))
    of_around known k before behind count head (bytes, left, of) read same (inr none) = (bytes, left, inr none)

    -- the first error
    pub error_around : {N : Type 0} (known : Option (List ℕ)) (before behind : List ℕ) (count : ℕ) (e : PerfError) → IsReadAround known before behind count
        → profile_around before behind count ≡ Err e → IsRefused e → IsOfFile N known
    error_around {N} known before behind count e (bytes, left, of) read refused =
        let is : profile bytes ≡ Err e = subst (λ (r : Result (Option ProfileHead) PerfError). IsProfileAround bytes r) read (is_around before behind count bytes of) in
        (bytes, left, not_parsed {N = N} bytes e is refused)

    -- ---- what is printed of it

    module _ {E : Type 0} (format : Format) (Printed : SampleMachine → List KnownFile → List Record → Option PerfError → Line → Type 0) (old new : Option (List ℕ)) (r : Result ℕ E)
        (each : (machine : SampleMachine) (files : List KnownFile) (sorted : List Record) (error : Option PerfError) → Is machine files sorted error → PrintsSome (λ line. Printed machine files sorted error line ⊎ IsInputRefused format line) old new r)
        (refused : (e : PerfError) → IsRefused e → Prints (perf_refusal format e) old new r) (unknown : IsUnknown → Prints (unknown_machine format) old new r) where
      abbrev With : (Line → Type 0) → Type 0
      With P = PrintsSome (λ line. P line ⊎ IsInputRefused format line) old new r

      abbrev At : Line → SampleMachine → List KnownFile → List Record → Option PerfError → Type 0
      At line machine files sorted error = Printed machine files sorted error line

      more : (P Q : Line → Type 0) → ((line : Line) → P line → Q line) → With P → With Q
      more P Q then (line, prints, inl is) = (line, prints, inl (then line is))
      more P Q then (line, prints, inr refusal) = (line, prints, inr refusal)

      print_records : (machine : SampleMachine) (found : Records) → HoldsOfRecords with_functions may_open remaining Is machine found → With (λ line. HoldsOfRecords with_functions may_open remaining (At line) machine found)
      print_records machine found (sorted, order, (opened, are, files, named, is)) =
          more (λ line. Printed machine files sorted found.error line) (λ line. HoldsOfRecords with_functions may_open remaining (At line) machine found) (λ line of. (sorted, order, (opened, are, files, named, of))) (each machine files sorted found.error is)

      print_machine : (machine : Option SampleMachine) (found : Records) → HoldsOfMachine with_functions may_open remaining Is IsRefused IsUnknown machine found
          → With (λ line. HoldsOfMachine with_functions may_open remaining (At line) (λ e. line ≡ perf_refusal format e) (line ≡ unknown_machine format) machine found)
      print_machine None found is = (unknown_machine format, unknown is, inl refl)
      print_machine (Some machine) found is = print_records machine found is

      print_head : (architecture : Result (Option (List ℕ)) PerfError) (found : Records) → Holds architecture found
          → With (λ line. HoldsOfHead with_functions may_open remaining (At line) (λ e. line ≡ perf_refusal format e) (line ≡ unknown_machine format) architecture found)
      print_head (Err e) found is = (perf_refusal format e, refused e is, inl refl)
      print_head (Ok None) found is = (unknown_machine format, unknown is, inl refl)
      print_head (Ok (Some name)) found is = print_machine (machine_named name) found is

      print_parsed : (p : Result Profile PerfError) → HoldsIf p → With (λ line. HoldsOfParsed with_functions may_open remaining (At line) (λ e. line ≡ perf_refusal format e) (line ≡ unknown_machine format) p)
      print_parsed (Err e) is = (perf_refusal format e, refused e is, inl refl)
      print_parsed (Ok p) is = print_head (architecture p) (profile_records p) is

      pub print_profile : (bytes : List ℕ) → HoldsOfProfile with_functions may_open remaining Is IsRefused IsUnknown bytes → PrintsSome (IsOwed format with_functions may_open remaining Printed bytes) old new r
      print_profile bytes is = print_parsed (profile bytes) is
