-- What a visitor is handed of a profile: the stacks of the chosen samples, in the order of their
-- times, until it refuses one.
--     ended error      what a walk of all stacks returns
--     IsVisited .. taken old new result      of a sample
--     VisitsRecord .., VisitsTurn ..      of a record, and of the record at a place
--     AreVisited .. records error old new result      of these records, which the error ends
--     IsProfileRefused .., IsMachineUnknown .., IsNoneVisited old new result      nothing
--     VisitsSorted .., VisitsRecords .., VisitsHead ..      of records, by the files that they name
--     IsProfileVisited .. old new result bytes      of the profile that these bytes are
use Rattle.std.specs.Prelude.{◌≡◌, ◌⊎◌, ⊤, ℕ, Bool, List, [], ◌∷◌, ◌++◌, Option, Some, None}
use Rattle.std.specs.Prelude.{Result, Ok, Err, take}
use Rattle.std.specs.List.{FoldsTo}
use Rattle.cfi_text.specs.declared.reading.InputError.{InputError}
use Rattle.cfi_perf.specs.declared.error.PerfError.{PerfError}
use Rattle.cfi_perf.specs.declared.index.RecordPlace.{RecordPlace}
use Rattle.cfi_perf.specs.Events.{Record}
use Rattle.cfi_perf.specs.Records.{Records}
use Rattle.cfi_mapped.specs.Wanted.{FilePlace}
use Rattle.cfi_processes.specs.declared.registers.SampleMachine.{SampleMachine}
use Rattle.cfi_processes.specs.KnownFiles.{KnownFile}
use Rattle.cfi_stacks.specs.declared.profile_index.ProfileIndex.{ProfileIndex}
use Rattle.cfi_stacks.specs.declared.visitor.VisitError.{VisitError}
use Rattle.cfi_stacks.specs.declared.visitor.VisitError.TheVariants.{Input, Profile}
use Rattle.cfi_stacks.specs.declared.visitor.VisitError.TheVariants.{Records as RecordsEnd}
use Rattle.cfi_stacks.specs.declared.visitor.VisitError.TheVariants.{UnknownMachine, Visitor}
use Rattle.cfi_stacks.specs.Choices.{Choice}
use Rattle.cfi_stacks.specs.ChosenStacks.{AreStacks, IsSampleStack, IsStackOf}
use Rattle.cfi_stacks.specs.KnownSamples.{Known}
use Rattle.cfi_stacks.specs.ProfileContents.{HoldsOfHead, HoldsOfProfile, HoldsOfRecords}
use Rattle.cfi_stacks.specs.ProfileContents.{HoldsOfSorted}
use Rattle.cfi_stacks.specs.ProfileIndexes.{IsReadAt}
use Rattle.cfi_stacks.specs.SampleOutputs.{Stack}
use Rattle.cfi_stacks.specs.TakenSamples.{Taken}
use Rattle.cfi_stacks.specs.Turns.{IsTurn}

-- after the last stack, by the error that ended the records
abbrev pub ended : {E : Type 0} → Option PerfError → Result ⊤ (VisitError E)
ended None = Ok tt
ended (Some e) = Err (RecordsEnd e)

-- nothing was handed over: of a profile that is refused, of one whose machine isn't known, or since
-- memory was refused or the input can't be read
module _ {V T E : Type 0} (old new : V) (result : Result T (VisitError E)) where
  abbrev pub IsProfileRefused : PerfError → Type 0
  IsProfileRefused e = (result ≡ Err (Profile e)) × (new ≡ old)

  abbrev pub IsMachineUnknown : Type 0
  IsMachineUnknown = (result ≡ Err UnknownMachine) × (new ≡ old)

  abbrev pub IsNoneVisited : Type 0
  IsNoneVisited = (why : InputError) × (result ≡ Err (Input why)) × (new ≡ old)

-- what a visit makes of the visitor, and one that fails
module _ {V E : Type 0} (visits : V → Stack → V → Type 0) (refuses : V → Stack → V → E → Type 0)
    (with_functions : Bool) where
  -- ---- a sample, a record

  module _ (machine : SampleMachine) where
    abbrev pub IsVisited : {T : Type 0} → Taken → V → V → Result T (VisitError E) → Type 0
    IsVisited taken old new (Ok done) =
        (stack : Stack) × IsStackOf with_functions machine taken stack × visits old stack new
    IsVisited taken old new (Err (Input why)) = new ≡ old
    IsVisited taken old new (Err (Visitor why)) =
        (stack : Stack) × IsStackOf with_functions machine taken stack × refuses old stack new why
    IsVisited taken old new (Err _) = ⊥

    module _ (files : List KnownFile) (choice : Choice) where
      abbrev pub VisitsRecord :
          Record → Known → Option ℕ → Known → V → V → Result (Option ℕ) (VisitError E) → Type 0
      VisitsRecord r before left now old new (Ok more) =
          (stacks : List Stack)
          × IsTurn (IsSampleStack with_functions machine files) files choice before left r now more
          stacks
          × FoldsTo visits old stacks new
      VisitsRecord r before left now old new (Err (Input why)) = new ≡ old
      VisitsRecord r before left now old new (Err (Visitor why)) =
          (stack : Stack) × (more : Option ℕ)
          × IsTurn (IsSampleStack with_functions machine files) files choice before left r now more
          (stack ∷ [])
          × refuses old stack new why
      VisitsRecord r before left now old new (Err _) = ⊥

      -- of one that may be the one at the place; nothing where it can't be read
      abbrev pub VisitsTurn :
          Option (List ℕ) → ProfileIndex → RecordPlace → Known → Option ℕ → Known → V → V →
          Result (Option ℕ) (VisitError E) → Type 0
      VisitsTurn known index place before left now old new result =
          ((why : InputError) × (result ≡ Err (Input why)) × (new ≡ old))
          ⊎ ((r : Record) × IsReadAt known index place r
          × VisitsRecord r before left now old new result)

      -- ---- records

      -- the stacks of the chosen samples, one after the other, or of those of the first records
      abbrev pub AreVisited :
          {T : Type 0} → List Record → Option PerfError → V → V → Result T (VisitError E) → Type 0
      AreVisited records error old new (Ok done) =
          (error ≡ None)
          × (stacks : List Stack) × AreStacks with_functions machine files choice records stacks
          × FoldsTo visits old stacks new
      AreVisited records error old new (Err (RecordsEnd e)) =
          (error ≡ Some e)
          × (stacks : List Stack) × AreStacks with_functions machine files choice records stacks
          × FoldsTo visits old stacks new
      AreVisited records error old new (Err (Input why)) =
          (n : ℕ) × (stacks : List Stack)
          × AreStacks with_functions machine files choice (take n records) stacks
          × FoldsTo visits old stacks new
      AreVisited records error old new (Err (Visitor why)) =
          (n : ℕ) × (stacks : List Stack) × (stack : Stack) × (mid : V)
          × AreStacks with_functions machine files choice (take n records) (stacks ++ stack ∷ [])
          × FoldsTo visits old stacks mid × refuses mid stack new why
      AreVisited records error old new (Err _) = ⊥

  -- ---- a profile

  module _ (choice : Choice) {Handle : Type 0} (may_open : FilePlace → Option Handle → Type 0)
      (remaining : Handle → Option (List ℕ)) {T : Type 0} (old new : V)
      (result : Result T (VisitError E)) where
    abbrev pub VisitsAll :
        SampleMachine → List KnownFile → List Record → Option PerfError → Type 0
    VisitsAll machine files records error =
        AreVisited machine files choice records error old new result

    abbrev pub VisitsSorted : SampleMachine → List Record → Option PerfError → Type 0
    VisitsSorted machine sorted error =
        HoldsOfSorted with_functions may_open remaining VisitsAll machine sorted error

    abbrev pub VisitsRecords : SampleMachine → Records → Type 0
    VisitsRecords machine found =
        HoldsOfRecords with_functions may_open remaining VisitsAll machine found

    abbrev pub VisitsHead : Result (Option (List ℕ)) PerfError → Records → Type 0
    VisitsHead architecture found =
        HoldsOfHead with_functions may_open remaining VisitsAll
        (IsProfileRefused old new result) (IsMachineUnknown old new result) architecture found

    abbrev pub IsProfileVisited : List ℕ → Type 0
    IsProfileVisited bytes =
        HoldsOfProfile with_functions may_open remaining VisitsAll
        (IsProfileRefused old new result) (IsMachineUnknown old new result) bytes
        ⊎ IsNoneVisited old new result
