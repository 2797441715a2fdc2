-- Which output is right for a profile.
--     AreStacksPrinted style choice .. records error line      the stacks of the samples that are
--         chosen, and then the error that ended the records; or a beginning of them, and that
--         memory was refused, or that the input can't be read
--     IsFolded by_period choice .. records error line      their folded stacks, and then that
--         error; or that a stack has too many
--     Ends format visited old new result, EndsFolded ..      what is printed after them
--     IsOwed format .. Printed bytes line      the output of a profile of these bytes, of whose
--         records this is printed; or that memory was refused, or that the input can't be read
--     IsListingOwed listing choice may_open remaining bytes line      that of a listing
use Rattle.std.specs.Prelude.{◌≡◌, ◌⊎◌, ◌<◌, ◌^◌, ℕ, Bool, true, List, [], ◌∷◌, ◌++◌, Option}
use Rattle.std.specs.Prelude.{Some, None}
use Rattle.std.specs.Prelude.{Result, Ok, Err, codes, not, take, unwrap_or}
use Rattle.std.specs.List.{flat_map}
use Rattle.std.specs.Result.{IsErr}
use Rattle.cfi_perf.specs.declared.error.PerfError.{PerfError}
use Rattle.cfi_perf.specs.Events.{Record}
use Rattle.cfi_text.specs.InputRefusals.{input_refusal}
use Rattle.cfi_text.specs.declared.reading.InputError.{InputError}
use Rattle.cfi_text.specs.declared.reading.InputError.TheVariants.{OutOfMemory}
use Rattle.cfi_text.specs.declared.style.Format.{Format}
use Rattle.cfi_text.specs.declared.style.Format.TheVariants as formats
use Rattle.cfi_text.specs.Lines.{Line, line}
use Rattle.cfi_text.specs.WriterOutput.{Prints, PrintsSome}
use Rattle.cfi_text.specs.Refusals.{reason_line as why_line}
use Rattle.cfi_processes.specs.declared.registers.SampleMachine.{SampleMachine}
use Rattle.cfi_processes.specs.KnownFiles.{KnownFile}
use Rattle.cfi_mapped.specs.Wanted.{FilePlace}
use Rattle.cfi_flame.specs.FoldedCounts.{AreCounted, counted, line_text}
use Rattle.cfi_flame.specs.FoldedStacks.{Stack}
use Rattle.cfi_flame.specs.declared.folded.FoldedError.{FoldedError}
use Rattle.cfi_flame.specs.declared.folded.FoldedError.TheVariants.{TooManySamples}
use Rattle.cfi_stacks.specs.ProfileContents.{HoldsOfProfile}
use Rattle.cfi_stacks.specs.ProfileErrors.{perf_refusal}
use Rattle.cfi_stacks.specs.declared.listing.Listing.{Listing}
use Rattle.cfi_stacks.specs.declared.listing.Listing.TheVariants.{Folded, Frames, Json}
use Rattle.cfi_stacks.specs.declared.listing.StackStyle.{StackStyle}
use Rattle.cfi_stacks.specs.Choices.{Choice}
use Rattle.cfi_stacks.specs.ChosenStacks.{AreSamples, AreStackTexts, folded_sample}
use Rattle.cfi_stacks.specs.SampleOutputs.{Stack as SampleStack}
use Rattle.cfi_stacks.specs.declared.visitor.VisitError.{VisitError}
use Rattle.cfi_stacks.specs.declared.visitor.VisitError.TheVariants as stopped

-- ---- all samples

-- memory was refused, or the input can't be read
abbrev pub IsInputRefused : Format → Line → Type 0
IsInputRefused format printed = (why : InputError) × (printed ≡ input_refusal format why)

-- after a text
abbrev pub after_text : List ℕ → Line → Line
after_text text line = record { text = text ++ line.text; status = line.status }

-- after the stacks
abbrev pub profile_ended : Format → List ℕ → Option PerfError → Line
profile_ended format text None = record { text = text; status = 0 }
profile_ended format text (Some error) =
    record { text = text ++ (perf_refusal format error).text; status = 1 }

module _ (style : StackStyle) (choice : Choice) (machine : SampleMachine) (files : List KnownFile)
  where
    abbrev pub AreStacksPrinted : List Record → Option PerfError → Line → Type 0
    AreStacksPrinted records error printed =
        ((text : List ℕ) × AreStackTexts style machine files choice records text
        × (printed ≡ profile_ended style.format text error))
        ⊎ ((n : ℕ) × (text : List ℕ)
        × AreStackTexts style machine files choice (take n records) text
        × (why : InputError) × (printed ≡ after_text text (input_refusal style.format why)))

-- ---- all samples, folded

-- a stack has 2^64 or more of these
abbrev pub HasTooMany : List Stack → Type 0
HasTooMany samples = (frames : List ℕ) × ¬ (unwrap_or (counted frames samples) 0 < 2 ^ 64)

-- a stack was counted, after any others, or why it wasn't
abbrev pub Counts : Bool → List Stack → SampleStack → List Stack → Type 0
Counts by_period old stack new =
    (all : List Stack) → AreCounted all old →
    AreCounted (all ++ folded_sample by_period stack ∷ []) new

abbrev pub IsNotCounted : Bool → List Stack → SampleStack → FoldedError → Type 0
IsNotCounted by_period old stack TooManySamples =
    (all : List Stack) → AreCounted all old →
    HasTooMany (all ++ folded_sample by_period stack ∷ [])
IsNotCounted by_period old stack why = Unit {0}

abbrev pub too_many : Line
too_many = line (codes "refused TooManySamples") 1

-- why a stack wasn't counted
abbrev pub uncounted : FoldedError → Line
uncounted TooManySamples = too_many
uncounted why = input_refusal formats.Text OutOfMemory

module _ (by_period : Bool) (choice : Choice) (machine : SampleMachine) (files : List KnownFile)
  where
    -- each different stack, with how many samples have it
    abbrev pub AreFolded : List Record → List Stack → Type 0
    AreFolded records folded =
        (samples : List Stack) × AreSamples by_period machine files choice records samples
        × AreCounted samples folded

    -- a stack has too many of those of the first records
    abbrev pub HaveTooMany : List Record → Type 0
    HaveTooMany records =
        (n : ℕ) × (samples : List Stack)
        × AreSamples by_period machine files choice (take n records) samples × HasTooMany samples

    -- their lines, and then the error that ended the records
    abbrev pub IsFolded : List Record → Option PerfError → Line → Type 0
    IsFolded records error printed =
        ((folded : List Stack) × AreFolded records folded
        × (printed ≡ profile_ended formats.Text (flat_map line_text folded) error))
        ⊎ (HaveTooMany records × (printed ≡ too_many))

-- ---- what is printed after what was visited

abbrev pub unknown_machine : Format → Line
unknown_machine format = why_line format (codes "unknown machine") 1

-- behind stacks that were printed
abbrev pub EndsBy :
    {E F : Type 0} → Format → VisitError E → Option (List ℕ) → Option (List ℕ) → Result ℕ F →
    Type 0
EndsBy format (stopped.Records e) old new result =
    Prints (profile_ended format [] (Some e)) old new result
EndsBy format (stopped.Profile e) old new result = Prints (perf_refusal format e) old new result
EndsBy format stopped.UnknownMachine old new result = Prints (unknown_machine format) old new result
EndsBy format (stopped.Input why) old new result = Prints (input_refusal format why) old new result
EndsBy format (stopped.Visitor why) old new result = (new ≡ old) × IsErr result

abbrev pub Ends :
    {T E F : Type 0} → Format → Result T (VisitError E) → Option (List ℕ) → Option (List ℕ) →
    Result ℕ F → Type 0
Ends format (Ok done) old new result = Prints (profile_ended format [] None) old new result
Ends format (Err why) old new result = EndsBy format why old new result

-- folded stacks, or memory was refused for their lines
abbrev pub IsEndFolded : List Stack → Option PerfError → Line → Type 0
IsEndFolded folded error printed =
    (printed ≡ profile_ended formats.Text (flat_map line_text folded) error)
    ⊎ (printed ≡ input_refusal formats.Text OutOfMemory)

abbrev pub EndsFoldedBy :
    {F : Type 0} → List Stack → VisitError FoldedError → Option (List ℕ) → Option (List ℕ) →
    Result ℕ F → Type 0
EndsFoldedBy folded (stopped.Records e) old new result =
    PrintsSome (IsEndFolded folded (Some e)) old new result
EndsFoldedBy folded (stopped.Profile e) old new result =
    Prints (perf_refusal formats.Text e) old new result
EndsFoldedBy folded stopped.UnknownMachine old new result =
    Prints (unknown_machine formats.Text) old new result
EndsFoldedBy folded (stopped.Input why) old new result =
    Prints (input_refusal formats.Text why) old new result
EndsFoldedBy folded (stopped.Visitor why) old new result = Prints (uncounted why) old new result

abbrev pub EndsFolded :
    {T F : Type 0} → List Stack → Result T (VisitError FoldedError) → Option (List ℕ) →
    Option (List ℕ) → Result ℕ F → Type 0
EndsFolded folded (Ok done) old new result = PrintsSome (IsEndFolded folded None) old new result
EndsFolded folded (Err why) old new result = EndsFoldedBy folded why old new result

-- ---- a profile

module _ (format : Format) (with_functions : Bool) {Handle : Type 0}
    (may_open : FilePlace → Option Handle → Type 0) (remaining : Handle → Option (List ℕ))
    (Printed : SampleMachine → List KnownFile → List Record → Option PerfError → Line → Type 0)
  where
    abbrev pub IsOwed : List ℕ → Line → Type 0
    IsOwed bytes printed =
        HoldsOfProfile with_functions may_open remaining
        (λ machine files sorted error. Printed machine files sorted error printed)
        (λ e. printed ≡ perf_refusal format e) (printed ≡ unknown_machine format) bytes
        ⊎ IsInputRefused format printed

-- what says why there is no more is an object of JSON where the stacks are
abbrev pub IsListingOwed :
    Listing → Choice → {Handle : Type 0} → (FilePlace → Option Handle → Type 0) →
    (Handle → Option (List ℕ)) → List ℕ → Line → Type 0
IsListingOwed (Frames raw) choice may_open remaining bytes printed =
    IsOwed formats.Text (not raw) may_open remaining
    (AreStacksPrinted (record { raw = raw; format = formats.Text }) choice) bytes printed
IsListingOwed (Json raw) choice may_open remaining bytes printed =
    IsOwed formats.Json (not raw) may_open remaining
    (AreStacksPrinted (record { raw = raw; format = formats.Json }) choice) bytes printed
IsListingOwed (Folded by_period) choice may_open remaining bytes printed =
    IsOwed formats.Text true may_open remaining (IsFolded by_period choice) bytes printed
