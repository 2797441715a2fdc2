-- Each line that is printed of a core file is the text of a value.
use Rattle.std.proofs.Common.{◌≡◌, ◌∙◌, ℕ, Bool, true, false, List, [], ◌∷◌, ◌++◌, Option, Some, None, Result, Ok, Err, codes, refl, sym, take, ap, ap₂, subst, inl, inr, append_assoc, append-nil, arith}
use Rattle.std.proofs.lemmas.Grind.{flat_map-append}
use Rattle.std.proofs.lemmas.List.Elements.{All-append}
use Rattle.cfi_text.specs.declared.reading.InputError.{InputError}
use Rattle.cfi_text.specs.declared.reading.InputError.TheVariants.{Unreadable, NotHexadecimal, OutOfMemory}
use Rattle.cfi_text.specs.declared.style.Format.TheVariants as formats
use Rattle.cfi_text.specs.InputRefusals.{input_refusal}
use Rattle.cfi_text.specs.Lines.{Line}
use Rattle.cfi_text.specs.Refusals.{error_object}
use Rattle.cfi_elf.specs.ErrorNames.{name_of_elf}
use Rattle.cfi_elf.specs.declared.error.ElfError.{ElfError}
use Rattle.cfi_elf.specs.declared.error.ElfError.TheVariants as elf
use Rattle.cfi_mapped.specs.Wanted.{FilePlace}
use Rattle.cfi_processes.specs.KnownFiles.{KnownFile}
use Rattle.cfi_cores.specs.declared.error.CoreError.{CoreError}
use Rattle.cfi_cores.specs.declared.error.CoreError.TheVariants as core_errors
use Rattle.cfi_cores.specs.CoreFiles.{Core, core_of}
use Rattle.cfi_cores.specs.ErrorNames.{name_of_core}
use Rattle.cfi_core_stacks.specs.AskedThreads.{asked_threads, lacks_thread}
use Rattle.cfi_core_stacks.specs.CoreCode.{core_mappings}
use Rattle.cfi_core_stacks.specs.CoreOutputs.{AreThreadsPrinted, IsOfLacking, IsOfRead, core_ended}
use Rattle.cfi_json.specs.Json.{Json, text, no_members, AreLinesOf, IsReadBack, NestsWithin, json_text}
use Rattle.cfi_json.specs.CoreValues.{CoreOutputsReadBack, error_value, in_json}
use Rattle.cfi_json.proofs.Building.{each_read_back, object_is, string_onto}
use Rattle.cfi_json.proofs.FrameValues.{IsPlain}
use Rattle.cfi_json.proofs.ThreadValues.{cores_read}
use Rattle.cfi_json.proofs.Values.{reads_back}

abbrev pub AreRead : List ℕ → Type 0
AreRead characters = (values : List Json) × AreLinesOf characters values

pub read_both : (a b : List ℕ) → AreRead a → AreRead b → AreRead (a ++ b)
read_both a b (vs, h) (ws, k) = (
  vs ++ ws,
  record { are = ap₂ (λ (x y : List ℕ). x ++ y) h.are k.are ∙ sym (flat_map-append (λ v. json_text v ++ 10 ∷ []) vs ws); each = All-append IsReadBack vs ws h.each k.each },
)

-- ---- an error

plain_elf : (error : ElfError) → IsPlain (name_of_elf error)
plain_elf elf.NotElf = refl
plain_elf elf.HeaderCut = refl
plain_elf (elf.UnknownClass byte) = refl
plain_elf (elf.UnknownDataEncoding byte) = refl
plain_elf (elf.UnknownVersion version) = refl
plain_elf elf.Relocatable = refl
plain_elf elf.Core = refl
plain_elf (elf.NotCore e_type) = refl
plain_elf (elf.SectionEntrySize size) = refl
plain_elf elf.SectionTableOutOfBounds = refl
plain_elf (elf.NoNameSection index) = refl
plain_elf elf.SectionOutOfBounds = refl
plain_elf elf.Compressed = refl
plain_elf elf.NameOutOfBounds = refl
plain_elf elf.NameNotTerminated = refl
plain_elf (elf.ProgramEntrySize size) = refl
plain_elf elf.ProgramTableOutOfBounds = refl
plain_elf elf.SegmentOutOfBounds = refl
plain_elf elf.NoteCut = refl
plain_elf (elf.NotRead offset size) = refl
plain_elf (elf.NotRelocatable e_type) = refl
plain_elf (elf.UnknownRelocation kind) = refl
plain_elf elf.RelocationOutOfBounds = refl
plain_elf (elf.NoRelocationSymbol index) = refl
plain_elf elf.ExtendedSectionIndex = refl
plain_elf elf.OutOfMemory = refl

plain_core : (error : CoreError) → IsPlain (name_of_core error)
plain_core (core_errors.Elf error) = plain_elf error
plain_core (core_errors.UnknownMachine e_machine) = refl
plain_core core_errors.NoteCut = refl
plain_core core_errors.ThreadCut = refl
plain_core core_errors.FilesCut = refl
plain_core core_errors.OutOfMemory = refl

error_is : (reason : List ℕ) → IsPlain reason → error_object reason ++ 10 ∷ [] ≡ json_text (error_value reason) ++ 10 ∷ []
error_is reason plain =
    let closing : List ℕ = codes "}" ++ 10 ∷ [] in
    let v = text reason in
    ap (λ (xs : List ℕ). codes "{\"error\":\"" ++ xs) (append_assoc reason (codes "\"}") (10 ∷ []))
    ∙ object_is (codes "\"error\":\"" ++ (reason ++ (codes "\"" ++ closing))) (codes "error") v no_members (10 ∷ []) (string_onto (codes "error") reason closing v no_members closing (ap (λ (xs : List ℕ). codes "\"" ++ (xs ++ codes "\"")) plain) refl)

shallow_error : (reason : List ℕ) → NestsWithin (error_value reason)
shallow_error reason = omega arith

pub error_read : (reason : List ℕ) → IsPlain reason → AreRead (error_object reason ++ 10 ∷ [])
error_read reason plain = (
  error_value reason ∷ [],
  record { are = error_is reason plain ∙ sym (append-nil (json_text (error_value reason) ++ 10 ∷ [])); each = each_read_back error_value (λ r. reads_back (error_value r) (shallow_error r)) (reason ∷ []) },
)

pub input_read : (why : InputError) → AreRead (input_refusal formats.Json why).text
input_read OutOfMemory = error_read (codes "OutOfMemory") refl
input_read Unreadable = error_read (codes "wrong input") refl
input_read NotHexadecimal = error_read (codes "wrong input") refl

-- ---- the output

abbrev pub IsRead : Line → Type 0
IsRead printed = AreRead printed.text

ended_read : (characters : List ℕ) (error : Option CoreError) → AreRead characters → IsRead (core_ended formats.Json characters error)
ended_read characters None h = h
ended_read characters (Some error) h = read_both characters _ h (error_read (name_of_core error) (plain_core error))

module _ (raw : Bool) (asked : Option ℕ) where
  threads_printed : (files : List KnownFile) (memory : ℕ → ℕ → Option ℕ) (core : Core) (printed : Line) → AreThreadsPrinted (in_json raw asked) files memory core printed → IsRead printed
  threads_printed files memory core printed (inl (characters, are, is)) =
      let found = cores_read raw asked core.machine files (core_mappings files core.segments core.mapped) memory core.name (asked_threads (in_json raw asked) core.threads) characters are in
      subst IsRead (sym is) (ended_read characters core.error (_, found.2))
  threads_printed files memory core printed (inr (n, characters, are, is)) =
      let found = cores_read raw asked core.machine files (core_mappings files core.segments core.mapped) memory core.name (asked_threads (in_json raw asked) (take n core.threads)) characters are in
      subst IsRead (sym is) (read_both characters _ (_, found.2) (error_read (codes "OutOfMemory") refl))

  module _ {Handle : Type 0} (may_open : FilePlace → Option Handle → Type 0) (remaining : Handle → Option (List ℕ)) where
    lacking_read : (lacks : Bool) (core : Core) (printed : Line) → IsOfLacking (in_json raw asked) may_open remaining lacks core printed → IsRead printed
    lacking_read true core printed is = subst IsRead (sym is) (error_read (codes "no thread") refl)
    lacking_read false core printed (opened, are_opened, (files, are, (windows, are_windows, threads))) = threads_printed files _ core printed threads

    found_read : (found : Result Core CoreError) (printed : Line) → IsOfRead (in_json raw asked) may_open remaining found printed → IsRead printed
    found_read (Err error) printed is = subst IsRead (sym is) (error_read (name_of_core error) (plain_core error))
    found_read (Ok found) printed (core, sorted, of) = lacking_read (lacks_thread (in_json raw asked) core) core printed of

pub outputs_read : CoreOutputsReadBack
outputs_read raw asked Handle may_open remaining bytes printed (inl (inl of)) = found_read raw asked may_open remaining (core_of bytes) printed of
outputs_read raw asked Handle may_open remaining bytes printed (inl (inr is)) = subst IsRead (sym is) (error_read (codes "OutOfMemory") refl)
outputs_read raw asked Handle may_open remaining bytes printed (inr (why, is)) = subst IsRead (sym is) (input_read why)
