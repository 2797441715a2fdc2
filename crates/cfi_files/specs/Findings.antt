-- What the check of a file found, and its line in JSON.
--     ChecksInput input verdict      the verdict on the table of a file, or why there is none
--     finding_of verdict      what that comes to
use Rattle.std.specs.Prelude.{◌≡◌, ◌⊎◌, ℕ, Bool, true, false, List, Option, Some, None, Result}
use Rattle.std.specs.Prelude.{Ok, Err, ◌++◌, codes, fold, max}
use Rattle.cfi_elf.specs.ElfFiles.{File, elf_file}
use Rattle.cfi_elf.specs.declared.error.ElfError.{ElfError}
use Rattle.cfi_elf.specs.declared.error.ElfError.TheVariants.{NotElf}
use Rattle.cfi_text.specs.Escapes.{escaped}
use Rattle.cfi_text.specs.JsonTexts.{json_number}
use Rattle.cfi_text.specs.Readings.{AreLeft}
use Rattle.cfi_text.specs.declared.escapes.Escaping.TheVariants.{Json}
use Rattle.cfi_text.specs.declared.reading.InputError.{InputError}
use Rattle.cfi_text.specs.declared.reading.InputError.TheVariants.{OutOfMemory}
use Rattle.gimli_cfi.specs.CheckVerdicts.{IsVerdictOf}
use Rattle.gimli_cfi.specs.SectionSources.{GivenSection}
use Rattle.gimli_cfi.specs.declared.hdr.verdict.Verdict.{Verdict}
use Rattle.gimli_cfi.specs.declared.hdr.verdict.Verdict.TheVariants as verdicts
use Rattle.cfi_object.specs.CallFrames.{eh_frame_of}
use Rattle.cfi_files.specs.declared.check.CheckStyle.{CheckStyle}
use Rattle.cfi_files.specs.declared.check.Finding.{Finding}
use Rattle.cfi_files.specs.declared.check.Finding.TheVariants.{Faithful, Unfaithful, NoTable}
use Rattle.cfi_files.specs.declared.check.Finding.TheVariants.{OtherFile, Unreadable}
use Rattle.cfi_files.specs.declared.error.FileError.{FileError}
use Rattle.cfi_files.specs.declared.error.FileError.TheVariants.{Input, Elf, NoCallFrames}
use Rattle.cfi_files.specs.FileErrors.{said_of}

-- ---- the verdict

-- none without a header
abbrev pub IsVerdictOfFrames :
    Result (Option GivenSection) ElfError → Result (Option Verdict) FileError → Type 0
IsVerdictOfFrames (Ok (Some frames)) verdict =
    (found : Option Verdict) × IsVerdictOf frames found × (verdict ≡ Ok found)
IsVerdictOfFrames (Ok None) verdict = verdict ≡ Err NoCallFrames
IsVerdictOfFrames (Err error) verdict = verdict ≡ Err (Elf error)

abbrev pub IsVerdictOfFile : Result File ElfError → Result (Option Verdict) FileError → Type 0
IsVerdictOfFile (Ok file) verdict = IsVerdictOfFrames (eh_frame_of file) verdict
IsVerdictOfFile (Err error) verdict = verdict ≡ Err (Elf error)

-- for the bytes of an input, where these are known; or it can't be read
abbrev pub ChecksInput : Option (List ℕ) → Result (Option Verdict) FileError → Type 0
ChecksInput input verdict =
    ((bytes : List ℕ) × AreLeft input bytes × IsVerdictOfFile (elf_file bytes) verdict)
    ⊎ ((why : InputError) × (verdict ≡ Err (Input why)))

-- ---- the finding

-- refused memory is no fault of the file, and a file that isn't ELF has none
abbrev pub finding_of : Result (Option Verdict) FileError → Finding
finding_of (Ok (Some (verdicts.Faithful rows))) = Faithful
finding_of (Ok (Some verdicts.NoTable)) = NoTable
finding_of (Ok (Some _)) = Unfaithful
finding_of (Ok None) = NoTable
finding_of (Err (Elf NotElf)) = OtherFile
finding_of (Err (Input OutOfMemory)) = NoTable
finding_of (Err (Input _)) = Unreadable
finding_of (Err _) = NoTable

abbrev pub has_table : Finding → Bool
has_table Faithful = true
has_table Unfaithful = true
has_table NoTable = false
has_table OtherFile = false
has_table Unreadable = false

abbrev pub is_faithful : Finding → Bool
is_faithful Faithful = true
is_faithful Unfaithful = false
is_faithful NoTable = false
is_faithful OtherFile = false
is_faithful Unreadable = false

-- the status of a run that found this
abbrev pub finding_status : Finding → ℕ
finding_status Faithful = 0
finding_status Unfaithful = 1
finding_status NoTable = 1
finding_status OtherFile = 0
finding_status Unreadable = 2

-- that of a run that found these
abbrev pub greatest_status : List Finding → ℕ
greatest_status findings =
    fold (λ greatest finding. max greatest (finding_status finding)) 0 findings

-- a file with a faithful table may have no line, and one that isn't an ELF file
abbrev pub has_no_line : CheckStyle → Finding → Bool
has_no_line style Faithful = style.quiet
has_no_line style OtherFile = style.elf_alone
has_no_line style _ = false

-- ---- in JSON

abbrev pub name_of_finding : Finding → List ℕ
name_of_finding Faithful = codes "faithful"
name_of_finding Unfaithful = codes "unfaithful"
name_of_finding NoTable = codes "no table"
name_of_finding OtherFile = codes "not ELF"
name_of_finding Unreadable = codes "unreadable"

-- why there is no verdict
abbrev pub why : Option FileError → List ℕ
why None = codes "no header"
why (Some error) = said_of error

-- `{"file":"NAME",`
abbrev pub file_member : List ℕ → List ℕ
file_member name = codes "{\"file\":\"" ++ (escaped Json name ++ codes "\",")

-- `"result":"FOUND","reason":"WHY"}`
abbrev pub reason_members : Finding → Option FileError → List ℕ
reason_members finding error =
    codes "\"result\":\"" ++ (name_of_finding finding ++ (codes "\",\"reason\":\""
    ++ (why error ++ codes "\"}\n")))

-- `{"files":N,"tables":N,"faithful":N}`
abbrev pub tally_object : ℕ → ℕ → ℕ → List ℕ
tally_object files tables faithful =
    codes "{\"files\":" ++ (json_number files ++ (codes ",\"tables\":" ++ (json_number tables
    ++ (codes ",\"faithful\":" ++ (json_number faithful ++ codes "}\n")))))
