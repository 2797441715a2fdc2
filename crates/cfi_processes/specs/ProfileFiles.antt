-- What files that were opened are as files of a profile.
--     IsFileOf named opened file, AreProfileFilesOf named opened files      what they are, with
--         their functions or without
use Rattle.std.specs.Prelude.{◌≡◌, ℕ, Bool, true, false, List, [], ◌∷◌, Option, Some, None, drop}
use Rattle.std.specs.Prelude.{length, option_map, if◌then◌else◌}
use Rattle.std.specs.Option.{option_and_then}
use Rattle.cfi_compiled.specs.CompiledTables.{TableContents, IsCompiled}
use Rattle.cfi_entry.specs.Sections.{Section}
use Rattle.cfi_mapped.specs.CodeMaps.{CodeMapText}
use Rattle.cfi_processes.specs.FileFunctions.{Functions, functions_by_symbols}
use Rattle.cfi_mapped.specs.KernelNames.{KernelText}
use Rattle.cfi_mapped.specs.KernelSymbols.{is_kernel_name, kernel_image}
use Rattle.cfi_processes.specs.KnownFiles.{KnownCode, KnownFile}
use Rattle.cfi_processes.specs.Objects.{Object, IsDebugTable, is_compiled, object_in}
use Rattle.cfi_mapped.specs.Wanted.{as_code}
use Rattle.cfi_elf.specs.Images.{Image, whole}
use Rattle.cfi_mapped.specs.OpenedFiles.{Opened}

-- a compiled table of .eh_frame, in a storage of 192 rules and 4 rows; or none
abbrev pub IsTableIf : Bool → Section → Option TableContents → Type 0
IsTableIf true section table =
    (made : TableContents) × IsCompiled (Some 192) (Some 4) section made
    × (table ≡ Some made)
IsTableIf false section table = table ≡ None

abbrev pub IsCodeOf : Option Object → Option KnownCode → Type 0
IsCodeOf None code = code ≡ None
IsCodeOf (Some object) code =
    (table debug : Option TableContents) × IsTableIf (is_compiled object) object.section table
    × IsDebugTable object.debug debug
    × (code
    ≡ Some (record { object = object; tables = record { table = table; debug = debug } }))

-- a file and its debug file, of which these parts were read
abbrev pub object_if : Option Image → Option Image → Option Object
object_if image debug = option_and_then (λ image. object_in image debug) image

-- the functions that are asked for
abbrev pub functions_if : Bool → Option Image → Option Image → Option Functions
functions_if named image debug =
    if named then option_and_then (λ image. functions_by_symbols image debug) image else None

-- those of the kernel itself, with the symbol after which its mapping is named
abbrev pub kernel_text : List ℕ → List ℕ → KernelText
kernel_text name text = record { text = text; symbol = drop (length kernel_image) name }

abbrev pub kernel_text_of : List ℕ → Option (List ℕ) → Option KernelText
kernel_text_of name text = if is_kernel_name name then option_map (kernel_text name) text else None

-- of memory the functions that its process tells
abbrev pub code_map_by : Option (List ℕ) → List ℕ → Option CodeMapText
code_map_by text name = option_map (λ text. record { name = name; text = text }) text

abbrev pub code_map_of : Option (List ℕ) → Option (List ℕ) → Option CodeMapText
code_map_of text name = option_and_then (code_map_by text) name

-- call frames and the functions of symbols are those of a file of code, and never of a text
abbrev pub IsFileOf : Bool → Opened → KnownFile → Type 0
IsFileOf named opened file =
    let all = option_map whole (as_code opened.name opened.process opened.bytes) in
    let debug = option_map whole opened.debug in
    (file.name ≡ opened.name) × (file.build_id ≡ opened.build_id)
    × (file.functions ≡ functions_if named all debug)
    × (file.kernel ≡ kernel_text_of opened.name opened.bytes) × (file.process ≡ opened.process)
    × (file.code_map ≡ code_map_of opened.bytes opened.map_name)
    × IsCodeOf (object_if all debug) file.code

abbrev pub AreProfileFilesOf : Bool → List Opened → List KnownFile → Type 0
AreProfileFilesOf named [] files = files ≡ []
AreProfileFilesOf named (one ∷ opened) files =
    (first : KnownFile) × (others : List KnownFile) × IsFileOf named one first
    × AreProfileFilesOf named opened others × (files ≡ first ∷ others)
