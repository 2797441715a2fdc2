-- The link of a file to its debug file (GDB's manual, "Separate Debug Files"): the section
-- .gnu_debuglink has the debug file's name, a zero, zeros up to a multiple of four bytes, and the
-- CRC-32 of the debug file, in the byte order of the file.
--     Link, link_view link      a link, and that of the code
--     link_in big bytes      the link that these bytes are
--     debug_link file      the link of a file
use Rattle.std.specs.Prelude.{ℕ, ◌*◌, ◌/◌, ◌==◌, Bool, not, ◌&&◌, List, drop, length, Option, Some}
use Rattle.std.specs.Prelude.{None, Result, Ok, codes, if◌then◌else◌}
use Rattle.std.specs.Int.{w32}
use Rattle.std.specs.List.{list_all}
use Rattle.std.specs.Option.{option_and_then}
use Rattle.cfi_elf.specs.declared.debug_link.DebugLink.{DebugLink}
use Rattle.cfi_elf.specs.declared.error.ElfError.{ElfError}
use Rattle.cfi_elf.specs.ElfFiles.{File, is_big_file}
use Rattle.cfi_elf.specs.Fields.{before_zero, number_at, part}
use Rattle.cfi_elf.specs.Results.{and_then}
use Rattle.cfi_elf.specs.Sections.{Section, section_named}

pub record Link : Type 0 where
  pub name : List ℕ
  pub checksum : ℕ

abbrev pub link_view : DebugLink → Link
link_view link = record { name = link.name.now; checksum = link.checksum }

-- a name without a folder
abbrev pub is_base_name : List ℕ → Bool
is_base_name name = not (length name == 0) && list_all (λ byte. not (byte == 47)) name

abbrev pub named_link : List ℕ → ℕ → Option Link
named_link name checksum =
    if is_base_name name then Some (record { name = name; checksum = checksum }) else None

abbrev pub checksum_in : Bool → List ℕ → ℕ
checksum_in big bytes = number_at big bytes 0 w32

-- the zero is in the four bytes from the last multiple of four in the name, and the checksum in the
-- next four
abbrev pub checksum_bytes : List ℕ → List ℕ → Option (List ℕ)
checksum_bytes name bytes = part (drop (length name / 4 * 4) bytes) 4 4

unfoldable pub link_in : Bool → List ℕ → Option Link
link_in big bytes =
    option_and_then
    (λ name. option_and_then (λ found. named_link name (checksum_in big found))
    (checksum_bytes name bytes))
    (before_zero bytes)

abbrev pub link_by : File → Option Section → Option Link
link_by file found = option_and_then (λ section. link_in (is_big_file file) section.bytes) found

unfoldable pub debug_link : File → Result (Option Link) ElfError
debug_link file =
    and_then (section_named file (codes ".gnu_debuglink")) (λ found. Ok (link_by file found))
