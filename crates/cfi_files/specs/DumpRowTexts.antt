-- What is printed of the rows of a section: for each FDE, or each that contains one of some
-- addresses, a line with its addresses and the name of the function that begins there, and then its
-- rows.
--     asked_rows style asked section      all of it
--     item_rows style asked section item      of an entry, or the error in its place
use Rattle.std.specs.Prelude.{ℕ, Bool, true, Option, Some, None, List, [], ◌∷◌, ◌++◌, Result, Ok}
use Rattle.std.specs.Prelude.{Err, codes, flat_map, option_map, if◌then◌else◌}
use Rattle.std.specs.Borrow.{Bor}
use Rattle.std.specs.List.{list_any}
use Rattle.cfi_read_core.specs.declared.error.Error.{Error}
use Rattle.cfi_parts.specs.InstructionReaders.{items}
use Rattle.cfi_entry.specs.Entries.{Entry, CieEntry, FdeEntry, entries}
use Rattle.cfi_entry.specs.Fdes.{Fde, covers, end_of}
use Rattle.cfi_entry.specs.Sections.{Section}
use Rattle.cfi_unwind.specs.Scan.{read_fde}
use Rattle.cfi_elf.specs.FunctionNames.{name_in}
use Rattle.cfi_text.specs.Escapes.{escaped}
use Rattle.cfi_text.specs.Lines.{address_text}
use Rattle.cfi_text.specs.Names.{shown}
use Rattle.cfi_text.specs.Refusals.{refusal_told}
use Rattle.cfi_text.specs.declared.escapes.Escaping.TheVariants as escaping
use Rattle.cfi_text.specs.declared.register_names.RegisterNames.{RegisterNames}
use Rattle.cfi_text.specs.declared.style.Format.{Format}
use Rattle.cfi_text.specs.declared.style.Format.TheVariants.{Text as AsText, Json}
use Rattle.cfi_row_text.specs.Wordings.{of_section}
use Rattle.cfi_row_text.specs.declared.style.Style.{Style}
use Rattle.cfi_files.specs.FdeRows.{answer_lines, fde_rows}
use Rattle.cfi_files.specs.declared.dump.printed.AskedRows.{AskedRows}

-- ---- the line of an FDE: the first address, the first one after the last, and the name of the
-- function that begins at the first, if there is one

-- after a space (32)
abbrev pub function_text : Option (List ℕ) → List ℕ
function_text None = []
function_text (Some name) = 32 ∷ shown name

-- `fde 0xSTART 0xEND NAME`
abbrev pub fde_line : ℕ → ℕ → Option (List ℕ) → List ℕ
fde_line start end name =
    codes "fde " ++ (address_text start ++ (codes " " ++ (address_text end
    ++ (function_text name ++ 10 ∷ []))))

abbrev pub function_member : Option (List ℕ) → List ℕ
function_member None = []
function_member (Some name) = codes ",\"function\":\"" ++ (escaped escaping.Json name ++ codes "\"")

-- `{"fde":{"start":"0xSTART","end":"0xEND","function":"NAME"}}` (RFC 8259)
abbrev pub fde_object : ℕ → ℕ → Option (List ℕ) → List ℕ
fde_object start end name =
    codes "{\"fde\":{\"start\":\"" ++ (address_text start ++ (codes "\",\"end\":\""
    ++ (address_text end ++ (codes "\"" ++ (function_member name ++ codes "}}\n")))))

abbrev pub line_in : Format → ℕ → ℕ → Option (List ℕ) → List ℕ
line_in AsText start end name = fde_line start end name
line_in Json start end name = fde_object start end name

-- with functions by their addresses
abbrev pub line_of_fde : Format → (ℕ → Option (List ℕ)) → Fde → List ℕ
line_of_fde format function fde = line_in format fde.initial (end_of fde) (function fde.initial)

-- ---- which FDEs

-- the addresses that the code is given
abbrev pub given_addresses : Option (Bor (List ℕ)) → Option (List ℕ)
given_addresses addresses = option_map (λ given. given.now) addresses

-- an FDE that contains one of the addresses
abbrev pub contains_any : List ℕ → Fde → Bool
contains_any addresses fde = list_any (covers fde) addresses

-- any, where none are given
abbrev pub is_asked_for : Option (List ℕ) → Fde → Bool
is_asked_for None fde = true
is_asked_for (Some addresses) fde = contains_any addresses fde

-- ---- the lines

module _ (style : Style) (asked : AskedRows) (section : Section) where
  abbrev pub rows_if_asked_for : Fde → List ℕ
  rows_if_asked_for fde =
      if is_asked_for (given_addresses asked.addresses) fde
      then line_of_fde style.format (name_in asked.functions.now) fde
      ++ answer_lines (of_section style section) (fde_rows section fde)
      else []

  -- an FDE that can't be read may be one of an address
  abbrev pub read_rows : Result Fde Error → List ℕ
  read_rows (Ok fde) = rows_if_asked_for fde
  read_rows (Err error) = (refusal_told style.format error).text

  abbrev pub item_rows : Result Entry Error → List ℕ
  item_rows (Ok (CieEntry cie)) = []
  item_rows (Ok (FdeEntry partial)) = read_rows (read_fde section partial)
  item_rows (Err error) = (refusal_told style.format error).text

abbrev pub style_of : RegisterNames → AskedRows → Style
style_of names asked = record { names = names; format = asked.format }

-- of the entries in order, and of the error with which they end, if there is one
abbrev pub asked_rows : Style → AskedRows → Section → List ℕ
asked_rows style asked section =
    flat_map (item_rows style asked section) (items (entries section))
