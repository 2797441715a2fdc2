-- Compiled tables, as C gets them.
--     table_in table      what the table that C holds has for the addresses, or none
--     IsTableMade bases bytes old status new      the table of the section; or the one that was
--         there, with a status
--     IsTableRow table a out rules      the row of the address with its rules, or the error, with a
--         table or none
use Rattle.std.specs.Prelude.{◌≡◌, ◌⊎◌, ℕ, ℤ, pos, List, length, Option, Some, None}
use Rattle.cfi_read_core.specs.Addresses.{IsAddressSize}
use Rattle.cfi_read_core.specs.ReaderCalls.{map_ok}
use Rattle.cfi_read_core.specs.declared.error.Error.TheVariants.{OutOfMemory}
use Rattle.cfi_read_core.specs.declared.error.Error.TheVariants.{UnsupportedAddressSize}
use Rattle.gimli_cfi.specs.Words.{Parts, Row}
use Rattle.cfi_compiled.specs.CompiledTables.{IsCompiled, TableContents, parts_at}
use Rattle.cfi_c.specs.declared.section.CfiBases.{CfiBases}
use Rattle.cfi_c.specs.declared.written.CfiRow.{CfiRow}
use Rattle.cfi_c.specs.declared.written.CfiRule.{CfiRule}
use Rattle.cfi_c.specs.declared.table.CfiTable.{CfiTable}
use Rattle.cfi_c.specs.Refusals.{error_status}
use Rattle.cfi_c.specs.PassedSections.{passed_section}
use Rattle.cfi_c.specs.AddressRows.{IsAnsweredForC}

abbrev pub table_in : CfiTable → Option TableContents
table_in table = table.held.table

-- ---- a table is made

-- for every address the row by a scan of the bytes, but its two addresses
abbrev pub IsTableOf : CfiBases → List ℕ → TableContents → Type 0
IsTableOf bases bytes table = IsCompiled (Some 192) (Some 4) (passed_section bases bytes) table

abbrev pub IsTableNew : CfiBases → List ℕ → ℤ → Option TableContents → Type 0
IsTableNew bases bytes status new =
    (table : TableContents) × (status ≡ pos 0) × (new ≡ Some table) × IsTableOf bases bytes table

-- nothing is written
abbrev pub IsLeft : Option TableContents → ℤ → ℤ → Option TableContents → Type 0
IsLeft old due status new = (status ≡ due) × (new ≡ old)

abbrev pub IsTableMade :
    CfiBases → List ℕ → Option TableContents → ℤ → Option TableContents → Type 0
IsTableMade bases bytes old status new =
    ((IsAddressSize bases.address_size → ⊥) →
    IsLeft old (error_status (UnsupportedAddressSize bases.address_size)) status new)
    × (IsAddressSize bases.address_size →
    IsTableNew bases bytes status new ⊎ IsLeft old (error_status OutOfMemory) status new)

-- ---- and asked

-- a row without its two addresses, for which C gets 0
abbrev pub unplaced : Parts ℕ → Row ℕ
unplaced parts = record { start_address = 0; end_address = 0; parts = parts }

-- 65: there is no table
abbrev pub IsTableRow : Option TableContents → ℕ → CfiRow → List CfiRule → Type 0
IsTableRow (Some table) a out rules =
    IsAnsweredForC (map_ok unplaced (parts_at table a)) out rules 0 (length rules)
IsTableRow None a out rules = (out.status ≡ pos 65) × (out.refused ≡ 0)
