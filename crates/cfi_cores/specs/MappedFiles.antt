-- The files that were mapped (NT_FILE of the kernel, fs/binfmt_elf.c): a count and the bytes of a
-- page; as many entries of a start, an end, and an offset in pages; as many names, each with a zero
-- at its end. All numbers have eight bytes.
--     files_in desc      the mappings in their order, if the bytes have all entries and names
use Rattle.std.specs.Prelude.{ℕ, ◌+◌, ◌*◌, ◌%◌, ◌^◌, false, List, [], ◌∷◌, length, drop, map}
use Rattle.std.specs.Prelude.{Option, Some, None, Vec, option_map, nat_lt, if◌then◌else◌}
use Rattle.std.specs.Int.{w64}
use Rattle.std.specs.Option.{option_and_then}
use Rattle.cfi_elf.specs.Fields.{before_zero, entries, number_at, part}
use Rattle.cfi_cores.specs.declared.mapped_files.CoreMapping.{CoreMapping as MappingOfCode}
use Rattle.cfi_cores.specs.declared.mapped_files.FileTable.{FileTable as TableOfCode}

pub record CoreMapping : Type 0 where
  pub start : ℕ
  pub end : ℕ
  pub offset : ℕ
  pub name : List ℕ

-- what a mapping of the code is
abbrev pub mapping_view : MappingOfCode → CoreMapping
mapping_view m =
    record { start = m.start; end = m.end; offset = m.offset; name = m.name.now }

abbrev pub mappings_view : {A : Type 0} → Vec MappingOfCode A → List CoreMapping
mappings_view list = map mapping_view list.items

-- ---- the parts

pub record FileTable : Type 0 where
  pub page_size : ℕ
  pub entries : List ℕ
  pub names : List ℕ

abbrev pub file_table_view : TableOfCode → FileTable
file_table_view t =
    record { page_size = t.page_size; entries = t.entries.now; names = t.names.now }

unfoldable pub file_table : List ℕ → Option FileTable
file_table desc =
    let size = number_at false desc 0 w64 * 24 in
    if nat_lt (length desc) 16 then None
    else option_map (λ found. record {
      page_size = number_at false desc 8 w64;
      entries = found;
      names = drop size (drop 16 desc);
    }) (part desc 16 size)

-- ---- the mappings

-- the offset is counted modulo 2 ^ 64
abbrev pub mapping_by : ℕ → List ℕ → List ℕ → CoreMapping
mapping_by page_size fields name = record {
  start = number_at false fields 0 w64;
  end = number_at false fields 8 w64;
  offset = (number_at false fields 16 w64 * page_size) % 2 ^ 64;
  name = name;
}

-- each entry has the next name
abbrev pub mappings : ℕ → List (List ℕ) → List ℕ → Option (List CoreMapping)
mappings page_size [] names = Some []
mappings page_size (fields ∷ others) names =
    option_and_then (λ name.
    option_map (λ found. mapping_by page_size fields name ∷ found)
    (mappings page_size others (drop (length name + 1) names))) (before_zero names)

unfoldable pub files_in : List ℕ → Option (List CoreMapping)
files_in desc =
    option_and_then (λ table. mappings table.page_size (entries 24 table.entries) table.names)
    (file_table desc)
