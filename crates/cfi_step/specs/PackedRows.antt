-- Rows that are kept with what their FDEs say of their functions, each by its file and its address
-- in the file (DWARF 5 section 6.4.1; LSB Core, "The Frame Description Entry Format").
--     parts_packed row, function_packed row      what a packed row says of the caller, and of the
--         function
--     plain_packed row      the function, if it has no pointers
--     HoldsRow file a row      it is the row of an address of a file
--     IsPackedOf parts function row      the row says this
--     IsPackedFor .. section a fde row      the row says what the FDE has for the address
--     KeepsFound .. section a found file old new      what the FDE that is found has for the
--         address may have been kept
--     IsKept .. loaded a file old new      what the FDE that the module has for an address of the
--         file has may have been kept
--     AreVacant rows      none is a row
use Rattle.std.specs.Prelude.{◌≡◌, ℕ, ℤ, Bool, false, true, List, map, Option, Some, None}
use Rattle.std.specs.Prelude.{Result, Ok, Err, IfOk, take, if◌then◌else◌}
use Rattle.std.specs.List.{All}
use Rattle.cfi_read_core.specs.declared.error.Error.{Error}
use Rattle.cfi_read_core.specs.ReadFunctions.{Position}
use Rattle.cfi_parts.specs.declared.pointer.Pointer.{Pointer}
use Rattle.cfi_parts.specs.declared.pointer.Pointer.TheVariants.{Direct, Indirect}
use Rattle.cfi_state.specs.declared.table.rules.CfaRule.TheVariants as cfa
use Rattle.cfi_state.specs.Machine.{Parts}
use Rattle.cfi_state.specs.MappedStates.{map_row}
use Rattle.cfi_state.specs.Row.{Row}
use Rattle.cfi_state.specs.RulePairs.{rules_of}
use Rattle.cfi_entry.specs.Fdes.{Covers, Fde}
use Rattle.cfi_entry.specs.Sections.{Section}
use Rattle.cfi_unwind.specs.AddressRow.{IsRowOfFde}
use Rattle.cfi_expression.specs.Arithmetic.{displaced}
use Rattle.cfi_step.specs.declared.function.Function.{Function}
use Rattle.cfi_step.specs.declared.module.LoadedModule.{LoadedModule}
use Rattle.cfi_step.specs.declared.packed_rows.PackedRow.{PackedRow}
use Rattle.cfi_step.specs.declared.packed_rules.PackedRule.{PackedRule}
use Rattle.cfi_step.specs.declared.marks.PointerKind.{PointerKind}
use Rattle.cfi_step.specs.declared.marks.PointerKind.TheVariants as pointer
use Rattle.cfi_step.specs.declared.packed_rows.SmallNumbers.{SmallNumbers}
use Rattle.cfi_step.specs.declared.row_cache.RowCache.{RowCache}
use Rattle.cfi_step.specs.Functions.{function_of}
use Rattle.cfi_step.specs.KeptSlots.{Keeps}
use Rattle.cfi_step.specs.Modules.{IsFoundIn, module_section}
use Rattle.cfi_step.specs.Marks.{args_size, has_row, is_trampoline, lsda_kind, personality_kind}
use Rattle.cfi_step.specs.Marks.{is_plain, rule_count}
use Rattle.cfi_step.specs.PackedRules.{eightfold, register_numbered, pair_of}

-- ---- a packed row

abbrev pub counted_rules : SmallNumbers → List PackedRule
counted_rules n = take (rule_count n.marks) n.rules

abbrev pub parts_packed : PackedRow → Parts ℕ
parts_packed row = record {
  cfa =
      cfa.RegisterAndOffset (register_numbered row.numbers.cfa_register)
      (eightfold row.numbers.cfa_words);
  rules = rules_of (map pair_of (counted_rules row.numbers));
  args_size = args_size row.numbers.marks;
}

abbrev pub pointer_of : PointerKind → ℕ → Option Pointer
pointer_of pointer.Absent a = None
pointer_of pointer.Direct a = Some (Direct a)
pointer_of pointer.Indirect a = Some (Indirect a)

-- the small numbers are those of the row and of the function
abbrev pub AreSmallNumbersOf : Parts ℕ → Function → SmallNumbers → Type 0
AreSmallNumbersOf parts function n =
    (cfa.RegisterAndOffset (register_numbered n.cfa_register) (eightfold n.cfa_words) ≡ parts.cfa)
    × (rules_of (map pair_of (counted_rules n)) ≡ parts.rules)
    × (args_size n.marks ≡ parts.args_size)
    × (register_numbered n.return_address ≡ function.return_address)
    × (n.fde ≡ function.offset)

-- an address of the function, by its distance from that of the row
abbrev pub near : PackedRow → ℤ → ℕ
near row distance = displaced 8 row.address distance

-- the function, with these pointers
abbrev pub function_with : PackedRow → Option Pointer → Option Pointer → Function
function_with row lsda personality = record {
  start = near row row.distances.start;
  end = near row row.distances.end;
  lsda = lsda;
  personality = personality;
  return_address = register_numbered row.numbers.return_address;
  is_signal_trampoline = is_trampoline row.numbers.marks;
  offset = row.numbers.fde;
}

abbrev pub function_packed : PackedRow → Function
function_packed row =
    function_with row (pointer_of (lsda_kind row.numbers.marks) (near row row.distances.lsda))
    (pointer_of (personality_kind row.numbers.marks) (near row row.distances.personality))

abbrev pub plain_packed : PackedRow → Option Function
plain_packed row = if is_plain row.numbers.marks then Some (function_packed row) else None

abbrev pub is_kept : PackedRow → Bool
is_kept row = has_row row.numbers.marks

-- the address is one that the file has
abbrev pub HoldsRow : ℕ → ℕ → PackedRow → Type 0
HoldsRow file a row = (is_kept row ≡ true) × (row.file ≡ file) × (row.address ≡ a)

-- ---- a row is kept

abbrev pub IsPackedOf : Parts ℕ → Function → PackedRow → Type 0
IsPackedOf parts function row = (parts_packed row ≡ parts) × (function_packed row ≡ function)

-- ---- rows of an FDE

module _ (rule_limit stack_limit : Option ℕ) (copies_free : Bool) (section : Section) (a : ℕ) where
  -- the row says what the FDE has for the address
  abbrev pub IsPackedFor : Fde → PackedRow → Type 0
  IsPackedFor fde row =
      (found : Row ℕ)
      × IsRowOfFde rule_limit stack_limit copies_free section a fde
      (Ok (map_row (λ (n : ℕ). n) found))
      × IsPackedOf found.parts (function_of fde) row

  abbrev pub KeepsFound : Result Fde Error → ℕ → List PackedRow → List PackedRow → Type 0
  KeepsFound (Ok fde) file old new = Keeps HoldsRow file a (IsPackedFor fde) old new
  KeepsFound (Err e) file old new = new ≡ old

-- ---- a cache

abbrev pub rows_in : RowCache → List PackedRow
rows_in cache = cache.rows.items

abbrev pub AreVacant : List PackedRow → Type 0
AreVacant rows = All (λ row. is_kept row ≡ false) rows

-- the row of the FDE that the module has for an address of the file may have been kept
module _ {R : Type 0} (position : R → Position) (size : ℕ) (rule_limit stack_limit : Option ℕ)
    (copies_free : Bool) where
  abbrev pub IsKept :
      LoadedModule R → ℕ → ℕ → List PackedRow → List PackedRow → Type 0
  IsKept loaded a file old new =
      (found : Result Fde Error) × IsFoundIn position size loaded a found
      × IfOk found (λ fde. Covers fde a)
      × KeepsFound rule_limit stack_limit copies_free (module_section position size loaded) a found
      file old new
