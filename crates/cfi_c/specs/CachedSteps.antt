-- The caller of one frame with a cache of rows, as C gets it.
--     cache_rows cache      the rows of the cache that C holds
--     IsCachedFor size file module rows      each row that is held of the file is that of the FDE
--         that the module has for its address, where an address has this size
--     HaveSameSections m n      modules have the same call frames
--     StaysCachedFor size file module old new      rows may have been kept of this module of the
--         file: what was right stays right, also for other modules, if they have the call frames of
--         this one where they have its number
--     IsCacheMade sets old status new      an empty cache; or the one that was there, with a status
use Rattle.std.specs.Prelude.{◌≡◌, ◌⊎◌, ℕ, ℤ, pos, ◌*◌, true, List, [], length, Option, Some, None}
use Rattle.std.specs.Prelude.{Ok}
use Rattle.std.specs.List.{All}
use Rattle.cfi_read_core.specs.declared.error.Error.TheVariants.{OutOfMemory}
use Rattle.cfi_entry.specs.Fdes.{Covers, Fde}
use Rattle.cfi_step.specs.declared.packed_rows.PackedRow.{PackedRow}
use Rattle.cfi_step.specs.declared.row_cache.RowCache.{RowCache}
use Rattle.cfi_step.specs.PackedRows.{AreVacant, HoldsRow, IsPackedFor, rows_in}
use Rattle.cfi_c.specs.declared.cache.CfiCache.{CfiCache}
use Rattle.cfi_c.specs.declared.module.CfiModule.{CfiModule}
use Rattle.cfi_c.specs.PassedModules.{passed_section_in, sized}
use Rattle.cfi_c.specs.Refusals.{error_status}
use Rattle.cfi_c.specs.ModuleSteps.{IsPassedFde}

-- ---- the rows of a cache, for addresses of this size

module _ (size : ℕ) where
  -- it says what the FDE of the module has for the address
  abbrev pub IsRowFor : CfiModule → ℕ → PackedRow → Type 0
  IsRowFor loaded a row =
      (fde : Fde) × IsPassedFde size loaded a (Ok fde) × Covers fde a
      × IsPackedFor (Some 192) (Some 4) true (passed_section_in size loaded) a fde row

  abbrev pub IsRightFor : ℕ → CfiModule → PackedRow → Type 0
  IsRightFor file loaded row = (a : ℕ) → HoldsRow file a row → IsRowFor loaded a row

  abbrev pub IsCachedFor : ℕ → CfiModule → List PackedRow → Type 0
  IsCachedFor file loaded rows = All (IsRightFor file loaded) rows

  abbrev pub HaveSameSections : CfiModule → CfiModule → Type 0
  HaveSameSections m n =
      (m.section.now ≡ n.section.now) × (m.header.now ≡ n.header.now)
      × (sized size m.bases ≡ sized size n.bases)

  abbrev pub StaysCachedFor : ℕ → CfiModule → List PackedRow → List PackedRow → Type 0
  StaysCachedFor file loaded old new =
      (other : ℕ) (another : CfiModule) → (file ≡ other → HaveSameSections loaded another) →
      IsCachedFor other another old → IsCachedFor other another new

-- ---- the cache that C holds

-- without a cache there are none
abbrev pub held_rows : Option RowCache → List PackedRow
held_rows (Some cache) = rows_in cache
held_rows None = []

abbrev pub cache_rows : CfiCache → List PackedRow
cache_rows cache = held_rows cache.held.cache

-- four rows for each set, and none is one as yet
abbrev pub IsCacheNew : ℕ → ℤ → List PackedRow → Type 0
IsCacheNew sets status new = (status ≡ pos 0) × AreVacant new × (length new ≡ sets * 4)

abbrev pub IsCacheMade : ℕ → List PackedRow → ℤ → List PackedRow → Type 0
IsCacheMade sets old status new =
    IsCacheNew sets status new ⊎ ((status ≡ error_status OutOfMemory) × (new ≡ old))
