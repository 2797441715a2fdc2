-- What a loaded module has for an address: by a compiled table; where it has none, the FDE by its
-- header, or by a scan of its section; and where no FDE of .eh_frame has the address, by the
-- compiled table of .debug_frame. All have the addresses of the file, so an address of the process
-- is looked up less the bias.
--     address_in_file bias a      the address that a file has for one of the process, where it is
--         moved by a bias
--     module_section position loaded      the section of its entries
--     IsFoundIn position size loaded a found      the FDE for an address of the file, or the error
--         in its place, where an address has this size
--     IsStepByFound .. loaded a result caller      a step by it; IsStepByFde for one that is found
--     IsStepVia .. table loaded a result caller      a step in .eh_frame: by the compiled table, or
--         by the FDE where there is none
--     IsStepOr debug First Other result caller      a step in the first of two sections that has an
--         FDE for the address
--     IsStepIn .. loaded a result caller      that of the module's two, from an address of the
--         process
--     has_code loaded a, first_module modules a      the module whose code the address is in
--     are_sorted low modules      whether modules are in the order of their addresses, with no
--         overlap
use Rattle.std.specs.Prelude.{◌≡◌, ◌≢◌, ◌⊎◌, ℕ, ◌+◌, ◌-◌, ◌%◌, ◌^◌, Bool, List, Option, Some}
use Rattle.std.specs.Prelude.{None, Result, Err, IfOk}
use Rattle.std.specs.Borrow.{Bor}
use Rattle.cfi_read_core.specs.declared.error.Error.{Error}
use Rattle.cfi_read_core.specs.declared.error.Error.TheVariants.{NoUnwindInfoForAddress}
use Rattle.cfi_read_core.specs.ReadFunctions.{Position}
use Rattle.cfi_entry.specs.Sections.{Section}
use Rattle.cfi_entry.specs.Fdes.{Covers, Fde}
use Rattle.cfi_entry.specs.SectionViews.{debug_frame_view, eh_frame_view}
use Rattle.cfi_unwind.specs.Scan.{chosen_fde}
use Rattle.gimli_cfi.specs.declared.hdr.header.EhFrameHdr.{EhFrameHdr}
use Rattle.gimli_cfi.specs.EhFrameHdr.{header_of}
use Rattle.gimli_cfi.specs.HeaderViews.{section_view, unparsed_view}
use Rattle.gimli_cfi.specs.RowsByHeader.{FoundByHeader}
use Rattle.cfi_expression.specs.declared.error.FrameError.{FrameError}
use Rattle.cfi_expression.specs.declared.error.FrameError.TheVariants.{NoRow}
use Rattle.cfi_expression.specs.Frames.{Frame}
use Rattle.cfi_compiled.specs.CompiledTables.{TableContents, frame_at}
use Rattle.cfi_step.specs.declared.abi.Abi.{Abi}
use Rattle.cfi_step.specs.declared.module.DebugTable.{DebugTable}
use Rattle.cfi_step.specs.declared.module.LoadedModule.{LoadedModule}
use Rattle.cfi_step.specs.declared.step.Caller.{Caller}
use Rattle.cfi_step.specs.CodeRanges as ranges
use Rattle.cfi_step.specs.StepsByTable.{IsStepByFrame}
use Rattle.cfi_step.specs.Steps.{IsStepBy}

-- an address of the process is that of the file plus the bias, modulo 2 ^ 64
abbrev pub address_in_file : ℕ → ℕ → ℕ
address_in_file bias a = (a + (2 ^ 64 - bias)) % 2 ^ 64

module _ {R : Type 0} (position : R → Position) (size : ℕ) (loaded : LoadedModule R) where
  abbrev pub module_section : Section
  module_section = section_view position loaded.frame loaded.bases

  abbrev pub IsFoundBy : Option (EhFrameHdr R) → ℕ → Result Fde Error → Type 0
  IsFoundBy None a found = found ≡ chosen_fde module_section a
  IsFoundBy (Some header) a found =
      let bytes = unparsed_view position header size loaded.bases in
      FoundByHeader module_section a bytes (header_of bytes) found

  abbrev pub IsFoundIn : ℕ → Result Fde Error → Type 0
  IsFoundIn a found = IsFoundBy loaded.header a found

-- no FDE of a section has the address
abbrev pub no_fde : Result Caller FrameError
no_fde = Err (NoRow NoUnwindInfoForAddress)

-- by .eh_frame; or by .debug_frame, if the module has that, where no FDE of .eh_frame has the
-- address
abbrev pub IsStepOr :
    {R : Type 0} → Option (DebugTable R) → (Result Caller FrameError → List (Option ℕ) → Type 0) →
    (DebugTable R → Result Caller FrameError → List (Option ℕ) → Type 0) →
    Result Caller FrameError → List (Option ℕ) → Type 0
IsStepOr None First Other result caller = First result caller
IsStepOr (Some debug) First Other result caller =
    (first : Result Caller FrameError) × (left : List (Option ℕ)) × First first left
    × (((first ≡ no_fde) × Other debug result caller)
    ⊎ ((first ≢ no_fde) × (result ≡ first) × (caller ≡ left)))

-- by .debug_frame, which has the bytes of expressions
abbrev pub IsStepByDebug :
    {R : Type 0} → (R → Position) → Frame → Abi → DebugTable R → ℕ → Result Caller FrameError →
    List (Option ℕ) → Type 0
IsStepByDebug position frame abi debug a result caller =
    IsStepByFrame frame (debug_frame_view position debug.frame.now).position abi
    (frame_at debug.compiled.now a) result caller

-- the caller of a frame of the module's code, whose row is that of the address
module _ {R T : Type 0} (position : R → Position) (number : T → ℕ) (frame : Frame) (abi : Abi)
    (rule_limit stack_limit : Option ℕ) (copies_free : Bool) where
  -- by the FDE that is found for an address of the file
  abbrev pub IsStepByFde :
      LoadedModule R → ℕ → Result Fde Error → Result Caller FrameError → List (Option ℕ) → Type 0
  IsStepByFde loaded a found result caller =
      IsFoundIn position frame.size loaded a found × IfOk found (λ fde. Covers fde a)
      × IsStepBy frame (eh_frame_view position loaded.frame).position abi number rule_limit
      stack_limit copies_free
      (module_section position frame.size loaded) a found result caller

  abbrev pub IsStepByFound :
      LoadedModule R → ℕ → Result Caller FrameError → List (Option ℕ) → Type 0
  IsStepByFound loaded a result caller =
      (found : Result Fde Error) × IsStepByFde loaded a found result caller

  -- the same, and by a compiled table; the bytes of expressions are those of the module's section
  abbrev pub IsStepVia :
      Option (Bor TableContents) → LoadedModule R → ℕ → Result Caller FrameError → List (Option ℕ) →
      Type 0
  IsStepVia None loaded a result caller = IsStepByFound loaded a result caller
  IsStepVia (Some table) loaded a result caller =
      IsStepByFrame frame (eh_frame_view position loaded.frame).position abi (frame_at table.now a)
      result caller

  -- by an address of the process
  abbrev pub IsStepIn : LoadedModule R → ℕ → Result Caller FrameError → List (Option ℕ) → Type 0
  IsStepIn loaded a result caller =
      let in_file = address_in_file loaded.bias a in
      IsStepOr loaded.debug (IsStepVia loaded.compiled loaded in_file)
      (λ debug. IsStepByDebug position frame abi debug in_file) result caller

-- ---- several modules

module _ {R : Type 0} where
  abbrev pub code_start : LoadedModule R → ℕ
  code_start loaded = loaded.start

  abbrev pub code_end : LoadedModule R → ℕ
  code_end loaded = loaded.end

  abbrev pub has_code : LoadedModule R → ℕ → Bool
  has_code = ranges.has_code code_start code_end

  abbrev pub first_module : List (LoadedModule R) → ℕ → Option (LoadedModule R)
  first_module = ranges.first_with_code code_start code_end

  abbrev pub are_sorted : ℕ → List (LoadedModule R) → Bool
  are_sorted = ranges.are_sorted code_start code_end
