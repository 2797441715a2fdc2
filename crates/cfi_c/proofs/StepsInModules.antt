-- A step in a module that C passes is one in the module that is made of it.
use Rattle.std.proofs.Common.{◌≡◌, ◌∙◌, ◌<◌, ◌^◌, ℕ, Bool, true, false, ◌&&◌, List, Option, Some, None, Result, IfNone, IfOk, is_none, refl, subst, sym, ap, true≢false}
use Rattle.std.specs.Borrow.{Bor}
use Rattle.std.specs.Option.{option_map}
use Rattle.std.proofs.Math.Nat.{add-mod_right, mod-eq_of_lt}
use Rattle.cfi_read_core.specs.declared.error.Error.{Error}
use Rattle.cfi_read_core.specs.ReadFunctions.{Position}
use Rattle.cfi_read_core.specs.SliceReaders.{slice_over}
use Rattle.cfi_entry.specs.Fdes.{Covers, Fde}
use Rattle.cfi_entry.specs.SectionViews.{eh_frame_view}
use Rattle.cfi_entry.specs.Sections.{DebugFrame, Section}
use Rattle.cfi_unwind.specs.Scan.{chosen_fde}
use Rattle.gimli_cfi.specs.declared.hdr.header.EhFrameHdr.{EhFrameHdr}
use Rattle.gimli_cfi.specs.EhFrameHdr.{HeaderSection, header_of as parsed}
use Rattle.gimli_cfi.specs.HeaderViews.{section_view, unparsed_view}
use Rattle.gimli_cfi.specs.RowsByHeader.{FoundByHeader}
use Rattle.cfi_expression.specs.declared.error.FrameError.{FrameError}
use Rattle.cfi_expression.specs.Frames.{Frame}
use Rattle.cfi_step.specs.declared.abi.Abi.{Abi}
use Rattle.cfi_step.specs.declared.module.DebugTable.{DebugTable}
use Rattle.cfi_step.specs.declared.module.LoadedModule.{LoadedModule}
use Rattle.cfi_step.specs.declared.step.Caller.{Caller}
use Rattle.cfi_compiled.specs.CompiledTables.{TableContents}
use Rattle.cfi_step.specs.Modules.{address_in_file}
use Rattle.cfi_step.specs.declared.function.Function.{Function}
use Rattle.cfi_step.specs.declared.function_steps.FunctionStep.{FunctionStep}
use Rattle.cfi_step.specs.Functions.{IsStepInFunction, function_in}
use Rattle.cfi_step.specs.Modules.{IsFoundBy, IsStepByDebug, IsStepByFde as IsStepByLoaded, IsStepByFound, IsStepIn, IsStepOr, IsStepVia}
use Rattle.cfi_step.specs.Steps.{IsStepBy}
use Rattle.cfi_step.specs.Walks.{State, address_of}
use Rattle.cfi_c.specs.declared.section.CfiBases.{CfiBases}
use Rattle.cfi_c.specs.declared.module.CfiModule.{CfiModule}
use Rattle.cfi_c.specs.declared.stack.CfiStack.{CfiStack}
use Rattle.cfi_c.specs.PassedSections.{eh_frame_of, header_in, passed_header, passed_kind, section_as, section_beside}
use Rattle.cfi_c.specs.PassedStacks.{stack_abi}
use Rattle.cfi_c.specs.PassedModules.{sized}
use Rattle.cfi_c.specs.PassedModules.{is_debug_frame}
use Rattle.cfi_c.specs.ModuleSteps.{IsStepInModule}
use Rattle.cfi_c.specs.ModuleSteps.{stack_frame}
use Rattle.cfi_c.specs.ModuleSteps.{IsFunctionStep}
use Rattle.cfi_c.specs.ModuleSteps.{IsStepByPassedFde}
use Rattle.cfi_c.specs.ModuleSteps.{IsPassedFdeBy}

-- ---- which section it is

and_false : (b : Bool) → (b && false) ≡ false
and_false true = refl
and_false false = refl

and_true : (b : Bool) → (b && true) ≡ b
and_true true = refl
and_true false = refl

pub of_eh_frame : (bases : CfiBases) (header : Option (List ℕ)) (bytes : List ℕ) → (bases.debug_frame && is_none header) ≡ false → eh_frame_of bases bytes ≡ section_beside header bases bytes
of_eh_frame bases (Some header) bytes is = refl
of_eh_frame bases None bytes is = ap (λ (b : Bool). section_as (passed_kind b) bases bytes) (sym is ∙ and_true bases.debug_frame)

pub of_debug_frame : (bases : CfiBases) (header : Option (List ℕ)) (bytes : List ℕ) → (bases.debug_frame && is_none header) ≡ true → section_as DebugFrame bases bytes ≡ section_beside header bases bytes
of_debug_frame bases (Some header) bytes is = absurd (true≢false (sym is ∙ and_false bases.debug_frame))
of_debug_frame bases None bytes is = ap (λ (b : Bool). section_as (passed_kind b) bases bytes) (sym is ∙ and_true bases.debug_frame)

pub found_by_scan : (bases : CfiBases) (header : Option (List ℕ)) (bytes : List ℕ) → (bases.debug_frame && is_none header) ≡ true
    → (a : ℕ) (found : Result Fde Error) → found ≡ chosen_fde (section_as DebugFrame bases bytes) a → IsPassedFdeBy bases bytes header a found
found_by_scan bases (Some header) bytes is a found by = absurd (true≢false (sym is ∙ and_false bases.debug_frame))
found_by_scan bases None bytes is a found by = by ∙ ap (λ s. chosen_fde s a) (of_debug_frame bases None bytes is)

-- ---- by the module that is made

module _ {R : Type 0} (position : R → Position) (size : ℕ) (loaded : LoadedModule R) (bases : CfiBases) (bytes : List ℕ) where
  pub found_by : (made : Option (EhFrameHdr R)) (passed : Option (List ℕ))
      → section_view position loaded.frame loaded.bases ≡ section_beside passed bases bytes
      → option_map (λ header. unparsed_view position header size loaded.bases) made ≡ option_map (passed_header bases) passed
      → (a : ℕ) (found : Result Fde Error) → IsFoundBy position size loaded made a found → IsPassedFdeBy bases bytes passed a found
  found_by None None same headers a found is = is ∙ ap (λ s. chosen_fde s a) same
  found_by None (Some bytes') same headers a found is = absurd (cc)
  found_by (Some header) None same headers a found is = absurd (cc)
  found_by (Some header) (Some bytes') same headers a found is =
      let same_header : unparsed_view position header size loaded.bases ≡ passed_header bases bytes' = cc in
      subst (λ (h : HeaderSection). FoundByHeader (eh_frame_of bases bytes) a h (parsed h) found) same_header
      (subst (λ (s : Section). FoundByHeader s a (unparsed_view position header size loaded.bases) (parsed (unparsed_view position header size loaded.bases)) found) same is)

-- a file that isn't moved has the addresses of the process
not_moved : (bias a : ℕ) → bias ≡ 0 → a < 2 ^ 64 → address_in_file bias a ≡ a
not_moved bias a none fits = ap (λ (n : ℕ). address_in_file n a) none ∙ (add-mod_right a (2 ^ 64) ∙ mod-eq_of_lt fits)

module _ {R : Type 0} (position : R → Position) (frame : Frame) (abi : Abi) (passed : CfiModule) (loaded : LoadedModule R)
    (bytes : (eh_frame_view position loaded.frame).position ≡ slice_over passed.section.now passed.bases.big_endian)
    (sections : section_view position loaded.frame loaded.bases ≡ section_beside (header_in passed.header.now) (sized frame.size passed.bases) passed.section.now)
    (headers : option_map (λ header. unparsed_view position header frame.size loaded.bases) loaded.header ≡ option_map (passed_header (sized frame.size passed.bases)) (header_in passed.header.now)) where
  by_fde : (a : ℕ) (found : Result Fde Error) (result : Result Caller FrameError) (caller : List (Option ℕ))
      → IsStepByLoaded position (λ (n : ℕ). n) frame abi (Some 192) (Some 4) true loaded a found result caller → IsStepByPassedFde frame abi passed a found result caller
  by_fde a found result caller is = (
    found_by position frame.size loaded (sized frame.size passed.bases) passed.section.now loaded.header (header_in passed.header.now) sections headers a found is.0,
    is.1,
    subst (λ (n : Section). IsStepBy frame (slice_over passed.section.now passed.bases.big_endian) abi (λ (n : ℕ). n) (Some 192) (Some 4) true n a found result caller) sections
        (subst (λ (p : Position). IsStepBy frame p abi (λ (n : ℕ). n) (Some 192) (Some 4) true (section_view position loaded.frame loaded.bases) a found result caller) bytes is.2),
  )

  -- the step with its function, of a file that isn't moved
  pub in_function : (a : ℕ) (function : Option Function) (result : Result Caller FrameError) (caller : List (Option ℕ)) → loaded.bias ≡ 0 → a < 2 ^ 64
      → IsStepInFunction position (λ (n : ℕ). n) frame abi (Some 192) (Some 4) true loaded (address_in_file loaded.bias a) function result caller
      → (found : Result Fde Error) × IsStepByPassedFde frame abi passed a found result caller × (function ≡ function_in found)
  in_function a function result caller unmoved fits is =
      let at : IsStepInFunction position (λ (n : ℕ). n) frame abi (Some 192) (Some 4) true loaded a function result caller =
      subst (λ (n : ℕ). IsStepInFunction position (λ (n : ℕ). n) frame abi (Some 192) (Some 4) true loaded n function result caller) (not_moved loaded.bias a unmoved fits) is in
      (at.0, by_fde a at.0 result caller at.1, at.2)

module _ {R : Type 0} (position : R → Position) (stack : CfiStack) (passed : CfiModule) (loaded : LoadedModule R) where
  pub as_passed : (s : State) (frame : Frame) (abi : Abi) (a : ℕ) (result : Result Caller FrameError) (caller : List (Option ℕ))
      → frame ≡ stack_frame stack s → abi ≡ stack_abi stack → a ≡ address_of s
      → (eh_frame_view position loaded.frame).position ≡ slice_over passed.section.now passed.bases.big_endian
      → section_view position loaded.frame loaded.bases ≡ section_beside (header_in passed.header.now) (sized stack.address_size passed.bases) passed.section.now
      → option_map (λ header. unparsed_view position header stack.address_size loaded.bases) loaded.header ≡ option_map (passed_header (sized stack.address_size passed.bases)) (header_in passed.header.now)
      → loaded.compiled ≡ None → loaded.debug ≡ None → loaded.bias ≡ 0 → a < 2 ^ 64 → IsStepIn position (λ (n : ℕ). n) frame abi (Some 192) (Some 4) true loaded a result caller
      → IsStepInModule stack passed s result caller
  as_passed s frame abi a result caller frames abis addresses bytes sections headers none alone unmoved fits is =
      let in_file = address_in_file loaded.bias a in
      let first : IsStepVia position (λ (n : ℕ). n) frame abi (Some 192) (Some 4) true loaded.compiled loaded in_file result caller =
      subst (λ (d : Option (DebugTable R)). IsStepOr d (IsStepVia position (λ (n : ℕ). n) frame abi (Some 192) (Some 4) true loaded.compiled loaded in_file) (λ debug. IsStepByDebug position frame abi debug in_file) result caller) alone is in
      let at : IsStepVia position (λ (n : ℕ). n) frame abi (Some 192) (Some 4) true loaded.compiled loaded a result caller =
      subst (λ (n : ℕ). IsStepVia position (λ (n : ℕ). n) frame abi (Some 192) (Some 4) true loaded.compiled loaded n result caller) (not_moved loaded.bias a unmoved fits) first in
      let found : IsStepByFound position (λ (n : ℕ). n) frame abi (Some 192) (Some 4) true loaded a result caller =
      subst (λ (o : Option (Bor TableContents)). IsStepVia position (λ (n : ℕ). n) frame abi (Some 192) (Some 4) true o loaded a result caller) none at in
      let framed : IsStepByFound position (λ (n : ℕ). n) (stack_frame stack s) abi (Some 192) (Some 4) true loaded a result caller =
      subst (λ (f : Frame). IsStepByFound position (λ (n : ℕ). n) f abi (Some 192) (Some 4) true loaded a result caller) frames found in
      let ruled : IsStepByFound position (λ (n : ℕ). n) (stack_frame stack s) (stack_abi stack) (Some 192) (Some 4) true loaded a result caller =
      subst (λ (b : Abi). IsStepByFound position (λ (n : ℕ). n) (stack_frame stack s) b (Some 192) (Some 4) true loaded a result caller) abis framed in
      let so : IsStepByFound position (λ (n : ℕ). n) (stack_frame stack s) (stack_abi stack) (Some 192) (Some 4) true loaded (address_of s) result caller =
      subst (λ (n : ℕ). IsStepByFound position (λ (n : ℕ). n) (stack_frame stack s) (stack_abi stack) (Some 192) (Some 4) true loaded n result caller) addresses ruled in
      (so.0, by_fde position (stack_frame stack s) (stack_abi stack) passed loaded bytes sections headers (address_of s) so.0 result caller so.1)

-- ---- by a scan

pub by_scan : (frame : Frame) (abi : Abi) (passed : CfiModule) (n : ℕ) (made : Section) (bytes : Position) (a : ℕ) (found : Result Fde Error) (function : Option Function) (result : Result Caller FrameError) (caller : List (Option ℕ))
    → is_debug_frame passed ≡ true → n ≡ frame.size → made ≡ section_as DebugFrame (sized n passed.bases) passed.section.now
    → bytes ≡ slice_over passed.section.now passed.bases.big_endian → found ≡ chosen_fde made a → IfOk found (λ fde. Covers fde a)
    → IsStepBy frame bytes abi (λ (n : ℕ). n) (Some 192) (Some 4) true made a found result caller → function ≡ function_in found
    → IsFunctionStep frame abi passed a (record { function = function; caller = result }) caller
by_scan frame abi passed n made bytes a found function result caller is size sections same chosen covers steps functions =
    let section : made ≡ section_as DebugFrame (sized frame.size passed.bases) passed.section.now = sections ∙ ap (λ (k : ℕ). section_as DebugFrame (sized k passed.bases) passed.section.now) size in
    let beside : made ≡ section_beside (header_in passed.header.now) (sized frame.size passed.bases) passed.section.now =
    section ∙ of_debug_frame (sized frame.size passed.bases) (header_in passed.header.now) passed.section.now is in (
      found,
      (
        found_by_scan (sized frame.size passed.bases) (header_in passed.header.now) passed.section.now is a found (chosen ∙ ap (λ s. chosen_fde s a) section),
        covers,
        subst (λ (s : Section). IsStepBy frame (slice_over passed.section.now passed.bases.big_endian) abi (λ (n : ℕ). n) (Some 192) (Some 4) true s a found result caller) beside
            (subst (λ (p : Position). IsStepBy frame p abi (λ (n : ℕ). n) (Some 192) (Some 4) true made a found result caller) same steps),
      ),
      functions,
    )

pub as_scanned : (stack : CfiStack) (passed : CfiModule) (s : State) (frame : Frame) (abi : Abi) (a : ℕ) (step : FunctionStep) (caller : List (Option ℕ))
    → frame ≡ stack_frame stack s → abi ≡ stack_abi stack → a ≡ address_of s → IsFunctionStep frame abi passed a step caller → IsStepInModule stack passed s step.caller caller
as_scanned stack passed s frame abi a step caller frames abis addresses is =
    let framed : IsFunctionStep (stack_frame stack s) abi passed a step caller = subst (λ (f : Frame). IsFunctionStep f abi passed a step caller) frames is in
    let ruled : IsFunctionStep (stack_frame stack s) (stack_abi stack) passed a step caller = subst (λ (b : Abi). IsFunctionStep (stack_frame stack s) b passed a step caller) abis framed in
    let at : IsFunctionStep (stack_frame stack s) (stack_abi stack) passed (address_of s) step caller =
    subst (λ (n : ℕ). IsFunctionStep (stack_frame stack s) (stack_abi stack) passed n step caller) addresses ruled in
    (at.0, at.1)

-- what holds if there is none
pub if_none : (o : Option ℕ) (P : Type 0) → IfNone o P → is_none o ≡ true → P
if_none None P holds none = holds
if_none (Some k) P holds none = absurd (true≢false (sym none))
