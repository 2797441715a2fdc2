-- A step by a row that a cache holds is the step by the FDE of its address; and what may have been kept is right.
use Rattle.std.proofs.Common.{◌≡◌, ◌≤◌, ◌*◌, ◌∙◌, ℕ, Bool, true, List, length, take, Option, Some, Result, Ok, Err, IfOk, pos, refl, sym, ap, subst, inl, inr}
use Rattle.std.specs.List.{All, Contains}
use Rattle.std.specs.Option.{option_map}
use Rattle.std.proofs.lemmas.List.{length-map, take_all}
use Rattle.std.proofs.lemmas.List.Elements.{All-get_or, All-set}
use Rattle.cfi_read_core.specs.Addresses.{IsAddressSize}
use Rattle.cfi_read_core.specs.ReadFunctions.{Position}
use Rattle.cfi_read_core.specs.SliceReaders.{slice_over}
use Rattle.cfi_read_core.specs.declared.error.Error.{Error}
use Rattle.cfi_state.specs.Machine.{Parts}
use Rattle.cfi_entry.specs.Augmentations.{is_trampoline}
use Rattle.cfi_entry.specs.Fdes.{Covers, Fde}
use Rattle.cfi_entry.specs.Sections.{DebugFrame, Section}
use Rattle.cfi_unwind.specs.Scan.{chosen_fde}
use Rattle.gimli_cfi.specs.HeaderViews.{section_view, unparsed_view}
use Rattle.cfi_expression.specs.declared.error.FrameError.{FrameError}
use Rattle.cfi_step.specs.declared.function_steps.FunctionStep.{FunctionStep}
use Rattle.cfi_step.specs.declared.module.LoadedModule.{LoadedModule}
use Rattle.cfi_step.specs.declared.packed_rows.PackedRow.{PackedRow}
use Rattle.cfi_step.specs.declared.row_cache.RowCache.{RowCache}
use Rattle.cfi_step.specs.declared.step.Caller.{Caller}
use Rattle.cfi_step.specs.Callers.{AreRecovered}
use Rattle.cfi_step.specs.Functions.{function_of}
use Rattle.cfi_step.specs.PackedRows.{AreVacant, IsKept, KeepsFound, IsPackedFor, function_packed, parts_packed, rows_in}
use Rattle.cfi_step.specs.Marks.{is_trampoline as marked}
use Rattle.cfi_step.specs.PackedRules.{register_numbered}
use Rattle.cfi_step.specs.Steps.{caller_by}
use Rattle.cfi_step.proofs.KeptRows.{same_caller}
use Rattle.cfi_c.specs.declared.section.CfiBases.{CfiBases}
use Rattle.cfi_c.specs.declared.function.CfiFunction.{CfiFunction}
use Rattle.cfi_c.specs.declared.memory.CfiMemory.{CfiMemory}
use Rattle.cfi_c.specs.declared.end.CfiEnd.{CfiEnd}
use Rattle.cfi_c.specs.declared.module.CfiModule.{CfiModule}
use Rattle.cfi_c.specs.declared.register.CfiValue.{CfiValue}
use Rattle.cfi_c.specs.declared.step.CfiCaller.{CfiCaller}
use Rattle.cfi_c.specs.CachedSteps.{IsCacheMade, IsCachedFor, IsRightFor, IsRowFor, StaysCachedFor, held_rows}
use Rattle.cfi_c.specs.PackedSteps.{AreOfCaller, IsCallerBy, IsSteppedByHeld}
use Rattle.cfi_c.specs.PassedRegisters.{values_of}
use Rattle.cfi_c.specs.PassedMemories.{abi_in}
use Rattle.cfi_c.specs.PassedSections.{header_in, passed_header, section_as, section_beside}
use Rattle.cfi_c.specs.PassedModules.{sized}
use Rattle.cfi_c.specs.PassedModules.{is_debug_frame}
use Rattle.cfi_c.specs.PassedRegisters.{known_values}
use Rattle.cfi_c.specs.PassedRegisters.{known_value}
use Rattle.cfi_c.specs.ModuleSteps.{IsStepByPassedFde}
use Rattle.cfi_c.specs.ModuleSteps.{IsPassedFdeBy}
use Rattle.cfi_c.specs.SteppedFrames.{IsStepWith, IsStepped, frame_in}
use Rattle.cfi_c.specs.PassedRegisters.{AreValues}
use Rattle.cfi_c.proofs.StepsInModules.{found_by, found_by_scan, of_debug_frame}

all_has : {X : Type 0} (P : X → Type 0) (xs : List X) (x : X) → Contains xs x → All P xs → P x
all_has P xs x has all = subst P has.2 (All-get_or P xs has.0 x has.1 all)

if_ok_then : {A E : Type 0} (r : Result A E) (P Q : A → Type 0) → ((x : A) → P x → Q x) → IfOk r P → IfOk r Q
if_ok_then (Ok x) P Q then is = then x is
if_ok_then (Err e) P Q then is = tt

-- ---- a step by a row that is held

module _ (memory : CfiMemory) (loaded : CfiModule) (a : ℕ) (registers new : List CfiValue) (row : PackedRow) (step : Result Caller FrameError)
    (is : IsCallerBy memory (take 256 registers) row step) (written : IfOk step (λ c. AreOfCaller memory (take 256 registers) row c.cfa new)) where
  by_fde : IsRowFor memory.address_size loaded a row → (fde : Fde) × (function_packed row ≡ function_of fde)
      × IsStepByPassedFde (frame_in memory (known_values registers)) (abi_in memory) loaded a (Ok fde) step (values_of new)
  by_fde (fde, found, covers, (of_row, is_row, (parts, same))) =
      let frame = frame_in memory (known_values registers) in
      let bytes = slice_over loaded.section.now loaded.bases.big_endian in
      let abi = abi_in memory in (
        fde,
        same,
        (
          found,
          covers,
          (
            Ok of_row,
            is_row,
            (
              same_caller (λ (n : ℕ). n) frame bytes abi (parts_packed row) step (register_numbered row.numbers.return_address) fde.cie.return_address_register (marked row.numbers.marks) (is_trampoline fde.cie.augmentation)
                  (is bytes) (ap (λ f. f.return_address) same) (ap (λ f. f.is_signal_trampoline) same)
                  ∙ ap (caller_by frame bytes abi (λ (n : ℕ). n) fde.cie.return_address_register (is_trampoline fde.cie.augmentation)) parts,
              if_ok_then step (λ c. AreOfCaller memory (take 256 registers) row c.cfa new) (λ c. AreRecovered frame bytes abi (λ (n : ℕ). n) of_row.parts c.cfa (length (values_of new)) (values_of new))
                  (λ c of.
                  subst (λ (p : Parts ℕ). AreRecovered frame bytes abi (λ (n : ℕ). n) p c.cfa (length (values_of new)) (values_of new)) parts
                  (subst (λ (n : ℕ). AreRecovered frame bytes abi (λ (n : ℕ). n) (parts_packed row) c.cfa n (values_of new)) (sym (length-map new known_value)) (of.0 bytes)))
                  written,
            ),
          ),
        ),
      )

  step_with : IsRowFor memory.address_size loaded a row → length new ≤ 256
      → IsStepWith loaded memory a (known_values registers) (record { function = Some (function_packed row); caller = step }) new
  step_with for room =
      let (fde, same, made) = by_fde for in (
        values_of new,
        (Ok fde, made, ap Some same),
        length-map new known_value ∙ sym (ap length (take_all 256 new room)),
        if_ok_then step (λ c. AreOfCaller memory (take 256 registers) row c.cfa new) (λ c. AreValues (values_of new) new) (λ c of. of.1) written,
      )

pub stepped_by_held : (memory : CfiMemory) (loaded : CfiModule) (file a : ℕ) (rows : List PackedRow) (registers old new : List CfiValue) (function : CfiFunction) (old_caller caller : CfiCaller) (end : CfiEnd)
    → IsAddressSize memory.address_size → length new ≤ 256 → IsCachedFor memory.address_size file loaded rows
    → IsSteppedByHeld memory file a rows (take 256 registers) old new function old_caller caller end
    → IsStepped true loaded memory a registers old new function old_caller caller end
stepped_by_held memory loaded file a rows registers old new function old_caller caller end is_size room right (row, holds, there, (step, (is, written, unwritten), functions, callers, ends)) =
    let for : IsRowFor memory.address_size loaded a row = all_has (IsRightFor memory.address_size file loaded) rows row there right a holds in
    let whole : FunctionStep = record { function = Some (function_packed row); caller = step } in (
      Ok whole,
      (λ other. absurd (other is_size), λ _. (whole, refl, step_with memory loaded a registers new row step is written for room, unwritten)),
      functions,
      callers,
      ends,
    )

-- ---- what may have been kept

module _ (size file a : ℕ) (passed : CfiModule) (old new : List PackedRow) where
  abbrev InModule : (List ℕ × List ℕ × CfiBases) → ℕ → PackedRow → Type 0
  InModule of b row =
      (fde : Fde) × IsPassedFdeBy of.2 of.0 (header_in of.1) b (Ok fde) × Covers fde b × IsPackedFor (Some 192) (Some 4) true (section_beside (header_in of.1) of.2 of.0) b fde row

  unchanged : new ≡ old → StaysCachedFor size file passed old new
  unchanged same other another alike right = subst (IsCachedFor size other another) (sym same) right

  by_found : (found : Result Fde Error) → IsPassedFdeBy (sized size passed.bases) passed.section.now (header_in passed.header.now) a found → IfOk found (λ fde. Covers fde a)
      → KeepsFound (Some 192) (Some 4) true (section_beside (header_in passed.header.now) (sized size passed.bases) passed.section.now) a found file old new → StaysCachedFor size file passed old new
  by_found (Err e) is covers same = unchanged same
  by_found (Ok fde) is covers (inl same) = unchanged same
  by_found (Ok fde) is covers (inr (k, row, written, holds)) =
      λ other another alike right.
      let right_row : IsRightFor size other another row = λ b h.
      let (of, at, says) = holds other b h in
      let same = alike (sym of) in
      let here : InModule (passed.section.now, passed.header.now, sized size passed.bases) a row = (fde, is, covers, says) in
      let at_b : InModule (passed.section.now, passed.header.now, sized size passed.bases) b row = subst (λ (n : ℕ). InModule (passed.section.now, passed.header.now, sized size passed.bases) n row) (sym at) here in
      let same_of : ◌≡◌ {A = List ℕ × List ℕ × CfiBases} (passed.section.now, passed.header.now, sized size passed.bases) (another.section.now, another.header.now, sized size another.bases) =
      λ i. (same.0 i, same.1 i, same.2 i) in
      subst (λ (of : List ℕ × List ℕ × CfiBases). InModule of b row) same_of at_b in
      subst (IsCachedFor size other another) (sym written) (All-set (IsRightFor size other another) old k row right_row right)

  pub keeps : {R : Type 0} (position : R → Position) (loaded : LoadedModule R)
      → section_view position loaded.frame loaded.bases ≡ section_beside (header_in passed.header.now) (sized size passed.bases) passed.section.now
      → option_map (λ header. unparsed_view position header size loaded.bases) loaded.header ≡ option_map (passed_header (sized size passed.bases)) (header_in passed.header.now)
      → IsKept position size (Some 192) (Some 4) true loaded a file old new → StaysCachedFor size file passed old new
  keeps position loaded sections headers (found, is, covers, kept) =
      let here : IsPassedFdeBy (sized size passed.bases) passed.section.now (header_in passed.header.now) a found =
      found_by position size loaded (sized size passed.bases) passed.section.now loaded.header (header_in passed.header.now) sections headers a found is in
      by_found found here covers (subst (λ (s : Section). KeepsFound (Some 192) (Some 4) true s a found file old new) sections kept)

  -- by a scan of .debug_frame
  pub keeps_scanned : (made : Section) → is_debug_frame passed ≡ true → made ≡ section_as DebugFrame (sized size passed.bases) passed.section.now
      → (found : Result Fde Error) → found ≡ chosen_fde made a → IfOk found (λ fde. Covers fde a) → KeepsFound (Some 192) (Some 4) true made a found file old new → StaysCachedFor size file passed old new
  keeps_scanned made is sections found chosen covers kept =
      let beside : made ≡ section_beside (header_in passed.header.now) (sized size passed.bases) passed.section.now =
      sections ∙ of_debug_frame (sized size passed.bases) (header_in passed.header.now) passed.section.now is in
      let here : IsPassedFdeBy (sized size passed.bases) passed.section.now (header_in passed.header.now) a found =
      found_by_scan (sized size passed.bases) (header_in passed.header.now) passed.section.now is a found (chosen ∙ ap (λ s. chosen_fde s a) sections) in
      by_found found here covers (subst (λ (s : Section). KeepsFound (Some 192) (Some 4) true s a found file old new) beside kept)

-- ---- the cache that C holds

pub made : (sets : ℕ) (old : List PackedRow) (held : Option RowCache) (cache : RowCache) → held ≡ Some cache → AreVacant (rows_in cache) → length (rows_in cache) ≡ sets * 4
    → IsCacheMade sets old (pos 0) (held_rows held)
made sets old held cache is empty room =
    inl (refl, subst (λ (o : Option RowCache). AreVacant (held_rows o)) (sym is) empty, ap (λ (o : Option RowCache). length (held_rows o)) is ∙ room)

-- what was kept, by other names of the rows
pub kept_as : (size file : ℕ) (loaded : CfiModule) (before old after new : List PackedRow) → before ≡ old → after ≡ new → StaysCachedFor size file loaded before after → StaysCachedFor size file loaded old new
kept_as size file loaded before old after new same same' keeps =
    λ other another alike right. subst (IsCachedFor size other another) same' (keeps other another alike (subst (IsCachedFor size other another) (sym same) right))

-- the step by what is held, after one row may have been kept
pub stepped_after_keeping : (memory : CfiMemory) (loaded : CfiModule) (file a : ℕ) (live : Bool) (before after : List PackedRow) (registers first old new : List CfiValue) (function : CfiFunction) (old_caller caller : CfiCaller)
    (end : CfiEnd) → live ≡ true → first ≡ take 256 registers → IsAddressSize memory.address_size → length new ≤ 256
    → StaysCachedFor memory.address_size file loaded before after → IsCachedFor memory.address_size file loaded before
    → IsSteppedByHeld memory file a after first old new function old_caller caller end
    → IsStepped live loaded memory a registers old new function old_caller caller end
stepped_after_keeping memory loaded file a live before after registers first old new function old_caller caller end is_live is_first is_size room keeps right held =
    let kept : IsCachedFor memory.address_size file loaded after = keeps file loaded (λ same. (refl, refl, refl)) right in
    let by_first : IsSteppedByHeld memory file a after (take 256 registers) old new function old_caller caller end =
    subst (λ (l : List CfiValue). IsSteppedByHeld memory file a after l old new function old_caller caller end) is_first held in
    subst (λ (l : Bool). IsStepped l loaded memory a registers old new function old_caller caller end) (sym is_live)
    (stepped_by_held memory loaded file a after registers old new function old_caller caller end is_size room kept by_first)

-- a step from what was left as it was
pub stepped_as_left : (memory : CfiMemory) (loaded : CfiModule) (a : ℕ) (live live' : Bool) (registers old old' new : List CfiValue) (function : CfiFunction) (old_caller old_caller' caller : CfiCaller) (end : CfiEnd)
    → live' ≡ live → old' ≡ old → old_caller' ≡ old_caller → IsStepped live' loaded memory a registers old' new function old_caller' caller end
    → IsStepped live loaded memory a registers old new function old_caller caller end
stepped_as_left memory loaded a live live' registers old old' new function old_caller old_caller' caller end same_live same_old same_caller is =
    let one : IsStepped live loaded memory a registers old' new function old_caller' caller end =
    subst (λ (l : Bool). IsStepped l loaded memory a registers old' new function old_caller' caller end) same_live is in
    let two : IsStepped live loaded memory a registers old new function old_caller' caller end =
    subst (λ (o : List CfiValue). IsStepped live loaded memory a registers o new function old_caller' caller end) same_old one in
    subst (λ (o : CfiCaller). IsStepped live loaded memory a registers old new function o caller end) same_caller two

-- the step in place by what is held: there is room for all registers
pub stepped_in_place : (memory : CfiMemory) (loaded : CfiModule) (file a : ℕ) (rows : List PackedRow) (registers old new : List CfiValue) (function : CfiFunction) (old_caller caller : CfiCaller) (end : CfiEnd)
    → IsAddressSize memory.address_size → length registers ≤ 256 → length new ≤ 256 → IsCachedFor memory.address_size file loaded rows
    → IsSteppedByHeld memory file a rows registers old new function old_caller caller end
    → IsStepped true loaded memory a registers old new function old_caller caller end
stepped_in_place memory loaded file a rows registers old new function old_caller caller end is_size room room' right held =
    stepped_by_held memory loaded file a rows registers old new function old_caller caller end is_size room' right
    (subst (λ (l : List CfiValue). IsSteppedByHeld memory file a rows l old new function old_caller caller end) (sym (take_all 256 registers room)) held)
