-- Over any storage: what the initial instructions of a CIE leave or are refused with, where memory isn't refused.
use Rattle.std.proofs.Common.{◌≡◌, Bool, List, [], ◌∷◌, ◌++◌, Option, Some, Result, Err, append_assoc, refl, sym, ap, ◌∙◌, inl, inr}
use Rattle.std.specs.Option.{option_or}
use Rattle.std.proofs.lemmas.List.{append-nil}
use Rattle.cfi_read_core.specs.ReadFunctions.{Readings}
use Rattle.cfi_read_core.specs.declared.error.Error.{Error}
use Rattle.cfi_read_core.specs.declared.error.Error.TheVariants.{OutOfMemory}
use Rattle.cfi_read_core.specs.declared.instruction.CallFrameInstruction.{CallFrameInstruction}
use Rattle.cfi_state.specs.MachineSettings.{Setting}
use Rattle.cfi_state.specs.Program.{in_cie, refusal, refusal_at_end}
use Rattle.cfi_state.specs.FdeAnswers.{first_refusal, cie_refusal, program_state}
use Rattle.cfi_state.specs.Cases.{or_refused}
use Rattle.cfi_state.specs.Allocation.{MayAllocate}
use Rattle.cfi_state.specs.AcceptedInstructions.{IsLeftOut, AcceptsInitialInstructions, cie_keeps, cie_leaves_out, cie_finds_unreadable, cie_is_kept, cie_end_left_out}

due_left_out : (w : Bool) (due : Option Error) (e : Error) → (e ≡ OutOfMemory → ⊥) → IsLeftOut w due e → due ≡ Some e
due_left_out w due e other (inl is) = is
due_left_out w due e other (inr wanting) = absurd (other wanting.2)

module _ {T : Type 0} (allocates : MayAllocate T) (s : Setting) where
  -- why the CIE's initial instructions are refused after some of its instructions
  abbrev refusal_behind : List (CallFrameInstruction T) → Readings (CallFrameInstruction T) → Option Error
  refusal_behind cie reads = option_or (first_refusal s (in_cie cie) reads.values) (option_or reads.refusal (refusal_at_end s (cie ++ reads.values)))

  kept_behind : (cie : List (CallFrameInstruction T)) (reads : Readings (CallFrameInstruction T)) (result : Result (List (CallFrameInstruction T)) Error) → AcceptsInitialInstructions allocates s cie reads result → (result ≡ Err OutOfMemory → ⊥) → or_refused (refusal_behind cie reads) (cie ++ reads.values) ≡ result
  kept_behind cie reads result (cie_keeps cie' i rest result' accepted keeps_rest) other =
      ap (λ o. or_refused (option_or (option_or o (first_refusal s (in_cie (cie' ++ i ∷ [])) rest.values)) (option_or rest.refusal (refusal_at_end s (cie' ++ i ∷ rest.values)))) (cie' ++ i ∷ rest.values)) accepted
      ∙ ap (λ l. or_refused (option_or (first_refusal s (in_cie (cie' ++ i ∷ [])) rest.values) (option_or rest.refusal (refusal_at_end s l))) l) (sym (append_assoc cie' (i ∷ []) rest.values))
      ∙ kept_behind (cie' ++ i ∷ []) rest result' keeps_rest other
  kept_behind cie reads result (cie_leaves_out cie' i rest e out) other =
      ap (λ o. or_refused (option_or (option_or o (first_refusal s (in_cie (cie' ++ i ∷ [])) rest.values)) (option_or rest.refusal (refusal_at_end s (cie' ++ i ∷ rest.values)))) (cie' ++ i ∷ rest.values))
      (due_left_out (allocates.at (program_state s (in_cie cie')) i) (refusal s (in_cie cie') i) e (λ is. other (ap (λ x. Err x) is)) out)
  kept_behind cie reads result (cie_finds_unreadable cie' e) other = refl
  kept_behind cie reads result (cie_is_kept cie' accepted) other = ap (λ l. or_refused (refusal_at_end s l) l) (append-nil cie') ∙ ap (λ o. or_refused o cie') accepted
  kept_behind cie reads result (cie_end_left_out cie' e out) other =
      ap (λ l. or_refused (refusal_at_end s l) l) (append-nil cie')
      ∙ ap (λ o. or_refused o cie') (due_left_out (allocates.at_end (program_state s (in_cie cie'))) (refusal_at_end s cie') e (λ is. other (ap (λ x. Err x) is)) out)

  pub kept_cie_is : (reads : Readings (CallFrameInstruction T)) (result : Result (List (CallFrameInstruction T)) Error) → AcceptsInitialInstructions allocates s [] reads result → (result ≡ Err OutOfMemory → ⊥) → or_refused (cie_refusal s reads) reads.values ≡ result
  kept_cie_is reads = kept_behind [] reads
