-- What the steps of a table give for an address, by the step that is found.
use Rattle.std.proofs.Common.{◌≡◌, ℕ, ◌+◌, ◌<◌, ◌≤◌, List, [], ◌∷◌, map, length, get_or, Result, Err, refl, sym, ap, subst, ◌∙◌, arith}
use Rattle.std.proofs.lemmas.List.{get_or-map}
use Rattle.std.proofs.Math.ListN.{length-map}
use Rattle.cfi_read_core.specs.declared.error.Error.{Error}
use Rattle.cfi_read_core.specs.declared.error.Error.TheVariants.{NoUnwindInfoForAddress}
use Rattle.cfi_compiled.specs.declared.step_list.NumberedStep.{NumberedStep}
use Rattle.cfi_compiled.specs.FrameParts.{FrameParts}
use Rattle.cfi_compiled.specs.CompiledTables.{frame_numbered, step_named}
use Rattle.cfi_compiled.specs.SearchedSteps.{StartsAscend}
use Rattle.cfi_compiled.specs.Steps.{Step, Rise, frame_by_steps}
use Rattle.cfi_compiled.proofs.StepFunctions.{answered_at, answered_before}

module _ (results : List (Result FrameParts Error)) (numbers : List NumberedStep) (a : ℕ) (rise : Rise 0 (map (step_named results) numbers)) (d : NumberedStep) where
  abbrev named : NumberedStep → Step
  named = step_named results

  there : (k : ℕ) → k < length numbers → get_or (map named numbers) k (named d) ≡ named (get_or numbers k d)
  there k within = get_or-map named numbers k d (named d) within

  pub found_at : (k : ℕ) → k < length numbers → (get_or numbers k d).start ≤ a → ((j : ℕ) → j ≡ k + 1 → j < length numbers → a < (get_or numbers j d).start)
      → frame_numbered results (get_or numbers k d).number ≡ frame_by_steps (map named numbers) a
  found_at k within from next =
      let inside : k < length (map named numbers) = simp length-map within in
      sym
      (answered_at (map named numbers) 0 (Err NoUnwindInfoForAddress) a k (named d) rise inside
      (subst (λ (s : Step). s.start ≤ a) (sym (there k within)) from)
      (λ j is more. let less : j < length numbers = simp length-map at more in subst (λ (s : Step). a < s.start) (sym (there j less)) (next j is less))
      ∙ ap (λ (s : Step). s.frame) (there k within))

pub found_before : (results : List (Result FrameParts Error)) (numbers : List NumberedStep) (a : ℕ) → ((d : NumberedStep) → 0 < length numbers → a < (get_or numbers 0 d).start)
    → Err NoUnwindInfoForAddress ≡ frame_by_steps (map (step_named results) numbers) a
found_before results [] a above = refl
found_before results (first ∷ numbers) a above = sym (answered_before (map (step_named results) (first ∷ numbers)) (Err NoUnwindInfoForAddress) a (λ d some. above first (omega arith)))

pub ascends : (results : List (Result FrameParts Error)) (numbers : List NumberedStep) (low : ℕ) → Rise low (map (step_named results) numbers) → StartsAscend low numbers
ascends results [] low rise = tt
ascends results (step ∷ numbers) low rise = (rise.0, ascends results numbers (step.start + 1) rise.1)
