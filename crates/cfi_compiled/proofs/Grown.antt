-- Numbers of results go on to mean the same when results are added.
use Rattle.std.proofs.Common.{◌≡◌, ℕ, suc, ◌+◌, ◌<◌, ◌≤◌, List, [], ◌∷◌, ◌++◌, map, length, Result, Err, refl, sym, ap, subst, ◌∙◌, arith}
use Rattle.std.specs.Prelude.{Ok, OnOk}
use Rattle.std.proofs.lemmas.List.{append-nil, length-append, map_push, get_or-map, get_or_append_left}
use Rattle.std.proofs.Math.ListN.{length-map}
use Rattle.std.proofs.lemmas.List.Elements.{All-push}
use Rattle.cfi_read_core.specs.declared.error.Error.{Error}
use Rattle.cfi_read_core.specs.declared.error.Error.TheVariants.{NoUnwindInfoForAddress}
use Rattle.cfi_compiled.specs.declared.step_list.NumberedStep.{NumberedStep}
use Rattle.cfi_compiled.specs.FrameParts.{FrameParts}
use Rattle.cfi_compiled.specs.CompiledTables.{AreNumbersOf, EndsWith, frame_numbered, step_named}
use Rattle.cfi_compiled.specs.Steps.{Step, Rise, free_from, frame_by_steps}
use Rattle.cfi_compiled.proofs.StepFunctions.{below_more, from_more, rise_more, free_more, last_decides}

abbrev pub Results : Type 0
Results = List (Result FrameParts Error)

-- results are added at the end, where any are
abbrev pub Extends : Results → Results → Type 0
Extends old new = (more : Results) × (new ≡ old ++ more)

pub if_ok : {A E : Type 0} {P : Type 0} → (result : Result A E) → P → OnOk result P
if_ok (Ok x) p = p
if_ok (Err e) p = tt

-- the results as they are
pub unchanged : (results : Results) → Extends results results
unchanged results = ([], sym (append-nil results))

module _ (old new : Results) (extends : Extends old new) where
  pub same_number : (n : ℕ) → n < length old → frame_numbered new n ≡ frame_numbered old n
  same_number n within =
      ap (λ (l : Results). frame_numbered l n) extends.1
      ∙ get_or_append_left old extends.0 (Err NoUnwindInfoForAddress) n within

  pub numbers_remain : (numbers : List NumberedStep) → AreNumbersOf old numbers → AreNumbersOf new numbers
  numbers_remain numbers all i d within =
      let more = ap (λ (l : Results). length l) extends.1 in
      let long = length-append old extends.0 in
      omega (arith, all i d within, long, more)

  pub steps_remain : (numbers : List NumberedStep) → AreNumbersOf old numbers → map (step_named new) numbers ≡ map (step_named old) numbers
  steps_remain [] all = refl
  steps_remain (step ∷ numbers) all =
      ap (λ p. record { start = step.start; frame = p } ∷ map (step_named new) numbers) (same_number step.number (all 0 step (omega arith)))
      ∙ ap (λ (l : List Step). step_named old step ∷ l) (steps_remain numbers (λ i d within. all (suc i) d (omega (arith, within))))

  module _ (numbers : List NumberedStep) (rise : Rise 0 (map (step_named old) numbers)) (all : AreNumbersOf old numbers) where
    -- no step more
    pub rise_kept : Rise 0 (map (step_named new) numbers) × AreNumbersOf new numbers
    rise_kept = (subst (λ (l : List Step). Rise 0 l) (sym (steps_remain numbers all)) rise, numbers_remain numbers all)

    -- a step more
    module _ (step : NumberedStep) (free : free_from 0 (map (step_named old) numbers) ≤ step.start) where
      pushed : map (step_named new) (numbers ++ step ∷ []) ≡ map (step_named old) numbers ++ step_named new step ∷ []
      pushed = map_push (step_named new) numbers step ∙ ap (λ (l : List Step). l ++ step_named new step ∷ []) (steps_remain numbers all)

      pub rise_pushed : step.number < length new → Rise 0 (map (step_named new) (numbers ++ step ∷ [])) × AreNumbersOf new (numbers ++ step ∷ [])
      rise_pushed within = (
        subst (λ (l : List Step). Rise 0 l) (sym pushed) (rise_more (map (step_named old) numbers) 0 (step_named new step) free rise),
        All-push (λ (s : NumberedStep). s.number < length new) numbers step (numbers_remain numbers all) within,
      )

      pub before_pushed : (a : ℕ) → a < step.start → frame_by_steps (map (step_named new) (numbers ++ step ∷ [])) a ≡ frame_by_steps (map (step_named old) numbers) a
      before_pushed a below =
          ap (λ (l : List Step). frame_by_steps l a) pushed
          ∙ below_more (map (step_named old) numbers) 0 (Err NoUnwindInfoForAddress) (step_named new step) a free rise below

      pub from_pushed : (a : ℕ) → step.start ≤ a → frame_by_steps (map (step_named new) (numbers ++ step ∷ [])) a ≡ frame_numbered new step.number
      from_pushed a from =
          ap (λ (l : List Step). frame_by_steps l a) pushed
          ∙ from_more (map (step_named old) numbers) 0 (Err NoUnwindInfoForAddress) (step_named new step) a free rise from

      pub free_pushed : free_from 0 (map (step_named new) (numbers ++ step ∷ [])) ≡ step.start + 1
      free_pushed = ap (λ (l : List Step). free_from 0 l) pushed ∙ free_more (map (step_named old) numbers) 0 (step_named new step)

    -- where the last step has this number already
    pub repeated : (a number : ℕ) → EndsWith number numbers → free_from 0 (map (step_named old) numbers) ≤ a
        → frame_by_steps (map (step_named new) numbers) a ≡ frame_numbered new number
    repeated a number (d, k, last, there, is) free =
        let rise_new = rise_kept.0 in
        let free_new = subst (λ (l : List Step). free_from 0 l ≤ a) (sym (steps_remain numbers all)) free in
        let long : k + 1 ≡ length (map (step_named new) numbers) = simp length-map last in
        last_decides (map (step_named new) numbers) (Err NoUnwindInfoForAddress) a k (step_named new d) rise_new long free_new
        ∙ ap (λ (s : Step). s.frame) (get_or-map (step_named new) numbers k d (step_named new d) (omega (arith, last)))
        ∙ ap (λ (s : NumberedStep). frame_numbered new s.number) there
        ∙ ap (frame_numbered new) is

    pub same_before : (a : ℕ) → frame_by_steps (map (step_named new) numbers) a ≡ frame_by_steps (map (step_named old) numbers) a
    same_before a = ap (λ (l : List Step). frame_by_steps l a) (steps_remain numbers all)

    pub same_free : free_from 0 (map (step_named new) numbers) ≡ free_from 0 (map (step_named old) numbers)
    same_free = ap (λ (l : List Step). free_from 0 l) (steps_remain numbers all)
