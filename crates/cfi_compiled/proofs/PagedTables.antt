-- All steps in pages.
use Rattle.std.proofs.Common.{◌≡◌, ℕ, zero, suc, ◌+◌, ◌/◌, ◌<◌, ◌≤◌, List, [], ◌∷◌, ◌++◌, length, take, get_or, refl, sym, ap, ◌∙◌, arith}
use Rattle.std.proofs.lemmas.List.{take_all, take_more}
use Rattle.cfi_compiled.specs.declared.step_list.NumberedStep.{NumberedStep}
use Rattle.cfi_compiled.specs.PagedSteps.{PagedView}
use Rattle.cfi_compiled.specs.SearchedSteps.{StartsAscend}
use Rattle.cfi_compiled.proofs.PagedPushes.{longer}

at_least : (steps : List NumberedStep) (low : ℕ) → StartsAscend low steps → (j : ℕ) (d : NumberedStep) → j < length steps → low ≤ (get_or steps j d).start
at_least [] low ascend j d inside = absurd (omega arith)
at_least (first ∷ steps) low ascend zero d inside = ascend.0
at_least (first ∷ steps) low ascend (suc j) d inside = let rest = at_least steps (first.start + 1) ascend.1 j d (omega arith) in omega (arith, rest, ascend.0)

pub in_order : (steps : List NumberedStep) (low : ℕ) → StartsAscend low steps → (i j : ℕ) (d : NumberedStep) → i ≤ j → j < length steps → (get_or steps i d).start ≤ (get_or steps j d).start
in_order [] low ascend i j d order inside = absurd (omega arith)
in_order (first ∷ steps) low ascend zero zero d order inside = omega arith
in_order (first ∷ steps) low ascend zero (suc j) d order inside = let rest = at_least steps (first.start + 1) ascend.1 j d (omega arith) in omega (arith, rest)
in_order (first ∷ steps) low ascend (suc i) zero d order inside = absurd (omega arith)
in_order (first ∷ steps) low ascend (suc i) (suc j) d order inside = in_order steps (first.start + 1) ascend.1 i j d (omega arith) (omega arith)

pub pages_in_order : (steps : List NumberedStep) → StartsAscend 0 steps → (i j : ℕ) (d : NumberedStep) → i ≤ j → j < length steps → (get_or steps i d).start / 512 ≤ (get_or steps j d).start / 512
pages_in_order steps ascend i j d order inside = let up = in_order steps 0 ascend i j d order inside in omega (arith, up)

-- while steps are added
pub record IsPaging (steps : List NumberedStep) (index : ℕ) (view : PagedView) : Type 0 where
  pub so_far : view.steps ≡ take index steps
  pub page : (d : NumberedStep) → index < length steps → view.page ≤ (get_or steps index d).start / 512

pub any_default : (steps : List NumberedStep) (i : ℕ) (d e : NumberedStep) → i < length steps → get_or steps i d ≡ get_or steps i e
any_default [] i d e inside = absurd (omega arith)
any_default (step ∷ steps) zero d e inside = refl
any_default (step ∷ steps) (suc i) d e inside = any_default steps i d e (omega arith)

-- while steps are listed one by one
pub listed_more : (all listed : List NumberedStep) (step : NumberedStep) → listed ≡ take (length listed) all → length listed < length all → ((d : NumberedStep) → get_or all (length listed) d ≡ step)
    → listed ++ step ∷ [] ≡ take (length (listed ++ step ∷ [])) all
listed_more all listed step so_far inside at =
    let long = longer listed step in
    let many : length listed + 1 ≡ length (listed ++ step ∷ []) = omega (arith, long) in
    ap (λ (l : List NumberedStep). l ++ step ∷ []) so_far
    ∙ ap (λ s. take (length listed) all ++ s ∷ []) (sym (at step))
    ∙ sym (take_more all (length listed) step inside)
    ∙ ap (λ n. take n all) many

pub all_listed : (all listed : List NumberedStep) → listed ≡ take (length listed) all → length all ≤ length listed → listed ≡ all
all_listed all listed so_far most = so_far ∙ take_all (length listed) all most
