-- One page or one step more.
use Rattle.std.proofs.Common.{◌≡◌, ℕ, zero, suc, ◌+◌, ◌*◌, ◌/◌, ◌%◌, ◌^◌, ◌<◌, ◌≤◌, ◌⊎◌, inl, inr, List, [], ◌∷◌, ◌++◌, length, get_or, refl, sym, ap, ◌∙◌, ⊎_elim, arith}
use Rattle.std.proofs.lemmas.Bool.{cases_lt}
use Rattle.std.proofs.lemmas.List.{get_or_push}
use Rattle.std.proofs.lemmas.List.Elements.{All-push}
use Rattle.std.proofs.lemmas.Nat.{div-add-mod'}
use Rattle.cfi_compiled.specs.declared.step_list.NumberedStep.{NumberedStep}
use Rattle.cfi_compiled.specs.declared.paged_steps.PagedStep.{PagedStep}
use Rattle.cfi_compiled.specs.PagedSteps.{IsPaged, step_number, step_offset, pages_passed, paged_from, view_of}
use Rattle.cfi_compiled.proofs.PagedLists.{paged_push, paged_ends_more, passed_all}

in_front : (xs : List ℕ) (y n : ℕ) → n < length xs → get_or (xs ++ y ∷ []) n 0 ≡ get_or xs n 0
in_front [] y n inside = absurd (omega arith)
in_front (x ∷ xs) y zero inside = refl
in_front (x ∷ xs) y (suc n) inside = in_front xs y n (omega arith)

pub longer : {X : Type 0} → (xs : List X) (y : X) → length (xs ++ y ∷ []) ≡ suc (length xs)
longer [] y = refl
longer (x ∷ xs) y = ap suc (longer xs y)

module _ (first : ℕ) (ends : List ℕ) (steps : List PagedStep) (paged : IsPaged first ends steps) where
  end_at : (p : ℕ) → p < length (ends ++ length steps ∷ []) → ((p < length ends) × (get_or (ends ++ length steps ∷ []) p 0 ≡ get_or ends p 0)) ⊎ ((p ≡ length ends) × (get_or (ends ++ length steps ∷ []) p 0 ≡ length steps))
  end_at p inside =
      let long = longer ends (length steps) in
      ⊎_elim
      (λ (less : p < length ends). inl (less, in_front ends (length steps) p less))
      (λ (last : length ends ≤ p). let is : length ends ≡ p = omega (arith, long, inside, last) in inr (sym is, get_or_push ends (length steps) 0 p is))
      (cases_lt p (length ends))

  pub end_more : first + length ends + 1 < 2 ^ 55 → IsPaged first (ends ++ length steps ∷ []) steps
  end_more below = record {
    rising = λ p q order inside.
        let long = longer ends (length steps) in
        ⊎_elim
        (λ one. let before = end_at p (omega (arith, order, inside)) in
        ⊎_elim
        (λ two. let up = paged.rising p q order one.0 in omega (arith, up, one.1, two.1))
        (λ two. absurd (omega (arith, order, one.0, two.0)))
        before)
        (λ one. let before = end_at p (omega (arith, order, inside)) in
        ⊎_elim
        (λ two. let up = paged.within p two.0 in omega (arith, up, one.1, two.1))
        (λ two. omega (arith, one.1, two.1))
        before)
        (end_at q inside);
    within = λ p inside.
        ⊎_elim
        (λ one. let up = paged.within p one.0 in omega (arith, up, one.1))
        (λ one. omega (arith, one.1))
        (end_at p inside);
    offsets = paged.offsets;
    below = let long = longer ends (length steps) in omega (arith, long, below);
  }

  pub same_steps : paged_from 0 first (ends ++ length steps ∷ []) steps ≡ paged_from 0 first ends steps
  same_steps = paged_ends_more steps 0 first ends (length steps) (omega arith)

  module _ (start number : ℕ) (page : first + length ends ≡ start / 512) (last : PagedStep) (at : step_offset last ≡ start % 512) (named : step_number last ≡ number) where
    pub step_more : IsPaged first ends (steps ++ last ∷ [])
    step_more = record {
      rising = paged.rising;
      within = λ p inside. let long = longer steps last in let up = paged.within p inside in omega (arith, long, up);
      offsets = All-push (λ (s : PagedStep). step_offset s < 512) steps last paged.offsets (omega (arith, at));
      below = paged.below;
    }

    pub pushed : paged_from 0 first ends (steps ++ last ∷ []) ≡ paged_from 0 first ends steps ++ record { start = start; number = number } ∷ []
    pushed =
        let all : pages_passed ends (0 + length steps) ≡ length ends = passed_all ends (0 + length steps) (λ p inside. let up = paged.within p inside in omega (arith, up)) in
        let whole = div-add-mod' start 512 in
        let is : (first + pages_passed ends (0 + length steps)) * 512 + step_offset last ≡ start = omega (arith, all, page, whole, at) in
        paged_push steps 0 first ends last
        ∙ ap (λ n. paged_from 0 first ends steps ++ record { start = n; number = step_number last } ∷ []) is
        ∙ ap (λ n. paged_from 0 first ends steps ++ record { start = start; number = n } ∷ []) named

-- while pages are added to those there were
pub record IsPushing (lead first : ℕ) (ends : List ℕ) (steps : List PagedStep) (lead-now first-now : ℕ) (ends-now : List ℕ) (steps-now : List PagedStep) (pages : ℕ) : Type 0 where
  pub same_lead : lead-now ≡ lead
  pub same_first : first-now ≡ first
  pub same_steps : steps-now ≡ steps
  pub same : paged_from 0 first ends-now steps ≡ paged_from 0 first ends steps
  pub paged : IsPaged first ends-now steps
  pub few : length ends-now ≤ pages

pub all_pushed : (lead first : ℕ) (ends : List ℕ) (steps : List PagedStep) (lead-now first-now : ℕ) (ends-now : List ℕ) (steps-now : List PagedStep) (pages : ℕ)
    → IsPushing lead first ends steps lead-now first-now ends-now steps-now pages → pages ≤ length ends-now
    → (start number : ℕ) → first + pages ≡ start / 512 → (last : PagedStep) → step_offset last ≡ start % 512 → step_number last ≡ number → (items : List PagedStep) → items ≡ steps-now ++ last ∷ []
    → (view_of lead-now first-now ends-now items).steps ≡ (view_of lead first ends steps).steps ++ record { start = start; number = number } ∷ []
all_pushed lead first ends steps lead-now first-now ends-now steps-now pages p all start number page last there named items are =
    let at : first + length ends-now ≡ start / 512 = omega (arith, p.few, all, page) in
    ap (λ l. (view_of l first-now ends-now items).steps) p.same_lead
    ∙ ap (λ f. (view_of lead f ends-now items).steps) p.same_first
    ∙ ap (λ (i : List PagedStep). (view_of lead first ends-now i).steps) (are ∙ ap (λ (s : List PagedStep). s ++ last ∷ []) p.same_steps)
    ∙ ap (λ (l : List NumberedStep). record { start = 0; number = lead } ∷ l)
    (pushed first ends-now steps p.paged start number at last there named ∙ ap (λ (l : List NumberedStep). l ++ record { start = start; number = number } ∷ []) p.same)
