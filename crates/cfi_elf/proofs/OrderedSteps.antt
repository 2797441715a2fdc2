-- Steps in turn over what is left of a list.
use Rattle.std.proofs.Common.{◌≡◌, ◌∙◌, ◌+◌, ℕ, List, [], drop, Some, None, Result, Ok, Err, ap, sym, slice_get}
use Rattle.cfi_elf.specs.InOrder.{in_order}
use Rattle.cfi_elf.specs.Results.{and_then}
use Rattle.cfi_elf.proofs.EntrySteps.{next_left, none_is}

module _ {A S E : Type 0} (step : ℕ → A → S → Result S E) (xs : List A) (index : ℕ) (s : S) where
  abbrev left : Result S E
  left = in_order step index (drop index xs) s

  next_step : (x : A) → Some x ≡ slice_get xs index → left ≡ and_then (step index x s) (in_order step (index + 1) (drop (index + 1) xs))
  next_step x is = ap (λ (l : List A). in_order step index l s) (next_left xs index x is)

  pub step_taken : (x : A) (t : S) → Some x ≡ slice_get xs index → Ok t ≡ step index x s → left ≡ in_order step (index + 1) (drop (index + 1) xs) t
  step_taken x t is so = next_step x is ∙ ap (λ (r : Result S E). and_then r (in_order step (index + 1) (drop (index + 1) xs))) (sym so)

  pub step_failed : (x : A) (e : E) → Some x ≡ slice_get xs index → Err e ≡ step index x s → left ≡ Err e
  step_failed x e is so = next_step x is ∙ ap (λ (r : Result S E). and_then r (in_order step (index + 1) (drop (index + 1) xs))) (sym so)

  pub steps_done : None ≡ slice_get xs index → left ≡ Ok s
  steps_done is = ap (λ (l : List A). in_order step index l s) (none_is xs index is)

  pub steps_past : drop index xs ≡ [] → left ≡ Ok s
  steps_past none = ap (λ (l : List A). in_order step index l s) none
