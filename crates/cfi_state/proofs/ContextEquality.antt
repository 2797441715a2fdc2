-- When contexts are equal, part by part.
use Rattle.std.proofs.Common.{◌≡◌, Bool, true, false, not, ◌&&◌, List, reverse, refl, sym, ap, ◌∙◌}
use Rattle.std.specs.Option.{option_eq}
use Rattle.std.specs.Cmp.Lexicographic.{pointwise}
use Rattle.cfi_state.specs.Row.{Row}
use Rattle.cfi_state.specs.UnwindContexts.{ContextState}
use Rattle.cfi_state.specs.Equality.{row_eq, rules_eq, context_eq}
use Rattle.cfi_state.proofs.Lists.{pointwise-reverse}

pub not_true : (b : Bool) → not b ≡ true → b ≡ false
not_true true is = cc
not_true false is = refl

pub not_false : (b : Bool) → not b ≡ false → b ≡ true
not_false true is = refl
not_false false is = cc

module _ {T : Type 0} (eq : T → T → Bool) (a b : ContextState T) (x y : Row T) (at_a : x ≡ a.row) (at_b : y ≡ b.row) where
  rows : row_eq eq a.row b.row ≡ row_eq eq x y
  rows = λ i. row_eq eq (sym at_a i) (sym at_b i)

  module _ (alike : row_eq eq x y ≡ true) (xs ys : List (Row T)) (of_a : reverse xs ≡ a.remembered) (of_b : reverse ys ≡ b.remembered) where
    by_remembered : context_eq eq a b ≡ (pointwise (row_eq eq) xs ys && option_eq (rules_eq eq) a.initial_rules b.initial_rules)
    by_remembered =
        ap (λ t. t && (pointwise (row_eq eq) a.remembered b.remembered && option_eq (rules_eq eq) a.initial_rules b.initial_rules)) (rows ∙ alike)
        ∙ ap (λ t. t && option_eq (rules_eq eq) a.initial_rules b.initial_rules)
        ((λ i. pointwise (row_eq eq) (sym of_a i) (sym of_b i)) ∙ pointwise-reverse (row_eq eq) xs ys)

    pub remembered_apart : pointwise (row_eq eq) xs ys ≡ false → false ≡ context_eq eq a b
    remembered_apart other = sym (by_remembered ∙ ap (λ t. t && option_eq (rules_eq eq) a.initial_rules b.initial_rules) other)

    pub by_initial_rules : pointwise (row_eq eq) xs ys ≡ true → option_eq (rules_eq eq) a.initial_rules b.initial_rules ≡ context_eq eq a b
    by_initial_rules same = sym (by_remembered ∙ ap (λ t. t && option_eq (rules_eq eq) a.initial_rules b.initial_rules) same)
