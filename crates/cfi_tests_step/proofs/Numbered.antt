-- Modules of which those with one number of a file have the same call frames.
use Rattle.std.proofs.Common.{[], ◌∷◌, refl}
use Rattle.std.specs.List.{All}
use Rattle.std.proofs.lemmas.List.Elements.{All-cons, All-nil}
use Rattle.cfi_step.specs.declared.module.LoadedModule.{LoadedModule}
use Rattle.cfi_step.specs.CachedRows.{AreAlike, AreAllAlike, AreNumbered}

module _ {R : Type 0} where
  alike_itself : (m : LoadedModule R) → AreAlike m m
  alike_itself m same = (refl, refl, refl)

  pub numbered_one : (m : LoadedModule R) → AreNumbered (m ∷ [])
  numbered_one m =
      All-cons (AreAllAlike (m ∷ [])) m [] (All-cons (λ n. AreAlike n m) m [] (alike_itself m) (All-nil (λ n. AreAlike n m)))
      (All-nil (AreAllAlike (m ∷ [])))
