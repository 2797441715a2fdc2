-- Lines with an error, part by part.
use Rattle.std.proofs.Common.{ℕ, List, Option, Result, [], ◌∷◌, ◌++◌, append_assoc, ap, codes, subst, sym}
use Rattle.cfi_text.specs.Refusals.{error_end, error_object}
use Rattle.cfi_text.specs.WriterOutput.{Writes}
use Rattle.cfi_text.specs.declared.style.Format.TheVariants.{Json}

module _ {T E : Type 0} (old new : Option (List ℕ)) (r : Result T E) where
  abbrev IsWritten : List ℕ → Type 0
  IsWritten text = Writes old new r text

  -- an object of JSON with its line feed
  pub object_written : (words : List ℕ) → IsWritten (codes "{\"error\":\"" ++ (words ++ (codes "\"}" ++ 10 ∷ []))) → IsWritten (error_object words ++ 10 ∷ [])
  object_written words h = subst IsWritten (ap (λ (xs : List ℕ). codes "{\"error\":\"" ++ xs) (sym (append_assoc words (codes "\"}") (10 ∷ [])))) h

  pub behind_written : (before words : List ℕ) → IsWritten (codes "\"error\":\"" ++ (words ++ (codes "\"}" ++ 10 ∷ []))) → IsWritten (error_end Json before words ++ 10 ∷ [])
  behind_written before words h = subst IsWritten (ap (λ (xs : List ℕ). codes "\"error\":\"" ++ xs) (sym (append_assoc words (codes "\"}") (10 ∷ [])))) h
