-- What is said of a text that was put together and written.
use Rattle.std.proofs.Common.{◌≡◌, ◌∙◌, ℕ, Bool, true, false, List, [], ◌++◌, Option, Result, Ok, Err, OnOk, ap, refl, subst, sym}
use Rattle.std.specs.Io.KnownBytes.{Appends}
use Rattle.cfi_text.specs.declared.style.Format.{Format}
use Rattle.cfi_text.specs.declared.style.Format.TheVariants as formats
use Rattle.cfi_text.specs.declared.text.Text.{Text}
use Rattle.cfi_text.specs.Texts.{IsWhole, Puts, contents}
use Rattle.cfi_text.specs.WriterOutput.{IsBeginning, Writes}
use Rattle.cfi_text.proofs.WrittenLemmas.{none_yet}
use Rattle.cfi_frames.specs.Outputs.{IsSaidIn}

-- nothing was written of it
pub none_written : (format : Format) (old : Option (List ℕ)) (object : List ℕ) → (text : List ℕ) × ((begun : List ℕ) × Appends old old begun × IsBeginning begun text) × IsSaidIn format (text ≡ object)
none_written formats.Text old object = (object, ([], none_yet old, (object, refl)), tt)
none_written formats.Json old object = (object, ([], none_yet old, (object, refl)), refl)

module _ (old new : Option (List ℕ)) (empty put : Text) (object : List ℕ) (none : contents empty ≡ []) where
  is_object : Puts object empty put → IsWhole put → contents put ≡ object
  is_object puts whole = puts.adds whole ∙ ap (λ (front : List ℕ). front ++ object) none

  said_of_whole : (format : Format) → IsSaidIn format (Puts object empty put) → IsWhole put → IsSaidIn format (contents put ≡ object)
  said_of_whole formats.Text said whole = tt
  said_of_whole formats.Json puts whole = is_object puts whole

  -- nothing is written of a text that is short
  begun_of : (format : Format) (short : Bool) → put.is_short ≡ short → IsSaidIn format (Puts object empty put) → (put.is_short ≡ true → new ≡ old) → ((begun : List ℕ) × Appends old new begun × IsBeginning begun (contents put))
      → (text : List ℕ) × ((begun : List ℕ) × Appends old new begun × IsBeginning begun text) × IsSaidIn format (text ≡ object)
  begun_of formats.Text short is said same begun = (contents put, begun, tt)
  begun_of formats.Json true is puts same begun = (object, ([], subst (λ (o : Option (List ℕ)). Appends old o []) (sym (same is)) (none_yet old), (object, refl)), refl)
  begun_of formats.Json false is puts same begun = (contents put, begun, is_object puts is)

  pub text_written : {T E : Type 0} (format : Format) (r : Result T E) → IsSaidIn format (Puts object empty put) → OnOk r (IsWhole put) → (put.is_short ≡ true → new ≡ old) → Writes old new r (contents put)
      → (text : List ℕ) × Writes old new r text × IsSaidIn format (text ≡ object)
  text_written format (Ok done) said whole same written = (contents put, written, said_of_whole format said whole)
  text_written format (Err e) said whole same written = begun_of format put.is_short refl said same written
