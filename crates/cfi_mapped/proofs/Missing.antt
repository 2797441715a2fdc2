-- Files of a build that weren't found, and what is said of them.
use Rattle.std.proofs.Common.{◌≡◌, ◌∙◌, Bool, true, false, ◌&&◌, List, ◌++◌, ◌∷◌, ℕ, Option, Some, None, IfOk, Result, Ok, Err, [], refl, sym, ap, true≢false}
use Rattle.std.proofs.lemmas.List.Elements.{All-push}
use Rattle.std.specs.List.{All}
use Rattle.std.specs.Option.{is_none, is_some}
use Rattle.cfi_mapped.specs.declared.code_parts.CodeParts.{CodeParts}
use Rattle.cfi_mapped.specs.declared.opened_file.OpenedFile.{OpenedFile}
use Rattle.cfi_mapped.specs.FileReads.{names_a_file}
use Rattle.cfi_mapped.specs.Notices.{AreMissingSaid, Notice, is_missing, missing}

all_three : (a b c : Bool) → (a && (b && c)) ≡ true → (a ≡ true) × (b ≡ true) × (c ≡ true)
all_three true true c is = (refl, refl, is)
all_three true false c is = absurd (true≢false (sym is))
all_three false b c is = absurd (true≢false (sym is))

none_there : (code : Option CodeParts) → is_none code ≡ true → code ≡ None
none_there None is = refl
none_there (Some code) is = absurd (true≢false (sym is))

module _ {A : Type 0} (name : List ℕ) (build : Option A) (Said : Type 0) where
  -- of a name that is no file's
  pub no_file : {E : Type 0} → names_a_file name ≡ false → (r : Result (Option CodeParts) E) → IfOk r (λ code. is_missing name build code ≡ true → Said)
  no_file names (Ok code) = λ is.
      let (named, known, none) = all_three (names_a_file name) (is_some build) (is_none code) is in
      absurd (true≢false (sym named ∙ names))
  no_file names (Err e) = tt

  pub no_build : {E : Type 0} → build ≡ None → (r : Result (Option CodeParts) E) → IfOk r (λ code. is_missing name build code ≡ true → Said)
  no_build gone (Ok code) = λ is.
      let (named, known, none) = all_three (names_a_file name) (is_some build) (is_none code) is in
      absurd (true≢false (sym known ∙ ap (λ (b : Option A). is_some b) gone))
  no_build gone (Err e) = tt

  pub of_build : {E : Type 0} (r : Result (Option CodeParts) E) → IfOk r (λ code. code ≡ None → Said) → IfOk r (λ code. is_missing name build code ≡ true → Said)
  of_build (Ok code) said = λ is.
      let (named, known, none) = all_three (names_a_file name) (is_some build) (is_none code) is in
      said (none_there code none)
  of_build (Err e) said = tt

pub missing_pushed : (Said : Notice → Type 0) (opened : List OpenedFile) (one : OpenedFile) → AreMissingSaid Said opened → (is_missing one.name.now one.build_id one.code ≡ true → Said (missing one.name.now)) → AreMissingSaid Said (opened ++ one ∷ [])
missing_pushed Said opened one are is = All-push (λ (one : OpenedFile). is_missing one.name.now one.build_id one.code ≡ true → Said (missing one.name.now)) opened one are is
