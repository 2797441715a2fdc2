-- The bytes of a file that was read whole, by its name.
use Rattle.std.proofs.Common.{◌≡◌, ◌∙◌, ◌&&◌, ℕ, Bool, true, false, List, [], ◌∷◌, Option, Some, cond, refl, sym, ap}
use Rattle.std.specs.List.{find}
use Rattle.std.specs.Option.{option_and_then}
use Rattle.std.specs.Str.{bytes_eq}
use Rattle.cfi_mapped.specs.declared.opened_file.OpenedFile.{OpenedFile}
use Rattle.cfi_mapped.specs.CodeParts.{beginning_in, is_whole}
use Rattle.cfi_mapped.specs.OpenedFiles.{AreOpenedAs, IsOpenedAs, Opened, are_whole}
use Rattle.cfi_mapped.proofs.CodeImages.{whole_first}
use Rattle.cfi_core_stacks.specs.CoreWindows.{bytes_named}

both : (a b : Bool) → (a && b) ≡ true → (a ≡ true) × (b ≡ true)
both true b is = (refl, is)
both false b is = absurd (cc)

abbrev pub firsts : Option OpenedFile → Option (List ℕ)
firsts found = option_and_then (λ (one : OpenedFile). beginning_in one.code) found

abbrev bytes_in : Option Opened → Option (List ℕ)
bytes_in found = option_and_then (λ (one : Opened). one.bytes) found

module _ (name : List ℕ) where
  here : (b : Bool) (one : OpenedFile) (known : Opened) (found : Option OpenedFile) (found_known : Option Opened) → IsOpenedAs one known → is_whole one.code ≡ true → firsts found ≡ bytes_in found_known
      → firsts (cond b (Some one) found) ≡ bytes_in (cond b (Some known) found_known)
  here true one known found found_known is whole others = whole_first one.code known.bytes is.bytes_are whole
  here false one known found found_known is whole others = others

  pub bytes_found : (opened : List OpenedFile) (all : List Opened) → AreOpenedAs opened all → are_whole opened ≡ true → firsts (find (λ (one : OpenedFile). bytes_eq one.name.now name) opened) ≡ bytes_named all name
  bytes_found [] all is whole = ap (λ (all : List Opened). bytes_named all name) (sym is)
  bytes_found (one ∷ opened) all (known, others, is, are, same) whole =
      let (first, rest) = both (is_whole one.code) (are_whole opened) whole in
      let found = here (bytes_eq one.name.now name) one known _ _ is first (bytes_found opened others are rest) in
      found
      ∙ (ap (λ (n : List ℕ). bytes_in (cond (bytes_eq n name) (Some known) (find (λ (one : Opened). bytes_eq one.name name) others))) (sym is.name_is)
      ∙ ap (λ (all : List Opened). bytes_named all name) (sym same))
