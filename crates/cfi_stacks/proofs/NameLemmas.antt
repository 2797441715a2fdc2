-- The functions of a folded stack, from the outermost one in.
use Rattle.std.proofs.Common.{◌≡◌, ℕ, ◌+◌, ◌-◌, ◌<◌, ◌≤◌, List, ◌∷◌, length, get_or, drop, map, codes, add-one, refl, sym, subst, arith}
use Rattle.std.proofs.Math.Seq.{drop-cons}
use Rattle.std.proofs.lemmas.List.{drop_all}
use Rattle.cfi_processes.specs.declared.frames.Frame.{Frame}
use Rattle.cfi_processes.specs.Frames.{frame_view}
use Rattle.cfi_processes.specs.Sites.{site_view}
use Rattle.cfi_text.specs.Texts.{Puts}
use Rattle.cfi_text.specs.declared.text.Text.{Text}
use Rattle.cfi_text.proofs.TextLemmas.{both, nothing}
use Rattle.cfi_stacks.specs.FoldedTexts.{names_text, site_name}

module _ (frames : List Frame) where
  -- those of the frames from the one with this index on
  abbrev pub Named : ℕ → Text → Text → Type 0
  Named k x y = Puts (names_text (map frame_view (drop k frames))) x y

  pub none_named : (x : Text) → Named (length frames - 0) x x
  none_named x =
      let is : length frames - 0 ≡ length frames = omega arith in
      let none : Named (length frames) x x = subst (λ (l : List Frame). Puts (names_text (map frame_view l)) x x) (sym (drop_all (length frames) frames (omega arith))) (nothing x) in
      subst (λ (n : ℕ). Named n x x) (sym is) none

  pub one_named : (passed : ℕ) (d : Frame) (x y z w : Text) → passed < length frames → Named (length frames - passed) x y → Puts (codes ";") y z → Puts (site_name (site_view (get_or frames (length frames - 1 - passed) d).site)) z w
      → Named (length frames - (passed + 1)) x w
  one_named passed d x y z w inside so semicolon name =
      let left = length frames - 1 - passed in
      let before_is : length frames - passed ≡ left + 1 = omega (arith, inside) in
      let now_is : length frames - (passed + 1) ≡ left = omega (arith, inside) in
      let within : left < length frames = omega (arith, inside) in
      let first : drop left frames ≡ get_or frames left d ∷ drop (left + 1) frames = rw (drop-cons frames left d within, add-one) refl in
      let before : Named (left + 1) x y = subst (λ (n : ℕ). Named n x y) before_is so in
      let all : Puts (names_text (map frame_view (get_or frames left d ∷ drop (left + 1) frames))) x w = both x y w _ _ before (both y z w _ _ semicolon name) in
      let here : Named left x w = subst (λ (l : List Frame). Puts (names_text (map frame_view l)) x w) (sym first) all in
      subst (λ (n : ℕ). Named n x w) (sym now_is) here

  pub all_named : (passed : ℕ) (x y : Text) → length frames ≤ passed → Named (length frames - passed) x y → Puts (names_text (map frame_view frames)) x y
  all_named passed x y end so =
      let is : length frames - passed ≡ 0 = omega (arith, end) in
      subst (λ (n : ℕ). Named n x y) is so
