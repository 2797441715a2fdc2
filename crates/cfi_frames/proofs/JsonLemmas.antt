-- The objects of frames in a text, one behind the other.
use Rattle.std.proofs.Common.{◌≡◌, ◌∙◌, ℕ, ◌+◌, ◌<◌, ◌≤◌, Bool, true, false, List, [], ◌∷◌, ◌++◌, codes, length, get_or, drop, map, refl, ap, subst, add-one}
use Rattle.std.proofs.Math.Seq.{drop-cons}
use Rattle.std.proofs.lemmas.List.{drop_all}
use Rattle.cfi_text.specs.Texts.{Puts}
use Rattle.cfi_text.specs.declared.text.Text.{Text}
use Rattle.cfi_text.specs.JsonTexts.{separated}
use Rattle.cfi_text.proofs.TextLemmas.{IsPut, put_all, put_more}
use Rattle.cfi_processes.specs.declared.frames.Frame.{Frame}
use Rattle.cfi_processes.specs.Frames.{frame_view}
use Rattle.cfi_frames.specs.declared.frame_style.FrameStyle.{FrameStyle}
use Rattle.cfi_frames.specs.FrameJson.{comma_before, frame_json, frames_json, led_frames}

one_object : (is_first : Bool) (object more : List ℕ) → separated is_first ((codes "," ++ object) ++ more) ≡ (comma_before is_first ++ object) ++ separated false more
one_object true object more = refl
one_object false object more = refl

no_object : (is_first : Bool) → separated is_first [] ≡ []
no_object true = refl
no_object false = refl

module _ (style : FrameStyle) (frames : List Frame) where
  -- those from the frame with this index on
  abbrev objects_from : Bool → ℕ → List ℕ
  objects_from is_first i = separated is_first (led_frames style (map frame_view (drop i frames)))

  abbrev pub ArePut : Text → Text → Bool → ℕ → Type 0
  ArePut x y is_first i = IsPut x y (objects_from is_first i) (frames_json style (map frame_view frames))

  abbrev object_at : Bool → ℕ → Frame → List ℕ
  object_at is_first i d = comma_before is_first ++ frame_json style (frame_view (get_or frames i d))

  first_object : (is_first : Bool) (i : ℕ) (d : Frame) → i < length frames → objects_from is_first i ≡ object_at is_first i d ++ objects_from false (i + 1)
  first_object is_first i d h =
      let first : drop i frames ≡ get_or frames i d ∷ drop (i + 1) frames = rw (drop-cons frames i d h, add-one) refl in
      ap (λ (l : List Frame). separated is_first (led_frames style (map frame_view l))) first ∙ one_object is_first (frame_json style (frame_view (get_or frames i d))) (led_frames style (map frame_view (drop (i + 1) frames)))

  pub object_put : (x y z : Text) (is_first : Bool) (i : ℕ) (frame : Frame) → i < length frames → frame ≡ get_or frames i frame → ArePut x y is_first i → Puts (comma_before is_first ++ frame_json style (frame_view frame)) y z
      → ArePut x z false (i + 1)
  object_put x y z is_first i frame h is are more =
      let all = frames_json style (map frame_view frames) in
      let next : IsPut x y (object_at is_first i frame ++ objects_from false (i + 1)) all = subst (λ (left : List ℕ). IsPut x y left all) (first_object is_first i frame h) are in
      let here : Puts (object_at is_first i frame) y z = subst (λ (f : Frame). Puts (comma_before is_first ++ frame_json style (frame_view f)) y z) is more in
      put_more x y z (object_at is_first i frame) (objects_from false (i + 1)) all next here

  pub objects_put : (x y : Text) (is_first : Bool) (i : ℕ) → length frames ≤ i → ArePut x y is_first i → Puts (frames_json style (map frame_view frames)) x y
  objects_put x y is_first i h are = put_all x y (objects_from is_first i) (frames_json style (map frame_view frames)) are (ap (λ (l : List Frame). separated is_first (led_frames style (map frame_view l))) (drop_all i frames h) ∙ no_object is_first)
