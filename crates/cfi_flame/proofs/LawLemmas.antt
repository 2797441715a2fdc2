-- The law of a flame graph: it holds of the boxes of all stacks, in the order in which they are sorted.
use Rattle.std.proofs.Common.{◌≡◌, Result, Ok, Err, IfOk, ◌∙◌, ℕ, suc, ◌+◌, false, cond, List, [], ◌∷◌, None, get_or, map, refl, sym, ap, subst, arith}
use Rattle.std.proofs.lemmas.Cmp.{nat_list_cmp_total}
use Rattle.std.proofs.lemmas.List.Elements.{All-filter, All-weaker}
use Rattle.std.proofs.lemmas.List.Sorted.{IsPermutation-map, sum_by-IsPermutation}
use Rattle.std.specs.Cmp.Lexicographic.{slice_cmp}
use Rattle.std.specs.List.Sorted.{IsPermutation, IsSortedByKey}
use Rattle.std.specs.Ordering.{is_gt, is_lt, nat_cmp, ordering_reverse}
use Rattle.std.specs.declared.cmp.Ordering.{Ordering}
use Rattle.std.specs.declared.cmp.Ordering.TheVariants.{Less, Equal, Greater}
use Rattle.cfi_flame.specs.declared.folded.Stack.{Stack as StackOfCode}
use Rattle.cfi_flame.specs.Boxes.{Box, is_front, boxes_of, is_wide}
use Rattle.cfi_flame.specs.FoldedStacks.{total_of}
use Rattle.cfi_flame.specs.FoldedStacks.{Stack, stack_view}
use Rattle.cfi_flame.specs.Flames.{IsLawful, IsPictureOf, IsPictureOfSorted, drawn_boxes}
use Rattle.cfi_flame.specs.Pictures.{AreInByteOrder, AreShares, RisesFrom, Upto, samples_under}
use Rattle.cfi_flame.proofs.PictureLemmas.{picture_of, picture_of_wide}
use Rattle.cfi_flame.proofs.SharesLemmas.{shares_of}

-- ---- sorted stacks are in order

abbrev AreRising : List StackOfCode → Type 0
AreRising = IsSortedByKey (λ stack. stack.frames.now) (slice_cmp nat_cmp)

turned_back : (o : Ordering) → is_lt (ordering_reverse o) ≡ false → is_gt o ≡ false
turned_back Less h = refl
turned_back Equal h = refl
turned_back Greater h = h

upto_next : (x y : List ℕ) → is_lt (slice_cmp nat_cmp y x) ≡ false → Upto x y
upto_next x y h = turned_back (slice_cmp nat_cmp x y) (ap is_lt (sym (nat_list_cmp_total.antisymm y x)) ∙ h)

rest_rises : (s : StackOfCode) (rest : List StackOfCode) → AreRising (s ∷ rest) → AreRising rest
rest_rises s rest h = λ k d low high.
    let P : ℕ → Type 0 = λ n. is_lt (slice_cmp nat_cmp (get_or (s ∷ rest) n d).frames.now (get_or (s ∷ rest) (suc k) d).frames.now) ≡ false in
    let next : suc k + 1 ≡ suc (k + 1) = omega arith in
    subst P next (h (suc k) d (omega arith) (omega arith))

rises : (s : StackOfCode) (rest : List StackOfCode) → AreRising (s ∷ rest) → RisesFrom s.frames.now (map stack_view rest)
rises s [] h = tt
rises s (t ∷ rest) h = (upto_next s.frames.now t.frames.now (h 0 s (omega arith) (omega arith)), rises t rest (rest_rises s (t ∷ rest) h))

in_order : (stacks : List StackOfCode) → AreRising stacks → AreInByteOrder (map stack_view stacks)
in_order [] h = tt
in_order (s ∷ rest) h = rises s rest h

-- ---- and have what the others had

lawful_sorted : (least total : ℕ) (stacks sorted : List Stack) (boxes : List Box) → IsPermutation stacks sorted → AreInByteOrder sorted → IsPictureOfSorted least sorted total boxes → IsLawful stacks boxes
lawful_sorted least total stacks sorted boxes same order is =
    let shares : AreShares sorted (boxes_of sorted) = shares_of None 0 sorted order in
    let samples : (front : List ℕ) → samples_under front sorted ≡ samples_under front stacks = λ front. sum_by-IsPermutation (λ (stack : Stack). cond (is_front front stack.frames) stack.count 0) stacks sorted same in
    subst (IsLawful stacks) (sym is.3) (
      All-weaker (λ box. box.width ≡ samples_under box.functions sorted) (λ box. box.width ≡ samples_under box.functions stacks) (λ box h. h ∙ samples box.functions) (drawn_boxes least sorted)
          (All-filter (λ box. is_wide least (total_of sorted) box.width) (λ box. box.width ≡ samples_under box.functions sorted) (boxes_of sorted) shares),
      picture_of_wide least (total_of sorted) (boxes_of sorted) (picture_of sorted),
    )

pub lawful_stacks : (least total : ℕ) (stacks : List Stack) (boxes : List Box) → IsPictureOf least stacks total boxes → IsLawful stacks boxes
lawful_stacks least total stacks boxes (sorted, are, is) =
    lawful_sorted least total stacks sorted boxes
    (subst (λ (all : List Stack). IsPermutation stacks all) are.view (subst (λ (all : List Stack). IsPermutation all (map stack_view are.ordered)) are.are (IsPermutation-map stack_view are.read are.ordered are.same)))
    (subst AreInByteOrder are.view (in_order are.ordered are.by_frames)) is

pub lawful_if : {V E : Type 0} (total : V → ℕ) (boxes : V → List Box) (r : Result V E) (least : ℕ) (stacks : List Stack) → IfOk r (λ picture. IsPictureOf least stacks (total picture) (boxes picture)) → IfOk r (λ picture. IsLawful stacks (boxes picture))
lawful_if total boxes (Ok picture) least stacks h = lawful_stacks least (total picture) stacks (boxes picture) h
lawful_if total boxes (Err e) least stacks h = tt
