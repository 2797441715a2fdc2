-- The boxes of stacks, one stack after the other.
use Rattle.std.proofs.Common.{◌≡◌, ◌∙◌, ℕ, suc, ◌+◌, ◌<◌, ◌≤◌, List, [], ◌∷◌, ◌++◌, Bool, true, false, length, get_or, drop, drop-cons, length-drop, map, take, ◌-◌, ◌^◌, refl, sym, ap, append_assoc, append-nil, add-one, arith, cond}
use Rattle.std.proofs.lemmas.List.{drop_all, drop-map, get_or-map, length-map}
use Rattle.std.proofs.Math.Seq.{take-length}
use Rattle.cfi_flame.specs.declared.boxes.FlameBox.{FlameBox}
use Rattle.cfi_flame.specs.declared.folded.Stack.{Stack as StackOfCode}
use Rattle.cfi_flame.specs.FoldedStacks.{Stack, stack_view}
use Rattle.cfi_flame.specs.Boxes.{Box, box_view, is_wide, wide_boxes}
use Rattle.cfi_flame.specs.FoldedStacks.{total_of}

pub next_stack : (stacks : List StackOfCode) (k : ℕ) (d : StackOfCode) → k < length stacks → drop k (map stack_view stacks) ≡ stack_view (get_or stacks k d) ∷ drop (k + 1) (map stack_view stacks)
next_stack stacks k d h =
    let short : k < length (map stack_view stacks) = rw length-map h in
    rw (add-one) (drop-cons (map stack_view stacks) k (stack_view d) short ∙ ap (λ (s : Stack). s ∷ drop (suc k) (map stack_view stacks)) (get_or-map stack_view stacks k d (stack_view d) h))

-- one more was counted
pub total_step : (left : List Stack) (s : Stack) (rest : List Stack) (n m total : ℕ) → left ≡ s ∷ rest → n + total_of left ≡ total → m ≡ n + s.count → m + total_of rest ≡ total
total_step left s rest n m total is h e =
    let f : total_of left ≡ s.count + total_of rest = ap total_of is in
    omega arith

-- those from one on
pub all_left : {A : Type 0} (xs : List A) (k : ℕ) → take (length xs - k) (drop k xs) ≡ drop k xs
all_left xs k = rw (← length-drop k xs) (take-length (drop k xs))

pub length_left : {A : Type 0} (xs : List A) (k : ℕ) → length (take (length xs - k) (drop k xs)) ≡ length xs - k
length_left xs k = ap length (all_left xs k) ∙ length-drop k xs

pub stacks_left : (stacks : List StackOfCode) (k : ℕ) → map stack_view (take (length stacks - k) (drop k stacks)) ≡ drop k (map stack_view stacks)
stacks_left stacks k = ap (map stack_view) (all_left stacks k) ∙ sym (drop-map stack_view k stacks)

pub count_le : (left : List Stack) (s : Stack) (rest : List Stack) (n total : ℕ) → left ≡ s ∷ rest → n + total_of left ≡ total → n + s.count ≤ total
count_le left s rest n total is h =
    let f : total_of left ≡ s.count + total_of rest = ap total_of is in
    omega arith

pub count_fits : (left : List Stack) (s : Stack) (rest : List Stack) (n total : ℕ) → left ≡ s ∷ rest → n + total_of left ≡ total → total < 2 ^ 64 → n + s.count < 2 ^ 64
count_fits left s rest n total is h small = omega (arith, count_le left s rest n total is h)

pub total_end : (stacks : List StackOfCode) (k n total : ℕ) → length stacks ≤ k → n + total_of (drop k (map stack_view stacks)) ≡ total → n ≡ total
total_end stacks k n total ended h =
    let none : drop k (map stack_view stacks) ≡ [] = drop_all k (map stack_view stacks) (rw length-map ended) in
    let f : total_of (drop k (map stack_view stacks)) ≡ 0 = ap total_of none in
    omega arith

-- one more box is wide or not
pub wide_step : (kept new all : List Box) (least total : ℕ) (left : List Box) (b : Box) (rest : List Box) → left ≡ b ∷ rest → kept ++ wide_boxes least total left ≡ all →
    new ≡ kept ++ wide_boxes least total (b ∷ []) → new ++ wide_boxes least total rest ≡ all
wide_step kept new all least total left b rest is h e = by (is_wide least total b.width) refl
  where
    by : (w : Bool) → is_wide least total b.width ≡ w → new ++ wide_boxes least total rest ≡ all
    by true w =
        let h2 : kept ++ (b ∷ wide_boxes least total rest) ≡ all = ap (λ (x : Bool). kept ++ cond x (b ∷ wide_boxes least total rest) (wide_boxes least total rest)) (sym w) ∙ ap (λ (l : List Box). kept ++ wide_boxes least total l) (sym is) ∙ h in
        let e2 : new ≡ kept ++ b ∷ [] = e ∙ ap (λ (x : Bool). kept ++ cond x (b ∷ []) []) w in
        ap (λ (x : List Box). x ++ wide_boxes least total rest) e2 ∙ append_assoc kept (b ∷ []) (wide_boxes least total rest) ∙ h2
    by false w =
        let h2 : kept ++ wide_boxes least total rest ≡ all = ap (λ (x : Bool). kept ++ cond x (b ∷ wide_boxes least total rest) (wide_boxes least total rest)) (sym w) ∙ ap (λ (l : List Box). kept ++ wide_boxes least total l) (sym is) ∙ h in
        let e2 : new ≡ kept = e ∙ ap (λ (x : Bool). kept ++ cond x (b ∷ []) []) w ∙ append-nil kept in
        ap (λ (x : List Box). x ++ wide_boxes least total rest) e2 ∙ h2

-- nothing is left
pub wide_end : (kept all : List Box) (least total : ℕ) (boxes : List FlameBox) (k : ℕ) → length boxes ≤ k → kept ++ wide_boxes least total (drop k (map box_view boxes)) ≡ all → kept ≡ all
wide_end kept all least total boxes k ended h =
    let none : drop k (map box_view boxes) ≡ [] = drop_all k (map box_view boxes) (rw length-map ended) in
    sym (append-nil kept) ∙ ap (λ (l : List Box). kept ++ wide_boxes least total l) (sym none) ∙ h

pub next_box : (boxes : List FlameBox) (k : ℕ) (d : FlameBox) → k < length boxes → drop k (map box_view boxes) ≡ box_view (get_or boxes k d) ∷ drop (k + 1) (map box_view boxes)
next_box boxes k d h =
    let short : k < length (map box_view boxes) = rw length-map h in
    rw (add-one) (drop-cons (map box_view boxes) k (box_view d) short ∙ ap (λ (b : Box). b ∷ drop (suc k) (map box_view boxes)) (get_or-map box_view boxes k d (box_view d) h))
