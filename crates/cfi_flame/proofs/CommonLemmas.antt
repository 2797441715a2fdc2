-- What stacks have in common: with how many names both begin, and so the boxes that open and how wide they are.
use Rattle.std.proofs.Common.{◌≡◌, ◌∙◌, ◌≤◌, ◌<◌, ℕ, suc, zero, ◌+◌, ◌==◌, ◌&&◌, Bool, true, false, true≢false, cond, List, [], ◌∷◌, ◌++◌, Option, Some, None, length, drop, drop-cons, get_or, map, take, ◌^◌, nat_lt, not, refl, add-one, append-nil, append_assoc, sym, ap, ap₂, arith}
use Rattle.std.proofs.lemmas.Bool.{eq-eqb, eqb-true, lt-ltb, le-ltb, ltb-false, ltb-true}
use Rattle.cfi_flame.specs.declared.folded.Stack.{Stack as StackOfCode}
use Rattle.cfi_flame.specs.Boxes.{Box, is_front, begins_first, box_of, box_width, boxes_from, boxes_of, depth_in, ends_name, names_in_common, names_shared, opened_box, openings, opens, shared_with, width_behind, width_by}
use Rattle.cfi_flame.specs.FoldedStacks.{Stack, stack_view, total_of}
use Rattle.cfi_flame.proofs.BeginLemmas.{begins_cons, begins_more, begins_next, begins_none, depth_more}

-- ---- fronts of one stack that are fronts of the other

turned_eq : (b c : ℕ) → (b == c) ≡ (c == b)
turned_eq b c = by (b == c) refl (c == b) refl
  where
    by : (x : Bool) → (b == c) ≡ x → (y : Bool) → (c == b) ≡ y → (b == c) ≡ (c == b)
    by true e y f = e ∙ sym (eq-eqb c b (sym (eqb-true b c e)))
    by false e true f = absurd (true≢false (sym (eq-eqb b c (sym (eqb-true c b f))) ∙ e))
    by false e false f = e ∙ sym f

pub common_turned : (xs ys : List ℕ) → names_in_common xs ys ≡ names_in_common ys xs
common_turned [] [] = refl
common_turned [] (c ∷ ys) = refl
common_turned (b ∷ xs) [] = refl
common_turned (b ∷ xs) (c ∷ ys) = by (b == c) refl (common_turned xs ys)
  where
    by : (x : Bool) → (b == c) ≡ x → names_in_common xs ys ≡ names_in_common ys xs → names_in_common (b ∷ xs) (c ∷ ys) ≡ names_in_common (c ∷ ys) (b ∷ xs)
    by true e more =
        let same : b ≡ c = eqb-true b c e in
        rw (e, sym (turned_eq b c) ∙ e) (ap₂ (λ (d n : ℕ). cond {A = ℕ} (d == 0) 1 0 + n) (sym same) more)
    by false e more = rw (e, sym (turned_eq b c) ∙ e) refl

one_or_none : (x : Bool) → x ≡ nat_lt 0 (cond x 1 0)
one_or_none true = refl
one_or_none false = refl

lt_more : (k n m : ℕ) → nat_lt (k + n) (k + m) ≡ nat_lt n m
lt_more k n m = by (nat_lt n m) refl
  where
    by : (b : Bool) → nat_lt n m ≡ b → nat_lt (k + n) (k + m) ≡ nat_lt n m
    by true e = let less : n < m = ltb-true n m e in lt-ltb (k + n) (k + m) (omega arith) ∙ sym e
    by false e = let most : m ≤ n = ltb-false n m e in le-ltb (k + n) (k + m) (omega arith) ∙ sym e

pub front_of_both : (front xs ys : List ℕ) → is_front front xs ≡ true → is_front front ys ≡ nat_lt (depth_in front) (names_in_common xs ys)
front_of_both [] [] ys h = one_or_none (ends_name ys)
front_of_both [] (b ∷ xs) [] h = rw h refl
front_of_both [] (b ∷ xs) (c ∷ ys) h = by (b == c) refl (c == 0) refl
  where
    by : (x : Bool) → (b == c) ≡ x → (y : Bool) → (c == 0) ≡ y → (c == 0) ≡ nat_lt 0 (cond (b == c) (cond (c == 0) 1 0 + names_in_common xs ys) 0)
    by true e y f =
        let zero_here : (c == 0) ≡ true = ap (λ (n : ℕ). n == 0) (sym (eqb-true b c e)) ∙ h in
        zero_here ∙ sym (rw (e, zero_here) (lt-ltb 0 (1 + names_in_common xs ys) (omega arith)))
    by false e true f =
        absurd (true≢false (sym (eq-eqb b c (eqb-true b 0 h ∙ sym (eqb-true c 0 f))) ∙ e))
    by false e false f = f ∙ sym (rw e refl)
front_of_both (d ∷ front) [] ys h = absurd (begins_none d front h)
front_of_both (d ∷ front) (b ∷ xs) [] h = by (b == 0) refl
  where
    next : (d ≡ b) × (is_front front xs ≡ true)
    next = begins_next d b front xs h

    by : (x : Bool) → (b == 0) ≡ x → false ≡ nat_lt (depth_in (d ∷ front)) (cond (b == 0) 1 0)
    by true e =
        let more : depth_in (d ∷ front) ≡ 1 + depth_in front = depth_more d front ∙ ap (λ (n : ℕ). cond {A = ℕ} (n == 0) 1 0 + depth_in front) next.0 ∙ ap (λ (x : Bool). cond {A = ℕ} x 1 0 + depth_in front) e in
        sym (ap (λ (x : Bool). nat_lt (depth_in (d ∷ front)) (cond x 1 0)) e ∙ le-ltb (depth_in (d ∷ front)) 1 (omega arith))
    by false e = sym (ap (λ (x : Bool). nat_lt (depth_in (d ∷ front)) (cond x 1 0)) e ∙ le-ltb (depth_in (d ∷ front)) 0 (omega arith))
front_of_both (d ∷ front) (b ∷ xs) (c ∷ ys) h = by (front_of_both front xs ys) (b == c) refl (b == 0) refl
  where
    next : (d ≡ b) × (is_front front xs ≡ true)
    next = begins_next d b front xs h

    first : (d == c) ≡ (b == c)
    first = ap (λ (n : ℕ). n == c) next.0

    more : depth_in (d ∷ front) ≡ cond {A = ℕ} (b == 0) 1 0 + depth_in front
    more = depth_more d front ∙ ap (λ (n : ℕ). cond {A = ℕ} (n == 0) 1 0 + depth_in front) next.0

    by : (is_front front xs ≡ true → is_front front ys ≡ nat_lt (depth_in front) (names_in_common xs ys)) → (x : Bool) → (b == c) ≡ x → (y : Bool) → (b == 0) ≡ y
        → is_front (d ∷ front) (c ∷ ys) ≡ nat_lt (depth_in (d ∷ front)) (cond (b == c) (cond (c == 0) 1 0 + names_in_common xs ys) 0)
    by rest x e y f =
        begins_more d c front ys ∙ ap₂ (λ (x y : Bool). x && y) first (rest next.1)
        ∙ sym (ap (λ (n : ℕ). nat_lt n (cond (b == c) (cond (c == 0) 1 0 + names_in_common xs ys) 0)) more ∙ step x e y f)
      where
        step : (x : Bool) → (b == c) ≡ x → (y : Bool) → (b == 0) ≡ y → nat_lt (cond {A = ℕ} (b == 0) 1 0 + depth_in front) (cond (b == c) (cond (c == 0) 1 0 + names_in_common xs ys) 0) ≡ ((b == c) && nat_lt (depth_in front) (names_in_common xs ys))
        step true e true f =
            let here : (c == 0) ≡ true = ap (λ (n : ℕ). n == 0) (sym (eqb-true b c e)) ∙ f in
            rw (e, f, here) (lt_more 1 (depth_in front) (names_in_common xs ys))
        step true e false f =
            let here : (c == 0) ≡ false = ap (λ (n : ℕ). n == 0) (sym (eqb-true b c e)) ∙ f in
            rw (e, f, here) (lt_more 0 (depth_in front) (names_in_common xs ys))
        step false e y f = rw e (le-ltb (cond {A = ℕ} (b == 0) 1 0 + depth_in front) 0 (omega arith))

-- ---- the boxes

-- a box opens where the stack before has no more names in common
pub opens_by : (before : Option (List ℕ)) (front frames : List ℕ) → is_front front frames ≡ true → opens before front ≡ not (nat_lt (depth_in front) (shared_with before frames))
opens_by None front frames h = ap not (sym (le-ltb (depth_in front) 0 (omega arith)))
opens_by (Some others) front frames h =
    ap not (front_of_both front frames others h ∙ ap (λ (n : ℕ). nat_lt (depth_in front) n) (common_turned frames others))

behind : (front frames : List ℕ) (stacks : List Stack) → is_front front frames ≡ true → width_behind (depth_in front) (names_shared (Some frames) stacks) stacks ≡ box_width front stacks
behind front frames [] h = refl
behind front frames (s ∷ rest) h = by (is_front front s.frames) refl (behind front s.frames rest)
  where
    same : nat_lt (depth_in front) (names_in_common frames s.frames) ≡ is_front front s.frames
    same = sym (front_of_both front frames s.frames h)

    by : (x : Bool) → is_front front s.frames ≡ x → (is_front front s.frames ≡ true → width_behind (depth_in front) (names_shared (Some s.frames) rest) rest ≡ box_width front rest)
        → width_behind (depth_in front) (names_shared (Some frames) (s ∷ rest)) (s ∷ rest) ≡ box_width front (s ∷ rest)
    by true e more = rw (same, e) (ap (λ (n : ℕ). s.count + n) (more e))
    by false e more = rw (same, e) refl

pub wide_as : (before : Option (List ℕ)) (front : List ℕ) (stacks : List Stack) → begins_first front stacks ≡ true → width_by (depth_in front) (names_shared before stacks) stacks ≡ box_width front stacks
wide_as before front [] h = absurd (true≢false (sym h))
wide_as before front (s ∷ rest) h = rw h (ap (λ (n : ℕ). s.count + n) (behind front s.frames rest h))

-- ---- one box, or none

first_shared : (before : Option (List ℕ)) (s : Stack) (rest : List Stack) (shared : List ℕ) → shared ≡ names_shared before (s ∷ rest) → get_or shared 0 0 ≡ shared_with before s.frames
first_shared before s rest shared is = ap (λ (ns : List ℕ). get_or ns 0 0) is

pub opened_none : (boxes : List Box) (left : ℕ) (front : List ℕ) (depth : ℕ) (stacks : List Stack) (shared : List ℕ) → begins_first front stacks ≡ true → depth ≡ depth_in front → depth < get_or shared 0 0
    → (before : Option (List ℕ)) → shared ≡ names_shared before stacks → boxes ≡ boxes ++ opened_box before left stacks front
opened_none boxes left front depth [] shared begun deep short before is = absurd (true≢false (sym begun))
opened_none boxes left front depth (s ∷ rest) shared begun deep short before is =
    let few : nat_lt (depth_in front) (shared_with before s.frames) ≡ true = ap₂ (λ (n m : ℕ). nat_lt n m) (sym deep) (sym (first_shared before s rest shared is)) ∙ lt-ltb depth (get_or shared 0 0) short in
    let closed : opens before front ≡ false = opens_by before front s.frames begun ∙ ap not few in
    sym (ap (λ (b : Bool). boxes ++ cond b (box_of left (s ∷ rest) front ∷ []) []) closed ∙ append-nil boxes)

pub opened_one : (boxes new : List Box) (left : ℕ) (front : List ℕ) (depth width : ℕ) (stacks : List Stack) (shared : List ℕ) → begins_first front stacks ≡ true → depth ≡ depth_in front → get_or shared 0 0 ≤ depth
    → width ≡ width_by depth shared stacks → new ≡ boxes ++ record { functions = front; depth = depth; left = left; width = width } ∷ []
    → (before : Option (List ℕ)) → shared ≡ names_shared before stacks → new ≡ boxes ++ opened_box before left stacks front
opened_one boxes new left front depth width [] shared begun deep short wide added before is = absurd (true≢false (sym begun))
opened_one boxes new left front depth width (s ∷ rest) shared begun deep short wide added before is =
    let few : nat_lt (depth_in front) (shared_with before s.frames) ≡ false = ap₂ (λ (n m : ℕ). nat_lt n m) (sym deep) (sym (first_shared before s rest shared is)) ∙ le-ltb depth (get_or shared 0 0) short in
    let opening : opens before front ≡ true = opens_by before front s.frames begun ∙ ap not few in
    let weighs : width ≡ box_width front (s ∷ rest) = wide ∙ ap₂ (λ (n : ℕ) (ns : List ℕ). width_by n ns (s ∷ rest)) deep is ∙ wide_as before front (s ∷ rest) begun in
    let same : record { functions = front; depth = depth; left = left; width = width } ≡ box_of left (s ∷ rest) front = ap₂ (λ (n w : ℕ). record { functions = front; depth = n; left = left; width = w }) deep weighs in
    added ∙ ap (λ (box : Box). boxes ++ box ∷ []) same ∙ sym (ap (λ (b : Bool). boxes ++ cond b (box_of left (s ∷ rest) front ∷ []) []) opening)

-- ---- how wide it is

pub width_step : (depth : ℕ) (numbers rest : List ℕ) (stacks more : List Stack) (n : ℕ) (s : Stack) (w total : ℕ) → numbers ≡ n ∷ rest → stacks ≡ s ∷ more → depth < n → w + width_behind depth numbers stacks ≡ total → (w + s.count) + width_behind depth rest more ≡ total
width_step depth numbers rest stacks more n s w total is are above h =
    let f : width_behind depth numbers stacks ≡ s.count + width_behind depth rest more = ap₂ (width_behind depth) is are ∙ rw (lt-ltb depth n above) refl in
    omega arith

behind_le : (depth : ℕ) (numbers : List ℕ) (stacks : List Stack) → width_behind depth numbers stacks ≤ total_of stacks
behind_le depth [] stacks = omega arith
behind_le depth (n ∷ numbers) [] = omega arith
behind_le depth (n ∷ numbers) (s ∷ rest) = by (nat_lt depth n) (behind_le depth numbers rest)
  where
    by : (b : Bool) → width_behind depth numbers rest ≤ total_of rest → cond b (s.count + width_behind depth numbers rest) 0 ≤ s.count + total_of rest
    by true h = omega arith
    by false h = omega arith

width_le : (depth : ℕ) (numbers : List ℕ) (stacks : List Stack) → width_by depth numbers stacks ≤ total_of stacks
width_le depth [] stacks = omega arith
width_le depth (n ∷ numbers) [] = omega arith
width_le depth (n ∷ numbers) (s ∷ rest) = let f = behind_le depth numbers rest in omega arith

pub width_fits : (depth : ℕ) (numbers rest all : List ℕ) (stacks more every : List Stack) (n : ℕ) (s : Stack) (w : ℕ) → numbers ≡ n ∷ rest → stacks ≡ s ∷ more → depth < n → w + width_behind depth numbers stacks ≡ width_by depth all every → total_of every < 2 ^ 64 → w + s.count < 2 ^ 64
width_fits depth numbers rest all stacks more every n s w is are above h small =
    let f : (w + s.count) + width_behind depth rest more ≡ width_by depth all every = width_step depth numbers rest stacks more n s w (width_by depth all every) is are above h in
    omega (arith, width_le depth all every)

pub next_number : (numbers : List ℕ) (k : ℕ) → k < length numbers → drop k numbers ≡ get_or numbers k 0 ∷ drop (k + 1) numbers
next_number numbers k h = rw (add-one) (drop-cons numbers k 0 h)

-- ---- fronts of a stack

pub front_taken : (frames : List ℕ) (k : ℕ) → k < length frames → get_or frames k 0 ≡ 0 → is_front (take k frames) frames ≡ true
front_taken [] k h ends = absurd (omega (arith, h))
front_taken (c ∷ frames) zero h ends = eq-eqb c 0 ends
front_taken (c ∷ frames) (suc k) h ends = begins_cons c c (take k frames) frames refl (front_taken frames k (omega (arith, h)) ends)

pub whole_front : (frames : List ℕ) → is_front frames frames ≡ true
whole_front [] = refl
whole_front (c ∷ frames) = begins_cons c c frames frames refl (whole_front frames)

pub first_begins : (stacks : List StackOfCode) (d : StackOfCode) (front : List ℕ) → 0 < length stacks → is_front front (get_or stacks 0 d).frames.now ≡ true → begins_first front (map stack_view stacks) ≡ true
first_begins [] d front h begun = absurd (omega (arith, h))
first_begins (s ∷ stacks) d front h begun = begun

-- ---- the boxes of the stacks so far

-- those of the stacks that are left come behind, where these have so many names in common with the stack before
pub record AreFound (found : List Box) (left : ℕ) (shared : List ℕ) (stacks all : List Stack) : Type 0 where
  pub before : Option (List ℕ)
  pub common : shared ≡ names_shared before stacks
  pub boxes : found ++ boxes_from before left stacks ≡ boxes_of all

pub found_first : (shared : List ℕ) (all : List Stack) → shared ≡ names_shared None all → AreFound [] 0 shared all all
found_first shared all is = record { before = None; common = is; boxes = refl }

pub found_more : (found new : List Box) (left : ℕ) (shared others : List ℕ) (n : ℕ) (stacks rest all : List Stack) (s : Stack) → shared ≡ n ∷ others → stacks ≡ s ∷ rest → AreFound found left shared stacks all
    → ((before : Option (List ℕ)) → shared ≡ names_shared before stacks → new ≡ found ++ openings before left stacks) → AreFound new (left + s.count) others rest all
found_more found new left shared others n stacks rest all s is are so added = record {
  before = Some s.frames;
  common = ap tail_of (sym is ∙ so.common ∙ ap (names_shared so.before) are);
  boxes =
      ap (λ (boxes : List Box). boxes ++ boxes_from (Some s.frames) (left + s.count) rest) (added so.before so.common ∙ ap (λ (l : List Stack). found ++ openings so.before left l) are)
      ∙ append_assoc found (openings so.before left (s ∷ rest)) (boxes_from (Some s.frames) (left + s.count) rest)
      ∙ sym (ap (λ (l : List Stack). found ++ boxes_from so.before left l) are) ∙ so.boxes;
}
  where
    tail_of : List ℕ → List ℕ
    tail_of [] = []
    tail_of (m ∷ ms) = ms

pub found_all : (found : List Box) (left : ℕ) (shared : List ℕ) (stacks all : List Stack) → stacks ≡ [] → AreFound found left shared stacks all → found ≡ boxes_of all
found_all found left shared stacks all none so = sym (append-nil found) ∙ ap (λ (l : List Stack). found ++ boxes_from so.before left l) (sym none) ∙ so.boxes

pub names_next : (numbers new : List ℕ) (before : Option (List ℕ)) (stacks rest : List Stack) (s : Stack) (all : List ℕ) → stacks ≡ s ∷ rest → numbers ++ names_shared before stacks ≡ all → new ≡ numbers ++ shared_with before s.frames ∷ [] → new ++ names_shared (Some s.frames) rest ≡ all
names_next numbers new before stacks rest s all are h added =
    ap (λ (ns : List ℕ). ns ++ names_shared (Some s.frames) rest) added
    ∙ append_assoc numbers (shared_with before s.frames ∷ []) (names_shared (Some s.frames) rest)
    ∙ sym (ap (λ (l : List Stack). numbers ++ names_shared before l) are) ∙ h
