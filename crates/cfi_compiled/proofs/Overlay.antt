-- Pieces that are laid over others.
use Rattle.std.proofs.Common.{◌≡◌, ℕ, zero, suc, ◌<◌, ◌≤◌, Bool, true, false, cond, ◌&&◌, List, [], ◌∷◌, ◌++◌, length, take, drop, ltb, leb, Option, Some, None, Result, Ok, Err, refl, sym, ap, ◌∙◌, ⊎_elim, arith}
use Rattle.std.specs.Prelude.{◌⊎◌, IfOk}
use Rattle.std.specs.List.{All}
use Rattle.std.specs.Option.{option_or}
use Rattle.std.proofs.lemmas.Bool.{cases_lt, lt-ltb, le-ltb, lt-leb, le-leb}
use Rattle.cfi_compiled.specs.declared.pieces.Piece.{Piece}
use Rattle.cfi_compiled.specs.Pieces.{owner, Ascend, end_from}

-- ---- the owner of an address

pub owner_in : (p : Piece) (ps : List Piece) (a : ℕ) → p.from ≤ a → a < p.to → owner a (p ∷ ps) ≡ Some p.of
owner_in p ps a from to = ap (λ b. cond b (Some p.of) (owner a ps)) (ap (λ b. b && ltb a p.to) (le-leb p.from a from) ∙ lt-ltb a p.to to)

pub owner_past : (p : Piece) (ps : List Piece) (a : ℕ) → p.to ≤ a → owner a (p ∷ ps) ≡ owner a ps
owner_past p ps a after = ap (λ b. cond b (Some p.of) (owner a ps)) (no_end (leb p.from a) _ (le-ltb a p.to after))
  where
    no_end : (b c : Bool) → c ≡ false → (b && c) ≡ false
    no_end true c is = is
    no_end false c is = refl

owner_before : (p : Piece) (ps : List Piece) (a : ℕ) → a < p.from → owner a (p ∷ ps) ≡ owner a ps
owner_before p ps a before = ap (λ b. cond b (Some p.of) (owner a ps)) (ap (λ b. b && ltb a p.to) (lt-leb p.from a before))

pub owner_below : (low : ℕ) (ps : List Piece) (a : ℕ) → Ascend low ps → a < low → owner a ps ≡ None
owner_below low [] a ascend below = refl
owner_below low (p ∷ ps) a ascend below =
    owner_before p ps a (omega (arith, ascend.0)) ∙ owner_below p.to ps a ascend.2 (omega (arith, ascend.0, ascend.1))

end_above : (low : ℕ) (ps : List Piece) → Ascend low ps → low ≤ end_from low ps
end_above low [] ascend = omega arith
end_above low (p ∷ ps) ascend = let rest = end_above p.to ps ascend.2 in omega (arith, rest, ascend.0, ascend.1)

owner_after : (low : ℕ) (ps : List Piece) (a : ℕ) → Ascend low ps → end_from low ps ≤ a → owner a ps ≡ None
owner_after low [] a ascend after = refl
owner_after low (p ∷ ps) a ascend after =
    let up = end_above p.to ps ascend.2 in
    owner_past p ps a (omega (arith, up, after)) ∙ owner_after p.to ps a ascend.2 after

pub lower : (low high : ℕ) (ps : List Piece) → low ≤ high → Ascend high ps → Ascend low ps
lower low high [] le ascend = tt
lower low high (p ∷ ps) le ascend = (omega (arith, le, ascend.0), ascend.1, ascend.2)

-- ---- one piece more

more_before : (ps : List Piece) (p : Piece) (a : ℕ) → a < p.from → owner a (ps ++ p ∷ []) ≡ owner a ps
more_before [] p a before = owner_before p [] a before
more_before (q ∷ ps) p a before = ap (λ o. cond (leb q.from a && ltb a q.to) (Some q.of) o) (more_before ps p a before)

more_from : (low : ℕ) (ps : List Piece) (p : Piece) (a : ℕ) → Ascend low ps → end_from low ps ≤ p.from → p.from ≤ a → owner a (ps ++ p ∷ []) ≡ owner a (p ∷ [])
more_from low [] p a ascend free from = refl
more_from low (q ∷ ps) p a ascend free from =
    let up = end_above q.to ps ascend.2 in
    owner_past q (ps ++ p ∷ []) a (omega (arith, up, free, from)) ∙ more_from q.to ps p a ascend.2 free from

ascend_more : (low : ℕ) (ps : List Piece) (p : Piece) → Ascend low ps → end_from low ps ≤ p.from → p.from < p.to → Ascend low (ps ++ p ∷ [])
ascend_more low [] p ascend free some = (free, some, tt)
ascend_more low (q ∷ ps) p ascend free some = (ascend.0, ascend.1, ascend_more q.to ps p ascend.2 free some)

end_more : (low : ℕ) (ps : List Piece) (p : Piece) → end_from low (ps ++ p ∷ []) ≡ p.to
end_more low [] p = refl
end_more low (q ∷ ps) p = end_more q.to ps p

-- ---- how far the pieces were laid

-- Up to the end the pieces laid decide; from there on what is left of both does.
pub record Laid (above below laid left_above left_below : List Piece) (end : ℕ) : Type 0 where
  pub ascend : Ascend 0 laid
  pub free : end_from 0 laid ≤ end
  pub above_ascend : Ascend end left_above
  pub below_ascend : Ascend 0 left_below
  pub done : (a : ℕ) → a < end → owner a laid ≡ option_or (owner a above) (owner a below)
  pub rest_above : (a : ℕ) → end ≤ a → owner a above ≡ owner a left_above
  pub rest_below : (a : ℕ) → end ≤ a → owner a below ≡ owner a left_below

module _ (above below : List Piece) where
  pub laid_none : Ascend 0 above → Ascend 0 below → Laid above below [] above below 0
  laid_none a b = record {
    ascend = tt;
    free = omega arith;
    above_ascend = a;
    below_ascend = b;
    done = λ k under. absurd (omega arith);
    rest_above = λ k from. refl;
    rest_below = λ k from. refl;
  }

  module _ (laid left_above left_below : List Piece) (end : ℕ) (so_far : Laid above below laid left_above left_below end) where
    due : (a : ℕ) → end ≤ a → option_or (owner a above) (owner a below) ≡ option_or (owner a left_above) (owner a left_below)
    due a from = ap (λ o. option_or o (owner a below)) (so_far.rest_above a from) ∙ ap (λ o. option_or (owner a left_above) o) (so_far.rest_below a from)

    nothing_laid : (a : ℕ) → end ≤ a → owner a laid ≡ None
    nothing_laid a from = owner_after 0 laid a so_far.ascend (omega (arith, so_far.free))

    -- nothing is left
    pub laid_all : left_above ≡ [] → left_below ≡ [] → (a : ℕ) → owner a laid ≡ option_or (owner a above) (owner a below)
    laid_all no_above no_below a =
        ⊎_elim
        (λ under. so_far.done a under)
        (λ from.
        nothing_laid a from
        ∙ sym (due a from ∙ ap (λ (l : List Piece). option_or (owner a l) (owner a left_below)) no_above ∙ ap (λ (l : List Piece). owner a l) no_below))
        (cases_lt a end)

    -- a piece is laid, and these are left
    module _ (p : Piece) (next_above next_below : List Piece) (from : end ≤ p.from) (some : p.from < p.to) (ascends : Ascend p.to next_above) (ascends_below : Ascend 0 next_below)
        (gap : (a : ℕ) → end ≤ a → a < p.from → option_or (owner a left_above) (owner a left_below) ≡ None)
        (within : (a : ℕ) → p.from ≤ a → a < p.to → option_or (owner a left_above) (owner a left_below) ≡ Some p.of)
        (after_above : (a : ℕ) → p.to ≤ a → owner a left_above ≡ owner a next_above)
        (after_below : (a : ℕ) → p.to ≤ a → owner a left_below ≡ owner a next_below) where
      free : end_from 0 laid ≤ p.from
      free = omega (arith, so_far.free, from)

      before : (a : ℕ) → a < p.from → owner a (laid ++ p ∷ []) ≡ option_or (owner a above) (owner a below)
      before a under =
          more_before laid p a under
          ∙ ⊎_elim
          (λ old. so_far.done a old)
          (λ new. nothing_laid a new ∙ sym (due a new ∙ gap a new under))
          (cases_lt a end)

      inside : (a : ℕ) → p.from ≤ a → a < p.to → owner a (laid ++ p ∷ []) ≡ option_or (owner a above) (owner a below)
      inside a low high =
          more_from 0 laid p a so_far.ascend free low ∙ owner_in p [] a low high ∙ sym (due a (omega (arith, from, low)) ∙ within a low high)

      laid_more : Laid above below (laid ++ p ∷ []) next_above next_below p.to
      laid_more = record {
        ascend = ascend_more 0 laid p so_far.ascend free some;
        free = omega (arith, end_more 0 laid p);
        above_ascend = ascends;
        below_ascend = ascends_below;
        done = λ a high. ⊎_elim (λ under. before a under) (λ low. inside a low high) (cases_lt a p.from);
        rest_above = λ a high. so_far.rest_above a (omega (arith, from, some, high)) ∙ after_above a high;
        rest_below = λ a high. so_far.rest_below a (omega (arith, from, some, high)) ∙ after_below a high;
      }

    -- the first below ends before what is decided
    pub laid_skip : (y : Piece) (ys : List Piece) → left_below ≡ y ∷ ys → y.to ≤ end → Laid above below laid left_above ys end
    laid_skip y ys is past =
        let here = rw is at so_far.below_ascend in
        record {
          ascend = so_far.ascend;
          free = so_far.free;
          above_ascend = so_far.above_ascend;
          below_ascend = lower 0 y.to ys (omega arith) here.2;
          done = so_far.done;
          rest_above = so_far.rest_above;
          rest_below = λ a from. so_far.rest_below a from ∙ ap (λ (l : List Piece). owner a l) is ∙ owner_past y ys a (omega (arith, past, from));
        }

    -- the first above, where nothing below is before it
    pub laid_above : (x : Piece) (xs : List Piece) → left_above ≡ x ∷ xs → ((a : ℕ) → end ≤ a → a < x.from → owner a left_below ≡ None) → Laid above below (laid ++ x ∷ []) xs left_below x.to
    laid_above x xs is none =
        let here = rw is at so_far.above_ascend in
        laid_more x xs left_below here.0 here.1 here.2 so_far.below_ascend
        (λ a low high.
        ap (λ (l : List Piece). option_or (owner a l) (owner a left_below)) is
        ∙ ap (λ o. option_or o (owner a left_below)) (owner_below x.from (x ∷ xs) a (omega arith, here.1, here.2) high)
        ∙ none a low high)
        (λ a low high.
        ap (λ (l : List Piece). option_or (owner a l) (owner a left_below)) is
        ∙ ap (λ o. option_or o (owner a left_below)) (owner_in x xs a low high))
        (λ a high. ap (λ (l : List Piece). owner a l) is ∙ owner_past x xs a high)
        (λ a high. refl)

    -- a part of the first below, before all that is left above
    pub laid_below : (y : Piece) (ys : List Piece) (start stop : ℕ) → left_below ≡ y ∷ ys → end ≤ start → y.from ≤ start → ((k : ℕ) → k < start → (k < y.from) ⊎ (k < end)) → start < stop → stop ≤ y.to → Ascend stop left_above
        → Laid above below (laid ++ (record { from = start; to = stop; of = y.of }) ∷ []) left_above left_below stop
    laid_below y ys start stop is from first least some last ascends =
        let here = rw is at so_far.below_ascend in
        laid_more (record { from = start; to = stop; of = y.of }) left_above left_below from some ascends so_far.below_ascend
        (λ a low high.
        ap (λ o. option_or o (owner a left_below)) (owner_below stop left_above a ascends (omega (arith, high, some)))
        ∙ ap (λ (l : List Piece). owner a l) is
        ∙ ⊎_elim
        (λ under. owner_below y.from (y ∷ ys) a (omega arith, here.1, here.2) under)
        (λ old. absurd (omega (arith, old, low)))
        (least a high))
        (λ a low high.
        ap (λ o. option_or o (owner a left_below)) (owner_below stop left_above a ascends high)
        ∙ ap (λ (l : List Piece). owner a l) is
        ∙ owner_in y ys a (omega (arith, first, low)) (omega (arith, last, high)))
        (λ a high. refl)
        (λ a high. refl)

-- the first below ends before what is decided, where its part up to there is empty
pub ended : (y : Piece) (ys : List Piece) (left : List Piece) (start end : ℕ) → left ≡ y ∷ ys → Ascend 0 left → y.to ≤ start → ((k : ℕ) → k < start → (k < y.from) ⊎ (k < end)) → y.to ≤ end
ended y ys left start end is ascend past least =
    let here = rw is at ascend in
    let some : y.from < y.to = here.1 in
    ⊎_elim
    (λ (more : end < y.to).
    absurd
    (⊎_elim
    (λ (a : end < y.from). ⊎_elim (λ (b : y.from < y.from). omega (arith, b)) (λ (b : y.from < end). omega (arith, a, b)) (least y.from (omega (arith, some, past))))
    (λ (b : end < end). omega (arith, b))
    (least end (omega (arith, more, past)))))
    (λ (done : y.to ≤ end). done)
    (cases_lt end y.to)

-- all that is left above begins at or above an address
pub begin_above : (low stop : ℕ) (x : Piece) (xs left : List Piece) → left ≡ x ∷ xs → Ascend low left → stop ≤ x.from → Ascend stop left
begin_above low stop x xs left is ascend from =
    let here = rw is at ascend in
    rw is (from, here.1, here.2)

-- nothing below is before the first above
pub none_before : (y : Piece) (ys left : List Piece) (start end first : ℕ) → left ≡ y ∷ ys → Ascend 0 left → ((k : ℕ) → k < start → (k < y.from) ⊎ (k < end)) → first ≤ start → (a : ℕ) → end ≤ a → a < first → owner a left ≡ None
none_before y ys left start end first is ascend least from a low high =
    let here = rw is at ascend in
    ap (λ (l : List Piece). owner a l) is
    ∙ ⊎_elim
    (λ under. owner_below y.from (y ∷ ys) a (omega arith, here.1, here.2) under)
    (λ old. absurd (omega (arith, old, low)))
    (least a (omega (arith, from, high)))

-- ---- pieces that are resolved by halves

or_cond : (b : Bool) (i : ℕ) (o x : Option ℕ) → option_or (cond b (Some i) o) x ≡ cond b (Some i) (option_or o x)
or_cond true i o x = refl
or_cond false i o x = refl

pub owner_split : (a mid : ℕ) (ps : List Piece) → option_or (owner a (take mid ps)) (owner a (drop mid ps)) ≡ owner a ps
owner_split a zero ps = refl
owner_split a (suc mid) [] = refl
owner_split a (suc mid) (p ∷ ps) =
    or_cond (leb p.from a && ltb a p.to) p.of (owner a (take mid ps)) (owner a (drop mid ps))
    ∙ ap (λ o. cond (leb p.from a && ltb a p.to) (Some p.of) o) (owner_split a mid ps)

pub short_ascend : (ps : List Piece) → length ps ≤ 1 → All (λ (p : Piece). p.from < p.to) ps → Ascend 0 ps
short_ascend [] short some = tt
short_ascend (p ∷ []) short some = (omega arith, some 0 p (omega arith), tt)
short_ascend (p ∷ q ∷ ps) short some = absurd (omega (arith, short))

pub if_ok_map : {A E : Type 0} (r : Result A E) (P Q : A → Type 0) → IfOk r P → ((x : A) → P x → Q x) → IfOk r Q
if_ok_map (Ok x) P Q p f = f x p
if_ok_map (Err e) P Q p f = tt
