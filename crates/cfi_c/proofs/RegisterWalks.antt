-- The frames of a walk with their registers, one after the other.
use Rattle.std.proofs.Common.{◌≡◌, ◌∙◌, ◌<◌, ◌+◌, ◌*◌, ℕ, List, [], ◌∷◌, ◌++◌, length, take, drop, Option, Result, Ok, Err, refl, sym, ap, subst, inl, inr, arith}
use Rattle.std.specs.Prelude.{slice_set}
use Rattle.std.proofs.lemmas.List.{append_assoc, append-nil, drop-drop, length-append, length-set, map-append, take_more_set}
use Rattle.cfi_step.specs.declared.step.Caller.{Caller}
use Rattle.cfi_step.specs.declared.walk.End.{End}
use Rattle.cfi_step.specs.declared.walk.Start.{Start}
use Rattle.cfi_step.specs.Walks.{State, resumed}
use Rattle.cfi_step.proofs.Walking.{left}
use Rattle.cfi_c.specs.declared.frame.CfiFrame.{CfiFrame}
use Rattle.cfi_c.specs.declared.register.CfiValue.{CfiValue}
use Rattle.cfi_c.specs.RegisterFrames.{AreFirst, FrameWithRegisters, IsWalkWith, framed, frames_of, registers_written}

-- ---- what is written

pub frames_after : (done : List FrameWithRegisters) (f : FrameWithRegisters) → frames_of (done ++ (f ∷ [])) ≡ frames_of done ++ (f.frame ∷ [])
frames_after done f = map-append (λ (g : FrameWithRegisters). g.frame) done (f ∷ [])

pub registers_after : (done : List FrameWithRegisters) (f : FrameWithRegisters) → registers_written (done ++ (f ∷ [])) ≡ registers_written done ++ f.registers
registers_after [] f = append-nil f.registers
registers_after (g ∷ done) f = ap (λ (rest : List CfiValue). g.registers ++ rest) (registers_after done f) ∙ sym (append_assoc g.registers (registers_written done) f.registers)

-- one more frame
pub one_frame : (done : List CfiFrame) (old new : List CfiFrame) (n : ℕ) (y : CfiFrame) → length done ≡ n → n < length new
    → AreFirst done old new → AreFirst (done ++ (y ∷ [])) old (slice_set new n y)
one_frame done old new n y is inside (first, rest, room) =
    let more : length (done ++ (y ∷ [])) ≡ n + 1 = length-append done (y ∷ []) ∙ ap (λ (k : ℕ). k + 1) is in
    let before : take n new ≡ done = subst (λ (k : ℕ). take k new ≡ done) is first in
    let behind : drop n new ≡ drop n old = subst (λ (k : ℕ). drop k new ≡ drop k old) is rest in
    let inside_old : n < length old = subst (λ (k : ℕ). n < k) room inside in (
      ap (λ (k : ℕ). take k (slice_set new n y)) more ∙ (take_more_set new n y inside ∙ ap (λ (l : List CfiFrame). l ++ (y ∷ [])) before),
      ap (λ (k : ℕ). drop k (slice_set new n y)) more ∙ (left new old n y inside inside_old behind ∙ sym (ap (λ (k : ℕ). drop k old) more)),
      length-set new n y ∙ room,
    )

-- the registers of one more
pub one_row : (done row : List CfiValue) (old new next : List CfiValue) (first n : ℕ) → length done ≡ first → length row ≡ n
    → AreFirst done old new → take (first + n) next ≡ take first new ++ row → drop (first + n) next ≡ drop (first + n) new → length next ≡ length new
    → AreFirst (done ++ row) old next
one_row done row old new next first n is many (firsts, rest, room) written behind same =
    let more : length (done ++ row) ≡ first + n = length-append done row ∙ (ap (λ (k : ℕ). k + length row) is ∙ ap (λ (k : ℕ). first + k) many) in
    let before : take first new ≡ done = subst (λ (k : ℕ). take k new ≡ done) is firsts in
    let after : drop first new ≡ drop first old = subst (λ (k : ℕ). drop k new ≡ drop k old) is rest in (
      ap (λ (k : ℕ). take k next) more ∙ (written ∙ ap (λ (l : List CfiValue). l ++ row) before),
      ap (λ (k : ℕ). drop k next) more ∙ (behind ∙ (sym (drop-drop n first new) ∙ (ap (drop n) after ∙ (drop-drop n first old ∙ sym (ap (λ (k : ℕ). drop k old) more))))),
      same ∙ room,
    )

-- ---- frames

module _ (Steps : State → Result Caller End → List (Option ℕ) → Type 0) where
  -- whatever is a walk from s is one from the first frame after those that are written
  abbrev pub Follows : State → State → List FrameWithRegisters → Type 0
  Follows first s done = (rest : List FrameWithRegisters) (end : End) → IsWalkWith Steps s rest end → IsWalkWith Steps first (done ++ rest) end

  module _ (first s : State) (done : List FrameWithRegisters) (before : Follows first s done) (step : Result Caller End) (caller : List (Option ℕ)) (steps : Steps s step caller) where
    pub one_more : (next : Start) (registers : List (Option ℕ)) → Ok next ≡ resumed step → registers ≡ caller
        → Follows first (record { at = next; registers = registers; caller = caller }) (done ++ (framed s step ∷ []))
    one_more next registers is same rest end walks =
        subst (λ (fs : List FrameWithRegisters). IsWalkWith Steps first fs end) (sym (append_assoc done (framed s step ∷ []) rest))
        (before (framed s step ∷ rest) end (
          step,
          caller,
          steps,
          refl,
          inr (next, sym is, subst (λ (r : List (Option ℕ)). IsWalkWith Steps (record { at = next; registers = r; caller = caller }) rest end) same walks),
        ))

    pub one_last : (end : End) → Err end ≡ resumed step → IsWalkWith Steps first (done ++ (framed s step ∷ [])) end
    one_last end is = before (framed s step ∷ []) end (step, caller, steps, refl, inl (refl, sym is))

-- ---- room

pub too_short : (n count index first values : ℕ) → count ≡ index → first ≡ index * n → values < first + n → values < count * n + n
too_short n count index first values same is short = subst (λ (k : ℕ). values < k * n + n) (sym same) (subst (λ (f : ℕ). values < f + n) is short)

pub next_first : (first index n m : ℕ) → first ≡ index * m → n ≡ m → first + n ≡ (index + 1) * m
next_first first index n m is same = ap (λ (k : ℕ). first + k) same ∙ (ap (λ (k : ℕ). k + m) is ∙ omega arith)
