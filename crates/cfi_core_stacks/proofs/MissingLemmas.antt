-- Steps where no call frames have the address, where less of the memory is known: what they lack, and the registers that they write.
use Rattle.std.proofs.Common.{◌≡◌, ◌∙◌, ◌⊎◌, ◌<◌, ◌≤◌, ◌&&◌, ◌||◌, ℕ, Bool, true, false, length, map, Option, Some, None, Result, Ok, Err, refl, sym, ap, subst, inl, inr, true≢false, arith}
use Rattle.std.specs.Prelude.{ok_or}
use Rattle.std.specs.List.{range_with_len}
use Rattle.std.proofs.lemmas.Bool.{cases_lt}
use Rattle.std.proofs.lemmas.List.{get_or_past}
use Rattle.std.proofs.lemmas.List.FromFn.{get_or-map-range_with_len, length-map-range_with_len}
use Rattle.cfi_expression.specs.declared.error.FrameError.{FrameError}
use Rattle.cfi_expression.specs.declared.error.FrameError.TheVariants.{UnknownRegister, UnreadableMemory}
use Rattle.cfi_expression.specs.Frames.{known}
use Rattle.cfi_read_core.specs.ReaderCalls.{map_ok}
use Rattle.cfi_expression.proofs.LesserFrames.{AreKnown, is_lacking, lacks}
use Rattle.cfi_step.specs.declared.step.Caller.{Caller}
use Rattle.cfi_step.specs.declared.walk.End.{End}
use Rattle.cfi_step.specs.declared.walk.End.TheVariants.{Failed}
use Rattle.cfi_step.specs.declared.walk.Start.{Start}
use Rattle.cfi_step.specs.Callers.{on_ok}
use Rattle.cfi_step.specs.Walks.{checked}
use Rattle.cfi_step.proofs.LesserWalks.{lacks_end, lacks_step}
use Rattle.cfi_core_stacks.specs.MissingFrames.{has_no_frames, lacks_row}
use Rattle.cfi_core_stacks.specs.KnownCores.{error_lacks, misses_value}

-- ---- what lacks something

same_error : (e : FrameError) → is_lacking e ≡ error_lacks e
same_error (UnknownRegister r) = refl
same_error (UnreadableMemory a) = refl
same_error e = refl

pub same_misses : (end : End) → lacks_end end ≡ misses_value end
same_misses (Failed e) = same_error e
same_misses end = refl

pub or_first : (a b : Bool) → (a || b) ≡ false → a ≡ false
or_first false b is = refl
or_first true b is = is

pub or_second : (a b : Bool) → (a || b) ≡ false → b ≡ false
or_second false b is = is
or_second true b is = absurd (true≢false is)

pub and_first : (a b : Bool) → (a && b) ≡ true → a ≡ true
and_first true b is = refl
and_first false b is = absurd (true≢false (sym is))

pub and_second : (a b : Bool) → (a && b) ≡ true → b ≡ true
and_second true b is = is
and_second false b is = absurd (true≢false (sym is))

pub and_none : (a : Bool) → (a && false) ≡ false
and_none true = refl
and_none false = refl

row_whole : (e : FrameError) → lacks_row e ≡ true → is_lacking e ≡ false
row_whole (UnknownRegister r) is = absurd (true≢false (sym is))
row_whole (UnreadableMemory a) is = absurd (true≢false (sym is))
row_whole e is = refl

-- such a step lacks nothing
pub frames_whole : (step : Result Caller End) → has_no_frames step ≡ true → lacks_step step ≡ false
frames_whole (Ok c) is = refl
frames_whole (Err (Failed e)) is = row_whole e is
frames_whole (Err end) is = refl

pub raw_whole : (at : Start) (raw : Result Caller FrameError) (step : Result Caller End) → step ≡ checked at raw → lacks_step step ≡ false → lacks raw ≡ false
raw_whole at (Ok c) step is whole = refl
raw_whole at (Err e) step is whole = sym (ap lacks_step is) ∙ whole

-- ---- the registers

module _ (f g : ℕ → Option ℕ) where
  pub as_many_mapped : (count count' : ℕ) → count ≡ count' → length (map f (range_with_len 0 count)) ≡ length (map g (range_with_len 0 count'))
  as_many_mapped count count' same = length-map-range_with_len f 0 count ∙ (same ∙ sym (length-map-range_with_len g 0 count'))

  known_at : ((k n : ℕ) → f k ≡ Some n → g k ≡ Some n) → (count k n : ℕ) → (k < count) ⊎ (count ≤ k) → known (map f (range_with_len 0 count)) k ≡ Some n → known (map g (range_with_len 0 count)) k ≡ Some n
  known_at more count k n (inl below) is =
      get_or-map-range_with_len g 0 count k k None below (omega arith)
      ∙ more k n (sym (get_or-map-range_with_len f 0 count k k None below (omega arith)) ∙ is)
  known_at more count k n (inr past) is =
      let long = length-map-range_with_len f 0 count in
      absurd (let none = get_or_past (map f (range_with_len 0 count)) k None (omega (arith, past, long)) in let both : None ≡ Some n = sym none ∙ is in cc)

  -- of each of which at least as much is known
  pub known_mapped : ((k n : ℕ) → f k ≡ Some n → g k ≡ Some n) → (count count' : ℕ) → count ≡ count' → AreKnown (map f (range_with_len 0 count)) (map g (range_with_len 0 count'))
  known_mapped more count count' same =
      subst (λ (n : ℕ). AreKnown (map f (range_with_len 0 count)) (map g (range_with_len 0 n))) same (record { each = λ k n there. known_at more count k n (cases_lt k count) there })

-- ---- what may be known only where more is

-- a caller by a number that is known
pub by_mapped : (f : ℕ → Caller) (o o' : Option ℕ) (e : FrameError) → is_lacking e ≡ true → ((n : ℕ) → o ≡ Some n → o' ≡ Some n) → lacks (map_ok f (ok_or o e)) ≡ false → map_ok f (ok_or o e) ≡ map_ok f (ok_or o' e)
by_mapped f (Some n) o' e lacking more whole = ap (λ (o : Option ℕ). map_ok f (ok_or o e)) (sym (more n refl))
by_mapped f None o' e lacking more whole = absurd (true≢false (sym lacking ∙ whole))

-- the same where more follows
pub by_value : (next next' : ℕ → Result Caller FrameError) → ((n : ℕ) → lacks (next n) ≡ false → next n ≡ next' n) → (o o' : Option ℕ) (e : FrameError) → is_lacking e ≡ true → ((n : ℕ) → o ≡ Some n → o' ≡ Some n)
    → lacks (on_ok next (ok_or o e)) ≡ false → on_ok next (ok_or o e) ≡ on_ok next' (ok_or o' e)
by_value next next' same (Some n) o' e lacking more whole = same n whole ∙ ap (λ (o : Option ℕ). on_ok next' (ok_or o e)) (sym (more n refl))
by_value next next' same None o' e lacking more whole = absurd (true≢false (sym lacking ∙ whole))
