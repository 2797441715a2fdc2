-- The operations of an expression, one after the other. `whole` is what all of them give.
use Rattle.std.proofs.Common.{◌≡◌, ◌≢◌, ◌-◌, ℕ, zero, suc, Bool, true, false, Result, Ok, Err, List, refl, sym, ap, ◌∙◌, arith}
use Rattle.std.specs.Prelude.{◌==◌, if◌then◌else◌}
use Rattle.cfi_read_core.specs.ReadFunctions.{Source, Position}
use Rattle.cfi_read_core.specs.ReaderCalls.{remaining}
use Rattle.cfi_expression.specs.declared.error.FrameError.{FrameError}
use Rattle.cfi_expression.specs.declared.error.FrameError.TheVariants.{TooManyIterations}
use Rattle.cfi_expression.specs.Frames.{Frame}
use Rattle.cfi_expression.specs.Stacks.{Acted, go_on, of_result, pop}
use Rattle.cfi_read_core.specs.ReaderCalls.{map_ok}
use Rattle.cfi_expression.specs.Evaluation.{is_end, run, step}

seen_as_it_is : {A : Type 0} (r : Result A FrameError) → map_ok (λ x. x) r ≡ r
seen_as_it_is (Ok x) = refl
seen_as_it_is (Err e) = refl

module _ (frame : Frame) (expression input : Position) (same : input.source ≡ expression.source) where
  -- the end of the expression is that of the reader
  ends : (b : Bool) → (remaining input == 0) ≡ b → is_end frame expression input.place ≡ b
  ends b h = ap (λ (s : Source). (s.last - input.place) == 0) (sym same) ∙ h

  pops : (count : ℕ) (stack : List ℕ) → (remaining input == 0) ≡ true → run frame expression count input.place stack ≡ pop stack
  unfolding run
  pops zero stack h = ap (λ (b : Bool). (if b then pop else of_result (Err TooManyIterations)) stack) (ends true h)
  pops (suc count) stack h = ap (λ (b : Bool). (if b then pop else (λ s. go_on (run frame expression count) (step frame expression input.place s).value (step frame expression input.place s).stack)) stack) (ends true h)

  stops : (count : ℕ) (stack : List ℕ) → (remaining input == 0) ≡ false → count ≡ 0 → (run frame expression count input.place stack).value ≡ Err TooManyIterations
  unfolding run
  stops zero stack h e = ap (λ (b : Bool). ((if b then pop else of_result (Err TooManyIterations)) stack).value) (ends false h)
  stops (suc count) stack h e = absurd (cc)

  goes_on : (count : ℕ) (stack : List ℕ) → (remaining input == 0) ≡ false → count ≢ 0 →
      run frame expression count input.place stack ≡ go_on (run frame expression (count - 1)) (step frame expression input.place stack).value (step frame expression input.place stack).stack
  unfolding run
  goes_on zero stack h some = absurd (some refl)
  goes_on (suc count) stack h some =
      let less : suc count - 1 ≡ count = omega arith in
      rw less (ap (λ (b : Bool). (if b then pop else (λ s. go_on (run frame expression count) (step frame expression input.place s).value (step frame expression input.place s).stack)) stack) (ends false h))

  module _ (count : ℕ) (stack : List ℕ) (whole : Acted ℕ) (all : run frame expression count input.place stack ≡ whole) where
    pub all_done : (result : Result ℕ FrameError) (after : List ℕ) → (remaining input == 0) ≡ true → pop stack ≡ record { value = map_ok (λ x. x) result; stack = after } → result ≡ whole.value
    all_done result after h popped = sym (seen_as_it_is result) ∙ ap (λ (a : Acted ℕ). a.value) (sym popped ∙ (sym (pops count stack h) ∙ all))

    pub none_left : (remaining input == 0) ≡ false → count ≡ 0 → Err TooManyIterations ≡ whole.value
    none_left h none = sym (stops count stack h none) ∙ ap (λ (a : Acted ℕ). a.value) all

    -- an operation that is done, and then the others
    pub one_done : (next : ℕ) (after : List ℕ) → (remaining input == 0) ≡ false → count ≢ 0 → step frame expression input.place stack ≡ record { value = Ok next; stack = after } →
        run frame expression (count - 1) next after ≡ whole
    one_done next after h some done = sym (goes_on count stack h some ∙ ap (λ (a : Acted ℕ). go_on (run frame expression (count - 1)) a.value a.stack) done) ∙ all

    -- one that fails
    pub one_failed : (result : Result ℕ FrameError) (after : List ℕ) (e : FrameError) → result ≡ Err e → (remaining input == 0) ≡ false → count ≢ 0 →
        step frame expression input.place stack ≡ record { value = Err e; stack = after } → result ≡ whole.value
    one_failed result after e gives h some done =
        gives ∙ ap (λ (a : Acted ℕ). a.value) (sym (ap (λ (a : Acted ℕ). go_on (run frame expression (count - 1)) a.value a.stack) done) ∙ (sym (goes_on count stack h some) ∙ all))
