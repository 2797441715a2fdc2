-- What an expression gives in a frame of which less is known: the same, unless something is lacking.
use Rattle.std.proofs.Common.{◌≡◌, ◌∙◌, ℕ, zero, suc, ◌&&◌, Bool, true, false, List, [], Option, Some, None, Result, Ok, Err, refl, sym, ap, true≢false}
use Rattle.std.specs.Prelude.{nat_le, ok_or, if◌then◌else◌}
use Rattle.cfi_read_core.specs.declared.common.Register.{Register}
use Rattle.cfi_read_core.specs.declared.error.Error.{Error}
use Rattle.cfi_read_core.specs.Addresses.{is_sized}
use Rattle.cfi_read_core.specs.ReadFunctions.{Position}
use Rattle.cfi_expression.specs.declared.error.FrameError.{FrameError}
use Rattle.cfi_expression.specs.declared.error.FrameError.TheVariants.{UnknownRegister, UnreadableMemory, UnsupportedSize}
use Rattle.cfi_expression.specs.declared.operation.Operation.{Operation}
use Rattle.cfi_expression.specs.declared.operation.Operation.TheVariants.{Stack, Skip, Bra}
use Rattle.cfi_expression.specs.declared.operation.StackOperation.{StackOperation}
use Rattle.cfi_expression.specs.declared.operation.StackOperation.TheVariants.{RegisterOffset, Dereference}
use Rattle.cfi_expression.specs.Frames.{Frame, known, number_at, register_in}
use Rattle.cfi_expression.specs.Operations.{operation}
use Rattle.cfi_expression.specs.Stacks.{Act, Acted, go_on, of_result, pop}
use Rattle.cfi_expression.specs.Evaluation.{effect, is_end, obey, obey_read, run, step, value_of, initial_stack}

-- ---- what is lacking

abbrev pub is_lacking : FrameError → Bool
is_lacking (UnknownRegister r) = true
is_lacking (UnreadableMemory a) = true
is_lacking e = false

abbrev pub lacks : {A : Type 0} → Result A FrameError → Bool
lacks (Ok x) = false
lacks (Err e) = is_lacking e

-- each number of the first memory is in the other, and each register that is known
pub record Extends (m m' : ℕ → ℕ → Option ℕ) : Type 0 where
  pub numbers : (a size n : ℕ) → m a size ≡ Some n → m' a size ≡ Some n

pub record AreKnown (rs rs' : List (Option ℕ)) : Type 0 where
  pub each : (k n : ℕ) → known rs k ≡ Some n → known rs' k ≡ Some n

-- ---- results

pub record Same {A : Type 0} (r r' : Result A FrameError) : Type 0 where
  pub same : lacks r ≡ false → r ≡ r'

pub same_self : {A : Type 0} (r : Result A FrameError) → Same r r
same_self r = record { same = λ whole. refl }

same_there : (e : FrameError) (o o' : Option ℕ) → is_lacking e ≡ true → ((n : ℕ) → o ≡ Some n → o' ≡ Some n) → Same (ok_or o e) (ok_or o' e)
same_there e (Some n) o' lacking more = record { same = λ whole. ap (λ (o : Option ℕ). ok_or o e) (sym (more n refl)) }
same_there e None o' lacking more = record { same = λ whole. absurd (true≢false (sym lacking ∙ whole)) }

-- ---- actions

pub record SameActed {A : Type 0} (x y : Acted A) : Type 0 where
  pub same : lacks x.value ≡ false → x ≡ y

acted_self : {A : Type 0} (x : Acted A) → SameActed x x
acted_self x = record { same = λ whole. refl }

acted_result : {A : Type 0} (r r' : Result A FrameError) (stack : List ℕ) → Same r r' → SameActed (of_result r stack) (of_result r' stack)
acted_result {A} r r' stack is = record { same = λ whole. ap (λ (r : Result A FrameError). of_result r stack) (is.same whole) }

gone_on : {A B : Type 0} (value : Result A FrameError) (stack : List ℕ) (y : Acted A) (next next' : A → Act B) → (lacks value ≡ false → record { value = value; stack = stack } ≡ y)
    → ((x : A) (s : List ℕ) → SameActed (next x s) (next' x s)) → lacks (go_on next value stack).value ≡ false → go_on next value stack ≡ go_on next' y.value y.stack
gone_on {A} (Ok x) stack y next next' first others whole = (others x stack).same whole ∙ ap (λ (z : Acted A). go_on next' z.value z.stack) (first refl)
gone_on {A} (Err e) stack y next next' first others whole = ap (λ (z : Acted A). go_on next' z.value z.stack) (first whole)

acted_then : {A B : Type 0} (x y : Acted A) (next next' : A → Act B) → SameActed x y → ((v : A) (s : List ℕ) → SameActed (next v s) (next' v s)) → SameActed (go_on next x.value x.stack) (go_on next' y.value y.stack)
acted_then x y next next' first others = record { same = gone_on x.value x.stack y next next' first.same others }

module _ {m m' : ℕ → ℕ → Option ℕ} {rs rs' : List (Option ℕ)} (size : ℕ) (more : Extends m m') (are : AreKnown rs rs') where
  abbrev less : Frame
  less = record { registers = rs; memory = m; size = size }

  abbrev all : Frame
  all = record { registers = rs'; memory = m'; size = size }

  same_number_if : (b : Bool) (a n : ℕ) → Same (if b then ok_or (m a n) (UnreadableMemory a) else Err (UnsupportedSize n)) (if b then ok_or (m' a n) (UnreadableMemory a) else Err (UnsupportedSize n))
  same_number_if true a n = same_there (UnreadableMemory a) (m a n) (m' a n) refl (more.numbers a n)
  same_number_if false a n = same_self (Err (UnsupportedSize n))

  pub same_number : (a n : ℕ) → Same (number_at less a n) (number_at all a n)
  same_number a n = same_number_if (is_sized n && nat_le n size) a n

  pub same_register : (r : Register) → Same (register_in less r) (register_in all r)
  same_register r = same_there (UnknownRegister r) (known rs r.0) (known rs' r.0) refl (are.each r.0)

  -- ---- expressions

  same_effect : (o : StackOperation) (stack : List ℕ) → SameActed (effect less o stack) (effect all o stack)
  same_effect (RegisterOffset r offset) stack =
      acted_then (of_result (register_in less r) stack) (of_result (register_in all r) stack) _ _ (acted_result _ _ stack (same_register r)) (λ v s. acted_self _)
  same_effect (Dereference n) stack =
      acted_then (pop stack) (pop stack) _ _ (acted_self (pop stack))
      (λ a s. acted_then (of_result (number_at less a n) s) (of_result (number_at all a n) s) _ _ (acted_result _ _ s (same_number a n)) (λ v t. acted_self _))
  same_effect o stack = acted_self _

  module _ (expression : Position) where
    same_obey : (place : ℕ) (o : Operation) (stack : List ℕ) → SameActed (obey less expression place o stack) (obey all expression place o stack)
    same_obey place (Stack o) stack = acted_then (effect less o stack) (effect all o stack) _ _ (same_effect o stack) (λ v s. acted_self _)
    same_obey place (Skip d) stack = acted_self _
    same_obey place (Bra d) stack = acted_self _

    same_obey_read : (place : ℕ) (r : Result Operation Error) (stack : List ℕ) → SameActed (obey_read less expression place r stack) (obey_read all expression place r stack)
    same_obey_read place (Ok o) stack = same_obey place o stack
    same_obey_read place (Err e) stack = acted_self _

    same_step : (place : ℕ) (stack : List ℕ) → SameActed (step less expression place stack) (step all expression place stack)
    same_step place stack =
        let read = operation size expression.source place in
        same_obey_read read.place read.value stack

    acted_if : (b : Bool) (act act' : Act ℕ) (stack : List ℕ) → SameActed (act stack) (act' stack) → SameActed ((if b then pop else act) stack) ((if b then pop else act') stack)
    acted_if true act act' stack is = acted_self _
    acted_if false act act' stack is = is

    same_run : (count place : ℕ) (stack : List ℕ) → SameActed (run less expression count place stack) (run all expression count place stack)
    unfolding run
    same_run zero place stack = acted_self _
    same_run (suc count) place stack =
        acted_if (is_end less expression place) _ _ stack
        (acted_then (step less expression place stack) (step all expression place stack) (run less expression count) (run all expression count) (same_step place stack) (λ v s. same_run count v s))

    pub same_value : (initial : Option ℕ) (count : ℕ) → Same (value_of less expression initial count) (value_of all expression initial count)
    same_value None count = record { same = λ whole. ap (λ (x : Acted ℕ). x.value) ((same_run count expression.place []).same whole) }
    same_value (Some n) count = record { same = λ whole. ap (λ (x : Acted ℕ). x.value) ((same_run count expression.place (initial_stack less expression (Some n))).same whole) }
