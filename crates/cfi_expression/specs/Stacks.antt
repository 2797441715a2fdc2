-- Acting on the stack of a DWARF expression, as a function of the stack (DWARF 5 section 2.5.1). A
-- stack is its entries, the top first.
--     Act A, ◌>>=◌, of_result      an action, one after the other, and one that leaves the stack as
--         it is
--     push, pop, pick      the actions of which all are made
use Rattle.std.specs.Prelude.{◌≡◌, ℕ, List, [], ◌∷◌, length, nat_lt, Result, Ok, Err, ok_or}
use Rattle.std.specs.Prelude.{if◌then◌else◌}
use Rattle.std.specs.List.{slice_get}
use Rattle.cfi_read_core.specs.ReaderCalls.{map_ok}
use Rattle.cfi_expression.specs.declared.error.FrameError.{FrameError}
use Rattle.cfi_expression.specs.declared.error.FrameError.TheVariants.{NotEnoughStackItems}
use Rattle.cfi_expression.specs.declared.error.FrameError.TheVariants.{StackFull}

-- What an action gives: a value or the first error, and the stack after it.
pub record Acted (A : Type 0) : Type 0 where
  pub value : Result A FrameError
  pub stack : List ℕ

abbrev pub Act : Type 0 → Type 0
Act A = List ℕ → Acted A

abbrev pub go_on : {A B : Type 0} → (A → Act B) → Result A FrameError → List ℕ → Acted B
go_on next (Ok x) stack = next x stack
go_on next (Err e) stack = record { value = Err e; stack = stack }

-- one action after the other; one that fails is the last
infixl 10 ◌>>=◌
abbrev pub ◌>>=◌ : {A B : Type 0} → Act A → (A → Act B) → Act B
act >>= next = λ stack. go_on next (act stack).value (act stack).stack

infixl 10 ◌>>◌
abbrev pub ◌>>◌ : {A B : Type 0} → Act A → Act B → Act B
first >> second = first >>= λ _. second

abbrev pub of_result : {A : Type 0} → Result A FrameError → Act A
of_result r = λ stack. record { value = r; stack = stack }

-- the entries that the stack has room for
abbrev pub stack_limit : ℕ
stack_limit = 32

abbrev pub push : ℕ → Act Unit
push entry = λ stack.
    if nat_lt (length stack) stack_limit
    then record { value = Ok tt; stack = entry ∷ stack }
    else record { value = Err StackFull; stack = stack }

abbrev pub pop : Act ℕ
pop [] = record { value = Err NotEnoughStackItems; stack = [] }
pop (entry ∷ stack) = record { value = Ok entry; stack = stack }

-- the entry at an index, which is 0 for the top
abbrev pub pick : List ℕ → ℕ → Result ℕ FrameError
pick stack index = ok_or (slice_get stack index) NotEnoughStackItems

-- ---- calls

-- What a call returned, seen by view, and what it left of the stack, are those of the action.
abbrev pub Acts : {X A : Type 0} → (X → A) → Act A → List ℕ → Result X FrameError → List ℕ → Type 0
Acts view act old answer new = act old ≡ record { value = map_ok view answer; stack = new }
