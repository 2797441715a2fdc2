-- A law of the definitions: an expression is arithmetic in postfix (DWARF 5 section 2.5.1). What is written out of a tree
-- of operations has the value of the tree, whatever the stack has and whatever follows.
--     Tree, postfix tree      arithmetic of constants, registers and memory, and its operations in order
--     HasValue frame room tree v      the value of the tree, with room for so many entries
--     perform frame operations      the operations one after the other
--     postfix_has_value      the law
use Rattle.std.proofs.Common.{◌≡◌, ◌∙◌, ◌≤◌, ◌<◌, ◌+◌, ◌-◌, ℕ, ℤ, List, [], ◌∷◌, length, Ok, refl, arith}
use Rattle.std.proofs.lemmas.Bool.{lt-ltb}
use Rattle.cfi_read_core.specs.declared.common.Register.{Register}
use Rattle.cfi_expression.specs.declared.operation.UnaryOperation.{UnaryOperation}
use Rattle.cfi_expression.specs.declared.operation.BinaryOperation.{BinaryOperation}
use Rattle.cfi_expression.specs.declared.operation.StackOperation.{StackOperation}
use Rattle.cfi_expression.specs.declared.operation.StackOperation.TheVariants.{Constant, RegisterOffset, Dereference, Unary, Binary}
use Rattle.cfi_expression.specs.Arithmetic.{displaced, low, one_of, two_of}
use Rattle.cfi_expression.specs.Frames.{Frame, number_at, register_in}
use Rattle.cfi_expression.specs.Stacks.{Act, ◌>>◌, of_result, push, stack_limit}
use Rattle.cfi_expression.specs.Evaluation.{effect}

pub data Tree : Type 0 where
  constant : ℕ → Tree
  register : Register → ℤ → Tree
  loaded : ℕ → Tree → Tree
  unary : UnaryOperation → Tree → Tree
  binary : BinaryOperation → Tree → Tree → Tree

abbrev pub postfix_then : Tree → List StackOperation → List StackOperation
postfix_then (constant n) rest = Constant n ∷ rest
postfix_then (register r offset) rest = RegisterOffset r offset ∷ rest
postfix_then (loaded size tree) rest = postfix_then tree (Dereference size ∷ rest)
postfix_then (unary o tree) rest = postfix_then tree (Unary o ∷ rest)
postfix_then (binary o left right) rest = postfix_then left (postfix_then right (Binary o ∷ rest))

abbrev pub postfix : Tree → List StackOperation
postfix tree = postfix_then tree []

module _ (frame : Frame) where
  abbrev pub perform : List StackOperation → Act Unit
  perform [] = of_result (Ok tt)
  perform (o ∷ operations) = effect frame o >> perform operations

  -- the second operand is computed above the first
  abbrev pub HasValue : ℕ → Tree → ℕ → Type 0
  HasValue room (constant n) v = (1 ≤ room) × (v ≡ low frame.size n)
  HasValue room (register r offset) v = (1 ≤ room) × ((base : ℕ) × (register_in frame r ≡ Ok base) × (v ≡ displaced frame.size base offset))
  HasValue room (loaded size tree) v = (a : ℕ) × (n : ℕ) × HasValue room tree a × (number_at frame a size ≡ Ok n) × (v ≡ low frame.size n)
  HasValue room (unary o tree) v = (top : ℕ) × HasValue room tree top × (v ≡ one_of frame.size o top)
  HasValue room (binary o left right) v =
      (second : ℕ) × (top : ℕ) × HasValue room left second × HasValue (room - 1) right top × (two_of frame.size o second top ≡ Ok v)

  some_room : (room : ℕ) (tree : Tree) (v : ℕ) → HasValue room tree v → 1 ≤ room
  some_room room (constant n) v has = has.0
  some_room room (register r offset) v has = has.0
  some_room room (loaded size tree) v has = some_room room tree has.0 has.2
  some_room room (unary o tree) v has = some_room room tree has.0 has.1
  some_room room (binary o left right) v has = some_room room left has.0 has.2

  pushed : (entry : ℕ) (stack : List ℕ) (rest : List StackOperation) → length stack < 32 → (push entry >> perform rest) stack ≡ perform rest (entry ∷ stack)
  pushed entry stack rest room = rw (lt-ltb (length stack) 32 room) refl

  then_rest : (tree : Tree) (room v : ℕ) (stack : List ℕ) (rest : List StackOperation) → HasValue room tree v → length stack + room ≤ 32 →
      perform (postfix_then tree rest) stack ≡ perform rest (v ∷ stack)
  then_rest (constant n) room v stack rest has fits = rw has.1 (pushed (low frame.size n) stack rest (omega (arith, has.0, fits)))
  then_rest (register r offset) room v stack rest has fits =
      rw (has.1.1, has.1.2) (pushed (displaced frame.size has.1.0 offset) stack rest (omega (arith, has.0, fits)))
  then_rest (loaded size tree) room v stack rest has fits =
      then_rest tree room has.0 stack (Dereference size ∷ rest) has.2 fits
      ∙ rw (has.3, has.4) (pushed (low frame.size has.1) stack rest (omega (arith, some_room room tree has.0 has.2, fits)))
  then_rest (unary o tree) room v stack rest has fits =
      then_rest tree room has.0 stack (Unary o ∷ rest) has.1 fits
      ∙ rw has.2 (pushed (one_of frame.size o has.0) stack rest (omega (arith, some_room room tree has.0 has.1, fits)))
  then_rest (binary o left right) room v stack rest has fits =
      let some = some_room room left has.0 has.2 in
      then_rest left room has.0 stack (postfix_then right (Binary o ∷ rest)) has.2 fits
      ∙ then_rest right (room - 1) has.1 (has.0 ∷ stack) (Binary o ∷ rest) has.3 (omega (arith, some, fits))
      ∙ rw has.4 (pushed v stack rest (omega (arith, some, fits)))

  -- on a stack with enough room the expression leaves its value above what was there
  pub postfix_has_value : (tree : Tree) (room v : ℕ) (stack : List ℕ) → HasValue room tree v → length stack + room ≤ stack_limit →
      perform (postfix tree) stack ≡ record { value = Ok tt; stack = v ∷ stack }
  postfix_has_value tree room v stack has fits = then_rest tree room v stack [] has fits
