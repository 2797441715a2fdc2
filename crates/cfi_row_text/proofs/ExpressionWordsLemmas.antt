-- The operations of an expression, one after the other, and the bytes of one.
use Rattle.std.proofs.Common.{◌≡◌, ◌≢◌, ◌-◌, ◌+◌, ◌<◌, ℕ, zero, suc, Bool, true, false, List, [], ◌∷◌, ◌++◌, Option, Some, None, Result, Ok, Err, refl, sym, ap, ◌∙◌, subst, arith, length}
use Rattle.std.specs.Prelude.{◌==◌, if◌then◌else◌}
use Rattle.std.specs.Int.{w8}
use Rattle.cfi_read_core.specs.declared.error.Error.{Error}
use Rattle.cfi_read_core.specs.Numbers.{unsigned}
use Rattle.cfi_read_core.specs.ReadFunctions.{Source, Position, Outcome, rest}
use Rattle.cfi_read_core.specs.ReaderCalls.{IsSound, Reads, bytes_left, map_ok, remaining}
use Rattle.cfi_read_core.proofs.Leb128.{byte_there, no_byte_there}
use Rattle.cfi_text.specs.declared.register_names.RegisterNames.{RegisterNames}
use Rattle.cfi_row_text.specs.OperationReads.{operation}
use Rattle.cfi_row_text.specs.declared.operation_reader.Operation.{Operation}
use Rattle.cfi_row_text.specs.ExpressionWords.{operation_comma, known_operation, operation_then, operation_text, unknown_text, words_from}

-- ---- a byte that is read

module _ (old new : Position) (sound : IsSound old) where
  -- it is the first of those that were left
  pub byte_first : (b : ℕ) → Reads (λ (x : ℕ). x) (unsigned w8) old (Ok b) new → bytes_left old ≡ b ∷ bytes_left new
  byte_first b read =
      let value : (unsigned w8 old.source old.place).value ≡ Ok b = ap (λ (o : Outcome ℕ). o.value) read.0 in
      let there = byte_there old.source old.place b sound.within value in
      let place : new.place ≡ old.place + 1 = sym (ap (λ (o : Outcome ℕ). o.place) read.0) ∙ there.1 in
      there.0 ∙ ap (λ (p : ℕ). b ∷ rest old.source p) (sym place) ∙ ap (λ (s : Source). b ∷ rest s new.place) (sym read.1)

  -- none were left
  pub no_bytes : (e : Error) → Reads (λ (x : ℕ). x) (unsigned w8) old (Err e) new → bytes_left old ≡ []
  no_bytes e read = (no_byte_there old.source old.place e (ap (λ (o : Outcome ℕ). o.value) read.0)).0

pub fewer_bytes : (b : ℕ) (more less : List ℕ) → more ≡ b ∷ less → length less < length more
fewer_bytes b more less is = rw is (omega arith)

-- ---- the operations

module _ (names : RegisterNames) (size : ℕ) (source : Source) (input : Position) (same : input.source ≡ source) where
  ends : (b : Bool) → (remaining input == 0) ≡ b → ((source.last - input.place) == 0) ≡ b
  ends b h = ap (λ (s : Source). (s.last - input.place) == 0) (sym same) ∙ h

  abbrev words_behind : ℕ → ℕ → List ℕ
  words_behind n place = words_from names size n source place false

  pub none_left : (left : ℕ) (is_first : Bool) → (remaining input == 0) ≡ true → words_from names size left source input.place is_first ≡ []
  unfolding words_from
  none_left zero is_first h = refl
  none_left (suc n) is_first h =
      ap (λ (b : Bool). if b then [] else operation_then names is_first (known_operation (operation size source input.place).value) (rest source input.place) (words_behind n (operation size source input.place).place)) (ends true h)

  pub no_turn : (left : ℕ) (is_first : Bool) → left ≡ 0 → words_from names size left source input.place is_first ≡ []
  unfolding words_from
  no_turn zero is_first none = refl
  no_turn (suc n) is_first none = absurd (cc)

  same_known : (answer : Result Operation Error) → known_operation (map_ok (λ (x : Operation). x) answer) ≡ known_operation answer
  same_known (Ok o) = refl
  same_known (Err e) = refl

  module _ (left : ℕ) (is_first : Bool) (answer : Result Operation Error) (after : ℕ) (more : (remaining input == 0) ≡ false) (some : left ≢ 0)
      (read : operation size input.source input.place ≡ record { value = map_ok (λ (x : Operation). x) answer; place = after }) where
    there : operation size source input.place ≡ record { value = map_ok (λ (x : Operation). x) answer; place = after }
    there = ap (λ (s : Source). operation size s input.place) (sym same) ∙ read

    turn : (n : ℕ) → n ≢ 0 → words_from names size n source input.place is_first ≡ operation_then names is_first (known_operation answer) (rest source input.place) (words_behind (n - 1) after)
    unfolding words_from
    turn zero none = absurd (none refl)
    turn (suc n) none =
        let less : suc n - 1 ≡ n = omega arith in
        rw less
        (ap (λ (b : Bool). if b then [] else operation_then names is_first (known_operation (operation size source input.place).value) (rest source input.place) (words_behind n (operation size source input.place).place)) (ends false more)
        ∙ ap (λ (o : Outcome Operation). operation_then names is_first (known_operation o.value) (rest source input.place) (words_behind n o.place)) there
        ∙ ap (λ (k : Option Operation). operation_then names is_first k (rest source input.place) (words_behind n after)) (same_known answer))

    pub known_next : (o : Operation) → known_operation answer ≡ Some o → words_from names size left source input.place is_first ≡ (operation_comma is_first ++ operation_text names o) ++ words_behind (left - 1) after
    known_next o is = turn left some ∙ ap (λ (k : Option Operation). operation_then names is_first k (rest source input.place) (words_behind (left - 1) after)) is

    pub unknown_next : known_operation answer ≡ None → words_from names size left source input.place is_first ≡ operation_comma is_first ++ unknown_text (bytes_left input)
    unknown_next is =
        turn left some ∙ ap (λ (k : Option Operation). operation_then names is_first k (rest source input.place) (words_behind (left - 1) after)) is
        ∙ ap (λ (s : Source). operation_comma is_first ++ unknown_text (rest s input.place)) (sym same)
