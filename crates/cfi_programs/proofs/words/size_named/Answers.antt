use Rattle.std.proofs.Common.{◌≡◌, ◌∙◌, ℕ, Bool, true, false, Some, codes, refl, sym, ap, subst}
use Rattle.std.specs.Coded.{Coded-set, coded_bool}
use Rattle.std.specs.Str.{bytes_eq}
use Rattle.cfi_read_core.specs.Addresses.{is_sized}
use Rattle.cfi_read_core.specs.declared.address.AddressSize.{AddressSize}
use Rattle.cfi_programs.proofs.words.size_named.Goals as goal

abbrev sized_as : (n : ℕ) → is_sized n ≡ true → AddressSize
sized_as n is = record { bytes = n; sized = is }

same_tests : (b : Bool) (x y : b ≡ true) → x ≡ y
same_tests b = hlevel (Coded-set coded_bool)

same_size : (a b : ℕ) (x : is_sized a ≡ true) (y : is_sized b ≡ true) → a ≡ b → sized_as a x ≡ sized_as b y
same_size a b x y same = subst (λ (n : ℕ). (z : is_sized n ≡ true) → sized_as a x ≡ sized_as n z) same (λ z. ap (sized_as a) (same_tests (is_sized a) x z)) y

is_size : (size : AddressSize) (n : ℕ) (is : is_sized n ≡ true) → size.bytes ≡ n → Some size ≡ Some (sized_as n is)
is_size size n is same = ap Some (same_size size.bytes n size.sized is same)

pub returns-then-eq : goal.returns-then-eq
returns-then-eq c =
    let one : bytes_eq c.args.word.now (codes "1") ≡ true = sym c.eq.ensures ∙ c.if-eq.true in
    rw one (is_size c.new.result 1 refl c.new.ensures)

pub returns-then-eq-2 : goal.returns-then-eq-2
returns-then-eq-2 c =
    let one : bytes_eq c.args.word.now (codes "1") ≡ false = sym c.eq.ensures ∙ c.if-eq.false in
    let two : bytes_eq c.args.word.now (codes "2") ≡ true = sym c.eq-else-eq.ensures ∙ c.if-eq-2.true in
    rw (one, two) (is_size c.new-then-eq-2.result 2 refl c.new-then-eq-2.ensures)

pub returns-then-eq-3 : goal.returns-then-eq-3
returns-then-eq-3 c =
    let one : bytes_eq c.args.word.now (codes "1") ≡ false = sym c.eq.ensures ∙ c.if-eq.false in
    let two : bytes_eq c.args.word.now (codes "2") ≡ false = sym c.eq-else-eq.ensures ∙ c.if-eq-2.false in
    let four : bytes_eq c.args.word.now (codes "4") ≡ true = sym c.eq-else-eq-2.ensures ∙ c.if-eq-3.true in
    rw (one, two, four) (is_size c.new-then-eq-3.result 4 refl c.new-then-eq-3.ensures)

pub returns-then-eq-4 : goal.returns-then-eq-4
returns-then-eq-4 c =
    let one : bytes_eq c.args.word.now (codes "1") ≡ false = sym c.eq.ensures ∙ c.if-eq.false in
    let two : bytes_eq c.args.word.now (codes "2") ≡ false = sym c.eq-else-eq.ensures ∙ c.if-eq-2.false in
    let four : bytes_eq c.args.word.now (codes "4") ≡ false = sym c.eq-else-eq-2.ensures ∙ c.if-eq-3.false in
    let eight : bytes_eq c.args.word.now (codes "8") ≡ true = sym c.eq-else-eq-3.ensures ∙ c.if-eq-4.true in
    rw (one, two, four, eight) (is_size c.new-then-eq-4.result 8 refl c.new-then-eq-4.ensures)
