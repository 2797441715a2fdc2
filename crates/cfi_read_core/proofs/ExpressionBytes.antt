-- The bytes of an expression that lies in a section are there.
use Rattle.std.proofs.Common.{◌≡◌, ◌≤◌, ◌+◌, ◌-◌, ℕ, Bool, true, false, Ok, Err, Result, refl, sym, ap, ◌∙◌, subst, arith}
use Rattle.std.specs.Prelude.{nat_le, if◌then◌else◌}
use borrow.Author.Tests.{leb-true, le-leb}
use Rattle.cfi_read_core.specs.ReadFunctions.{Source, Position, Extent, Outcome, carry_on, skip, split, give, unexpected_eof}
use Rattle.cfi_read_core.specs.declared.error.Error.{Error}
use Rattle.cfi_read_core.specs.ReaderCalls.{IsPartOf, Reads, extent_of, read_at}
use Rattle.cfi_read_core.specs.declared.instruction.UnwindExpression.{UnwindExpression}
use Rattle.cfi_read_core.specs.CallFrameSections.{IsOf}
use Rattle.cfi_read_core.specs.ExpressionPlaces.{LiesIn, place_in, expression_bytes}

-- ---- passing what stands before the bytes, and them

bytes_at : (e : UnwindExpression ℕ) (source : Source) (first : ℕ) → e.offset ≤ source.last - first → e.length ≤ source.last - (first + e.offset) →
    expression_bytes e source first ≡ record { value = Ok (record { first = first + e.offset; last = first + e.offset + e.length }); place = first + e.offset + e.length }
unfolding expression_bytes
bytes_at e source first h k =
    let skipped : nat_le e.offset (source.last - first) ≡ true = le-leb _ _ h in
    let there : nat_le e.length (source.last - (first + e.offset)) ≡ true = le-leb _ _ k in
    rw (skipped, there) refl

-- what a reader that stands as a section gives
pub bytes_read : {there section : Position} (e : UnwindExpression ℕ) {answer : Result Extent Error} {after : ℕ} → there ≡ section → expression_bytes e there.source there.place ≡ record { value = answer; place = after } → answer ≡ read_at section (expression_bytes e)
bytes_read e same is = sym (ap (λ (o : Outcome Extent). o.value) is) ∙ ap (λ (s : Position). (expression_bytes e s.source s.place).value) same

pub skip_refused : (e : UnwindExpression ℕ) (old new : Position) (error : Error) → Reads (λ (x : Unit). x) (skip e.offset) old (Err error) new →
    (expression_bytes e old.source old.place ≡ record { value = Err error; place = new.place }) × (new.source ≡ old.source)
unfolding expression_bytes
skip_refused e old new error read = (ap (λ (o : Outcome Unit). carry_on (λ (x : Unit). split e.length) old.source o.value o.place) read.0, read.1)

pub skip_passed : (e : UnwindExpression ℕ) (old mid new : Position) (answer : Result Extent Error) → Reads (λ (x : Unit). x) (skip e.offset) old (Ok tt) mid →
    (split e.length mid.source mid.place ≡ record { value = answer; place = new.place }) × (new.source ≡ mid.source) →
    (expression_bytes e old.source old.place ≡ record { value = answer; place = new.place }) × (new.source ≡ old.source)
unfolding expression_bytes
skip_passed e old mid new answer first second = (
  ap (λ (o : Outcome Unit). carry_on (λ (x : Unit). split e.length) old.source o.value o.place) first.0
      ∙ ap (λ (s : Source). split e.length s mid.place) (sym first.1)
      ∙ second.0,
  second.1 ∙ first.1,
)

-- a reader that stands as a section in which the bytes lie
pub bytes_are_there : {there section : Position} (e : UnwindExpression ℕ) → there ≡ section → LiesIn section e → (expression_bytes e there.source there.place).value ≡ Ok (place_in section e)
bytes_are_there {there = there} {section = section} e same lies =
    ap (λ (s : Position). (expression_bytes e s.source s.place).value) same
    ∙ ap (λ (o : Outcome Extent). o.value) (bytes_at e section.source section.place (omega (arith, lies.ends)) (omega (arith, lies.ends)))

-- ---- what is split off lies in the section

given_part : (b : Bool) (n p : ℕ) (x : Extent) (after : ℕ) →
    (let o : Outcome Extent = if b then record { value = Ok (record { first = p; last = p + n }); place = p + n } else record { value = Err (unexpected_eof p); place = p } in o ≡ record { value = Ok x; place = after }) →
    (b ≡ true) × (record { first = p; last = p + n } ≡ x)
given_part true n p x after is = (refl, let value = ap (λ (o : Outcome Extent). o.value) is in cc)
given_part false n p x after is = let value = ap (λ (o : Outcome Extent). o.value) is in absurd (cc)

-- n bytes passed, then m split off
passed_then : (source : Source) (n m p : ℕ) → Bool → Outcome Extent
passed_then source n m p b =
    let o : Outcome Extent = if b then record { value = Ok (record { first = p; last = p + n }); place = p + n } else record { value = Err (unexpected_eof p); place = p } in
    let s = carry_on {B = Unit {0}} (λ _. give tt) source o.value o.place in
    carry_on (λ _. split m) source s.value s.place

behind_skip : (source : Source) (n m p : ℕ) (b : Bool) (x : Extent) (after : ℕ) → passed_then source n m p b ≡ record { value = Ok x; place = after } →
    (b ≡ true) × (split m source (p + n) ≡ record { value = Ok x; place = after })
unfolding passed_then
behind_skip source n m p true x after is = (refl, is)
behind_skip source n m p false x after is = let value = ap (λ (o : Outcome Extent). o.value) is in absurd (cc)

bytes_of_section : (section part : Position) (e : UnwindExpression ℕ) (after : ℕ) → section.place ≤ section.source.last →
    expression_bytes e section.source section.place ≡ record { value = Ok (extent_of part); place = after } → IsPartOf part section → IsOf part section
unfolding expression_bytes passed_then
bytes_of_section section part e after ordered is same =
    let passed = behind_skip section.source e.offset e.length section.place (nat_le e.offset (section.source.last - section.place)) (extent_of part) after is in
    let taken = given_part (nat_le e.length (section.source.last - (section.place + e.offset))) e.length (section.place + e.offset) (extent_of part) after passed.1 in
    let room = leb-true _ _ passed.0 in
    let fits = leb-true _ _ taken.0 in
    let first = ap (λ (x : Extent). x.first) taken.1 in
    let last = ap (λ (x : Extent). x.last) taken.1 in
    record { source = same; first = omega arith; last = omega arith }

pub bytes_lie_in : {there section part : Position} (e : UnwindExpression ℕ) {after : ℕ} → there ≡ section → there.place ≤ there.source.last →
    expression_bytes e there.source there.place ≡ record { value = Ok (extent_of part); place = after } → IsPartOf part there → IsOf part section
bytes_lie_in {there = there} {section = section} {part = part} e {after = after} at ordered is same =
    subst (λ (s : Position). IsOf part s) at (bytes_of_section there part e after ordered is same)
