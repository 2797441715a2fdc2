-- Reads of numbers that the calls of a reader are made of, over plain variables.
use Rattle.std.proofs.Common.{rules, ◌≡◌, ◌≤◌, ◌<◌, ◌+◌, ◌-◌, ℕ, Bool, true, false, Option, Some, Ok, Err, Result, refl, sym, ap, ◌∙◌, arith, inl, inr}
use Rattle.std.proofs.lemmas.Bool.Decides.{nat_tests}
use Rattle.std.specs.Prelude.{nat_le, nat_lt, ◌==◌, if◌then◌else◌}
use Rattle.std.specs.Option.{SomeIff, option_map}
use Rattle.std.specs.Int.{Width, w8, w32, w64}
use Rattle.cfi_read_core.specs.declared.common.Format.{Format}
use Rattle.cfi_read_core.specs.declared.common.Format.TheVariants.{Dwarf32, Dwarf64}
use Rattle.cfi_read_core.specs.declared.common.Register.{Register}
use Rattle.cfi_read_core.specs.declared.error.Error.{Error}
use Rattle.cfi_read_core.specs.declared.error.Error.TheVariants.{UnknownReservedLength, UnsupportedOffset}
use Rattle.cfi_read_core.specs.Addresses.{IsAddressSize, address, address_size, address_width, is_address_size, of_width}
use Rattle.cfi_read_core.specs.Numbers.{InitialLength, initial_length, length_in, register_leb128, register_of, unsigned, unsigned_leb128}
use Rattle.cfi_read_core.specs.Offsets.{difference, offset_up_to}
use Rattle.cfi_read_core.specs.ReadFunctions.{Source, Position, Outcome, Read, carry_on, ◌>>=◌, give, refuse, of_result, skip}
use Rattle.cfi_read_core.specs.ReaderCalls.{Reads, end_position, map_ok, remaining}
use Rattle.cfi_read_core.proofs.Stretches.{has_left}

unmapped : {A : Type 0} (r : Result A Error) → r ≡ map_ok (λ (x : A). x) r
unmapped (Ok x) = refl
unmapped (Err e) = refl

-- ---- initial lengths in the 32-bit format

abbrev length_when : Bool → Format → ℕ → Source → ℕ → Outcome InitialLength
length_when b format n source place =
    let o : Outcome ℕ = (if b then give n else refuse UnsupportedOffset) source place in
    carry_on (λ (length : ℕ). give (let i : InitialLength = record { length = length; format = format } in i)) source o.value o.place

abbrev length_is : Result ℕ Error → Format → Result InitialLength Error
length_is r format = map_ok (λ (length : ℕ). let i : InitialLength = record { length = length; format = format } in i) r

length_by : (b : Bool) (format : Format) (n : ℕ) (source : Source) (place : ℕ) → length_when b format n source place ≡ record { value = length_is (if b then Ok n else Err UnsupportedOffset) format; place = place }
length_by true format n source place = refl
length_by false format n source place = refl

abbrev after_word : ℕ → Read InitialLength
after_word n = if nat_lt n 0xfffffff0 then length_in Dwarf32 n else if n == 0xffffffff then (unsigned w64 >>= length_in Dwarf64) else refuse (UnknownReservedLength n)

below : (m n : ℕ) → m < n → nat_lt m n ≡ true
below m n less = grind (arith, nat_tests)

-- the answer is the length as an offset
pub reads_in_32_bits : (old new : Position) (word n greatest : ℕ) (answer : Result ℕ Error) → old.source.greatest ≡ greatest → Reads (λ (x : ℕ). x) (unsigned w32) old (Ok word) new → word < 0xfffffff0 → n ≡ word → answer ≡ offset_up_to greatest n →
    (initial_length old.source old.place ≡ record { value = length_is answer Dwarf32; place = new.place }) × (new.source ≡ old.source)
unfolding initial_length
reads_in_32_bits old new word n greatest answer most read low same given =
    let offset : answer ≡ offset_up_to old.source.greatest word = rw (same, sym most) at given in (
      ap (λ (o : Outcome ℕ). carry_on after_word old.source o.value o.place) read.0
          ∙ ap (λ (b : Bool). (if b then length_in Dwarf32 word else if word == 0xffffffff then (unsigned w64 >>= length_in Dwarf64) else refuse (UnknownReservedLength word)) old.source new.place) (below word 0xfffffff0 low)
          ∙ length_by (nat_le word old.source.greatest) Dwarf32 word old.source new.place
          ∙ ap (λ (r : Result ℕ Error). let o : Outcome InitialLength = record { value = length_is r Dwarf32; place = new.place } in o) (sym offset),
      read.1,
    )

-- ---- addresses and registers

pub address_read : (size : ℕ) (width : Width) (old new : Position) (answer : Result ℕ Error) → address_width size ≡ Some width → Reads (λ (x : ℕ). x) (unsigned width) old answer new → Reads (λ (x : ℕ). x) (address size) old answer new
unfolding address
address_read size width old new answer is read = (ap (λ (w : Option Width). of_width w size old.source old.place) is ∙ read.0, read.1)

sized_gives : (size : ℕ) → IsAddressSize size → (source : Source) (place : ℕ) → is_address_size (address_width size) size source place ≡ record { value = Ok size; place = place }
sized_gives size (inl one) source place = rw one refl
sized_gives size (inr (inl two)) source place = rw two refl
sized_gives size (inr (inr (inl four))) source place = rw four refl
sized_gives size (inr (inr (inr eight))) source place = rw eight refl

pub address_size_read : (old new : Position) (size : ℕ) → IsAddressSize size → Reads (λ (x : ℕ). x) (unsigned w8) old (Ok size) new → Reads (λ (x : ℕ). x) address_size old (Ok size) new
unfolding address_size
address_size_read old new size sized read = (
  ap (λ (o : Outcome ℕ). carry_on (λ (n : ℕ). is_address_size (address_width n) n) old.source o.value o.place) read.0 ∙ sized_gives size sized old.source new.place,
  read.1,
)

pub register_read : (old new : Position) (n : ℕ) (answer : Result Register Error) → Reads (λ (x : ℕ). x) unsigned_leb128 old (Ok n) new → answer ≡ register_of n → Reads (λ (x : Register). x) register_leb128 old answer new
unfolding register_leb128
register_read old new n answer read is = (
  ap (λ (o : Outcome ℕ). carry_on (λ (k : ℕ). of_result (register_of k)) old.source o.value o.place) read.0
      ∙ ap (λ (r : Result Register Error). let o : Outcome Register = record { value = r; place = new.place } in o) (sym is ∙ unmapped answer),
  read.1,
)

-- ---- places

pub skips_all : (old new : Position) (n : ℕ) (answer : Result Unit Error) → old.place ≤ old.source.last → n ≡ remaining old → Reads (λ (x : Unit). x) (skip n) old answer new → new ≡ end_position old
skips_all old new n answer ordered count read =
    let passed : (skip n old.source old.place).place ≡ old.place + n = rw (has_left n n (remaining old) count (omega arith)) in
    let place : new.place ≡ old.place + n = sym (ap (λ (o : Outcome Unit). o.place) read.0) ∙ passed in
    let last : new.place ≡ old.source.last = omega arith in
    ap (λ (s : Source). let p : Position = record { source = s; place = new.place } in p) read.1
    ∙ ap (λ (k : ℕ). let p : Position = record { source = old.source; place = k } in p) last

pub subtracted : (r : Option ℕ) (a b : ℕ) → SomeIff r (b ≤ a) (a - b) → option_map (λ (n : ℕ). n) r ≡ difference a b
subtracted r a b h = search (rules, nat_tests)

-- a number up to the greatest offset
pub offset_fits : (n m greatest : ℕ) → m ≡ n → n ≤ greatest → Ok m ≡ offset_up_to greatest n
offset_fits n m greatest same low = rw (same, has_left n greatest greatest refl low) refl
