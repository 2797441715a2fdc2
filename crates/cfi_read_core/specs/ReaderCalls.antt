-- What a reader of the code is, and what its calls return.
use Rattle.std.specs.Prelude.{◌≡◌, ◌≤◌, ◌-◌, ℕ, Bool, List, length, Result, Ok, Err, ok_or}
use Rattle.std.specs.Prelude.{position, ◌==◌, nat_eq}
use mathlib.Core.Bool.{beq}
use Rattle.std.specs.Ordering.{on, eq_of_both}
use Rattle.std.specs.Cmp.{IsEquivalence, IsPartialEquivalence, on_equiv, and_equiv, nat_eq_equiv}
use Rattle.std.specs.Cmp.{bool_eq_equiv, partial_equiv_from_equiv}
use Rattle.std.specs.Cmp.Lexicographic.{pointwise, lists_equiv}
use Rattle.cfi_read_core.specs.declared.error.Error.{Error}
use Rattle.cfi_read_core.specs.ReadFunctions.{Position, Extent, Read, rest, unexpected_eof}

-- A reader's places are in order and within the whole, and every place is an offset.
pub record IsSound (s : Position) : Type 0 where
  pub ordered : s.place ≤ s.source.last
  pub within : s.source.last ≤ length s.source.whole
  pub fits : length s.source.whole ≤ s.source.greatest

-- ---- what is left

-- how many bytes
abbrev pub remaining : Position → ℕ
remaining s = s.source.last - s.place

-- the bytes
abbrev pub bytes_left : Position → List ℕ
bytes_left s = rest s.source s.place

-- where they are
abbrev pub extent_of : Position → Extent
extent_of s = record { first = s.place; last = s.source.last }

-- the reader when all was passed: the place is the old end
abbrev pub end_position : Position → Position
end_position s = record { source = s.source; place = s.source.last }

-- the reader before it read the last byte
abbrev pub one_back : Position → Position
one_back s = record { source = s.source; place = s.place - 1 }

-- ---- readers over bytes

abbrev pub all_of : List ℕ → Bool → ℕ → Position
all_of bytes big greatest = record {
  source = record { whole = bytes; last = length bytes; big_endian = big; greatest = greatest };
  place = 0;
}

-- a reader of the same source with an end of its own
abbrev pub IsPartOf : Position → Position → Type 0
IsPartOf part outer = part.source ≡ record outer.source { last = part.source.last }

-- ---- calls

abbrev pub map_ok : {A B E : Type 0} → (A → B) → Result A E → Result B E
map_ok f (Ok x) = Ok (f x)
map_ok f (Err e) = Err e

-- What a call returned, seen by view, and the place of the reader after it are those of the read.
-- The source stays the same.
abbrev pub Reads : {X A : Type 0} → (X → A) → Read A → Position → Result X Error → Position → Type 0
Reads view read old answer new =
    (read old.source old.place ≡ record { value = map_ok view answer; place = new.place })
    × (new.source ≡ old.source)

-- The same for readers of the code, whose position is given by `position`.
abbrev pub ReadsBy :
    {R X A : Type 0} → (R → Position) → (X → A) → Read A → R → Result X Error → R → Type 0
ReadsBy position view read old answer new = Reads view read (position old) answer (position new)

-- The same for a call that returns the very value that is read.
abbrev pub ReadsValue : {R A : Type 0} → (R → Position) → Read A → R → Result A Error → R → Type 0
ReadsValue position read old answer new = Reads (λ x. x) read (position old) answer (position new)

-- what a read gives at a position
abbrev pub read_at : {A : Type 0} → Position → Read A → Result A Error
read_at position read = (read position.source position.place).value

-- how many bytes are before the first one of this value
abbrev pub find_byte : ℕ → Position → Result ℕ Error
find_byte b s = ok_or (position (λ x. x == b) (bytes_left s)) (unexpected_eof s.place)

-- ---- when two readers are equal: they have the same bytes left, and the same byte order

abbrev pub same_reader : Position → Position → Bool
same_reader = eq_of_both (on bytes_left (pointwise nat_eq)) (on (λ s. s.source.big_endian) beq)

pub same_reader-equiv : IsEquivalence same_reader
same_reader-equiv =
    and_equiv (on_equiv bytes_left (lists_equiv nat_eq_equiv))
    (on_equiv (λ s. s.source.big_endian) bool_eq_equiv)

pub same_reader-per : IsPartialEquivalence same_reader
same_reader-per = partial_equiv_from_equiv same_reader-equiv
