-- The number that eight bytes at a place of the first window make.
use Rattle.std.proofs.Common.{◌∷◌, ◌≡◌, ◌≤◌, ◌+◌, ◌-◌, ◌∙◌, ℕ, ℤ, false, true, List, length, Option, Some, None, IfSome, Ok, refl, subst, sym, ap, arith}
use Rattle.std.specs.Int.{w64}
use Rattle.std.specs.Prelude.{nat_le, slice_range}
use Rattle.std.proofs.lemmas.Bool.Decides.{nat_tests}
use Rattle.cfi_read_core.specs.Addresses.{address}
use Rattle.cfi_read_core.specs.Numbers.{number_of, unsigned}
use Rattle.cfi_read_core.specs.ReadFunctions.{Source, skip}
use Rattle.cfi_read_core.specs.SliceReaders.{slice_over}
use Rattle.cfi_expression.proofs.Cases.{number_there}
use Rattle.cfi_expression.specs.Arithmetic.{displaced}
use Rattle.cfi_expression.specs.Windows.{at_distance, number_in}
use Rattle.cfi_c.specs.declared.first_window.FirstWindow.{FirstWindow}
use Rattle.cfi_c.specs.declared.memory.CfiMemory.{CfiMemory}
use Rattle.cfi_c.specs.declared.memory.CfiWindow.{CfiWindow}
use Rattle.cfi_c.specs.FirstWindows.{HasAt, IsFirstWindow}
use Rattle.std.specs.Option.{option_or}
use Rattle.cfi_c.specs.PassedMemories.{number_in_memory, number_in_windows}

has_left : (count left : ℕ) → count ≤ left → nat_le count left ≡ true
has_left count left room = grind (arith, nat_tests)

module _ (whole : List ℕ) (k : ℕ) (room : k + 8 ≤ length whole) where
  abbrev source : Source
  source = (slice_over whole false).source

  abbrev number : ℕ
  number = number_of w64 false (slice_range whole k (k + 8))

  eight : unsigned w64 source k ≡ record { value = Ok number; place = k + 8 }
  unfolding unsigned
  eight = rw (has_left 8 (length whole - k) (omega (arith, room))) refl

  passed : skip k source 0 ≡ record { value = Ok tt; place = 0 + k }
  passed = rw (has_left k (length whole - 0) (omega (arith, room))) refl

  from_start : unsigned w64 source (0 + k) ≡ record { value = Ok number; place = k + 8 }
  from_start =
      let same : k ≡ 0 + k = omega arith in
      subst (λ (at : ℕ). unsigned w64 source at ≡ record { value = Ok number; place = k + 8 }) same eight

  pub found : k ≤ 18446744073709551615 → at_distance k 8 source 0 ≡ record { value = Ok number; place = k + 8 }
  unfolding address
  found low = rw (has_left k 18446744073709551615 low, passed) from_start

eight_there : (whole : List ℕ) (base k : ℕ) → k + 8 ≤ length whole → k ≤ 18446744073709551615
    → number_in (slice_over whole false) base (base + k) 8 ≡ Some (number_of w64 false (slice_range whole k (k + 8)))
eight_there whole base k room low =
    let there : k ≡ base + k - base = omega arith in
    sym (number_there (slice_over whole false) base (base + k) 8 (omega arith) {after = k + 8}
    (subst (λ (distance : ℕ). at_distance distance 8 (slice_over whole false).source 0 ≡ record { value = Ok (number_of w64 false (slice_range whole k (k + 8))); place = k + 8 }) there (found whole k room low)))

-- it is what is read of the memory
pub first_there : (memory : CfiMemory) (window : CfiWindow) (others : List CfiWindow) (k : ℕ) → memory.address_size ≡ 8 → memory.big_endian ≡ false → memory.windows.now ≡ window ∷ others
    → k + 8 ≤ length window.bytes.now → k ≤ 18446744073709551615
    → (memory.address_size ≡ 8) × (number_in_memory memory (window.base + k) 8 ≡ Some (number_of w64 false (slice_range window.bytes.now k (k + 8))))
first_there memory window others k size little whole room low = (
  size,
  ap (λ windows. number_in_windows memory.big_endian windows (window.base + k) 8) whole
      ∙ ap (λ big. number_in_windows big (window ∷ others) (window.base + k) 8) little
      ∙ ap (λ (o : Option ℕ). option_or o (number_in_windows false others (window.base + k) 8)) (eight_there window.bytes.now window.base k room low),
)

some_then : {X : Type 0} (o : Option X) (P Q : X → Type 0) → ((x : X) → P x → Q x) → IfSome o P → IfSome o Q
some_then None P Q then is = tt
some_then (Some x) P Q then is = then x is

pub read_at : (memory : CfiMemory) (first : FirstWindow) (cfa at : ℕ) (distance : ℤ) (read : Option ℕ) → at ≡ displaced 8 cfa distance → IsFirstWindow memory first → IfSome read (HasAt first at)
    → IfSome read (λ n. number_in_memory memory (displaced memory.address_size cfa distance) memory.address_size ≡ Some n)
read_at memory first cfa at distance read is all =
    some_then read (HasAt first at) (λ n. number_in_memory memory (displaced memory.address_size cfa distance) memory.address_size ≡ Some n)
    (λ n (k, inside, same, number).
    let (size, there) = all k inside in
    subst (λ (s : ℕ). number_in_memory memory (displaced s cfa distance) s ≡ Some n) (sym size)
    (ap (λ (a : ℕ). number_in_memory memory a 8) (sym is ∙ same) ∙ (there ∙ ap Some (sym number))))
