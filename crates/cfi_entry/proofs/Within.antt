-- Readers that go on in a section are of the section, and so are those that are split off.
use Rattle.std.proofs.Common.{◌≡◌, ◌≤◌, ◌+◌, ◌-◌, ℕ, Bool, true, false, Result, Ok, Err, refl, sym, ap, ◌∙◌, arith}
use Rattle.std.specs.Prelude.{nat_le, if◌then◌else◌}
use borrow.Author.Tests.{leb-true}
use Rattle.cfi_read_core.specs.declared.error.Error.{Error}
use Rattle.cfi_read_core.specs.ReadFunctions.{Read, Source, Position, Extent, Outcome, split}
use Rattle.cfi_read_core.specs.ReaderCalls.{IsPartOf, extent_of}
use Rattle.cfi_read_core.proofs.Onward.{IsOnward}
use Rattle.cfi_read_core.specs.CallFrameSections.{IsOf}

-- a reader of the same end that stands no earlier
pub further_of : {old new section : Position} → old.place ≤ new.place → new.source ≡ old.source → IsOf old section → IsOf new section
further_of {old = old} {new = new} {section = section} later same is = record {
  source = same ∙ (is.source ∙ ap (λ (s : Source). record section.source { last = s.last }) (sym same));
  first = omega (arith, is.first);
  last = let ends : new.source.last ≡ old.source.last = ap (λ (s : Source). s.last) same in omega (arith, is.last);
}

pub not_before : {A : Type 0} {read : Read A} {old new : Position} {v : Result A Error} → IsOnward read →
    (read old.source old.place ≡ record { value = v; place = new.place }) × (new.source ≡ old.source) → old.place ≤ new.place
not_before {A = A} {read = read} {old = old} {new = new} onward (gives, same) =
    let after : old.place ≤ (read old.source old.place).place = onward.after old.source old.place in
    let place : (read old.source old.place).place ≡ new.place = ap (λ (o : Outcome A). o.place) gives in
    omega arith

-- after a read
pub behind_of : {A : Type 0} {read : Read A} {old new section : Position} {v : Result A Error} → IsOnward read →
    (read old.source old.place ≡ record { value = v; place = new.place }) × (new.source ≡ old.source) → IsOf old section → IsOf new section
behind_of {A = A} {read = read} {old = old} {new = new} onward (gives, same) is =
    further_of (not_before {read = read} {old = old} {new = new} onward (gives, same)) same is

split_at : (b : Bool) (n place : ℕ) (x y : Extent) (e : Error) → (let o : Outcome Extent = if b then record { value = Ok x; place = place + n } else record { value = Err e; place = place } in o).value ≡ Ok y → (b ≡ true) × (x ≡ y)
split_at true n place x y e is = (refl, cc)
split_at false n place x y e is = absurd (cc)

-- split off a reader
pub split_of : {old part section : Position} (n : ℕ) {place : ℕ} → old.place ≤ old.source.last → split n old.source old.place ≡ record { value = Ok (extent_of part); place = place } → IsPartOf part old → IsOf old section → IsOf part section
split_of {old = old} {part = part} {section = section} n ordered is same whole =
    let found = split_at (nat_le n (old.source.last - old.place)) n old.place (record { first = old.place; last = old.place + n }) (extent_of part) _ (ap (λ (o : Outcome Extent). o.value) is) in
    let fits : n ≤ old.source.last - old.place = leb-true _ _ found.0 in
    let first : old.place ≡ part.place = ap (λ (x : Extent). x.first) found.1 in
    let last : old.place + n ≡ part.source.last = ap (λ (x : Extent). x.last) found.1 in
    record {
      source = same ∙ ap (λ (s : Source). record s { last = part.source.last }) whole.source;
      first = omega (arith, whole.first);
      last = omega (arith, whole.last);
    }
