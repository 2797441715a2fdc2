-- Data whose length stands before it: what is read inside it, and where the reader stands after it.
use Rattle.std.proofs.Common.{◌≡◌, ℕ, true, List, Option, Some, None, Result, Ok, sym, ap, ◌∙◌}
use Rattle.cfi_read_core.specs.declared.error.Error.{Error}
use Rattle.cfi_read_core.specs.ReadFunctions.{Read, Source, Position, Extent, Outcome, ◌>>=◌, carry_on, give, split, within}
use Rattle.cfi_read_core.specs.Numbers.{offset_leb128}
use Rattle.cfi_read_core.specs.ReaderCalls.{IsPartOf, extent_of}
use Rattle.cfi_parts.specs.declared.pointer.Pointer.{Pointer}
use Rattle.cfi_parts.specs.Pointers.{PointerContext, pointer}
use Rattle.cfi_entry.specs.Sections.{Section, pointer_context}
use Rattle.cfi_entry.specs.Augmentations.{Augmentation, no_letters, letters, letters_with_data}
use Rattle.cfi_entry.specs.Fdes.{lsda, lsda_by}

-- the length read at `old`, and the data split off at `at`, where it leaves the reader `behind`
module _ (old at behind inner : Position) {n : ℕ}
    (length : (offset_leb128 old.source old.place ≡ record { value = Ok n; place = at.place }) × (at.source ≡ old.source))
    (taken : (split n at.source at.place ≡ record { value = Ok (extent_of inner); place = behind.place }) × (behind.source ≡ at.source))
    (part : IsPartOf inner at) where
  read_announced : {A : Type 0} (inside : Extent → Read A) → (offset_leb128 >>= λ bytes. split bytes >>= inside) old.source old.place ≡ inside (extent_of inner) at.source behind.place
  read_announced inside =
      ap (λ (o : Outcome ℕ). carry_on (λ bytes. split bytes >>= inside) old.source o.value o.place) length.0
      ∙ (ap (λ (s : Source). (split n >>= inside) s at.place) (sym length.1)
      ∙ ap (λ (o : Outcome Extent). carry_on inside at.source o.value o.place) taken.0)

  pub letters_announced : (context : PointerContext) (ls : List ℕ) {known : Augmentation} {value : Result Augmentation Error} {place : ℕ} → known ≡ record no_letters { has_augmentation_data = true } →
      letters context ls known inner.source inner.place ≡ record { value = value; place = place } →
      (letters_with_data context ls old.source old.place ≡ carry_on (λ k. give (Some k)) at.source value behind.place) × (behind.source ≡ old.source)
  unfolding letters_with_data
  letters_announced context ls {known = known} start gives =
      let give_some : Augmentation → Read (Option Augmentation) = λ k. give (Some k) in
      let begins : Augmentation = record no_letters { has_augmentation_data = true } in (
        read_announced (λ bytes. within bytes (letters context ls begins) >>= give_some)
            ∙ (ap (λ (s : Source). carry_on give_some at.source (letters context ls begins s inner.place).value behind.place) (sym part)
            ∙ (ap (λ (k : Augmentation). carry_on give_some at.source (letters context ls k inner.source inner.place).value behind.place) (sym start)
            ∙ ap (λ (o : Outcome Augmentation). carry_on give_some at.source o.value behind.place) gives)),
        taken.1 ∙ length.1,
      )

  -- the pointer to the language-specific data, and where there is none
  module _ (section : Section) (size initial : ℕ) {meaning : Option Augmentation} {known : Augmentation} (is : meaning ≡ Some known) (has : known.has_augmentation_data ≡ true) where
    lsda_announced : (encoding : Option ℕ) → known.lsda_encoding ≡ encoding →
        lsda section size initial meaning old.source old.place ≡ record { value = (lsda_by section size initial encoding inner.source inner.place).value; place = behind.place }
    lsda_announced encoding encodes =
        rw (is, has, encodes) (
        read_announced (λ bytes. within bytes (lsda_by section size initial encoding))
        ∙ ap (λ (s : Source). record { value = (lsda_by section size initial encoding s inner.place).value; place = behind.place }) (sym part))

    pub no_lsda_announced : known.lsda_encoding ≡ None → (lsda section size initial meaning old.source old.place ≡ record { value = Ok None; place = behind.place }) × (behind.source ≡ old.source)
    no_lsda_announced encodes = (lsda_announced None encodes, taken.1 ∙ length.1)

    pub pointer_announced : {encoding : ℕ} {context : PointerContext} {value : Result Pointer Error} {place : ℕ} → known.lsda_encoding ≡ Some encoding → context ≡ pointer_context section (Some initial) size →
        pointer encoding context inner.source inner.place ≡ record { value = value; place = place } →
        (lsda section size initial meaning old.source old.place ≡ record { value = (carry_on (λ p. give (Some p)) inner.source value place).value; place = behind.place }) × (behind.source ≡ old.source)
    pointer_announced {encoding = encoding} encodes same gives = (
      lsda_announced (Some encoding) encodes
          ∙ ap (λ (o : Outcome Pointer). record { value = (carry_on (λ p. give (Some p)) inner.source o.value o.place).value; place = behind.place })
          (ap (λ (c : PointerContext). pointer encoding c inner.source inner.place) (sym same) ∙ gives),
      taken.1 ∙ length.1,
    )
