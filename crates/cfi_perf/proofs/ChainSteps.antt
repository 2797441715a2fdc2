-- The addresses of a context, when the first of the entries is read.
use Rattle.std.proofs.Common.{◌≡◌, ◌<◌, ◌-◌, ℕ, Bool, true, false, List, ◌∷◌, Ok, ap, ◌∙◌}
use Rattle.std.specs.Prelude.{◌==◌, if◌then◌else◌, nat_le}
use Rattle.std.specs.Int.{w64}
use Rattle.std.proofs.lemmas.Bool.{lt-leb}
use Rattle.cfi_read_core.specs.ReadFunctions.{Position}
use Rattle.cfi_read_core.specs.Numbers.{unsigned}
use Rattle.cfi_perf.specs.CallChains.{PERF_CONTEXT_MAX, in_context}
use Rattle.cfi_perf.specs.ByteReads.{entries}
use Rattle.cfi_perf.proofs.EntrySteps.{first_read}

abbrev pub after : ℕ → ℕ → ℕ → Position → List ℕ
after wanted context count now = in_context wanted context (entries count (unsigned w64) now.source now.place)

module _ (wanted context count entry : ℕ) (old new : Position) (some : 0 < count)
    (gives : (unsigned w64 old.source old.place ≡ record { value = Ok entry; place = new.place }) × (new.source ≡ old.source)) where
  abbrev others : List ℕ
  others = entries (count - 1) (unsigned w64) new.source new.place

  read : entries count (unsigned w64) old.source old.place ≡ entry ∷ others
  read = first_read count (unsigned w64) old new entry some gives

  pub context_read : nat_le PERF_CONTEXT_MAX entry ≡ true → after wanted context count old ≡ after wanted entry (count - 1) new
  context_read is =
      ap (in_context wanted context) read
      ∙ ap (λ (b : Bool). if b then in_context wanted entry others else if context == wanted then entry ∷ in_context wanted context others else in_context wanted context others) is

  address_read : (b : Bool) → nat_le PERF_CONTEXT_MAX entry ≡ false → (context == wanted) ≡ b → after wanted context count old ≡ (if b then entry ∷ after wanted context (count - 1) new else after wanted context (count - 1) new)
  address_read b is same =
      ap (in_context wanted context) read
      ∙ (ap (λ (b : Bool). if b then in_context wanted entry others else if context == wanted then entry ∷ in_context wanted context others else in_context wanted context others) is
      ∙ ap (λ (b : Bool). if b then entry ∷ in_context wanted context others else in_context wanted context others) same)

  pub wanted_read : nat_le PERF_CONTEXT_MAX entry ≡ false → (context == wanted) ≡ true → after wanted context count old ≡ entry ∷ after wanted context (count - 1) new
  wanted_read is same = address_read true is same

  pub other_read : nat_le PERF_CONTEXT_MAX entry ≡ false → (context == wanted) ≡ false → after wanted context count old ≡ after wanted context (count - 1) new
  other_read is other = address_read false is other

pub above : (least entry : ℕ) → entry < least → nat_le least entry ≡ false
above least entry below = lt-leb least entry below
