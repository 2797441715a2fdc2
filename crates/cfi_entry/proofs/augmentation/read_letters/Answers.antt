use Rattle.std.proofs.Common.{◌≡◌, ◌∙◌, Err, List, ap, arith, rules, sym, ℕ}
use Rattle.cfi_entry.proofs.EntryReads.{byte_taken, none_taken, fewer_left, letters_end, letters_on, letters_refused, onward_letter}
use Rattle.cfi_entry.proofs.Within.{not_before}
use Rattle.cfi_entry.specs.Augmentations.{letters}
use Rattle.cfi_entry.specs.EntryViews.{augmentation_view, letter_context}
use Rattle.cfi_entry.proofs.augmentation.read_letters.Goals as goal

pub returns-in_err-read_letter : goal.returns-in_err-read_letter
returns-in_err-read_letter g c =
    let pointers = letter_context g.S._UnwindSectionPrivate.view c.args.at.now c.args.address_size in
    let stands = g.R.Reader.position c.loop-byte.input in
    let gives : c.from_residual.result ≡ Err c.in_err-read_letter.field-0.0 = search rules in
    let taken = byte_taken (g.met.R.Reader.sound c.loop-byte.text) c.in-Ok.ensures in
    rw gives (
      sym c.loop-byte.invariant.same ∙ (ap (λ (ls : List ℕ). letters pointers ls (augmentation_view c.loop-byte.known) stands.source stands.place) taken ∙ letters_refused pointers _ _ _ stands _ _ c.in_err-read_letter.ensures.0),
      c.in_err-read_letter.ensures.1 ∙ c.loop-byte.invariant.source,
    )

pub loop-byte-smaller : goal.loop-byte-smaller
loop-byte-smaller g c = fewer_left _ _ (g.met.R.Reader.sound c.loop-byte.text) c.in-Ok.ensures

pub loop-byte-preserved : goal.loop-byte-preserved
loop-byte-preserved g c =
    let pointers = letter_context g.S._UnwindSectionPrivate.view c.args.at.now c.args.address_size in
    let stands = g.R.Reader.position c.loop-byte.input in
    let taken = byte_taken (g.met.R.Reader.sound c.loop-byte.text) c.in-Ok.ensures in
    let behind = not_before (onward_letter pointers c.in-Ok.byte (augmentation_view c.loop-byte.known)) c.in_ok-read_letter.ensures in
    record {
      same =
          sym (letters_on pointers _ _ _ _ stands _ c.in_ok-read_letter.ensures)
          ∙ (ap (λ (ls : List ℕ). letters pointers ls (augmentation_view c.loop-byte.known) stands.source stands.place) (sym taken) ∙ c.loop-byte.invariant.same);
      source = c.in_ok-read_letter.ensures.1 ∙ c.loop-byte.invariant.source;
      behind = omega (arith, c.loop-byte.invariant.behind);
    }

pub returns : goal.returns
returns g c =
    let pointers = letter_context g.S._UnwindSectionPrivate.view c.args.at.now c.args.address_size in (
      sym c.loop-byte.invariant.same ∙ letters_end pointers _ (g.R.Reader.position c.loop-byte.text) _ _ (none_taken _ _ c.in_default.ensures),
      c.loop-byte.invariant.source,
    )
