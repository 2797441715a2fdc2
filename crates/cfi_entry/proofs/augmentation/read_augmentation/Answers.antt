use Rattle.std.proofs.Common.{◌≡◌, ◌∙◌, Err, None, ne_eqb, rules}
use Rattle.cfi_entry.proofs.EntryReads.{augmentation_announced, augmentation_none, augmentation_plain, byte_taken, none_taken}
use Rattle.cfi_entry.specs.Augmentations.{no_letters}
use Rattle.cfi_entry.specs.EntryViews.{augmentation_if_any, augmentation_view}
use Rattle.cfi_entry.proofs.augmentation.read_augmentation.Goals as goal

pub returns-in_default : goal.returns-in_default
returns-in_default g c =
    let none : augmentation_if_any c.default.result ≡ None = search rules in
    rw none (augmentation_none _ _ _ _ (none_taken _ _ c.in_default.ensures), search rules)

pub returns-then-first-eq122 : goal.returns-then-first-eq122
returns-then-first-eq122 g c =
    let taken = byte_taken (g.met.R.Reader.sound c.args.text) c.in-Ok.ensures in (
      augmentation_announced _ _ _ _ _ _ taken c.if-first-eq122.true ∙ c.read_letters_with_data.ensures.0,
      c.read_letters_with_data.ensures.1,
    )

pub returns-in_err-read_letters : goal.returns-in_err-read_letters
returns-in_err-read_letters g c =
    let gives : c.from_residual.result ≡ Err c.in_err-read_letters.field-0.0 = search rules in
    let taken = byte_taken (g.met.R.Reader.sound c.args.text) c.in-Ok.ensures in
    let plain : augmentation_view c.default-known.result ≡ no_letters = search rules in
    rw gives (augmentation_plain _ _ _ _ _ _ _ _ taken (ne_eqb _ _ c.if-first-eq122.false) (rw plain at c.in_err-read_letters.ensures.0), c.in_err-read_letters.ensures.1)

pub returns : goal.returns
returns g c =
    let taken = byte_taken (g.met.R.Reader.sound c.args.text) c.in-Ok.ensures in
    let plain : augmentation_view c.default-known.result ≡ no_letters = search rules in (
      augmentation_plain _ _ _ _ _ _ _ _ taken (ne_eqb _ _ c.if-first-eq122.false) (rw plain at c.in_ok-read_letters.ensures.0),
      c.in_ok-read_letters.ensures.1,
    )
