use Rattle.std.proofs.Common.{◌≡◌, Err, ap, rules, true}
use Rattle.cfi_read_core.proofs.Onward.{onward_offset_leb128}
use Rattle.cfi_entry.proofs.Announced.{letters_announced}
use Rattle.cfi_entry.proofs.Within.{behind_of, split_of}
use Rattle.cfi_entry.specs.Augmentations.{Augmentation, no_letters}
use Rattle.cfi_entry.specs.EntryViews.{augmentation_view}
use Rattle.cfi_entry.proofs.augmentation.read_letters_with_data.Goals as goal

pub read_letters-requires : goal.read_letters-requires
read_letters-requires g c =
    let sound = g.met.R.Reader.sound c.read_offset.new.input in
    let whole = behind_of onward_offset_leb128 c.read_offset.ensures c.requires in
    (split_of _ sound.ordered c.in_ok-data.ensures.read.0 c.in_ok-data.ensures.part whole).first

pub returns-in_err-read_letters : goal.returns-in_err-read_letters
returns-in_err-read_letters g c =
    let gives : c.from_residual-in_err-read_letters.result ≡ Err c.in_err-read_letters.field-0.0 = search rules in
    let position = g.R.Reader.position in
    let plain : augmentation_view c.default-known.result ≡ no_letters = search rules in
    rw gives (letters_announced (position c.args.input.now) (position c.read_offset.new.input) (position c.split.new.self) (position c.in_ok-data.data) c.in_ok-length.ensures c.in_ok-data.ensures.read c.in_ok-data.ensures.part _ _
    (ap (λ (known : Augmentation). record known { has_augmentation_data = true }) plain) c.in_err-read_letters.ensures.0)

pub returns : goal.returns
returns g c =
    let position = g.R.Reader.position in
    let plain : augmentation_view c.default-known.result ≡ no_letters = search rules in
    letters_announced (position c.args.input.now) (position c.read_offset.new.input) (position c.split.new.self) (position c.in_ok-data.data) c.in_ok-length.ensures c.in_ok-data.ensures.read c.in_ok-data.ensures.part _ _
    (ap (λ (known : Augmentation). record known { has_augmentation_data = true }) plain) c.in_ok-read_letters.ensures.0
