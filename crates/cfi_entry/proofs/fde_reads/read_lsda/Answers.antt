use Rattle.std.proofs.Common.{◌≡◌, Err, ap, arith, rules, sym}
use Rattle.std.specs.Option.{option_map}
use Rattle.cfi_parts.specs.Pointers.{PointerContext}
use Rattle.cfi_read_core.specs.declared.constants.DwEhPe.{DwEhPe}
use Rattle.cfi_read_core.proofs.Onward.{onward_offset_leb128}
use Rattle.cfi_entry.proofs.Announced.{no_lsda_announced, pointer_announced}
use Rattle.cfi_entry.proofs.Within.{behind_of, split_of}
use Rattle.cfi_entry.specs.EntryViews.{section_in}
use Rattle.cfi_entry.proofs.fde_reads.read_lsda.Goals as goal

pub parse_encoded_pointer-requires : goal.parse_encoded_pointer-requires
parse_encoded_pointer-requires g c =
    let sound = g.met.R.Reader.sound c.read_offset.new.input in
    let whole = behind_of onward_offset_leb128 c.read_offset.ensures c.requires in
    let begins = ap (λ (p : PointerContext). p.section) c.pointers_in-parameters.ensures in
    let inside = split_of _ sound.ordered c.in_ok-data.ensures.read.0 c.in_ok-data.ensures.part whole in
    omega (arith, inside.first)

pub returns-in_default-lsda_encoding : goal.returns-in_default-lsda_encoding
returns-in_default-lsda_encoding g c =
    let position = g.R.Reader.position in
    no_lsda_announced (position c.args.input.now) (position c.read_offset.new.input) (position c.split.new.self) (position c.in_ok-data.data) c.in_ok-length.ensures c.in_ok-data.ensures.read c.in_ok-data.ensures.part _ _ _ (sym c.in-Some.ensures) c.if-not-augmentation.false
    (ap (option_map (λ (e : DwEhPe). e.0)) c.in_default-lsda_encoding.is)

pub returns-in_err-parse_encoded_pointer : goal.returns-in_err-parse_encoded_pointer
returns-in_err-parse_encoded_pointer g c =
    let position = g.R.Reader.position in
    let section = section_in g.S._UnwindSectionPrivate.view c.args.at.now in
    let gives : c.from_residual-in_err-parse_encoded_pointer.result ≡ Err c.in_err-parse_encoded_pointer.field-0.0 = search rules in
    rw gives (pointer_announced (position c.args.input.now) (position c.read_offset.new.input) (position c.split.new.self) (position c.in_ok-data.data) c.in_ok-length.ensures c.in_ok-data.ensures.read c.in_ok-data.ensures.part section _ _ (sym c.in-Some.ensures) c.if-not-augmentation.false
    (ap (option_map (λ (e : DwEhPe). e.0)) c.in-Some-lsda_encoding.is) c.pointers_in-parameters.ensures
    c.in_err-parse_encoded_pointer.ensures.0)

pub returns : goal.returns
returns g c =
    let position = g.R.Reader.position in
    let section = section_in g.S._UnwindSectionPrivate.view c.args.at.now in
    pointer_announced (position c.args.input.now) (position c.read_offset.new.input) (position c.split.new.self) (position c.in_ok-data.data) c.in_ok-length.ensures c.in_ok-data.ensures.read c.in_ok-data.ensures.part section _ _ (sym c.in-Some.ensures) c.if-not-augmentation.false
    (ap (option_map (λ (e : DwEhPe). e.0)) c.in-Some-lsda_encoding.is) c.pointers_in-parameters.ensures
    c.in_ok-parse_encoded_pointer.ensures.0
