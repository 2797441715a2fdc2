use Rattle.std.proofs.Common.{◌≢◌, arith, ap, refl, rules}
use Rattle.cfi_parts.specs.Pointers.{PointerContext}
use Rattle.cfi_entry.proofs.EntryReads.{letter_of_addresses, letter_of_personality, letter_unannounced, onward_encoding_byte}
use Rattle.cfi_entry.specs.EntryViews.{augmentation_view, letter_context}
use Rattle.cfi_entry.proofs.Within.{not_before}
use Rattle.cfi_entry.proofs.augmentation.read_letter.Goals as goal

pub parse_encoded_pointer-requires : goal.parse_encoded_pointer-requires
parse_encoded_pointer-requires g c =
    let begins = ap (λ (p : PointerContext). p.section) c.pointers_in-parameters.ensures in
    let behind = not_before onward_encoding_byte c.parse_pointer_encoding-in-80.ensures in
    omega (arith, c.requires)

pub returns-in_ok-personality-in-80 : goal.returns-in_ok-personality-in-80
returns-in_ok-personality-in-80 g c =
    let context = letter_context g.S._UnwindSectionPrivate.view c.args.at.now c.args.address_size in
    let position = g.R.Reader.position in
    letter_of_personality context c.args.byte (augmentation_view c.args.known.now) (position c.args.input.now) (position c.parse_pointer_encoding-in-80.new.input) (position c.parse_encoded_pointer.new.input) c.in-80.is c.if-not-known.false
    c.in_ok-encoding-in-80.ensures c.pointers_in-parameters.ensures c.in_ok-personality-in-80.ensures c.pointer-known.ensures

pub returns-in_default : goal.returns-in_default
returns-in_default g c =
    let no_trampoline : c.args.byte ≢ 83 = search rules in
    let no_key : c.args.byte ≢ 66 = search rules in
    let context = letter_context g.S._UnwindSectionPrivate.view c.args.at.now c.args.address_size in
    let here = g.R.Reader.position c.args.input.now in
    (letter_unannounced context c.args.byte (augmentation_view c.args.known.now) here.source here.place no_trampoline no_key c.if-not-known.true, refl)

pub returns-in_ok-parse_pointer_encoding-in-82 : goal.returns-in_ok-parse_pointer_encoding-in-82
returns-in_ok-parse_pointer_encoding-in-82 g c =
    let context = letter_context g.S._UnwindSectionPrivate.view c.args.at.now c.args.address_size in
    let here = g.R.Reader.position c.args.input.now in
    let read = c.in_ok-parse_pointer_encoding-in-82.ensures in
    (letter_of_addresses context c.args.byte (augmentation_view c.args.known.now) here.source here.place c.in-82.is c.if-not-known.false read.0, read.1)
