use Rattle.std.proofs.Common.{◌≡◌, ◌∙◌, ℕ, Option, Ok, Err, ap, refl, rules}
use Rattle.std.specs.Option.{option_map}
use Rattle.cfi_read_core.specs.declared.error.Error.{Error}
use Rattle.cfi_read_core.specs.AddressSizes.{size_in_bytes}
use Rattle.cfi_read_core.specs.ReadFunctions.{Source}
use Rattle.cfi_read_core.specs.ReaderCalls.{map_ok}
use Rattle.cfi_entry.specs.Sections.{Section}
use Rattle.cfi_entry.specs.Prefixes.{Prefix}
use Rattle.cfi_entry.specs.Cies.{Cie}
use Rattle.cfi_parts.specs.declared.pointer.Pointer.{Pointer}
use Rattle.cfi_entry.specs.Fdes.{address_encoding_of, addresses, fde_after, fde_fields, lsda}
use Rattle.cfi_entry.proofs.EntryReads.{onward_addresses, onward_lsda}
use Rattle.cfi_entry.proofs.Within.{behind_of}
use Rattle.cfi_entry.specs.EntryViews.{augmentation_if_any, section_in, cie_view, prefix_view}
use Rattle.cfi_unwind.specs.FdeViews.{fde_view}
use Rattle.cfi_unwind.proofs.entry.fde.read_fde.Goals as goal

-- the addresses are refused
addresses_refused : (section : Section) (found : Prefix) (cie : Cie) {size : ℕ} {encoding : Option ℕ} {source : Source} {e : Error} {place : ℕ} →
    size ≡ cie.address_size → encoding ≡ address_encoding_of cie.augmentation → source ≡ record section.source { last = found.rest.last } →
    addresses section size encoding source found.rest.first ≡ record { value = Err e; place = place } → Err e ≡ fde_after section found cie
unfolding fde_fields
addresses_refused section found cie sized encoded part gives = rw (rw (sized, encoded, part) at gives, fde_after) refl

-- the addresses are read, of a source with the section's bytes, and the data after them is refused
lsda_refused : (section : Section) (found : Prefix) (cie : Cie) {size : ℕ} {encoding : Option ℕ} {source after : Source} {initial range place end : ℕ} {e : Error} →
    size ≡ cie.address_size → encoding ≡ address_encoding_of cie.augmentation → source ≡ record section.source { last = found.rest.last } →
    addresses section size encoding source found.rest.first ≡ record { value = Ok (initial, range); place = place } → after ≡ source →
    lsda section cie.address_size initial cie.augmentation after place ≡ record { value = Err e; place = end } → Err e ≡ fde_after section found cie
unfolding fde_fields
lsda_refused section found cie sized encoded part gives same refuses = rw (rw (sized, encoded, part) at gives, rw (same, part) at refuses, fde_after) refl

-- both are read
fde_read : (section : Section) (found : Prefix) (cie : Cie) {size : ℕ} {encoding : Option ℕ} {source after last : Source} {initial range place end : ℕ} {found_lsda : Option Pointer} →
    size ≡ cie.address_size → encoding ≡ address_encoding_of cie.augmentation → source ≡ record section.source { last = found.rest.last } →
    addresses section size encoding source found.rest.first ≡ record { value = Ok (initial, range); place = place } → after ≡ source →
    lsda section cie.address_size initial cie.augmentation after place ≡ record { value = Ok found_lsda; place = end } → last ≡ after →
    Ok (record { offset = found.offset; length = found.length; cie = cie; initial = initial; range = range; lsda = found_lsda; instructions = record { first = end; last = last.last } }) ≡ fde_after section found cie
unfolding fde_fields
fde_read section found cie sized encoded part gives same reads still = rw (rw (sized, encoded, part) at gives, rw (same, part) at reads, fde_after, still, same, part) refl

pub read_lsda-requires : goal.read_lsda-requires
read_lsda-requires g c =
    let section = section_in g.S._UnwindSectionPrivate.view c.args.at.now in
    behind_of (onward_addresses section (size_in_bytes c.address_size_of-address_size.result) (option_map (λ e. e.0) c.fde_address_encoding-encoding.result)) c.read_addresses.ensures c.requires

pub returns-clause-part : goal.returns-clause-part
returns-clause-part g c =
    let section = section_in g.S._UnwindSectionPrivate.view c.args.at.now in
    let range = behind_of (onward_addresses section (size_in_bytes c.address_size_of-address_size.result) (option_map (λ e. e.0) c.fde_address_encoding-encoding.result)) c.read_addresses.ensures c.requires in
    behind_of (onward_lsda section c.args.cie.now.address_size.bytes c.in_ok-initial_address.initial_address (augmentation_if_any c.args.cie.now.augmentation)) c.read_lsda.ensures range

pub returns-in_err-initial_address-clause-read : goal.returns-in_err-initial_address-clause-read
returns-in_err-initial_address-clause-read g c =
    let gives : c.from_residual.result ≡ Err c.in_err-initial_address.field-0.0 = search rules in
    let position = g.R.Reader.position in
    let number = g.R.Offset.ReaderOffset.number in
    ap (map_ok (fde_view position number)) gives
    ∙ addresses_refused (section_in g.S._UnwindSectionPrivate.view c.args.at.now) (prefix_view position number c.args.found.now) (cie_view position number c.args.cie.now)
    c.address_size_of-address_size.ensures c.fde_address_encoding-encoding.ensures c.requires.source
    (rw c.in_err-initial_address.was at c.read_addresses.ensures.0)

pub returns-in_err-lsda-clause-read : goal.returns-in_err-lsda-clause-read
returns-in_err-lsda-clause-read g c =
    let gives : c.from_residual-in_err-lsda.result ≡ Err c.in_err-lsda.field-0.0 = search rules in
    let position = g.R.Reader.position in
    let number = g.R.Offset.ReaderOffset.number in
    ap (map_ok (fde_view position number)) gives
    ∙ lsda_refused (section_in g.S._UnwindSectionPrivate.view c.args.at.now) (prefix_view position number c.args.found.now) (cie_view position number c.args.cie.now)
    c.address_size_of-address_size.ensures c.fde_address_encoding-encoding.ensures c.requires.source
    (rw c.in_ok-initial_address.was at c.read_addresses.ensures.0) c.read_addresses.ensures.1
    (rw c.in_err-lsda.was at c.read_lsda.ensures.0)

pub returns-clause-read : goal.returns-clause-read
returns-clause-read g c =
    let position = g.R.Reader.position in
    let number = g.R.Offset.ReaderOffset.number in
    fde_read (section_in g.S._UnwindSectionPrivate.view c.args.at.now) (prefix_view position number c.args.found.now) (cie_view position number c.args.cie.now)
    c.address_size_of-address_size.ensures c.fde_address_encoding-encoding.ensures c.requires.source
    (rw c.in_ok-initial_address.was at c.read_addresses.ensures.0) c.read_addresses.ensures.1
    (rw c.in_ok-lsda.was at c.read_lsda.ensures.0) c.read_lsda.ensures.1
