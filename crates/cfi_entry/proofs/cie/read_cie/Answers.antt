use Rattle.cfi_read_core.proofs.Onward.{onward_unsigned, onward_unsigned_leb128, onward_signed_leb128}
use Rattle.cfi_entry.proofs.EntryReads.{onward_augmentation, onward_return_register, onward_sizes, onward_text}
use Rattle.cfi_entry.proofs.Within.{behind_of}
use Rattle.cfi_entry.specs.EntryViews.{section_in}
use Rattle.cfi_entry.proofs.cie.read_cie.Goals as goal

pub read_augmentation-requires : goal.read_augmentation-requires
read_augmentation-requires g c =
    let section = section_in g.S._UnwindSectionPrivate.view c.args.at.now in
    let version = behind_of (onward_unsigned _) c.read_u8.ensures c.requires in
    let text = behind_of onward_text c.read_null_terminated_slice.ensures.read version in
    let sizes = behind_of (onward_sizes section c.in_ok-version.version) c.read_sizes.ensures text in
    let code = behind_of onward_unsigned_leb128 c.read_uleb128.ensures sizes in
    let factor = behind_of onward_signed_leb128 c.read_sleb128.ensures code in
    behind_of (onward_return_register c.in_ok-version.version) c.read_return_register.ensures factor

pub returns-clause-part : goal.returns-clause-part
returns-clause-part g c =
    let section = section_in g.S._UnwindSectionPrivate.view c.args.at.now in
    let version = behind_of (onward_unsigned _) c.read_u8.ensures c.requires in
    let text = behind_of onward_text c.read_null_terminated_slice.ensures.read version in
    let sizes = behind_of (onward_sizes section c.in_ok-version.version) c.read_sizes.ensures text in
    let code = behind_of onward_unsigned_leb128 c.read_uleb128.ensures sizes in
    let factor = behind_of onward_signed_leb128 c.read_sleb128.ensures code in
    let register = behind_of (onward_return_register c.in_ok-version.version) c.read_return_register.ensures factor in
    behind_of (onward_augmentation _ _) c.read_augmentation.ensures register
