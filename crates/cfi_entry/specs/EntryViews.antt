-- Entries of the code as what they mean: the place of a reader gives its extent, and an offset is a
-- number.
--     position_in, section_in view at      the bytes of a section with its bases, and the section
--         as its entries are read
--     letter_context view at size      how the pointers of the section's CIEs are read
--     prefix_view, augmentation_view, cie_view      the prefix of an entry, an augmentation and a
--         CIE
--     IsPrefixOf, IsCieOf position section      the prefix and the CIE are read from the bytes of
--         the section
use Rattle.std.specs.Prelude.{ℕ, Option, Some, None, if◌then◌else◌}
use Rattle.std.specs.Option.{option_map}
use Rattle.cfi_read_core.specs.ReadFunctions.{Position}
use Rattle.cfi_read_core.specs.ReaderCalls.{extent_of}
use Rattle.cfi_read_core.specs.CallFrameSections.{SectionView, IsOf}
use Rattle.cfi_read_core.specs.AddressSizes.{size_in_bytes}
use Rattle.cfi_read_core.specs.declared.address.AddressSize.{AddressSize}
use Rattle.cfi_parts.specs.Pointers.{PointerContext, pointer_to}
use Rattle.cfi_entry.specs.Sections.{Section, pointer_context, section_of}
use Rattle.cfi_entry.specs.Prefixes.{Prefix}
use Rattle.cfi_entry.specs.Augmentations.{Augmentation as AugmentationMeaning}
use Rattle.cfi_entry.specs.Cies.{Cie}
use Rattle.cfi_entry.specs.declared.in_section.InSection.{InSection}
use Rattle.cfi_entry.specs.declared.prefix.EntryPrefix.{EntryPrefix}
use Rattle.cfi_entry.specs.declared.augmentation.Augmentation.{Augmentation}
use Rattle.cfi_entry.specs.declared.cie.CieFields.{CieFields}

-- ---- a section with the bases of the pointers in its entries

-- its bytes, from the place where it begins
abbrev pub position_in : {S : Type 0} → (S → SectionView) → InSection S → Position
position_in view at = (view at.section).position

abbrev pub section_in : {S : Type 0} → (S → SectionView) → InSection S → Section
section_in view at = section_of (view at.section) at.bases.now

-- how a pointer in the augmentation data of a CIE is read: there is no function to which it could
-- be relative
abbrev pub letter_context :
    {S : Type 0} → (S → SectionView) → InSection S → AddressSize → PointerContext
letter_context view at size = pointer_context (section_in view at) None (size_in_bytes size)

-- ---- prefixes, augmentations, CIEs

abbrev pub prefix_view : {R O : Type 0} → (R → Position) → (O → ℕ) → EntryPrefix R O → Prefix
prefix_view position number p = record {
  offset = number p.offset;
  length = number p.length;
  format = p.format;
  id = p.id;
  id_offset = number p.id_offset;
  rest = extent_of (position p.rest);
}

abbrev pub augmentation_view : Augmentation → AugmentationMeaning
augmentation_view a = record {
  has_augmentation_data = a.has_augmentation_data;
  lsda_encoding = option_map (λ e. e.0) a.lsda_encoding;
  personality = option_map (λ e. (e.0, pointer_to e.0 a.personality)) a.personality_encoding;
  address_encoding = option_map (λ e. e.0) a.fde_address_encoding;
  is_signal_trampoline = a.is_signal_trampoline;
  uses_b_key = a.uses_b_key;
}

-- none where the string has no letter
abbrev pub augmentation_if_any : Augmentation → Option AugmentationMeaning
augmentation_if_any a = if a.has_letters then Some (augmentation_view a) else None

abbrev pub cie_view : {R O : Type 0} → (R → Position) → (O → ℕ) → CieFields R O → Cie
cie_view position number c = record {
  offset = number c.offset;
  length = number c.length;
  format = c.format;
  version = c.version;
  augmentation = augmentation_if_any c.augmentation;
  address_size = size_in_bytes c.address_size;
  code_alignment_factor = c.code_alignment_factor;
  data_alignment_factor = c.data_alignment_factor;
  return_address_register = c.return_address_register;
  initial_instructions = extent_of (position c.initial_instructions);
}

-- ---- what is read from the bytes of a section

-- what is left after the prefix is part of the section
abbrev pub IsPrefixOf : {R O : Type 0} → (R → Position) → Position → EntryPrefix R O → Type 0
IsPrefixOf position section prefix = IsOf (position prefix.rest) section

-- the CIE's instructions are part of the section
abbrev pub IsCieOf : {R O : Type 0} → (R → Position) → Position → CieFields R O → Type 0
IsCieOf position section cie = IsOf (position cie.initial_instructions) section
