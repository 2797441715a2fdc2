-- Common information entries (DWARF 5 section 6.4.1; LSB Core, "The Common Information Entry
-- Format").
use Rattle.std.specs.Prelude.{ℕ, ℤ, Bool, not, ◌||◌, Option, None, Result, ◌==◌, if◌then◌else◌}
use Rattle.std.specs.Int.{w8}
use Rattle.cfi_read_core.specs.declared.common.Format.{Format}
use Rattle.cfi_read_core.specs.declared.common.Register.{Register}
use Rattle.cfi_read_core.specs.declared.error.Error.{Error}
use Rattle.cfi_read_core.specs.declared.error.Error.TheVariants.{UnknownVersion}
use Rattle.cfi_read_core.specs.declared.error.Error.TheVariants.{UnsupportedSegmentSize}
use Rattle.cfi_read_core.specs.ReadFunctions.{Read, Extent, ◌>>=◌, ◌>>◌, give, refuse_if, remainder}
use Rattle.cfi_read_core.specs.ReadFunctions.{within}
use Rattle.cfi_read_core.specs.Numbers.{unsigned, unsigned_leb128, signed_leb128, register_leb128}
use Rattle.cfi_read_core.specs.Numbers.{text}
use Rattle.cfi_read_core.specs.Addresses.{address_size}
use Rattle.cfi_entry.specs.Sections.{Section, has_sizes, pointer_context}
use Rattle.cfi_entry.specs.Prefixes.{Prefix}
use Rattle.cfi_entry.specs.Augmentations.{Augmentation, augmentation}

pub record Cie : Type 0 where
  pub offset : ℕ
  pub length : ℕ
  pub format : Format
  pub version : ℕ
  pub augmentation : Option Augmentation  -- none where the text is empty
  pub address_size : ℕ
  pub code_alignment_factor : ℕ
  pub data_alignment_factor : ℤ
  pub return_address_register : Register
  pub initial_instructions : Extent

-- ---- the fields, in order

abbrev pub is_known_version : ℕ → Bool
is_known_version version = version == 1 || (version == 3 || version == 4)

abbrev pub sizes : Section → ℕ → Read ℕ
sizes section version =
    if has_sizes section.kind version
    then (do
      size ← address_size
      segment ← unsigned w8
      refuse_if (not (segment == 0)) (UnsupportedSegmentSize segment)
      give size)
    else give section.address_size

abbrev pub return_register : ℕ → Read Register
return_register version =
    if version == 1 then (unsigned w8 >>= λ n. give (record { 0 = n })) else register_leb128

-- after the id
unfoldable pub cie_fields : Section → Prefix → Read Cie
cie_fields section found = do
  version ← unsigned w8
  refuse_if (not (is_known_version version)) (UnknownVersion version)
  letters ← text
  size ← sizes section version
  code ← unsigned_leb128
  factor ← signed_leb128
  register ← return_register version
  known ← augmentation (pointer_context section None size) letters
  instructions ← remainder
  give (record {
    offset = found.offset;
    length = found.length;
    format = found.format;
    version = version;
    augmentation = known;
    address_size = size;
    code_alignment_factor = code;
    data_alignment_factor = factor;
    return_address_register = register;
    initial_instructions = instructions;
  })

abbrev pub cie_of : Section → Prefix → Result Cie Error
cie_of section found =
    (within found.rest (cie_fields section found) section.source found.rest.first).value
