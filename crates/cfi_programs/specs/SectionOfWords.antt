-- The section that words and bytes mean, with its header.
use Rattle.std.specs.Prelude.{ℕ, Option, List, option_map}
use Rattle.cfi_read_core.specs.AddressSizes.{size_in_bytes}
use Rattle.cfi_parts.specs.declared.pointer.BaseAddresses.{BaseAddresses}
use Rattle.gimli_cfi.specs.SectionSources.{GivenSection}
use Rattle.cfi_programs.specs.declared.words.SectionWords.{SectionWords}

-- the bytes of the header, where it has an address
abbrev pub header_of_words : SectionWords → List ℕ → Option (List ℕ)
header_of_words words bytes = option_map (λ address. bytes) words.header

-- section= and header= are where the sections lie, data= is the base of data, text= that of text.
-- In the header data is relative to the header itself.
abbrev pub bases_of : SectionWords → BaseAddresses
bases_of words = record {
  eh_frame_hdr = record { section = words.header; text = words.text; data_base = words.header };
  eh_frame = record { section = words.section; text = words.text; data_base = words.data_base };
}

abbrev pub given_by : SectionWords → List ℕ → List ℕ → GivenSection
given_by words bytes header = record {
  kind = words.kind;
  endian = words.endian;
  address_size = size_in_bytes words.address_size;
  vendor = words.vendor;
  bases = bases_of words;
  bytes = bytes;
  header = header_of_words words header;
}
