-- The attributes of an event, as they are written (perf_event_open(2), struct perf_event_attr).
use Rattle.std.specs.Prelude.{ℕ, Bool, if◌then◌else◌}
use Rattle.std.specs.Int.{w32, w64}
use Rattle.cfi_read_core.specs.ReadFunctions.{Read, ◌>>=◌, give}
use Rattle.cfi_read_core.specs.Numbers.{unsigned}
use Rattle.cfi_perf.specs.declared.attribute.Attribute.{Attribute}
use Rattle.cfi_perf.specs.declared.attribute.SizedAttribute.{SizedAttribute}
use Rattle.cfi_perf.specs.declared.attribute.SampleFormat.{SampleFormat}
use Rattle.cfi_perf.specs.declared.attribute.Chosen.{Chosen}
use Rattle.cfi_perf.specs.Layouts.{has_any}

-- Bit fields count from the least significant bit of a little-endian number, and from the most
-- significant of a big-endian one; sample_id_all is the one of index 18.
abbrev pub has_sample_id_all : Bool → ℕ → Bool
has_sample_id_all big bits = has_any (if big then 0x200000000000 else 0x40000) bits

unfoldable pub sample_format : Read SampleFormat
sample_format = do
  kind ← unsigned w32
  size ← unsigned w32
  config ← unsigned w64
  sample_period ← unsigned w64
  sample_type ← unsigned w64
  read_format ← unsigned w64
  give (record {
    size = size;
    kind = kind;
    config = config;
    sample_period = sample_period;
    sample_type = sample_type;
    read_format = read_format;
  })

unfoldable pub sample_id_all : Read Bool
sample_id_all = do
  bits ← unsigned w64
  λ source. give (has_sample_id_all source.big_endian bits) source

unfoldable pub chosen : Read Chosen
chosen = do
  wakeup_events ← unsigned w32
  bp_type ← unsigned w32
  config1 ← unsigned w64
  config2 ← unsigned w64
  branch_sample_type ← unsigned w64
  sample_regs_user ← unsigned w64
  give (record { branch_sample_type = branch_sample_type; sample_regs_user = sample_regs_user })

-- the first 88 bytes of an event's attributes, and the size of all
unfoldable pub sized_attribute : Read SizedAttribute
sized_attribute = do
  format ← sample_format
  with_id ← sample_id_all
  chosen' ← chosen
  give (record {
    size = format.size;
    attribute = record {
      kind = format.kind;
      config = format.config;
      layout = record {
        sample_type = format.sample_type;
        sample_period = format.sample_period;
        read_format = format.read_format;
        sample_id_all = with_id;
        branch_sample_type = chosen'.branch_sample_type;
        sample_regs_user = chosen'.sample_regs_user;
      };
    };
  })

unfoldable pub attribute : Read Attribute
attribute = do
  sized ← sized_attribute
  give sized.attribute
