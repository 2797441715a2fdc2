-- What the samples of an event have in them (perf_event_open(2), enum perf_event_sample_format).
use Rattle.std.specs.Prelude.{ℕ, Bool, not, ◌&&◌, ◌==◌, bit_and}
use mathlib.Core.Bool.{beq}
use Rattle.cfi_perf.specs.declared.layout.EventLayout.{EventLayout}

abbrev pub PERF_SAMPLE_IP : ℕ
PERF_SAMPLE_IP = 0x1

abbrev pub PERF_SAMPLE_TID : ℕ
PERF_SAMPLE_TID = 0x2

abbrev pub PERF_SAMPLE_TIME : ℕ
PERF_SAMPLE_TIME = 0x4

abbrev pub PERF_SAMPLE_ADDR : ℕ
PERF_SAMPLE_ADDR = 0x8

abbrev pub PERF_SAMPLE_READ : ℕ
PERF_SAMPLE_READ = 0x10

abbrev pub PERF_SAMPLE_CALLCHAIN : ℕ
PERF_SAMPLE_CALLCHAIN = 0x20

abbrev pub PERF_SAMPLE_ID : ℕ
PERF_SAMPLE_ID = 0x40

abbrev pub PERF_SAMPLE_CPU : ℕ
PERF_SAMPLE_CPU = 0x80

abbrev pub PERF_SAMPLE_PERIOD : ℕ
PERF_SAMPLE_PERIOD = 0x100

abbrev pub PERF_SAMPLE_STREAM_ID : ℕ
PERF_SAMPLE_STREAM_ID = 0x200

abbrev pub PERF_SAMPLE_RAW : ℕ
PERF_SAMPLE_RAW = 0x400

abbrev pub PERF_SAMPLE_BRANCH_STACK : ℕ
PERF_SAMPLE_BRANCH_STACK = 0x800

abbrev pub PERF_SAMPLE_REGS_USER : ℕ
PERF_SAMPLE_REGS_USER = 0x1000

abbrev pub PERF_SAMPLE_STACK_USER : ℕ
PERF_SAMPLE_STACK_USER = 0x2000

abbrev pub PERF_SAMPLE_IDENTIFIER : ℕ
PERF_SAMPLE_IDENTIFIER = 0x10000

-- whether one of these bits is set
abbrev pub has_any : ℕ → ℕ → Bool
has_any bits number = not (bit_and number bits == 0)

-- whether the samples have this
abbrev pub has : ℕ → EventLayout → Bool
has bits layout = has_any bits layout.sample_type

abbrev pub same_layout : EventLayout → EventLayout → Bool
same_layout a b =
    (a.sample_type == b.sample_type)
    && ((a.read_format == b.read_format)
    && (beq a.sample_id_all b.sample_id_all
    && ((a.branch_sample_type == b.branch_sample_type)
    && (a.sample_regs_user == b.sample_regs_user))))

-- whether a record says by itself of which of two events it is, before it is read by their layouts
abbrev pub both_identified : EventLayout → EventLayout → Bool
both_identified a b =
    has PERF_SAMPLE_IDENTIFIER a && (has PERF_SAMPLE_IDENTIFIER b
    && beq a.sample_id_all b.sample_id_all)
