-- Samples, field by field (perf_event_open(2), PERF_RECORD_SAMPLE).
use Rattle.std.specs.Result.{result_ok}
use Rattle.std.specs.Prelude.{ℕ, ◌+◌, ◌*◌, ◌^◌, ◌/◌, ◌%◌, Bool, not, List, [], drop, take, Option}
use Rattle.std.specs.Prelude.{Some, None, Result, Ok, Err, count_ones, bit_and, option_map, ◌==◌}
use Rattle.std.specs.Prelude.{◌&&◌, ◌∷◌, if◌then◌else◌}
use Rattle.std.specs.Option.{option_map_or}
use Rattle.std.specs.Int.{w32, w64}
use Rattle.cfi_read_core.specs.ByteOrder.{is_big}
use Rattle.cfi_read_core.specs.ReadFunctions.{Read, ◌>>=◌, give}
use Rattle.cfi_read_core.specs.Numbers.{unsigned}
use Rattle.cfi_perf.specs.declared.layout.EventLayout.{EventLayout}
use Rattle.cfi_perf.specs.declared.sample.Sample.{Sample as SampleOfCode}
use Rattle.cfi_perf.specs.declared.sample.UserState.{UserState as UserStateOfCode}
use Rattle.cfi_perf.specs.declared.sample.UserRegisters.{UserRegisters as UserRegistersOfCode}
use Rattle.cfi_perf.specs.declared.sample_fields.Thread.{Thread}
use Rattle.cfi_perf.specs.declared.sample_fields.SampleNumbers.{SampleNumbers}
use Rattle.cfi_perf.specs.declared.sample_fields.LaterNumbers.{LaterNumbers}
use Rattle.cfi_perf.specs.declared.sample_fields.TimedSample.{TimedSample as TimedSampleOfCode}
use Rattle.cfi_perf.specs.EventTables.{ProfileEvent}
use Rattle.cfi_perf.specs.CallChains.{PERF_CONTEXT_KERNEL, PERF_CONTEXT_USER, chain_view}
use Rattle.cfi_perf.specs.CallChains.{in_context}
use Rattle.cfi_perf.specs.ByteReads.{numbers_of}
use Rattle.cfi_perf.specs.ByteReads.{item_bytes, read_from}
use Rattle.cfi_perf.specs.Layouts.{has, has_any, PERF_SAMPLE_IP, PERF_SAMPLE_TID, PERF_SAMPLE_TIME}
use Rattle.cfi_perf.specs.Layouts.{PERF_SAMPLE_ADDR, PERF_SAMPLE_READ, PERF_SAMPLE_CALLCHAIN}
use Rattle.cfi_perf.specs.Layouts.{PERF_SAMPLE_ID, PERF_SAMPLE_CPU, PERF_SAMPLE_PERIOD}
use Rattle.cfi_perf.specs.Layouts.{PERF_SAMPLE_STREAM_ID, PERF_SAMPLE_RAW, PERF_SAMPLE_BRANCH_STACK}
use Rattle.cfi_perf.specs.Layouts.{PERF_SAMPLE_REGS_USER, PERF_SAMPLE_STACK_USER}
use Rattle.cfi_perf.specs.Layouts.{PERF_SAMPLE_IDENTIFIER}

-- ---- what a sample is

-- The registers of user space: one number of eight bytes for each bit of the mask that is set, in
-- their order.
pub record UserRegisters : Type 0 where
  pub abi : ℕ
  pub mask : ℕ
  pub values : List ℕ
  pub big_endian : Bool

pub record UserState : Type 0 where
  pub registers : Option UserRegisters
  pub stack : List ℕ

pub record Sample : Type 0 where
  pub pid : ℕ
  pub tid : ℕ
  pub ip : ℕ
  pub cpu : Option ℕ
  pub period : ℕ
  pub event : List ℕ  -- the name of its event
  pub in_kernel : Bool  -- whether its instruction is the kernel's
  pub call_chain : Option (List ℕ)
  pub copies_stack : Bool  -- whether its event has registers and a copy of the stack
  pub user : UserState

-- whether the mask has the bit of a number
abbrev pub has_register : UserRegisters → ℕ → Bool
has_register registers number = not ((registers.mask / 2 ^ number) % 2 == 0)

-- the register of a number: as many values stand before it as bits are set below its own
abbrev pub sampled_register : UserRegisters → ℕ → Option ℕ
sampled_register registers number =
    if has_register registers number
    then result_ok
    (read_from registers.big_endian
    (drop (8 * count_ones (registers.mask % 2 ^ number)) registers.values) (unsigned w64))
    else None

-- what these are in the code
abbrev pub registers_view : UserRegistersOfCode → UserRegisters
registers_view registers = record {
  abi = registers.abi;
  mask = registers.mask;
  values = registers.values.now;
  big_endian = is_big registers.endian;
}

abbrev pub user_view : UserStateOfCode → UserState
user_view user =
    record { registers = option_map registers_view user.registers; stack = user.stack.now }

abbrev pub sample_view : SampleOfCode → Sample
sample_view sample = record {
  pid = sample.pid;
  tid = sample.tid;
  ip = sample.ip;
  cpu = sample.cpu;
  period = sample.period;
  event = sample.event.now;
  in_kernel = sample.in_kernel;
  call_chain = option_map chain_view sample.call_chain;
  copies_stack = sample.copies_stack;
  user = user_view sample.user;
}

-- ---- the frames that a sample itself has

-- those of its call chain in a context, or else of its instruction, if that is there
abbrev pub frames_in : ℕ → Bool → Sample → List ℕ
frames_in context is_there s =
    option_map_or (in_context context PERF_CONTEXT_USER) s.call_chain
    (if is_there then s.ip ∷ [] else [])

abbrev pub kernel_frames : Sample → List ℕ
kernel_frames s = frames_in PERF_CONTEXT_KERNEL s.in_kernel s

abbrev pub user_frames : Sample → List ℕ
user_frames s = frames_in PERF_CONTEXT_USER (not s.in_kernel) s

-- ---- fields that a sample may have

-- a number of eight bytes, or 0 where there is none
abbrev pub number_if : Bool → Read ℕ
number_if is_there = if is_there then unsigned w64 else give 0

unfoldable pub thread : Read Thread
thread = do
  pid ← unsigned w32
  tid ← unsigned w32
  give (record { pid = pid; tid = tid })

abbrev pub thread_if : Bool → Read Thread
thread_if is_there = if is_there then thread else give (record { pid = 0; tid = 0 })

-- ---- the fields up to the time

unfoldable pub sample_numbers : EventLayout → Read SampleNumbers
sample_numbers layout = do
  identifier ← number_if (has PERF_SAMPLE_IDENTIFIER layout)
  ip ← number_if (has PERF_SAMPLE_IP layout)
  thread' ← thread_if (has PERF_SAMPLE_TID layout)
  time ← number_if (has PERF_SAMPLE_TIME layout)
  give (record { ip = ip; thread = thread'; time = time })

-- ---- the numbers after the time, up to the counts

-- the processor, and four bytes that say nothing
unfoldable pub processor : Read ℕ
processor = do
  cpu ← unsigned w32
  res ← unsigned w32
  give cpu

abbrev pub processor_if : Bool → Read (Option ℕ)
processor_if is_there = if is_there then processor >>= (λ cpu. give (Some cpu)) else give None

-- where a sample doesn't say how many events it stands for, its event's attributes do
abbrev pub period_of : EventLayout → Read ℕ
period_of layout =
    if has PERF_SAMPLE_PERIOD layout then unsigned w64 else give layout.sample_period

unfoldable pub later_numbers : EventLayout → Read LaterNumbers
later_numbers layout = do
  addr ← number_if (has PERF_SAMPLE_ADDR layout)
  id ← number_if (has PERF_SAMPLE_ID layout)
  stream_id ← number_if (has PERF_SAMPLE_STREAM_ID layout)
  cpu ← processor_if (has PERF_SAMPLE_CPU layout)
  period ← period_of layout
  give (record { cpu = cpu; period = period })

-- ---- the lists up to the registers, of which the call chain is kept

-- one count, or several under PERF_FORMAT_GROUP (8): each value has an id (PERF_FORMAT_ID, 4) and a
-- count of lost samples (PERF_FORMAT_LOST, 16) if these are chosen; the times (1 and 2) stand once
unfoldable pub group_values : ℕ → Read Unit
group_values format = do
  count ← unsigned w64
  times ← item_bytes (count_ones (bit_and format 0x3)) 8
  values ← item_bytes count (8 * (1 + count_ones (bit_and format 0x14)))
  give tt

unfoldable pub single_value : ℕ → Read Unit
single_value format = do
  value ← item_bytes (1 + count_ones (bit_and format 0x17)) 8
  give tt

abbrev pub read_values : EventLayout → Read Unit
read_values layout =
    if has PERF_SAMPLE_READ layout
    then
    (if has_any 0x8 layout.read_format
    then group_values layout.read_format
    else single_value layout.read_format)
    else give tt

-- a count, and as many numbers
unfoldable pub call_chain : Read (List ℕ)
call_chain = do
  count ← unsigned w64
  addresses ← item_bytes count 8
  λ source. give (numbers_of source.big_endian addresses) source

abbrev pub call_chain_if : Bool → Read (Option (List ℕ))
call_chain_if is_there = if is_there then call_chain >>= (λ chain. give (Some chain)) else give None

-- a size, and as many bytes
unfoldable pub raw_data : Read Unit
raw_data = do
  size ← unsigned w32
  bytes ← item_bytes size 1
  give tt

-- PERF_SAMPLE_BRANCH_HW_INDEX is 1 << 17; PERF_SAMPLE_BRANCH_COUNTERS is 1 << 19: another eight
-- bytes for each branch
abbrev pub branch_size : ℕ → ℕ
branch_size chosen = if has_any 0x80000 chosen then 32 else 24

unfoldable pub branch_stack : ℕ → Read Unit
branch_stack chosen = do
  count ← unsigned w64
  hw_idx ← number_if (has_any 0x20000 chosen)
  branches ← item_bytes count (branch_size chosen)
  give tt

abbrev pub passed_if : Bool → Read Unit → Read Unit
passed_if is_there read = if is_there then read else give tt

unfoldable pub lists : EventLayout → Read (Option (List ℕ))
lists layout = do
  values ← read_values layout
  chain ← call_chain_if (has PERF_SAMPLE_CALLCHAIN layout)
  raw ← passed_if (has PERF_SAMPLE_RAW layout) raw_data
  branches ← passed_if (has PERF_SAMPLE_BRANCH_STACK layout)
      (branch_stack layout.branch_sample_type)
  give chain

-- ---- registers and stack

-- an ABI, and the registers unless that is PERF_SAMPLE_REGS_ABI_NONE (0)
abbrev pub registers_of_abi : ℕ → ℕ → Read (Option UserRegisters)
registers_of_abi mask abi =
    if abi == 0 then give None
    else
    (item_bytes (count_ones mask) 8 >>=
    λ values source.
    give
    (Some (record {
      abi = abi;
      mask = mask;
      values = values;
      big_endian = source.big_endian;
    }))
    source)

unfoldable pub registers : ℕ → Read (Option UserRegisters)
registers mask = do
  abi ← unsigned w64
  registers_of_abi mask abi

abbrev pub user_registers : EventLayout → Read (Option UserRegisters)
user_registers layout =
    if has PERF_SAMPLE_REGS_USER layout then registers layout.sample_regs_user else give None

-- the bytes that were to be copied, and how many of them were
unfoldable pub copied_stack : ℕ → Read (List ℕ)
copied_stack size = do
  bytes ← item_bytes size 1
  dyn_size ← unsigned w64
  give (take dyn_size bytes)

abbrev pub stack_of_size : ℕ → Read (List ℕ)
stack_of_size size = if size == 0 then give [] else copied_stack size

unfoldable pub stack : Read (List ℕ)
stack = do
  size ← unsigned w64
  stack_of_size size

abbrev pub user_stack : EventLayout → Read (List ℕ)
user_stack layout = if has PERF_SAMPLE_STACK_USER layout then stack else give []

unfoldable pub user_state : EventLayout → Read UserState
user_state layout = do
  registers ← user_registers layout
  stack ← user_stack layout
  give (record { registers = registers; stack = stack })

-- ---- a sample

-- A sample and its time.
pub record TimedSample : Type 0 where
  pub time : ℕ
  pub sample : Sample

-- what a sample of the code is
abbrev pub timed_view : TimedSampleOfCode → TimedSample
timed_view timed = record { time = timed.time; sample = sample_view timed.sample }

abbrev pub copies_stack : EventLayout → Bool
copies_stack layout = has PERF_SAMPLE_REGS_USER layout && has PERF_SAMPLE_STACK_USER layout

-- PERF_RECORD_MISC_CPUMODE_MASK is 7, and PERF_RECORD_MISC_KERNEL 1
abbrev pub is_in_kernel : ℕ → Bool
is_in_kernel misc = bit_and misc 0x7 == 1

-- by the `misc` of its record
unfoldable pub sample : ProfileEvent → ℕ → Read TimedSample
sample event misc = do
  numbers ← sample_numbers event.layout
  later ← later_numbers event.layout
  chain ← lists event.layout
  user ← user_state event.layout
  give (record {
    time = numbers.time;
    sample = record {
      pid = numbers.thread.pid;
      tid = numbers.thread.tid;
      ip = numbers.ip;
      cpu = later.cpu;
      period = later.period;
      event = event.name;
      in_kernel = is_in_kernel misc;
      call_chain = chain;
      copies_stack = copies_stack event.layout;
      user = user;
    };
  })
