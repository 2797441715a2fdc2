-- A small profile of three records by computation, as perf script -D prints it: its header, its event, its records, and its architecture, in both byte orders.
use Rattle.std.proofs.Common.{◌≡◌, ℕ, ◌+◌, ◌-◌, ◌*◌, List, [], ◌∷◌, ◌++◌, codes, true, false, Option, Some, None, Ok, Err, refl}
use Rattle.std.specs.Prelude.{Bool, nat_lt, if◌then◌else◌, drop, map, take, replicate}
use Rattle.cfi_read_core.specs.declared.endianity.RunTimeEndian.TheVariants.{Little, Big}
use Rattle.cfi_read_core.specs.Numbers.{unsigned}
use Rattle.cfi_perf.specs.declared.error.PerfError.TheVariants.{NotPerf, PipeMode, HeaderCut, HeaderSize, AttributesOutOfBounds, DataOutOfBounds, NoEvents, MixedEvents, FeatureOutOfBounds, RecordSize, RecordCut, Compressed, Directory}
use Rattle.cfi_perf.specs.declared.event_entry.EventEntry.{EventEntry}
use Rattle.cfi_perf.specs.declared.layout.EventLayout.{EventLayout}
use Rattle.cfi_perf.specs.ByteReads.{item_bytes, entries, header_text}
use Rattle.cfi_perf.specs.Attributes.{sample_format, sample_id_all, chosen, sized_attribute, attribute}
use Rattle.cfi_perf.specs.EventEntries.{event, pipe_event, events, first_event}
use Rattle.cfi_perf.specs.EventNames.{after_others, described_event, described_name, description, generic_name}
use Rattle.cfi_perf.specs.EventTables.{EventTable, event_of_id, known_event}
use Rattle.cfi_perf.specs.FileParts.{file_parts}
use Rattle.cfi_perf.specs.FileHeaders.{byte_order, file_section, feature_bits, header_fields, file_header}
use Rattle.cfi_perf.specs.CallChains.{PERF_CONTEXT_KERNEL, PERF_CONTEXT_USER}
use Rattle.cfi_perf.specs.Samples.{Sample, UserRegisters, kernel_frames, user_frames, sampled_register, thread, sample_numbers, processor, later_numbers, group_values, single_value, call_chain, raw_data, branch_stack, lists, registers, copied_stack, stack, user_state, sample}
use Rattle.cfi_perf.specs.Events.{LostEvent, lost, lost_samples, Mapping, own_build_id, MappingEvent, ProgramEvent, ForkEvent, SampleEvent, OtherEvent, mapped_range, mapping, mapping2, program, fork}
use Rattle.cfi_perf.specs.RecordFrames.{record_header}
use Rattle.cfi_perf.specs.RecordFrames.{split_record}
use Rattle.cfi_perf.specs.BuildIds.{listed_build_id, id_up_to, with_build_id}
use Rattle.cfi_perf.specs.SampleIds.{sample_id_time, without_id}
use Rattle.cfi_perf.specs.RecordTypes.{record_by_type}
use Rattle.cfi_perf.specs.Records.{first_record, records_up_to, records_of}
use Rattle.cfi_perf.specs.EventSections.{EventSection, events_by}
use Rattle.cfi_perf.specs.ProfileHeads.{ProfileHead, head_of}
use Rattle.cfi_perf.specs.Sections.{Sections, architecture_in, build_ids, descriptions, event_table}
use Rattle.cfi_perf.specs.Architectures.{machine_by}
use Rattle.cfi_perf.specs.Pipes.{attributes_up_to, build_ids_up_to, feature_up_to, pipe_head}
use Rattle.cfi_perf.specs.Profiles.{Profile, file_profile, profile, profile_records}
use Rattle.cfi_perf.specs.declared.event_entry.EntryForm.TheVariants.{Sized}
use Rattle.cfi_perf.specs.ProfilesAround.{profile_around}

-- to name it on an `unfolding` line is to open all these
unfoldable computing : ℕ
unfolding unsigned item_bytes entries sample_format sample_id_all chosen sized_attribute attribute event pipe_event file_section feature_bits header_fields file_header thread sample_numbers processor later_numbers group_values single_value call_chain raw_data branch_stack lists registers copied_stack stack user_state sample mapped_range mapping mapping2 program fork lost lost_samples record_header split_record sample_id_time without_id record_by_type first_record id_up_to records_up_to after_others described_event description events_by attributes_up_to build_ids_up_to feature_up_to pipe_head file_profile profile profile_around architecture_in descriptions build_ids event_table header_text lib.Count.ones
computing = 0

-- the bytes of hexadecimal text, whose letters are small
abbrev digit_of : ℕ → ℕ
digit_of c = if nat_lt c 58 then c - 48 else c - 87

abbrev bytes_after : Option ℕ → List ℕ → List ℕ
bytes_after high [] = []
bytes_after None (c ∷ cs) = bytes_after (Some (digit_of c)) cs
bytes_after (Some high) (c ∷ cs) = (16 * high + digit_of c) ∷ bytes_after None cs

abbrev hex : List ℕ → List ℕ
hex text = bytes_after None text

-- ---- the header

abbrev little_header : List ℕ
little_header = hex (codes "50455246494c45326800000000000000700000000000000068000000000000007000000000000000d8000000000000000001000000000000000000000000000000000000000000004800000000000000000000000000000000000000000000000000000000000000")

little_header_read : file_header Little little_header ≡ Ok (record { attr_size = 112; attrs = record { offset = 104; size = 112 }; records = record { offset = 216; size = 256 }; features = 0x48 })
unfolding computing
little_header_read = refl

abbrev big_header : List ℕ
big_header = hex (codes "32454c4946524550000000000000006800000000000000700000000000000068000000000000007000000000000000d80000000000000100000000000000000000000000000000000000000000000048000000000000000000000000000000000000000000000000")

big_header_read : file_header Big big_header ≡ Ok (record { attr_size = 112; attrs = record { offset = 104; size = 112 }; records = record { offset = 216; size = 256 }; features = 0x48 })
unfolding computing
big_header_read = refl

is_little : byte_order little_header ≡ Ok Little
is_little = refl

is_big : byte_order big_header ≡ Ok Big
is_big = refl

empty_file : profile [] ≡ Err NotPerf
unfolding computing
empty_file = refl

a_header_less_a_byte : file_header Little (take 103 little_header) ≡ Err HeaderCut
unfolding computing
a_header_less_a_byte = refl

of_another_size : file_header Little (hex (codes "50455246494c45324800000000000000")) ≡ Err (HeaderSize 72)
unfolding computing
of_another_size = refl

of_a_folder : file_header Little (hex (codes "50455246494c45326800000000000000700000000000000068000000000000007000000000000000d8000000000000000001000000000000000000000000000000000000000000004800000100000000000000000000000000000000000000000000000000000000")) ≡ Err Directory
unfolding computing
of_a_folder = refl

nothing_after_the_header : profile little_header ≡ Err AttributesOutOfBounds
unfolding computing
nothing_after_the_header = refl

-- ---- the event

abbrev worked_layout : EventLayout
worked_layout = record { sample_type = 0x3127; sample_period = 10000; read_format = 0; sample_id_all = true; branch_sample_type = 0; sample_regs_user = 0x181 }

abbrev worked_event : EventEntry
worked_event = record { attribute = record { kind = 1; config = 0; layout = worked_layout }; ids = record { offset = 0; size = 0 } }

-- it is cpu-clock, alone
abbrev worked_table : Bool → EventTable
worked_table big = record { big_endian = big; descriptions = []; entries = map (known_event big (file_parts [])) (worked_event ∷ []); first = record { layout = worked_layout; name = codes "cpu-clock" }; is_alone = true; build_ids = [] }

abbrev little_event : List ℕ
little_event = hex (codes "01000000600000000000000000000000102700000000000027310000000000000000000000000000000004000000000000000000000000000000000000000000000000000000000000000000000000008101000000000000100000000000000000000000000000000000000000000000")

little_events : events false 112 little_event ≡ worked_event ∷ []
unfolding computing
little_events = refl

abbrev big_event : List ℕ
big_event = hex (codes "00000001000000600000000000000000000000000000271000000000000031270000000000000000000020000000000000000000000000000000000000000000000000000000000000000000000000000000000000000181000000100000000000000000000000000000000000000000")

big_events : events true 112 big_event ≡ worked_event ∷ []
unfolding computing
big_events = refl

no_events : first_event [] ≡ Err NoEvents
no_events = refl

the_same_twice : first_event (worked_event ∷ worked_event ∷ []) ≡ Ok worked_event
the_same_twice = refl

-- an event with other registers can't be told apart, unless its records begin and end with its id
abbrev with_layout : ℕ → ℕ → EventEntry
with_layout sample_type registers = record { attribute = record { kind = 1; config = 2; layout = record worked_layout { sample_type = sample_type; sample_regs_user = registers } }; ids = record { offset = 0; size = 0 } }

other_registers : first_event (worked_event ∷ with_layout 0x3127 0x180 ∷ []) ≡ Err MixedEvents
other_registers = refl

one_identified : first_event (worked_event ∷ with_layout 0x13127 0x180 ∷ []) ≡ Err MixedEvents
one_identified = refl

both_identified : first_event (with_layout 0x13127 0x181 ∷ with_layout 0x10127 0x180 ∷ []) ≡ Ok (with_layout 0x13127 0x181)
both_identified = refl

its_generic_name : generic_name worked_event.attribute ≡ codes "cpu-clock"
its_generic_name = refl

-- ---- the records

abbrev little_program : List ℕ
little_program = hex (codes "03000000022028000700000007000000610000000000000007000000070000000a00000000000000")

little_program_read : records_of (worked_table false) false little_program ≡ record {
  records = record { time = 10; event = ProgramEvent (record { pid = 7; tid = 7; name = codes "a"; is_exec = true }) } ∷ [];
  error = None;
}
unfolding computing
little_program_read = refl

abbrev little_mapping : List ℕ
little_mapping = hex (codes "0a00000002006000070000000700000000004000000000000010000000000000002000000000000000000000000000000000000000000000000000000000000005000000020000002f62696e2f61000007000000070000000b00000000000000")

little_mapping_read : records_of (worked_table false) false little_mapping ≡ record {
  records = record { time = 11; event = MappingEvent (record { pid = 7; address = 0x400000; length = 0x1000; offset = 0x2000; is_executable = true; name = codes "/bin/a"; build_id = None }) } ∷ [];
  error = None;
}
unfolding computing
little_mapping_read = refl

abbrev little_sample : List ℕ
little_sample = hex (codes "090000000200780023014000000000000700000008000000630000000000000001000000000000000100000000000000240140000000000002000000000000001100000000000000fe7f00000000000023014000000000001000000000000000a0a1a2a3a4a5a6a7a8a9aaabacadaeaf0800000000000000")

abbrev little_registers : UserRegisters
little_registers = record { abi = 2; mask = 0x181; values = hex (codes "1100000000000000fe7f0000000000002301400000000000"); big_endian = false }

little_sample_read : records_of (worked_table false) false little_sample ≡ record {
  records = record { time = 99; event = SampleEvent (record { pid = 7; tid = 8; ip = 0x400123; cpu = None; period = 1; event = codes "cpu-clock"; in_kernel = false; call_chain = Some (0x400124 ∷ []); copies_stack = true; user = record { registers = Some little_registers; stack = hex (codes "a0a1a2a3a4a5a6a7") } }) } ∷ [];
  error = None;
}
unfolding computing
little_sample_read = refl

little_sp : sampled_register little_registers 7 ≡ Some 0x7ffe
unfolding computing
little_sp = refl

abbrev big_program : List ℕ
big_program = hex (codes "0000000320020028000000070000000761000000000000000000000700000007000000000000000a")

big_program_read : records_of (worked_table true) true big_program ≡ record {
  records = record { time = 10; event = ProgramEvent (record { pid = 7; tid = 7; name = codes "a"; is_exec = true }) } ∷ [];
  error = None;
}
unfolding computing
big_program_read = refl

abbrev big_mapping : List ℕ
big_mapping = hex (codes "0000000a00020060000000070000000700000000004000000000000000001000000000000000200000000000000000000000000000000000000000000000000000000005000000022f62696e2f6100000000000700000007000000000000000b")

big_mapping_read : records_of (worked_table true) true big_mapping ≡ record {
  records = record { time = 11; event = MappingEvent (record { pid = 7; address = 0x400000; length = 0x1000; offset = 0x2000; is_executable = true; name = codes "/bin/a"; build_id = None }) } ∷ [];
  error = None;
}
unfolding computing
big_mapping_read = refl

abbrev big_sample : List ℕ
big_sample = hex (codes "0000000900020078000000000040012300000007000000080000000000000063000000000000000100000000000000010000000000400124000000000000000200000000000000110000000000007ffe00000000004001230000000000000010a0a1a2a3a4a5a6a7a8a9aaabacadaeaf0000000000000008")

abbrev big_registers : UserRegisters
big_registers = record { abi = 2; mask = 0x181; values = hex (codes "00000000000000110000000000007ffe0000000000400123"); big_endian = true }

big_sample_read : records_of (worked_table true) true big_sample ≡ record {
  records = record { time = 99; event = SampleEvent (record { pid = 7; tid = 8; ip = 0x400123; cpu = None; period = 1; event = codes "cpu-clock"; in_kernel = false; call_chain = Some (0x400124 ∷ []); copies_stack = true; user = record { registers = Some big_registers; stack = hex (codes "a0a1a2a3a4a5a6a7") } }) } ∷ [];
  error = None;
}
unfolding computing
big_sample_read = refl

big_sp : sampled_register big_registers 7 ≡ Some 0x7ffe
unfolding computing
big_sp = refl

no_register_1 : sampled_register little_registers 1 ≡ None
unfolding computing
no_register_1 = refl

a_new_process : records_of (worked_table false) false (hex (codes "0700000000003000090000000700000009000000070000000c0000000000000007000000070000000c00000000000000")) ≡ record { records = record { time = 12; event = ForkEvent (record { pid = 9; parent = 7; tid = 9; parent_tid = 7 }) } ∷ []; error = None }
unfolding computing
a_new_process = refl

-- of PERF_RECORD_MMAP
mapped_data : records_of (worked_table false) false (hex (codes "010000000220400007000000070000000000600000000000001000000000000000000000000000002f6400000000000007000000070000000d00000000000000")) ≡ record { records = record { time = 13; event = MappingEvent (record { pid = 7; address = 0x600000; length = 0x1000; offset = 0; is_executable = false; name = codes "/d"; build_id = None }) } ∷ []; error = None }
unfolding computing
mapped_data = refl

mapped_code : records_of (worked_table false) false (hex (codes "010000000200400007000000070000000000600000000000001000000000000000000000000000002f6400000000000007000000070000000d00000000000000")) ≡ record { records = record { time = 13; event = MappingEvent (record { pid = 7; address = 0x600000; length = 0x1000; offset = 0; is_executable = true; name = codes "/d"; build_id = None }) } ∷ []; error = None }
unfolding computing
mapped_code = refl

-- PERF_RECORD_LOST has a time; a record of perf has none
two_others : records_of (worked_table false) false (hex (codes "02000000000028000100000000000000010000000000000007000000070000000e000000000000004400000000000800")) ≡ record { records = record { time = 14; event = LostEvent (record { records = 1; samples = 0 }) } ∷ record { time = 0; event = OtherEvent } ∷ []; error = None }
unfolding computing
two_others = refl

-- PERF_RECORD_LOST_SAMPLES
three_lost : records_of (worked_table false) false (hex (codes "0d00000000002000030000000000000007000000070000000e00000000000000")) ≡ record { records = record { time = 14; event = LostEvent (record { records = 0; samples = 3 }) } ∷ []; error = None }
unfolding computing
three_lost = refl

lost_without_a_count : records_of (worked_table false) false (hex (codes "0d000000000018000700000007000000")) ≡ record { records = []; error = Some RecordCut }
unfolding computing
lost_without_a_count = refl

-- four bytes of trace after PERF_RECORD_AUXTRACE
passed_trace : records_of (worked_table false) false (hex (codes "470000000000300004000000000000000000000000000000000000000000000000000000000000000000000000000000010203044400000000000800")) ≡ record { records = record { time = 0; event = OtherEvent } ∷ record { time = 0; event = OtherEvent } ∷ []; error = None }
unfolding computing
passed_trace = refl

cut_trace : records_of (worked_table false) false (hex (codes "470000000000300004000000000000000000000000000000000000000000000000000000000000000000000000000000010203")) ≡ record { records = []; error = Some RecordCut }
unfolding computing
cut_trace = refl

-- after a record comes one that is smaller than its header
a_record_of_seven_bytes : records_of (worked_table false) false (hex (codes "44000000000008004400000000000700")) ≡ record { records = record { time = 0; event = OtherEvent } ∷ []; error = Some (RecordSize 7) }
unfolding computing
a_record_of_seven_bytes = refl

cut_header : records_of (worked_table false) false (hex (codes "44000000000008")) ≡ record { records = []; error = Some RecordCut }
unfolding computing
cut_header = refl

cut_record : records_of (worked_table false) false (hex (codes "0700000000003000090000000700000009000000070000000c0000000000000007000000070000000c000000000000")) ≡ record { records = []; error = Some RecordCut }
unfolding computing
cut_record = refl

-- a record of the right size for the thread and time, and not for its fields
cut_fields : records_of (worked_table false) false (hex (codes "0700000000002000090000000700000007000000070000000c00000000000000")) ≡ record { records = []; error = Some RecordCut }
unfolding computing
cut_fields = refl

cut_id : records_of (worked_table false) false (hex (codes "02000000000010000100000000000000")) ≡ record { records = []; error = Some RecordCut }
unfolding computing
cut_id = refl

unterminated_name : records_of (worked_table false) false (hex (codes "03000000000028000700000007000000616263646566676807000000070000000c00000000000000")) ≡ record { records = []; error = Some RecordCut }
unfolding computing
unterminated_name = refl

compressed : records_of (worked_table false) false (hex (codes "5100000000000800")) ≡ record { records = []; error = Some Compressed }
unfolding computing
compressed = refl

-- ---- its architecture

abbrev after : List ℕ
after = hex (codes "f8010000000000000c0000000000000004020000000000000c0000000000000008000000686f737400000000080000007838365f36340000")

abbrev worked_section : EventSection
worked_section = record { form = Sized 112; count = 1; attrs = little_event; first = worked_event }

-- with the sections of bits 3 and 6, whose places begin with those of the whole file
abbrev worked_file : List ℕ
worked_file = little_header ++ (little_event ++ (little_program ++ (little_mapping ++ (little_sample ++ after))))

abbrev worked_sections : ℕ → Sections
worked_sections features = record { parts = file_parts worked_file; endian = Little; events = worked_section; features = features; is_cut = false; end = 472; after = after }

its_architecture : architecture_in (worked_sections 0x48) ≡ Ok (Some (codes "x86_64"))
unfolding computing
its_architecture = refl

its_first_section : architecture_in (worked_sections 0x40) ≡ Ok (Some (codes "host"))
unfolding computing
its_first_section = refl

no_architecture : architecture_in (worked_sections 0x8) ≡ Ok None
unfolding computing
no_architecture = refl

no_third_section : architecture_in (worked_sections 0x58) ≡ Err FeatureOutOfBounds
unfolding computing
no_third_section = refl

-- ---- the whole

its_parts : profile worked_file ≡ Ok (record { head = head_of (worked_sections 0x48) 256; records = little_program ++ (little_mapping ++ little_sample) })
unfolding computing
its_parts = refl

-- the same without the bytes of its records
its_head : profile_around (little_header ++ little_event) after 528 ≡ Ok (Some (head_of (worked_sections 0x48) 256))
unfolding computing
its_head = refl

-- with a byte of them, and without one after them
a_byte_more : profile_around (little_header ++ (little_event ++ take 1 little_program)) after 528 ≡ Ok None
unfolding computing
a_byte_more = refl

a_byte_less : profile_around (little_header ++ little_event) (drop 1 after) 528 ≡ Ok None
unfolding computing
a_byte_less = refl

-- ---- the same records of a pipe, after records with the event and the architecture

abbrev piped_records : List ℕ
piped_records = hex (codes "4000000000006800") ++ (take 96 little_event ++ (hex (codes "5000000000001c000600000000000000080000007838365f36340000") ++ (little_program ++ (little_mapping ++ little_sample))))

abbrev piped_head : ProfileHead
piped_head = record { endian = Little; events = worked_table false; architecture = Ok (Some (codes "x86_64")); place = 16; size = 388; is_cut = false }

its_pipe : profile (hex (codes "50455246494c45321000000000000000") ++ piped_records) ≡ Ok (record { head = piped_head; records = piped_records })
unfolding computing
its_pipe = refl

-- with the event after another record
a_later_event : pipe_head Little (little_program ++ piped_records) ≡ Err NoEvents
unfolding computing
a_later_event = refl

another_later_event : pipe_head Little (piped_records ++ piped_records) ≡ Err PipeMode
unfolding computing
another_later_event = refl

-- with descriptions of tracepoints, eight bytes after their record, before the other records
abbrev records_with_tracepoints : List ℕ
records_with_tracepoints = take 104 piped_records ++ (hex (codes "4200000000000c00080000000102030405060708") ++ drop 104 piped_records)

tracepoints : profile (hex (codes "50455246494c45321000000000000000") ++ records_with_tracepoints) ≡ Ok (record { head = record piped_head { size = 408 }; records = records_with_tracepoints })
unfolding computing
tracepoints = refl

passed_tracepoints : records_of (worked_table false) false (hex (codes "4200000000000c000800000001020304050607084400000000000800")) ≡ record { records = record { time = 0; event = OtherEvent } ∷ record { time = 0; event = OtherEvent } ∷ []; error = None }
unfolding computing
passed_tracepoints = refl

cut_tracepoints : records_of (worked_table false) false (hex (codes "4200000000000c000800000001020304")) ≡ record { records = []; error = Some RecordCut }
unfolding computing
cut_tracepoints = refl

-- PERF_RECORD_HEADER_BUILD_ID after another record: of the file "b", with an id of two bytes
abbrev two_kinds : List ℕ
two_kinds = hex (codes "440000000000080043000000008028000700000001020000000000000000000000000000000000000200000062000000")

a_build : build_ids_up_to 2 false two_kinds ≡ drop 8 two_kinds
unfolding computing
a_build = refl

its_id : id_up_to 1 false (codes "b") (drop 8 two_kinds) ≡ Some (hex (codes "0102"))
unfolding computing
its_id = refl

no_event_of_a_pipe : profile (hex (codes "50455246494c45321000000000000000")) ≡ Err NoEvents
unfolding computing
no_event_of_a_pipe = refl

-- ---- a call chain, as perf record left it with -g

-- perf script prints six frames of [kernel.kallsyms], ffffffff821e870b to ffffffff81000130, and 7f6bc33282ad
abbrev chained : Sample
chained = record {
  pid = 11732;
  tid = 11732;
  ip = 0xffffffff821e870b;
  cpu = None;
  period = 2000000;
  event = codes "cpu-clock";
  in_kernel = true;
  call_chain = Some (PERF_CONTEXT_KERNEL ∷ 0xffffffff821e870b ∷ 0xffffffff81d335fc ∷ 0xffffffff816b82eb ∷ 0xffffffff816b8f46 ∷ 0xffffffff821ecc51 ∷ 0xffffffff81000130 ∷ PERF_CONTEXT_USER ∷ 0x7f6bc33282ad ∷ []);
  copies_stack = false;
  user = record { registers = None; stack = [] };
}

abbrev chained_table : EventTable
chained_table = record (worked_table false) { first = record { layout = record worked_layout { sample_type = 0x127 }; name = codes "cpu-clock" } }

its_call_chain : records_of chained_table false (hex (codes "09000000010078000b871e82ffffffffd42d0000d42d0000b28ab064c800000080841e0000000000090000000000000080ffffffffffffff0b871e82fffffffffc35d381ffffffffeb826b81ffffffff468f6b81ffffffff51cc1e82ffffffff30010081ffffffff00feffffffffffffad8232c36b7f0000")) ≡ record { records = record { time = 860682750642; event = SampleEvent chained } ∷ []; error = None }
unfolding computing
its_call_chain = refl

in_the_kernel : kernel_frames chained ≡ 0xffffffff821e870b ∷ 0xffffffff81d335fc ∷ 0xffffffff816b82eb ∷ 0xffffffff816b8f46 ∷ 0xffffffff821ecc51 ∷ 0xffffffff81000130 ∷ []
in_the_kernel = refl

after_the_kernel : user_frames chained ≡ 0x7f6bc33282ad ∷ []
after_the_kernel = refl

-- without a call chain, as by perf record alone
its_instruction_alone : kernel_frames (record chained { call_chain = None }) ≡ 0xffffffff821e870b ∷ []
its_instruction_alone = refl

not_in_user_space : user_frames (record chained { call_chain = None }) ≡ []
not_in_user_space = refl

in_user_space : user_frames (record chained { call_chain = None; in_kernel = false; ip = 0x558894193173 }) ≡ 0x558894193173 ∷ []
in_user_space = refl

-- those of a guest (PERF_CONTEXT_GUEST, -2048) are neither
of_a_guest : user_frames (record chained { call_chain = Some (1 ∷ 0xfffffffffffff800 ∷ 2 ∷ PERF_CONTEXT_USER ∷ 3 ∷ []) }) ≡ 1 ∷ 3 ∷ []
of_a_guest = refl

-- ---- two events, as perf record left them with -e cpu-clock/call-graph=dwarf,stack-size=8/ -e page-faults --sample-cpu

abbrev two_attrs : List ℕ
two_attrs = hex (codes "01000000800000000000000000000000a00f000000000000afb101000000000014000000000000000337d661000000000000000000000000000000000000000000000000000000000000000000000000ff0fff0000000000080000000000000000000000000000000000000000000000000000000000000000000000000000006800000000000000200000000000000001000000800000000200000000000000a00f000000000000870101000000000014000000000000000314140000000000000000000000000000000000000000000000000000000000000000000000000000000000000000000000000000000000000000000000000000000000000000000000000000000000000000000000000088000000000000002000000000000000")

-- the eight ids, after the header's 104 bytes
abbrev two_ids : List ℕ
two_ids = replicate 104 0 ++ hex (codes "d000000000000000d100000000000000d200000000000000d300000000000000d400000000000000d500000000000000d600000000000000d700000000000000")

abbrev two_names : List ℕ
two_names = hex (codes "020000008000000001000000800000000000000000000000a00f000000000000afb101000000000014000000000000000337d661000000000000000000000000000000000000000000000000000000000000000000000000ff0fff00000000000800000000000000000000000000000000000000000000000000000000000000000000000000000004000000400000006370752d636c6f636b2f63616c6c2d67726170683d64776172662c737461636b2d73697a653d382f000000000000000000000000000000000000000000000000d000000000000000d100000000000000d200000000000000d30000000000000001000000800000000200000000000000a00f00000000000087010100000000001400000000000000031414000000000000000000000000000000000000000000000000000000000000000000000000000000000000000000000000000000000000000000000000000000000000000000000000000000000000000000000000000400000040000000706167652d6661756c74730000000000000000000000000000000000000000000000000000000000000000000000000000000000000000000000000000000000d400000000000000d500000000000000d600000000000000d700000000000000")

first_name : described_name false two_names 0 ≡ Some (codes "cpu-clock/call-graph=dwarf,stack-size=8/")
unfolding computing
first_name = refl

second_name : described_name false two_names 1 ≡ Some (codes "page-faults")
unfolding computing
second_name = refl

no_third_name : described_name false two_names 2 ≡ None
unfolding computing
no_third_name = refl

abbrev clock_layout : EventLayout
clock_layout = record { sample_type = 0x1b1af; sample_period = 4000; read_format = 0x14; sample_id_all = true; branch_sample_type = 0; sample_regs_user = 0xff0fff }

abbrev faults_layout : EventLayout
faults_layout = record { sample_type = 0x10187; sample_period = 4000; read_format = 0x14; sample_id_all = true; branch_sample_type = 0; sample_regs_user = 0 }

abbrev clock : EventEntry
clock = record { attribute = record { kind = 1; config = 0; layout = clock_layout }; ids = record { offset = 104; size = 32 } }

abbrev faults : EventEntry
faults = record { attribute = record { kind = 1; config = 2; layout = faults_layout }; ids = record { offset = 136; size = 32 } }

two_events : events false 144 two_attrs ≡ clock ∷ faults ∷ []
unfolding computing
two_events = refl

told_apart : first_event (clock ∷ faults ∷ []) ≡ Ok clock
told_apart = refl

abbrev two : EventTable
two = record { big_endian = false; descriptions = two_names; entries = map (known_event false (file_parts two_ids)) (clock ∷ faults ∷ []); first = record { layout = clock_layout; name = codes "cpu-clock/call-graph=dwarf,stack-size=8/" }; is_alone = false; build_ids = [] }

by_its_id : event_of_id two 214 ≡ Some (record { layout = faults_layout; name = codes "page-faults" })
unfolding computing
by_its_id = refl

an_unknown_id : event_of_id two 216 ≡ None
unfolding computing
an_unknown_id = refl

-- perf script prints it as `verylongprogram 17261/17261 [002]  2384.958796:          3 page-faults:`
a_fault : records_of two false (hex (codes "0900000002003800d60000000000000070ebefe86e7f00006d4300006d43000065349f4a2b02000002000000000000000300000000000000")) ≡ record {
  records = record { time = 2384958796901; event = SampleEvent (record { pid = 17261; tid = 17261; ip = 0x7f6ee8efeb70; cpu = Some 2; period = 3; event = codes "page-faults"; in_kernel = false; call_chain = None; copies_stack = false; user = record { registers = None; stack = [] } }) } ∷ [];
  error = None;
}
unfolding computing
a_fault = refl

a_thread : records_of two false (hex (codes "07000000000040006d4300006d4300006f4300006d4300004554474e2b0200006d4300006d430000a053474e2b0200000200000000000000d200000000000000")) ≡ record { records = record { time = 2385020146592; event = ForkEvent (record { pid = 17261; parent = 17261; tid = 17263; parent_tid = 17261 }) } ∷ []; error = None }
unfolding computing
a_thread = refl

-- ---- the builds of files, as perf buildid-list prints them

abbrev listed_builds : List ℕ
listed_builds = hex (codes "0000000002806400ffffffffe1acfd5cc78671620325b4d7fc60da13931c8332140000002f62696e2f76760000000000000000000000000000000000000000000000000000000000000000000000000000000000000000000000000000000000000000000000000002806400ffffffffa599807156a2a62fe956a82e388aeeabc874119c140000005b7664736f5d00000000000000000000000000000000000000000000000000000000000000000000000000000000000000000000000000000000000000000000")

the_first_build : listed_build_id false (codes "/bin/vv") listed_builds ≡ Some (hex (codes "e1acfd5cc78671620325b4d7fc60da13931c8332"))
unfolding computing
the_first_build = refl

the_second_build : listed_build_id false (codes "[vdso]") listed_builds ≡ Some (hex (codes "a599807156a2a62fe956a82e388aeeabc874119c"))
unfolding computing
the_second_build = refl

not_listed : listed_build_id false (codes "/bin/v") listed_builds ≡ None
unfolding computing
not_listed = refl

-- the second entry less its last byte
cut_listed : listed_build_id false (codes "[vdso]") (take 199 listed_builds) ≡ None
unfolding computing
cut_listed = refl

-- without PERF_RECORD_MISC_BUILD_ID_SIZE, as before Linux 5.12
twenty_bytes : listed_build_id false (codes "/bin/old") (hex (codes "0000000002006400ffffffffa599807156a2a62fe956a82e388aeeabc8000000000000002f62696e2f6f6c640000000000000000000000000000000000000000000000000000000000000000000000000000000000000000000000000000000000000000")) ≡ Some (hex (codes "a599807156a2a62fe956a82e388aeeabc8000000"))
unfolding computing
twenty_bytes = refl

-- of a record that perf record --buildid-mmap wrote
abbrev mapped_build : List ℕ
mapped_build = hex (codes "2b4500002b45000000c0d2cb495600000010000000000000001000000000000014000000e1acfd5cc78671620325b4d7fc60da13931c833205000000020000002f62696e2f767600")

its_own_build : own_build_id 0x4002 mapped_build ≡ Some (hex (codes "e1acfd5cc78671620325b4d7fc60da13931c8332"))
its_own_build = refl

-- else the bytes say which file it is in another way
no_own_build : own_build_id 0x2 mapped_build ≡ None
no_own_build = refl

-- the record's own comes first, and else the one of the table
abbrev mapped_vv : Option (List ℕ) → Mapping
mapped_vv build_id = record { pid = 7; address = 0x400000; length = 0x1000; offset = 0; is_executable = true; name = codes "/bin/vv"; build_id = build_id }

kept_build : (with_build_id false listed_builds (mapped_vv (Some (1 ∷ 2 ∷ [])))).build_id ≡ Some (1 ∷ 2 ∷ [])
kept_build = refl

build_of_the_table : (with_build_id false listed_builds (mapped_vv None)).build_id ≡ Some (hex (codes "e1acfd5cc78671620325b4d7fc60da13931c8332"))
unfolding computing
build_of_the_table = refl

-- ---- the same cut within its sample, as by a full disk

abbrev cut_profile : Profile
cut_profile = record {
  head = head_of (record { parts = file_parts (take 400 worked_file); endian = Little; events = worked_section; features = 0x48; is_cut = true; end = 400; after = [] }) 184;
  records = little_program ++ (little_mapping ++ take 48 little_sample);
}

its_cut_parts : profile (take 400 worked_file) ≡ Ok cut_profile
unfolding computing
its_cut_parts = refl

-- those of x86-64, with which perf record --call-graph dwarf records, and those of AArch64
its_registers : machine_by false 0xff0fff ≡ Some (codes "x86_64")
its_registers = refl

registers_of_aarch64 : machine_by false 0x1ffffffff ≡ Some (codes "aarch64")
registers_of_aarch64 = refl

-- all 32 of RISC-V
registers_of_others : machine_by false 0xffffffff ≡ None
registers_of_others = refl

-- two records, and that there are more
records_before_a_cut : profile_records (record cut_profile { records = little_program ++ take 16 little_mapping }) ≡ record { records = record { time = 10; event = ProgramEvent (record { pid = 7; tid = 7; name = codes "a"; is_exec = true }) } ∷ []; error = Some DataOutOfBounds }
unfolding computing
records_before_a_cut = refl
