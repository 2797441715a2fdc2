-- A small core of x86-64 by computation: its mapped files, its memory, a thread and its registers, as readelf -n and gdb print them.
use Rattle.std.proofs.Common.{◌≡◌, ℕ, ◌-◌, ◌+◌, ◌*◌, List, [], ◌∷◌, ◌++◌, codes, true, false, Option, Some, None, Ok, Err, refl}
use Rattle.std.specs.Fmt.{digits}
use Rattle.std.specs.Prelude.{nat_lt, if◌then◌else◌, take, drop, option_map}
use Rattle.cfi_elf.specs.ElfFiles.{any_file, core_file, elf_file_of, file_by, header_bytes, identification}
use Rattle.cfi_elf.specs.Fields.{entries}
use Rattle.cfi_elf.specs.Images.{bytes_at}
use Rattle.cfi_elf.specs.BuildIds.{build_id, build_id_of}
use Rattle.cfi_elf.specs.Notes.{first_note, notes_up_to}
use Rattle.cfi_elf.specs.SegmentLists.{segments}
use Rattle.cfi_elf.specs.SegmentLists.{program_table, segment_count}
use Rattle.cfi_elf.specs.declared.error.ElfError.TheVariants.{NotCore}
use Rattle.cfi_processes.specs.declared.registers.SampleMachine.TheVariants.{X86_64, AArch64}
use Rattle.cfi_cores.specs.declared.error.CoreError.TheVariants.{Elf, UnknownMachine, NoteCut, ThreadCut}
use Rattle.cfi_cores.specs.Builds.{build_of, mapped_image}
use Rattle.cfi_cores.specs.Contents.{then_contents, contents_of_note, contents_of_segment}
use Rattle.cfi_cores.specs.CoreFiles.{core_of}
use Rattle.cfi_cores.specs.CoreRegisters.{core_place, core_place_x86_64}
use Rattle.cfi_cores.specs.CoreSegments.{CoreSegment, last_up_to}
use Rattle.cfi_cores.specs.CoreThreads.{CoreThread, thread_register, thread_in}
use Rattle.cfi_cores.specs.ErrorTexts.{text_of_core}
use Rattle.cfi_cores.specs.MappedFiles.{CoreMapping, file_table, files_in}
use Rattle.cfi_cores.specs.ProcessNames.{process_name}
use Rattle.cfi_cores.specs.Vdso.{vdso_by}
use Rattle.cfi_cores.specs.AuxiliaryVectors.{value_in}

-- to name it on an `unfolding` line is to open all these
unfoldable computing : ℕ
unfolding bytes_at header_bytes any_file file_by elf_file_of core_file build_id_of build_id identification segment_count program_table segments first_note notes_up_to core_place_x86_64 file_table files_in core_of
computing = 0

-- the bytes of hexadecimal text, whose letters are small
abbrev digit_of : ℕ → ℕ
digit_of c = if nat_lt c 58 then c - 48 else c - 87

abbrev bytes_behind : Option ℕ → List ℕ → List ℕ
bytes_behind high [] = []
bytes_behind None (c ∷ cs) = bytes_behind (Some (digit_of c)) cs
bytes_behind (Some high) (c ∷ cs) = (16 * high + digit_of c) ∷ bytes_behind None cs

abbrev hex : List ℕ → List ℕ
hex text = bytes_behind None text

-- ---- a thread: signal 6, number 4711, and 27 registers from 0x1000 on

abbrev registers : List ℕ
registers = hex (codes "00100000000000000110000000000000021000000000000003100000000000000410000000000000051000000000000006100000000000000710000000000000081000000000000009100000000000000a100000000000000b100000000000000c100000000000000d100000000000000e100000000000000f1000000000000010100000000000001110000000000000121000000000000013100000000000001410000000000000151000000000000016100000000000001710000000000000181000000000000019100000000000001a10000000000000")

abbrev status : List ℕ
status = hex (codes "06000000000000000000000006000000000000000000000000000000000000006712000000000000000000000000000000000000000000000000000000000000000000000000000000000000000000000000000000000000000000000000000000000000000000000000000000000000")

worked_thread : thread_in X86_64 (status ++ registers) ≡ Some (record { tid = 4711; signal = 6; fault = None; registers = registers })
worked_thread = refl

-- without its last byte
cut_thread : thread_in X86_64 (status ++ take 215 registers) ≡ None
cut_thread = refl

-- AArch64 has seven registers more
thread_of_another_machine : thread_in AArch64 (status ++ registers) ≡ None
thread_of_another_machine = refl

abbrev the_thread : CoreThread
the_thread = record { tid = 4711; signal = 6; fault = None; registers = registers }

-- rax (0) is the eleventh, rsp (7) the twentieth, r15 (15) the first, rip (16) the seventeenth
its_rax : thread_register X86_64 the_thread 0 ≡ Some 0x100a
unfolding computing
its_rax = refl

its_rsp : thread_register X86_64 the_thread 7 ≡ Some 0x1013
unfolding computing
its_rsp = refl

its_r15 : thread_register X86_64 the_thread 15 ≡ Some 0x1000
unfolding computing
its_r15 = refl

its_rip : thread_register X86_64 the_thread 16 ≡ Some 0x1010
unfolding computing
its_rip = refl

no_more_registers : thread_register X86_64 the_thread 17 ≡ None
unfolding computing
no_more_registers = refl

sp_of_aarch64 : core_place AArch64 31 ≡ Some 31
sp_of_aarch64 = refl

-- ---- files: two pages of /a from its first on, two pages of /bc from its fourth on

abbrev files : List ℕ
files = hex (codes "020000000000000000100000000000000000400000000000002040000000000000000000000000000070000000000000009000000000000003000000000000002f61002f626300")

abbrev two_mappings : List CoreMapping
two_mappings =
    record { start = 0x400000; end = 0x402000; offset = 0; name = codes "/a" }
    ∷ record { start = 0x7000; end = 0x9000; offset = 0x3000; name = codes "/bc" } ∷ []

worked_files : files_in files ≡ Some two_mappings
unfolding computing
worked_files = refl

-- without the zero at the end
cut_files : files_in (take 70 files) ≡ None
unfolding computing
cut_files = refl

no_files_there : files_in (hex (codes "00000000000000000010000000000000")) ≡ Some []
unfolding computing
no_files_there = refl

-- ---- the core: a note with the files; eight bytes from 0x9000 on, four bytes of code from 0x7000 on

abbrev small : List ℕ
small = hex (codes "7f454c4602010100000000000000000004003e0001000000000000000000000040000000000000000000000000000000000000004000380003000000000000000400000000000000e800000000000000000000000000000000000000000000005c0000000000000000000000000000000400000000000000010000000600000044010000000000000090000000000000000000000000000008000000000000000010000000000000010000000000000001000000050000004c01000000000000007000000000000000000000000000000400000000000000001000000000000001000000000000000500000047000000454c4946434f524500000000020000000000000000100000000000000000400000000000002040000000000000000000000000000070000000000000009000000000000003000000000000002f61002f626300001122334455667788c3909090")

small_core : core_of small ≡ Ok (record {
  machine = X86_64;
  name = None;
  threads = [];
  mapped = two_mappings;
  segments =
      record { start = 0x9000; bytes = 0x11 ∷ 0x22 ∷ 0x33 ∷ 0x44 ∷ 0x55 ∷ 0x66 ∷ 0x77 ∷ 0x88 ∷ []; is_executable = false }
      ∷ record { start = 0x7000; bytes = 0xc3 ∷ 0x90 ∷ 0x90 ∷ 0x90 ∷ []; is_executable = true } ∷ [];
  error = None;
})
unfolding computing
small_core = refl

-- a file that ends in the notes has no memory
cut_in_the_notes : core_of (take 320 small) ≡ Ok (record {
  machine = X86_64;
  name = None;
  threads = [];
  mapped = [];
  segments =
      record { start = 0x9000; bytes = []; is_executable = false } ∷ record { start = 0x7000; bytes = []; is_executable = true } ∷ [];
  error = Some NoteCut;
})
unfolding computing
cut_in_the_notes = refl

-- one that ends where the notes begin
cut_before_the_notes : core_of (take 232 small) ≡ Ok (record {
  machine = X86_64;
  name = None;
  threads = [];
  mapped = [];
  segments =
      record { start = 0x9000; bytes = []; is_executable = false } ∷ record { start = 0x7000; bytes = []; is_executable = true } ∷ [];
  error = Some NoteCut;
})
unfolding computing
cut_before_the_notes = refl

-- one that ends with the notes
cut_behind_the_notes : core_of (take 324 small) ≡ Ok (record {
  machine = X86_64;
  name = None;
  threads = [];
  mapped = two_mappings;
  segments =
      record { start = 0x9000; bytes = []; is_executable = false } ∷ record { start = 0x7000; bytes = []; is_executable = true } ∷ [];
  error = None;
})
unfolding computing
cut_behind_the_notes = refl

no_core : core_of (take 16 small ++ hex (codes "02") ++ drop 17 small) ≡ Err (Elf (NotCore 2))
unfolding computing
no_core = refl

of_another_machine : core_of (take 18 small ++ hex (codes "28") ++ drop 19 small) ≡ Err (UnknownMachine 40)
unfolding computing
of_another_machine = refl

-- ---- notes one after the other

abbrev thread_note : List ℕ → List ℕ
thread_note desc = hex (codes "05000000480100000100000043") ++ hex (codes "4f524500000000") ++ desc

the_thread_alone : contents_of_segment X86_64 (thread_note (status ++ registers)) ≡ record { threads = the_thread ∷ []; mapped = None; vector = None; siginfo = None; name = None; error = None }
unfolding computing
the_thread_alone = refl

-- a note of a thread with too few bytes, and a list of files behind it
nothing_behind_an_error : then_contents (contents_of_note X86_64 (record { name = codes "CORE"; kind = 1; desc = status })) (contents_of_note X86_64 (record { name = codes "CORE"; kind = 0x46494c45; desc = files }))
    ≡ record { threads = []; mapped = None; vector = None; siginfo = None; name = None; error = Some ThreadCut }
unfolding computing
nothing_behind_an_error = refl

of_another_owner : contents_of_note X86_64 (record { name = codes "LINUX"; kind = 1; desc = status }) ≡ record { threads = []; mapped = None; vector = None; siginfo = None; name = None; error = None }
unfolding computing
of_another_owner = refl

-- ---- memory

abbrev three_segments : List CoreSegment
three_segments =
    record { start = 4; bytes = 1 ∷ []; is_executable = false } ∷ record { start = 8; bytes = 2 ∷ []; is_executable = false }
    ∷ record { start = 8; bytes = 3 ∷ []; is_executable = false } ∷ []

last_of_two : option_map (λ s. s.bytes) (last_up_to 9 three_segments) ≡ Some (3 ∷ [])
last_of_two = refl

before_the_second : option_map (λ s. s.bytes) (last_up_to 7 three_segments) ≡ Some (1 ∷ [])
before_the_second = refl

before_all : last_up_to 3 three_segments ≡ None
before_all = refl

-- ---- the name of the process

abbrev before_name : List ℕ
before_name = hex (codes "00000000000000000000000000000000000000000000000000000000000000000000000000000000")

worked_name : process_name (before_name ++ codes "calls" ++ hex (codes "0000000000000000000000")) ≡ Some (codes "calls")
worked_name = refl

name_without_a_zero : process_name (before_name ++ codes "sixteen_letters_" ++ hex (codes "0000000000000000000000000000000000000000000000000000000000000000000000000000000000000000000000000000000000000000000000000000000000000000000000000000000000000000")) ≡ Some (codes "sixteen_letters_")
name_without_a_zero = refl

cut_name : process_name (before_name ++ codes "fifteen_letters") ≡ None
cut_name = refl

-- ---- the vdso: a vector with AT_HWCAP, AT_SYSINFO_EHDR and the pair that ends it

abbrev vector : List ℕ
vector = hex (codes "10000000000000001f000000000000002100000000000000009000000000000000000000000000000000000000000000")

its_address : value_in 33 (entries 16 vector) ≡ Some 0x9000
its_address = refl

behind_the_end : value_in 33 (entries 16 (drop 32 vector ++ take 32 vector)) ≡ None
behind_the_end = refl

abbrev two_segments : List CoreSegment
two_segments =
    record { start = 0x9000; bytes = 1 ∷ 2 ∷ []; is_executable = true } ∷ record { start = 0x9000; bytes = []; is_executable = true } ∷ []

where_it_is : vdso_by two_segments (Some vector) ≡ Some (record { start = 0x9000; end = 0x9002; offset = 0; name = codes "[vdso]" })
where_it_is = refl

no_segment_begins_there : vdso_by (drop 2 two_segments) (Some vector) ≡ None
no_segment_begins_there = refl

-- ---- builds: the first page of /a, with a note; /bc isn't mapped from its first byte on

abbrev image : List ℕ
image = hex (codes "7f454c4602010100000000000000000003003e0001000000000000000000000040000000000000000000000000000000000000004000380001000000000000000400000004000000780000000000000078000000000000007800000000000000140000000000000014000000000000000400000000000000040000000400000003000000474e550001020304")

abbrev images : List CoreSegment
images = record { start = 0x7000; bytes = image; is_executable = true } ∷ record { start = 0x400000; bytes = image; is_executable = true } ∷ []

its_build : build_of images two_mappings (codes "/a") ≡ Some (1 ∷ 2 ∷ 3 ∷ 4 ∷ [])
unfolding computing
its_build = refl

no_build : build_of images two_mappings (codes "/bc") ≡ None
no_build = refl

no_image : mapped_image (take 1 images) two_mappings (codes "/a") ≡ None
no_image = refl

-- ---- what errors say

machine_in_a_sentence : text_of_core (UnknownMachine 40) ≡ codes "unknown machine 40"
unfolding digits
machine_in_a_sentence = refl

file_in_a_sentence : text_of_core (Elf (NotCore 2)) ≡ codes "not a core file, but of type 2"
unfolding digits
file_in_a_sentence = refl
