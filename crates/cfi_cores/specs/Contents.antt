-- What the notes of a core file say (core(5), "notes" of linux/elfcore.h and uapi/linux/elf.h).
--     Contents      threads, the files that were mapped, the auxiliary vector, what the kernel says
--         of the signal, the name of the process, and the error that ended the notes
--     then_contents first others      what both say: nothing follows an error, and of all but
--         threads the first counts
--     contents_of_headers machine bytes headers      what the notes of a file's segments say
use Rattle.std.specs.Prelude.{ℕ, Bool, true, false, not, List, [], ◌∷◌, ◌++◌, map, codes, Option}
use Rattle.std.specs.Prelude.{Some, None, Vec, length, option_map, nat_eq, nat_lt, ◌==◌}
use Rattle.std.specs.Prelude.{if◌then◌else◌}
use Rattle.std.specs.Cmp.Lexicographic.{pointwise}
use Rattle.cfi_elf.specs.declared.program_header.ProgramHeader.{ProgramHeader}
use Rattle.cfi_elf.specs.Notes.{Note, Notes, notes_of}
use Rattle.cfi_elf.specs.Options.{or_else}
use Rattle.cfi_processes.specs.declared.registers.SampleMachine.{SampleMachine}
use Rattle.cfi_cores.specs.declared.contents.Contents.{Contents as ContentsOfCode}
use Rattle.cfi_cores.specs.declared.error.CoreError.{CoreError}
use Rattle.cfi_cores.specs.declared.mapped_files.CoreMapping.{CoreMapping as MappingOfCode}
use Rattle.cfi_cores.specs.declared.thread.CoreThread.{CoreThread as ThreadOfCode}
use Rattle.cfi_cores.specs.declared.error.CoreError.TheVariants.{NoteCut, ThreadCut, FilesCut}
use Rattle.cfi_cores.specs.CoreThreads.{CoreThread, thread_in, thread_view}
use Rattle.cfi_cores.specs.MappedFiles.{CoreMapping, files_in, mappings_view}
use Rattle.cfi_cores.specs.ProcessNames.{process_name}
use Rattle.cfi_cores.specs.CoreSegments.{segment_bytes}

pub record Contents : Type 0 where
  pub threads : List CoreThread
  pub mapped : Option (List CoreMapping)
  pub vector : Option (List ℕ)
  pub siginfo : Option (List ℕ)
  pub name : Option (List ℕ)
  pub error : Option CoreError

-- what the code has of it
abbrev pub contents_view : ContentsOfCode → Contents
contents_view c = record {
  threads = map thread_view c.threads.items;
  mapped = option_map mappings_view c.mapped;
  vector = option_map (λ vector. vector.now) c.vector;
  siginfo = option_map (λ siginfo. siginfo.now) c.siginfo;
  name = option_map (λ name. name.now) c.name;
  error = c.error;
}

-- ---- one after the other

abbrev pub no_contents : Contents
no_contents = record {
  threads = [];
  mapped = None;
  vector = None;
  siginfo = None;
  name = None;
  error = None;
}

abbrev pub ended_by : CoreError → Contents
ended_by error = record no_contents { error = Some error }

abbrev pub unless_ended : Option CoreError → Contents → Contents → Contents
unless_ended (Some error) first others = first
unless_ended None first others = record {
  threads = first.threads ++ others.threads;
  mapped = or_else first.mapped others.mapped;
  vector = or_else first.vector others.vector;
  siginfo = or_else first.siginfo others.siginfo;
  name = or_else first.name others.name;
  error = others.error;
}

abbrev pub then_contents : Contents → Contents → Contents
then_contents first others = unless_ended first.error first others

-- ---- what a note says

abbrev pub contents_of_thread : Option CoreThread → Contents
contents_of_thread (Some thread) = record no_contents { threads = thread ∷ [] }
contents_of_thread None = ended_by ThreadCut

abbrev pub contents_of_files : Option (List CoreMapping) → Contents
contents_of_files (Some files) = record no_contents { mapped = Some files }
contents_of_files None = ended_by FilesCut

abbrev pub contents_of_vector : List ℕ → Contents
contents_of_vector vector = record no_contents { vector = Some vector }

abbrev pub contents_of_siginfo : List ℕ → Contents
contents_of_siginfo siginfo = record no_contents { siginfo = Some siginfo }

abbrev pub contents_of_name : Option (List ℕ) → Contents
contents_of_name name = record no_contents { name = name }

-- NT_PRSTATUS is 1, NT_PRPSINFO is 3, NT_AUXV is 6, NT_SIGINFO is 0x53494749, NT_FILE is 0x46494c45
abbrev pub contents_of_note : SampleMachine → Note → Contents
contents_of_note machine note =
    if not (pointwise nat_eq note.name (codes "CORE")) then no_contents
    else if note.kind == 1 then contents_of_thread (thread_in machine note.desc)
    else if note.kind == 3 then contents_of_name (process_name note.desc)
    else if note.kind == 6 then contents_of_vector note.desc
    else if note.kind == 0x53494749 then contents_of_siginfo note.desc
    else if note.kind == 0x46494c45 then contents_of_files (files_in note.desc)
    else no_contents

-- ---- what notes say

abbrev pub cut_end : Bool → Contents
cut_end true = ended_by NoteCut
cut_end false = no_contents

abbrev pub contents_of_notes : SampleMachine → List Note → Contents → Contents
contents_of_notes machine [] end = end
contents_of_notes machine (note ∷ notes) end =
    then_contents (contents_of_note machine note) (contents_of_notes machine notes end)

-- the notes of these bytes, and the error where they are cut
abbrev pub contents_of_all : SampleMachine → Notes → Contents
contents_of_all machine all = contents_of_notes machine all.notes (cut_end all.is_cut)

abbrev pub contents_of_segment : SampleMachine → List ℕ → Contents
contents_of_segment machine bytes = contents_of_all machine (notes_of false bytes)

-- the notes of those bytes of a segment that the file has; where the segment has more, notes are
-- cut, also behind a whole one
abbrev pub contents_of_part : SampleMachine → ℕ → List ℕ → Contents
contents_of_part machine size bytes =
    then_contents (contents_of_segment machine bytes) (cut_end (nat_lt (length bytes) size))

-- PT_NOTE is 4
abbrev pub contents_of_header : SampleMachine → List ℕ → ProgramHeader → Contents
contents_of_header machine bytes header =
    if header.p_type == 4
    then contents_of_part machine header.p_filesz (segment_bytes bytes header)
    else no_contents

abbrev pub contents_of_headers : SampleMachine → List ℕ → List ProgramHeader → Contents
contents_of_headers machine bytes [] = no_contents
contents_of_headers machine bytes (header ∷ headers) =
    then_contents (contents_of_header machine bytes header)
    (contents_of_headers machine bytes headers)

-- ---- what the code found in a note

abbrev pub thread_found : Option ThreadOfCode → Option CoreThread
thread_found found = option_map thread_view found

abbrev pub files_found : {A : Type 0} → Option (Vec MappingOfCode A) → Option (List CoreMapping)
files_found found = option_map mappings_view found
