-- What the object of a sample has before its frames (RFC 8259).
--     filled fill text      a text after as much of the fill as makes it as long
--     sample_head name time s      these members
use Rattle.std.specs.Prelude.{ℕ, ◌-◌, ◌/◌, ◌%◌, List, [], ◌++◌, Option, Some, None, codes, length}
use Rattle.std.specs.Prelude.{take}
use Rattle.std.specs.Fmt.{decimal}
use Rattle.cfi_perf.specs.Samples.{Sample}
use Rattle.cfi_text.specs.JsonTexts.{json_name, json_number}
use Rattle.cfi_stacks.specs.SampleHeads.{thread_name_text}

abbrev pub filled : List ℕ → List ℕ → List ℕ
filled fill text = take (length fill - length text) fill ++ text

-- ---- what comes before the frames of a sample

-- the name of its thread; where none is known its number, but for the idle thread
abbrev pub comm_text : ℕ → Option (List ℕ) → List ℕ
comm_text tid (Some name) = json_name name
comm_text tid None = thread_name_text tid None

-- nanoseconds as seconds, with nine digits after the point
abbrev pub nanoseconds_text : ℕ → List ℕ
nanoseconds_text time =
    decimal (time / 1000000000)
    ++ (codes "." ++ filled (codes "000000000") (decimal (time % 1000000000)))

abbrev pub cpu_member : Option ℕ → List ℕ
cpu_member None = []
cpu_member (Some cpu) = codes ",\"cpu\":" ++ json_number cpu

abbrev pub time_members : ℕ → ℕ → List ℕ
time_members time period =
    codes ",\"time\":\""
    ++ (nanoseconds_text time
    ++ (codes "\",\"period\":" ++ (json_number period ++ codes ",\"event\":\"")))

-- the process, the thread, the processor, the time and the period
abbrev pub number_members : ℕ → Sample → List ℕ
number_members time s =
    codes "\",\"pid\":"
    ++ (json_number s.pid
    ++ (codes ",\"tid\":"
    ++ (json_number s.tid ++ (cpu_member s.cpu ++ time_members time s.period))))

abbrev pub sample_head : Option (List ℕ) → ℕ → Sample → List ℕ
sample_head name time s =
    codes "{\"comm\":\""
    ++ (comm_text s.tid name
    ++ (number_members time s ++ (json_name s.event ++ codes "\",\"frames\":[")))
