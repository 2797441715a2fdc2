-- What the object of a thread of a core file has before its frames (RFC 8259).
--     thread_head thread name      these members
use Rattle.std.specs.Prelude.{ℕ, ◌==◌, List, [], ◌++◌, Option, Some, None, codes, if◌then◌else◌}
use Rattle.cfi_cores.specs.declared.fault.Fault.{Fault}
use Rattle.cfi_cores.specs.CoreThreads.{CoreThread}
use Rattle.cfi_text.specs.JsonTexts.{json_name, json_number}
use Rattle.cfi_text.specs.Lines.{address_text}
use Rattle.cfi_core_stacks.specs.Signals.{signal_name}

abbrev pub signal_name_member : Option (List ℕ) → List ℕ
signal_name_member None = []
signal_name_member (Some name) = codes ",\"name\":\"" ++ (name ++ codes "\"")

-- which fault it is, and where
abbrev pub fault_members : Option Fault → List ℕ
fault_members None = []
fault_members (Some fault) =
    codes ",\"code\":"
    ++ (json_number fault.code
    ++ (codes ",\"fault\":\"" ++ (address_text fault.address ++ codes "\"")))

-- where it got none, its number is 0
abbrev pub signal_members : ℕ → Option Fault → List ℕ
signal_members signal fault =
    if signal == 0 then []
    else codes ",\"signal\":"
    ++ (json_number signal ++ (signal_name_member (signal_name signal) ++ fault_members fault))

abbrev pub process_member : Option (List ℕ) → List ℕ
process_member None = []
process_member (Some name) = codes ",\"process\":\"" ++ (json_name name ++ codes "\"")

-- the number of the thread, its signal and the name of its process
abbrev pub thread_head : CoreThread → Option (List ℕ) → List ℕ
thread_head thread name =
    codes "{\"tid\":"
    ++ (json_number thread.tid
    ++ (signal_members thread.signal thread.fault
    ++ (process_member name ++ codes ",\"frames\":[")))
