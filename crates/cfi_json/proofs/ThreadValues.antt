-- The object of a thread's stack is the text of its value.
use Rattle.std.proofs.Common.{◌≡◌, ◌∙◌, ℕ, ◌+◌, ◌==◌, Bool, true, false, cond, List, [], ◌∷◌, ◌++◌, Option, Some, None, codes, map, not, refl, sym, ap, ap₂, append_assoc, arith}
use Rattle.std.specs.Prelude.{⊤}
use Rattle.std.specs.List.{list_all}
use Rattle.std.proofs.lemmas.Bool.{and_parts}
use Rattle.json.specs.Run.{is_plain}
use Rattle.cfi_text.specs.JsonTexts.{json_number}
use Rattle.cfi_text.specs.Lines.{address_text}
use Rattle.cfi_cores.specs.declared.fault.Fault.{Fault}
use Rattle.cfi_cores.specs.CoreThreads.{CoreThread}
use Rattle.cfi_processes.specs.Frames.{walked_frame}
use Rattle.cfi_processes.specs.Rooms.{found_frames}
use Rattle.cfi_frames.specs.FrameJson.{frames_json, object_end}
use Rattle.cfi_core_stacks.specs.Signals.{named_from, signal_name, signal_names}
use Rattle.cfi_core_stacks.specs.ThreadMembers.{fault_members, process_member, signal_members, signal_name_member}
use Rattle.cfi_core_stacks.specs.ThreadOutputs.{Stack, stack_with, thread_object}
use Rattle.cfi_json.specs.Json.{address, name, number, text, Members, member, json_text, IsReadBack, NestsWithin}
use Rattle.cfi_json.specs.FrameValues.{stack_members}
use Rattle.cfi_json.specs.ThreadValues.{CoresReadBack, ThreadsReadBack, style_of, thread_members, thread_value, with_fault, with_process, with_signal, with_signal_name}
use Rattle.cfi_json.proofs.Building.{each_read_back, member_onto, object_is, onto}
use Rattle.cfi_json.proofs.Depths.{AreShallow, IsShallow, shallow_member, shallow_number, shallow_object}
use Rattle.cfi_json.proofs.FrameValues.{HasPlainName, IsPlain, plain_reason, shallow_stack, stack_onto}
use Rattle.cfi_json.proofs.Plain.{escaped_plain, plain_from}
use Rattle.cfi_json.proofs.Values.{reads_back}

-- ---- no character of a signal's name is escaped

abbrev IsPlainIf : Option (List ℕ) → Type 0
IsPlainIf None = ⊤
IsPlainIf (Some characters) = IsPlain characters

named_plain : (names : List (List ℕ)) → list_all (λ characters. list_all is_plain characters) names ≡ true → (first n : ℕ) → IsPlainIf (named_from first names n)
named_plain [] h first n = tt
named_plain (characters ∷ names) h first n =
    let both = and_parts (list_all is_plain characters) (list_all (λ more. list_all is_plain more) names) h in
    by (n == first) (escaped_plain characters (plain_from characters both.0)) (named_plain names both.1 (first + 1) n)
  where
    by : (b : Bool) → IsPlain characters → IsPlainIf (named_from (first + 1) names n) → IsPlainIf (cond b (Some characters) (named_from (first + 1) names n))
    by true plain more = plain
    by false plain more = more

signal_plain : (signal : ℕ) → IsPlainIf (signal_name signal)
signal_plain signal = named_plain signal_names refl 1 signal

-- ---- the text

signal_name_onto : (named : Option (List ℕ)) (y : List ℕ) (ms : Members) (x : List ℕ) → IsPlainIf named → y ≡ onto ms x → signal_name_member named ++ y ≡ onto (with_signal_name named ms) x
signal_name_onto None y ms x plain h = h
signal_name_onto (Some characters) y ms x plain h = ap₂ (λ (a b : List ℕ). codes ",\"name\":\"" ++ ((a ++ codes "\"") ++ b)) (sym plain) h

fault_joined : (code a y : List ℕ) → (code ++ (codes ",\"fault\":\"" ++ (a ++ codes "\""))) ++ y ≡ code ++ (codes ",\"fault\":\"" ++ ((a ++ codes "\"") ++ y))
fault_joined code a y = simp append_assoc

fault_onto : (fault : Option Fault) (y : List ℕ) (ms : Members) (x : List ℕ) → y ≡ onto ms x → fault_members fault ++ y ≡ onto (with_fault fault ms) x
fault_onto None y ms x h = h
fault_onto (Some fault) y ms x h =
    ap (λ (xs : List ℕ). fault_members (Some fault) ++ xs) h ∙ ap (λ (xs : List ℕ). codes ",\"code\":" ++ xs) (fault_joined (json_number fault.code) (address_text fault.address) (onto ms x))

signal_joined : (n s f y : List ℕ) → (n ++ (s ++ f)) ++ y ≡ n ++ (s ++ (f ++ y))
signal_joined n s f y = simp append_assoc

signal_onto : (signal : ℕ) (fault : Option Fault) (y : List ℕ) (ms : Members) (x : List ℕ) → y ≡ onto ms x → signal_members signal fault ++ y ≡ onto (with_signal signal fault ms) x
signal_onto signal fault y ms x h = by (signal == 0)
  where
    named : List ℕ
    named = signal_name_member (signal_name signal)

    members : Members
    members = with_signal_name (signal_name signal) (with_fault fault ms)

    by : (b : Bool) → cond b [] (codes ",\"signal\":" ++ (json_number signal ++ (named ++ fault_members fault))) ++ y ≡ onto (cond b ms (member (codes "signal") (number signal) members)) x
    by true = h
    by false =
        ap (λ (xs : List ℕ). codes ",\"signal\":" ++ xs) (signal_joined (json_number signal) named (fault_members fault) y)
        ∙ member_onto (codes "signal") (json_number signal) _ (number signal) members x refl (signal_name_onto (signal_name signal) _ (with_fault fault ms) x (signal_plain signal) (fault_onto fault y ms x h))

process_onto : (process : Option (List ℕ)) (y : List ℕ) (ms : Members) (x : List ℕ) → y ≡ onto ms x → process_member process ++ y ≡ onto (with_process process ms) x
process_onto None y ms x h = h
process_onto (Some process) y ms x h = ap (λ (xs : List ℕ). process_member (Some process) ++ xs) h

head_joined : (tid signal process y : List ℕ) → (codes "{\"tid\":" ++ (tid ++ (signal ++ (process ++ codes ",\"frames\":[")))) ++ y ≡ codes "{\"tid\":" ++ (tid ++ (signal ++ (process ++ (codes ",\"frames\":[" ++ y))))
head_joined tid signal process y = simp append_assoc

line_is : (raw : Bool) (stack : Stack) → HasPlainName stack.reason → thread_object raw stack ≡ json_text (thread_value raw stack) ++ 10 ∷ []
line_is raw stack plain =
    let t = stack.thread in
    let y = frames_json (style_of raw) stack.frames ++ object_end stack.reason in
    let closing : List ℕ = codes "}" ++ 10 ∷ [] in
    let last = stack_members (style_of raw) stack.frames stack.reason in
    let after_signal = with_process stack.process last in
    let after_tid = with_signal t.signal t.fault after_signal in
    let process = process_onto stack.process _ last closing (stack_onto (style_of raw) stack.frames stack.reason plain) in
    let signal = signal_onto t.signal t.fault _ after_signal closing process in
    let tid = member_onto (codes "tid") (json_number t.tid) _ (number t.tid) after_tid closing refl signal in
    head_joined (json_number t.tid) (signal_members t.signal t.fault) (process_member stack.process) y ∙ object_is _ (codes "tid") (number t.tid) after_tid (10 ∷ []) tid

-- ---- what is read from it

shallow_named : (named : Option (List ℕ)) (ms : Members) → AreShallow 2 ms → AreShallow 2 (with_signal_name named ms)
shallow_named None ms h = h
shallow_named (Some characters) ms h = shallow_member 2 (codes "name") (text characters) ms (omega arith) h

shallow_fault : (fault : Option Fault) (ms : Members) → AreShallow 2 ms → AreShallow 2 (with_fault fault ms)
shallow_fault None ms h = h
shallow_fault (Some fault) ms h =
    let behind = member (codes "fault") (address fault.address) ms in
    shallow_member 2 (codes "code") (number fault.code) behind (shallow_number 2 fault.code) (shallow_member 2 (codes "fault") (address fault.address) ms (omega arith) h)

shallow_signal : (signal : ℕ) (fault : Option Fault) (ms : Members) → AreShallow 2 ms → AreShallow 2 (with_signal signal fault ms)
shallow_signal signal fault ms h = by (signal == 0)
  where
    members : Members
    members = with_signal_name (signal_name signal) (with_fault fault ms)

    by : (b : Bool) → AreShallow 2 (cond b ms (member (codes "signal") (number signal) members))
    by true = h
    by false = shallow_member 2 (codes "signal") (number signal) members (shallow_number 2 signal) (shallow_named (signal_name signal) (with_fault fault ms) (shallow_fault fault ms h))

shallow_process : (process : Option (List ℕ)) (ms : Members) → AreShallow 2 ms → AreShallow 2 (with_process process ms)
shallow_process None ms h = h
shallow_process (Some process) ms h = shallow_member 2 (codes "process") (name process) ms (omega arith) h

shallow_thread : (raw : Bool) (stack : Stack) → IsShallow 3 (thread_value raw stack)
shallow_thread raw stack =
    let t = stack.thread in
    let last = stack_members (style_of raw) stack.frames stack.reason in
    let after_signal = with_process stack.process last in
    let after_tid = with_signal t.signal t.fault after_signal in
    let behind = shallow_signal t.signal t.fault after_signal (shallow_process stack.process last (shallow_stack (style_of raw) stack.frames stack.reason)) in
    shallow_object 2 (thread_members raw stack) (shallow_member 2 (codes "tid") (number t.tid) after_tid (shallow_number 2 t.tid) behind)

each_read : (raw : Bool) (stack : Stack) → IsReadBack (thread_value raw stack)
each_read raw stack =
    let shallow : NestsWithin (thread_value raw stack) = omega (arith, shallow_thread raw stack) in
    reads_back (thread_value raw stack) shallow

pub threads_read : ThreadsReadBack
threads_read raw process thread result frames =
    let stack = stack_with process thread result frames in
    rw (line_is raw stack (plain_reason result)) (each_read raw stack).on_line

-- ---- all threads

pub cores_read : CoresReadBack
cores_read raw asked machine files list memory process [] characters none = ([], refl, record { are = none; each = each_read_back (thread_value raw) (each_read raw) [] })
cores_read raw asked machine files list memory process (thread ∷ threads) characters (line, others, (result, found, walked, is), more, whole) =
    let rest = cores_read raw asked machine files list memory process threads others more in
    let stack = stack_with process thread result (map (walked_frame (not raw) files list) (found_frames result found)) in (
      stack ∷ rest.0,
      ap (λ (ts : List CoreThread). thread ∷ ts) rest.1,
      record {
        are = whole ∙ ap₂ (λ (a b : List ℕ). a ++ b) (is ∙ line_is raw stack (plain_reason result)) rest.2.are;
        each = each_read_back (thread_value raw) (each_read raw) (stack ∷ rest.0);
      },
    )
