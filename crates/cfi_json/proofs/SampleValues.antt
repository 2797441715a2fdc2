-- The object of a sample's stack is the text of its value.
use Rattle.std.proofs.Common.{◌≡◌, ◌∙◌, ℕ, ◌-◌, ◌/◌, ◌%◌, ◌==◌, Bool, true, false, cond, List, [], ◌∷◌, ◌++◌, length, Option, Some, None, Result, codes, refl, sym, ap, append_assoc, arith, not, subst}
use Rattle.std.specs.Fmt.{decimal}
use Rattle.cfi_text.specs.JsonTexts.{json_name, json_number}
use Rattle.cfi_perf.specs.Samples.{Sample}
use Rattle.cfi_step.specs.declared.walk.Walk.{Walk}
use Rattle.cfi_processes.specs.declared.registers.SampleMachine.{SampleMachine}
use Rattle.cfi_processes.specs.declared.sample_stack.NoFrames.{NoFrames}
use Rattle.cfi_processes.specs.KnownFiles.{KnownFile}
use Rattle.cfi_frames.specs.FrameJson.{frames_json, object_end}
use Rattle.cfi_frames.specs.Reasons.{reason_for}
use Rattle.cfi_stacks.specs.ChosenStacks.{IsSampleStack}
use Rattle.cfi_stacks.specs.KnownSamples.{KnownSample, chosen}
use Rattle.cfi_stacks.specs.SampleHeads.{thread_name_text}
use Rattle.cfi_stacks.specs.SampleMembers.{comm_text, cpu_member, nanoseconds_text}
use Rattle.cfi_stacks.specs.SampleOutputs.{Stack, sample_object, stack_with}
use Rattle.cfi_json.specs.Json.{name, number, text, Members, member, json_text, IsReadBack, NestsWithin, quoted}
use Rattle.cfi_json.specs.FrameValues.{stack_members}
use Rattle.cfi_json.specs.SampleValues.{ProfilesReadBack, SamplesReadBack, comm_value, sample_members, sample_value, style_of, with_cpu}
use Rattle.cfi_json.proofs.Building.{Each, each_of_all, each_read_back, lines_are, member_onto, object_is, onto, string_onto}
use Rattle.cfi_json.proofs.Depths.{AreShallow, IsShallow, shallow_member, shallow_number, shallow_object}
use Rattle.cfi_json.proofs.FrameValues.{HasPlainName, plain_reason, shallow_stack, stack_onto}
use Rattle.cfi_json.proofs.Plain.{ArePlain, escaped_plain, plain_both, plain_decimal, plain_from, plain_take}
use Rattle.cfi_json.proofs.Values.{reads_back}

-- ---- texts of which no character is escaped

plain_time : (time : ℕ) → ArePlain (nanoseconds_text time)
plain_time time =
    let rest = decimal (time % 1000000000) in
    let zeros = codes "000000000" in
    plain_both (decimal (time / 1000000000)) _ (plain_decimal (time / 1000000000)) (plain_both (codes ".") _ (plain_from (codes ".") refl) (plain_both _ rest (plain_take (length zeros - length rest) zeros (plain_from zeros refl)) (plain_decimal (time % 1000000000))))

plain_thread : (tid : ℕ) → ArePlain (thread_name_text tid None)
plain_thread tid = by (tid == 0)
  where
    by : (b : Bool) → ArePlain (cond b (codes "swapper") (codes ":" ++ decimal tid))
    by true = plain_from (codes "swapper") refl
    by false = plain_both (codes ":") (decimal tid) (plain_from (codes ":") refl) (plain_decimal tid)

comm_is : (tid : ℕ) (name : Option (List ℕ)) → json_text (comm_value tid name) ≡ quoted (comm_text tid name)
comm_is tid (Some bytes) = refl
comm_is tid None = ap quoted (escaped_plain (thread_name_text tid None) (plain_thread tid))

time_is : (time : ℕ) → json_text (text (nanoseconds_text time)) ≡ quoted (nanoseconds_text time)
time_is time = ap quoted (escaped_plain (nanoseconds_text time) (plain_time time))

-- ---- the text

head_joined : (comm pid tid cpu time period event y : List ℕ) →
    (codes "{\"comm\":\"" ++ (comm ++ ((codes "\",\"pid\":" ++ (pid ++ (codes ",\"tid\":" ++ (tid ++ (cpu ++ (codes ",\"time\":\"" ++ (time ++ (codes "\",\"period\":" ++ (period ++ codes ",\"event\":\""))))))))) ++ (event ++ codes "\",\"frames\":[")))) ++ y
    ≡ codes "{\"comm\":\"" ++ (comm ++ (codes "\",\"pid\":" ++ (pid ++ (codes ",\"tid\":" ++ (tid ++ (cpu ++ (codes ",\"time\":\"" ++ (time ++ (codes "\",\"period\":" ++ (period ++ (codes ",\"event\":\"" ++ (event ++ (codes "\",\"frames\":[" ++ y)))))))))))))
head_joined comm pid tid cpu time period event y = simp append_assoc

cpu_onto : (cpu : Option ℕ) (y : List ℕ) (ms : Members) (x : List ℕ) → y ≡ onto ms x → cpu_member cpu ++ y ≡ onto (with_cpu cpu ms) x
cpu_onto None y ms x h = h
cpu_onto (Some cpu) y ms x h = ap (λ (xs : List ℕ). cpu_member (Some cpu) ++ xs) h

-- ---- how deep it nests

shallow_comm : (tid : ℕ) (name : Option (List ℕ)) → IsShallow 2 (comm_value tid name)
shallow_comm tid (Some bytes) = omega arith
shallow_comm tid None = omega arith

shallow_cpu : (cpu : Option ℕ) (ms : Members) → AreShallow 2 ms → AreShallow 2 (with_cpu cpu ms)
shallow_cpu None ms h = h
shallow_cpu (Some cpu) ms h = shallow_member 2 (codes "cpu") (number cpu) ms (shallow_number 2 cpu) h

-- ---- of a stack

module _ (raw : Bool) (stack : Stack) where
  abbrev s : Sample
  s = stack.sample

  -- the members after each
  abbrev after_event : Members
  after_event = stack_members (style_of raw) stack.frames stack.reason

  abbrev after_period : Members
  after_period = member (codes "event") (name s.event) after_event

  abbrev after_time : Members
  after_time = member (codes "period") (number s.period) after_period

  abbrev after_cpu : Members
  after_cpu = member (codes "time") (text (nanoseconds_text stack.time)) after_time

  abbrev after_tid : Members
  after_tid = with_cpu s.cpu after_cpu

  abbrev after_pid : Members
  after_pid = member (codes "tid") (number s.tid) after_tid

  abbrev after_comm : Members
  after_comm = member (codes "pid") (number s.pid) after_pid

  abbrev closing : List ℕ
  closing = codes "}" ++ 10 ∷ []

  line_is : HasPlainName stack.reason → sample_object raw stack ≡ json_text (sample_value raw stack) ++ 10 ∷ []
  line_is plain =
      let y = frames_json (style_of raw) stack.frames ++ object_end stack.reason in
      let event = string_onto (codes "event") (json_name s.event) _ (name s.event) after_event closing refl (stack_onto (style_of raw) stack.frames stack.reason plain) in
      let period = member_onto (codes "period") (json_number s.period) _ (number s.period) after_period closing refl event in
      let time = string_onto (codes "time") (nanoseconds_text stack.time) _ (text (nanoseconds_text stack.time)) after_time closing (time_is stack.time) period in
      let cpu = cpu_onto s.cpu _ after_cpu closing time in
      let tid = member_onto (codes "tid") (json_number s.tid) _ (number s.tid) after_tid closing refl cpu in
      let pid = member_onto (codes "pid") (json_number s.pid) _ (number s.pid) after_pid closing refl tid in
      let comm = string_onto (codes "comm") (comm_text s.tid stack.name) _ (comm_value s.tid stack.name) after_comm closing (comm_is s.tid stack.name) pid in
      head_joined (comm_text s.tid stack.name) (json_number s.pid) (json_number s.tid) (cpu_member s.cpu) (nanoseconds_text stack.time) (json_number s.period) (json_name s.event) y
      ∙ object_is _ (codes "comm") (comm_value s.tid stack.name) after_comm (10 ∷ []) comm

  shallow_sample : IsShallow 3 (sample_value raw stack)
  shallow_sample =
      let event = shallow_member 2 (codes "event") (name s.event) after_event (omega arith) (shallow_stack (style_of raw) stack.frames stack.reason) in
      let period = shallow_member 2 (codes "period") (number s.period) after_period (shallow_number 2 s.period) event in
      let time = shallow_member 2 (codes "time") (text (nanoseconds_text stack.time)) after_time (omega arith) period in
      let tid = shallow_member 2 (codes "tid") (number s.tid) after_tid (shallow_number 2 s.tid) (shallow_cpu s.cpu after_cpu time) in
      let pid = shallow_member 2 (codes "pid") (number s.pid) after_pid (shallow_number 2 s.pid) tid in
      shallow_object 2 (sample_members raw stack) (shallow_member 2 (codes "comm") (comm_value s.tid stack.name) after_comm (shallow_comm s.tid stack.name) pid)

-- ---- what is read

plain_of : (copies_stack : Bool) (result : Result Walk NoFrames) → HasPlainName (cond copies_stack (reason_for result) None)
plain_of true result = plain_reason result
plain_of false result = tt

each_read : (raw : Bool) (stack : Stack) → IsReadBack (sample_value raw stack)
each_read raw stack =
    let shallow : NestsWithin (sample_value raw stack) = omega (arith, shallow_sample raw stack) in
    reads_back (sample_value raw stack) shallow

pub samples_read : SamplesReadBack
samples_read raw taken result frames =
    let stack = stack_with taken result frames in
    rw (line_is raw stack (plain_of taken.sample.copies_stack result)) (each_read raw stack).on_line

-- ---- all samples

abbrev IsPlainStack : Stack → Type 0
IsPlainStack stack = HasPlainName stack.reason

plain_sample : (with_functions : Bool) (machine : SampleMachine) (files : List KnownFile) (of : KnownSample) (stacks : List Stack) → IsSampleStack with_functions machine files of stacks → Each IsPlainStack stacks
plain_sample with_functions machine files of stacks (stack, (result, frames, walked, is), one) = subst (Each IsPlainStack) (sym one) (subst IsPlainStack (sym is) (plain_of of.sample.copies_stack result), tt)

pub profiles_read : ProfilesReadBack
profiles_read raw machine files choice records characters (stacks, are, texts) =
    let plain = each_of_all (IsSampleStack (not raw) machine files) IsPlainStack (plain_sample (not raw) machine files) (chosen choice files records) stacks are in (
      stacks,
      are,
      record {
        are = lines_are (sample_value raw) (λ stack line. line ≡ sample_object raw stack) IsPlainStack (λ stack line h is. is ∙ line_is raw stack h) stacks characters plain texts;
        each = each_read_back (sample_value raw) (each_read raw) stacks;
      },
    )
