-- Which samples of a profile are printed.
--     Choice, choice_view choice      what is asked of a sample, and that of the code
--     everything      nothing is asked
--     chooses choice name time s      whether a sample is all that is asked, at a time, of a thread
--         with this name
--     limited limit list      the first of a list, where there is a limit
use Rattle.std.specs.Prelude.{ℕ, ◌==◌, ◌&&◌, Bool, true, List, Option, Some, None}
use Rattle.std.specs.Prelude.{nat_le, option_map, take}
use Rattle.std.specs.Str.{bytes_eq}
use Rattle.cfi_perf.specs.Samples.{Sample}
use Rattle.cfi_stacks.specs.declared.choice.Choice.{Choice as ChoiceOfCode}
use Rattle.cfi_stacks.specs.SampleHeads.{thread_name_text}

-- of each part that is there, the sample's own is asked: the name of its thread, the process, the
-- thread, the first and the last time in nanoseconds, the event; and how many samples at most
pub record Choice : Type 0 where
  pub comm : Option (List ℕ)
  pub pid : Option ℕ
  pub tid : Option ℕ
  pub from : Option ℕ
  pub until : Option ℕ
  pub event : Option (List ℕ)
  pub limit : Option ℕ

abbrev pub choice_view : ChoiceOfCode → Choice
choice_view choice = record {
  comm = option_map (λ name. name.now) choice.comm;
  pid = choice.pid;
  tid = choice.tid;
  from = choice.from;
  until = choice.until;
  event = option_map (λ name. name.now) choice.event;
  limit = choice.limit;
}

abbrev pub everything : Choice
everything = record {
  comm = None;
  pid = None;
  tid = None;
  from = None;
  until = None;
  event = None;
  limit = None;
}

-- ---- a sample

-- the bytes of its name, or what stands in the place of one
abbrev pub comm_of : ℕ → Option (List ℕ) → List ℕ
comm_of tid (Some name) = name
comm_of tid None = thread_name_text tid None

-- what isn't asked holds
abbrev pub holds : {A : Type 0} → (A → Bool) → Option A → Bool
holds is None = true
holds is (Some asked) = is asked

abbrev pub is_of_thread : Choice → Option (List ℕ) → Sample → Bool
is_of_thread choice name s =
    holds (λ pid. s.pid == pid) choice.pid
    && holds (λ tid. s.tid == tid) choice.tid
    && holds (λ comm. bytes_eq (comm_of s.tid name) comm) choice.comm

abbrev pub is_in_time : Choice → ℕ → Bool
is_in_time choice time =
    holds (λ first. nat_le first time) choice.from && holds (λ last. nat_le time last) choice.until

abbrev pub chooses : Choice → Option (List ℕ) → ℕ → Sample → Bool
chooses choice name time s =
    is_of_thread choice name s && is_in_time choice time
    && holds (λ event. bytes_eq s.event event) choice.event

-- ---- how many

abbrev pub limited : {A : Type 0} → Option ℕ → List A → List A
limited None list = list
limited (Some limit) list = take limit list
