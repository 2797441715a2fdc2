-- One more record, while the samples of the records are followed.
--     sample_record time s      the record of a sample
--     is_not_chosen choice known time event      whether it is a sample that isn't chosen
--     left_after left event      how many more may follow it
--     IsKnownAfter files event before now      what is known after it
--     IsTurn IsOf .. before left record now more found      a record is passed by, or followed
use Rattle.std.specs.Prelude.{◌≡◌, ◌⊎◌, ℕ, ◌-◌, Bool, true, false, List, [], Option}
use Rattle.std.specs.Prelude.{not, option_map}
use Rattle.std.specs.List.{list_all}
use Rattle.cfi_perf.specs.Events.{Event, Record, SampleEvent}
use Rattle.cfi_perf.specs.Samples.{Sample}
use Rattle.cfi_processes.specs.KnownFiles.{KnownFile}
use Rattle.cfi_processes.specs.Replays.{mapped_after}
use Rattle.cfi_mapped.specs.ThreadNames.{names_after}
use Rattle.cfi_stacks.specs.Choices.{Choice}
use Rattle.cfi_stacks.specs.KnownSamples.{Known, KnownSample, is_chosen, sample_at}
use Rattle.cfi_frames.specs.Sequences.{AreOfAll}

abbrev pub sample_record : ℕ → Sample → Record
sample_record time s = record { time = time; event = SampleEvent s }

abbrev pub is_not_chosen : Choice → Known → ℕ → Event → Bool
is_not_chosen choice known time event =
    not (list_all (is_chosen choice) (sample_at known time event))

abbrev pub left_after : Option ℕ → Event → Option ℕ
left_after left (SampleEvent s) = option_map (λ n. n - 1) left
left_after left _ = left

-- what is known was known before, but for what the event says
abbrev pub IsKnownAfter : List KnownFile → Event → Known → Known → Type 0
IsKnownAfter files event before now =
    ((pid : ℕ) → now.mapped pid ≡ mapped_after files event before.mapped pid)
    × ((tid : ℕ) → now.names tid ≡ names_after event before.names tid)

-- a record is passed by, of which nothing comes, or it is followed: what is known and how many are
-- left before it and after it, and what comes of it
module _ {A : Type 0} (IsOf : KnownSample → List A → Type 0) (files : List KnownFile)
    (choice : Choice) where
  abbrev pub IsTurn : Known → Option ℕ → Record → Known → Option ℕ → List A → Type 0
  IsTurn before left r now more found =
      ((is_not_chosen choice before r.time r.event ≡ true) × (now ≡ before) × (more ≡ left)
      × (found ≡ []))
      ⊎ ((is_not_chosen choice before r.time r.event ≡ false)
      × IsKnownAfter files r.event before now × (more ≡ left_after left r.event)
      × AreOfAll IsOf (sample_at now r.time r.event) found)
