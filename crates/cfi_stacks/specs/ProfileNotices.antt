-- What is said of a profile beside its output.
--     AreNoticesSaid Said records      that the samples have no copies of stacks, and what was lost
--     IsProfileSaid Said known      it was said of the records of the file, where its bytes are
--         known
use Rattle.std.specs.Prelude.{◌≡◌, ℕ, ◌+◌, ◌==◌, true, false, ◌&&◌, List, Option}
use Rattle.std.specs.Prelude.{IfOk, IfSome, slice_range}
use Rattle.cfi_perf.specs.declared.windows.RecordWalk.{RecordWalk}
use Rattle.cfi_perf.specs.Events.{Record}
use Rattle.cfi_perf.specs.ProfileHeads.{ProfileHead}
use Rattle.cfi_perf.specs.Profiles.{profile, profile_records, records_by}
use Rattle.cfi_perf.specs.Recordings.{lacks_stacks, lost_in}
use Rattle.cfi_perf.specs.Windows.{records_in}
use Rattle.cfi_mapped.specs.Notices.{Notice, lost, without_stacks}
use Rattle.cfi_stacks.specs.ProfileIndexes.{records_bytes}

pub record AreNoticesSaid (Said : Notice → Type 0) (records : List Record) : Type 0 where
  pub copies : lacks_stacks records ≡ true → Said without_stacks
  pub losses :
      ((lost_in records).records == 0 && (lost_in records).samples == 0) ≡ false →
      Said (lost (lost_in records).records (lost_in records).samples)

-- of the records of a walk that is at the first one
abbrev pub IsWalkSaid : (Notice → Type 0) → Option (List ℕ) → RecordWalk → Type 0
IsWalkSaid Said known walk =
    IfSome known
    (λ file. AreNoticesSaid Said (records_in walk (records_bytes walk file)).records)

-- of those that follow what a profile says before them
abbrev pub IsHeadSaid : (Notice → Type 0) → Option (List ℕ) → ProfileHead → Type 0
IsHeadSaid Said known head =
    IfSome known
    (λ file.
    AreNoticesSaid Said
    (records_by head (slice_range file head.place (head.place + head.size))).records)

abbrev pub IsProfileSaid : (Notice → Type 0) → Option (List ℕ) → Type 0
IsProfileSaid Said known =
    IfSome known
    (λ file. IfOk (profile file) (λ p. AreNoticesSaid Said (profile_records p).records))
