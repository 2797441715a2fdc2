-- What is said of a profile: after the status 0 alone, from the tally of an index up to the bytes of the file.
use Rattle.std.proofs.Common.{◌≡◌, ◌∙◌, ◌≤◌, ◌+◌, ◌&&◌, ℕ, Bool, List, Option, Some, None, Result, Ok, Err, IfOk, ap, arith, inl, inr, not, refl, subst, sym}
use Rattle.std.specs.Prelude.{◌==◌, ⊤, slice_range}
use Rattle.std.specs.Result.{IsErr}
use Rattle.cfi_text.specs.Readings.{AreLeft}
use Rattle.cfi_perf.specs.declared.error.PerfError.{PerfError}
use Rattle.cfi_perf.specs.declared.windows.RecordWalk.{RecordWalk}
use Rattle.cfi_perf.specs.Events.{Record}
use Rattle.cfi_perf.specs.ProfileHeads.{ProfileHead}
use Rattle.cfi_perf.specs.Profiles.{Profile, profile, profile_records, records_by}
use Rattle.cfi_perf.specs.ProfilesAround.{profile_around}
use Rattle.cfi_perf.specs.Recordings.{has_samples, lacks_stacks, lost_in}
use Rattle.cfi_perf.specs.Records.{Records}
use Rattle.cfi_perf.specs.Windows.{next_place, record_bytes_left, records_in}
use Rattle.cfi_mapped.specs.Notices.{Notice, lost}
use Rattle.cfi_stacks.specs.declared.profile_index.ProfileIndex.{ProfileIndex}
use Rattle.cfi_stacks.specs.declared.profile_index.Tally.{Tally}
use Rattle.cfi_stacks.specs.ProfileIndexes.{IsReadAround, IsTallyOf, IsTallySaid, IsToldOf, records_bytes}
use Rattle.cfi_stacks.specs.ProfileNotices.{AreNoticesSaid, IsHeadSaid, IsProfileSaid, IsWalkSaid}
use Rattle.cfi_text.specs.declared.reading.InputError.{InputError}
use Rattle.cfi_text.specs.declared.reading.InputError.TheVariants as input_errors
use Rattle.cfi_text.specs.InputRefusals.{input_refusal}
use Rattle.cfi_text.specs.Lines.{Line}
use Rattle.cfi_text.specs.WriterOutput.{PrintsSome}
use Rattle.cfi_text.specs.declared.style.Format.{Format}
use Rattle.cfi_text.specs.declared.style.Format.TheVariants.{Text}
use Rattle.cfi_flame.specs.FoldedStacks.{Stack}
use Rattle.cfi_flame.specs.declared.folded.FoldedError.{FoldedError}
use Rattle.cfi_flame.specs.declared.folded.FoldedError.TheVariants.{OutOfMemory, NotFolded, NoSamples, TooManySamples}
use Rattle.cfi_stacks.specs.declared.visitor.VisitError.{VisitError}
use Rattle.cfi_stacks.specs.declared.visitor.VisitError.TheVariants as stopped
use Rattle.cfi_stacks.specs.ProfileOutputs.{Ends, EndsFolded, IsEndFolded, uncounted}
use Rattle.cfi_stacks.proofs.AroundLemmas.{has_own_records, has_records, own_records, whole_of}

-- ---- where all were visited

pub says : {T E : Type 0} {P : Type 0} (r : Result T E) → P → IfOk r (λ done. P)
says (Ok done) is = is
says (Err e) is = tt

pub says_then : {T E : Type 0} {P Q : Type 0} (r : Result T E) → (P → Q) → IfOk r (λ done. P) → IfOk r (λ done. Q)
says_then (Ok done) next is = next is
says_then (Err e) next is = tt

-- ---- after the status 0

refused_says : {E : Type 0} (P : Type 0) (r : Result ℕ E) (n : ℕ) → 1 ≤ n → IfOk r (λ status. status ≡ n) → IfOk r (λ status. status ≡ 0 → P)
refused_says P (Ok status) n more is = λ zero. absurd (omega (arith, more, is, zero))
refused_says P (Err e) n more is = tt

no_status : {E : Type 0} (P : Type 0) (r : Result ℕ E) → IsErr r → IfOk r (λ status. status ≡ 0 → P)
no_status P (Ok status) err = λ zero. absurd (cc)
no_status P (Err e) err = tt

all_say : {E : Type 0} {P : Type 0} (r : Result ℕ E) → P → IfOk r (λ status. status ≡ 0 → P)
all_say (Ok status) is = λ zero. is
all_say (Err e) is = tt

input_refused : (format : Format) (why : InputError) → 1 ≤ (input_refusal format why).status
input_refused format input_errors.OutOfMemory = omega arith
input_refused format input_errors.Unreadable = omega arith
input_refused format input_errors.NotHexadecimal = omega arith

pub after_end : {E F : Type 0} (P : Type 0) (format : Format) (visited : Result ⊤ (VisitError E)) (old new : Option (List ℕ)) (r : Result ℕ F) → Ends format visited old new r → IfOk visited (λ done. P) → IfOk r (λ status. status ≡ 0 → P)
after_end P format (Ok done) old new r ends is = all_say r is
after_end P format (Err (stopped.Records e)) old new r ends is = refused_says P r 1 (omega arith) ends.1
after_end P format (Err (stopped.Profile e)) old new r ends is = refused_says P r 1 (omega arith) ends.1
after_end P format (Err stopped.UnknownMachine) old new r ends is = refused_says P r 1 (omega arith) ends.1
after_end P format (Err (stopped.Input why)) old new r ends is = refused_says P r _ (input_refused format why) ends.1
after_end P format (Err (stopped.Visitor why)) old new r ends is = no_status P r ends.1

after_line : {F : Type 0} (P : Type 0) (folded : List Stack) (e : PerfError) (old new : Option (List ℕ)) (r : Result ℕ F) → PrintsSome (IsEndFolded folded (Some e)) old new r → IfOk r (λ status. status ≡ 0 → P)
after_line P folded e old new r (line, prints, inl is) = refused_says P r line.status (omega (arith, ap (λ (l : Line). l.status) is)) prints.1
after_line P folded e old new r (line, prints, inr is) = refused_says P r line.status (omega (arith, ap (λ (l : Line). l.status) is)) prints.1

counted_not : (why : FoldedError) → 1 ≤ (uncounted why).status
counted_not TooManySamples = omega arith
counted_not OutOfMemory = omega arith
counted_not (NotFolded number) = omega arith
counted_not NoSamples = omega arith

pub after_counts : {F : Type 0} (P : Type 0) (folded : List Stack) (visited : Result ⊤ (VisitError FoldedError)) (old new : Option (List ℕ)) (r : Result ℕ F) → EndsFolded folded visited old new r → IfOk visited (λ done. P) → IfOk r (λ status. status ≡ 0 → P)
after_counts P folded (Ok done) old new r ends is = all_say r is
after_counts P folded (Err (stopped.Records e)) old new r ends is = after_line P folded e old new r ends
after_counts P folded (Err (stopped.Profile e)) old new r ends is = refused_says P r 1 (omega arith) ends.1
after_counts P folded (Err stopped.UnknownMachine) old new r ends is = refused_says P r 1 (omega arith) ends.1
after_counts P folded (Err (stopped.Input why)) old new r ends is = refused_says P r _ (input_refused Text why) ends.1
after_counts P folded (Err (stopped.Visitor why)) old new r ends is = refused_says P r _ (counted_not why) ends.1

module _ (Said : Notice → Type 0) where
  -- ---- from the tally to the records

  notices_said : (tally : Tally) (records : List Record) → IsTallyOf tally records → IsTallySaid Said tally → AreNoticesSaid Said records
  notices_said tally records of said =
      let same : (tally.has_samples && not tally.has_stacks) ≡ lacks_stacks records = ap (λ (b : Bool). b && not tally.has_stacks) of.samples ∙ ap (λ (b : Bool). has_samples records && not b) of.stacks in
      let none : (tally.lost_records == 0 && tally.lost_samples == 0) ≡ ((lost_in records).records == 0 && (lost_in records).samples == 0) =
      ap (λ (n : ℕ). n == 0 && tally.lost_samples == 0) of.lost ∙ ap (λ (n : ℕ). (lost_in records).records == 0 && n == 0) of.lost_samples in
      record {
        copies = λ lacking. said.copies (same ∙ lacking);
        losses = λ some. subst (λ (n : ℕ). Said (lost n (lost_in records).samples)) of.lost (subst (λ (n : ℕ). Said (lost tally.lost_records n)) of.lost_samples (said.losses (none ∙ some)));
      }

  pub walk_said : (known : Option (List ℕ)) (index : ProfileIndex) (walk : RecordWalk) → IsToldOf known index → index.walk ≡ walk → IsTallySaid Said index.tally
      → IsWalkSaid Said known walk
  walk_said None index walk told same said = tt
  walk_said (Some file) index walk (all, (long, is), of) same said =
      subst (λ (w : RecordWalk). AreNoticesSaid Said (records_in w (records_bytes w file)).records) same
      (notices_said index.tally (records_in index.walk (records_bytes index.walk file)).records (subst (λ (l : List ℕ). IsTallyOf index.tally (records_in index.walk l).records) is of) said)

  -- ---- from what a profile says before its records to its bytes

  pub head_said : (known : Option (List ℕ)) (head : ProfileHead) (walk : RecordWalk) → ((all : List ℕ) → records_in walk all ≡ records_by head all) → record_bytes_left walk ≡ head.size → next_place walk ≡ head.place
      → IsWalkSaid Said known walk → IsHeadSaid Said known head
  head_said None head walk same left place is = tt
  head_said (Some file) head walk same left place is =
      let at : records_bytes walk file ≡ slice_range file head.place (head.place + head.size) =
      ap (λ (n : ℕ). slice_range file n (n + record_bytes_left walk)) place ∙ ap (λ (n : ℕ). slice_range file head.place (head.place + n)) left in
      subst (λ (found : Records). AreNoticesSaid Said found.records) (same (slice_range file head.place (head.place + head.size)))
      (subst (λ (l : List ℕ). AreNoticesSaid Said (records_in walk l).records) at is)

  abbrev IsProfile : Result Profile PerfError → Type 0
  IsProfile r = IfOk r (λ p. AreNoticesSaid Said (profile_records p).records)

  pub parsed_said : (bytes : List ℕ) (p : Profile) (head : ProfileHead) → profile bytes ≡ Ok p → head ≡ p.head → IsHeadSaid Said (Some bytes) head → IsProfileSaid Said (Some bytes)
  parsed_said bytes p head is same said =
      let at = subst (λ (h : ProfileHead). AreNoticesSaid Said (records_by h (slice_range bytes h.place (h.place + h.size))).records) same said in
      let all = slice_range bytes p.head.place (p.head.place + p.head.size) in
      subst IsProfile (sym is) (subst (λ (l : List ℕ). AreNoticesSaid Said (records_by p.head l).records) (own_records bytes p is all (has_own_records bytes p is, refl)) at)

  pub left_said : (known : Option (List ℕ)) (bytes : List ℕ) → AreLeft known bytes → IsProfileSaid Said (Some bytes) → IsProfileSaid Said known
  left_said None bytes left is = tt
  left_said (Some file) bytes left is = subst (λ (l : List ℕ). IsProfile (profile l)) left is

  pub around_said : (known : Option (List ℕ)) (before behind : List ℕ) (count : ℕ) (head : ProfileHead) → IsReadAround known before behind count → profile_around before behind count ≡ Ok (Some head)
      → IsHeadSaid Said known head → IsProfileSaid Said known
  around_said None before behind count head around read is = tt
  around_said (Some file) before behind count head around read is =
      let all = slice_range file head.place (head.place + head.size) in
      let (bytes, left, found) = whole_of before behind count head read (Some file) all around (has_records before behind count head read (Some file) around, refl) in
      let of : profile file ≡ Ok (record { head = head; records = all }) = subst (λ (l : List ℕ). profile l ≡ Ok (record { head = head; records = all })) left found in
      subst IsProfile (sym of) is
