-- The samples of the records of a profile, counted by their folded stacks.
use Rattle.std.proofs.Common.{◌≡◌, ◌∙◌, ◌⊎◌, ℕ, ◌+◌, ◌<◌, ◌^◌, Bool, true, List, [], ◌∷◌, ◌++◌, Option, Some, None, Result, Ok, Err, OnOk, IfErr, take, map, refl, sym, ap, subst, inl, inr, append_assoc, append-nil, arith, unwrap_or}
use Rattle.std.specs.Prelude.{⊤}
use Rattle.std.specs.List.{FoldsTo}
use Rattle.cfi_flame.specs.declared.folded.FoldedError.{FoldedError}
use Rattle.cfi_flame.specs.declared.folded.FoldedError.TheVariants.{OutOfMemory, NotFolded, NoSamples, TooManySamples}
use Rattle.cfi_flame.specs.FoldedCounts.{AreCounted, CountsMore, IsNotAdded, counted}
use Rattle.cfi_flame.specs.FoldedStacks.{Stack as FoldedStack}
use Rattle.cfi_flame.proofs.CountLemmas.{counted_here}
use Rattle.cfi_perf.specs.declared.error.PerfError.{PerfError}
use Rattle.cfi_perf.specs.Events.{Record}
use Rattle.cfi_text.specs.declared.style.Format.TheVariants.{Text}
use Rattle.cfi_text.specs.InputRefusals.{input_refusal}
use Rattle.cfi_text.specs.WriterOutput.{Prints, PrintsSome}
use Rattle.cfi_mapped.specs.Wanted.{FilePlace}
use Rattle.cfi_processes.specs.declared.registers.SampleMachine.{SampleMachine}
use Rattle.cfi_processes.specs.KnownFiles.{KnownFile}
use Rattle.cfi_text.specs.declared.reading.InputError.TheVariants.{OutOfMemory as InputMemory}
use Rattle.cfi_stacks.specs.declared.visitor.VisitError.{VisitError}
use Rattle.cfi_stacks.specs.declared.visitor.VisitError.TheVariants as stopped
use Rattle.cfi_stacks.specs.Choices.{Choice}
use Rattle.cfi_stacks.specs.ChosenStacks.{AreStacks, folded_sample, sample_weight}
use Rattle.cfi_stacks.specs.FoldedTexts.{folded_text}
use Rattle.cfi_stacks.specs.ProfileOutputs.{AreFolded, Counts, EndsFolded, HasTooMany, HaveTooMany, IsEndFolded, IsFolded, IsInputRefused, IsNotCounted, IsOwed, too_many, uncounted}
use Rattle.cfi_stacks.specs.SampleOutputs.{Stack}
use Rattle.cfi_stacks.specs.Visits.{AreVisited, IsMachineUnknown, IsProfileRefused, IsProfileVisited, VisitsAll}
use Rattle.cfi_stacks.proofs.ContentLemmas.{print_profile}

-- ---- a stack

sum_fits : (text : List ℕ) (all : List FoldedStack) (count : ℕ) (old : List FoldedStack) → counted text old ≡ counted text all → unwrap_or (counted text (all ++ record { frames = text; count = count } ∷ [])) 0 < 2 ^ 64 → unwrap_or (counted text old) 0 + count < 2 ^ 64
sum_fits text all count old same fits =
    let f : unwrap_or (counted text (all ++ record { frames = text; count = count } ∷ [])) 0 ≡ count + unwrap_or (counted text all) 0 = ap (λ (o : Option ℕ). unwrap_or o 0) (counted_here text all count) in
    let g : unwrap_or (counted text old) 0 ≡ unwrap_or (counted text all) 0 = ap (λ (o : Option ℕ). unwrap_or o 0) same in
    omega (arith, f, g)

not_counted : (by_period : Bool) (stack : Stack) (old : List FoldedStack) (why : FoldedError) → IsNotAdded (folded_text stack) (sample_weight by_period stack.sample) old why → IsNotCounted by_period old stack why
not_counted by_period stack old OutOfMemory h = tt
not_counted by_period stack old (NotFolded number) h = tt
not_counted by_period stack old NoSamples h = tt
not_counted by_period stack old TooManySamples h =
    λ all are. (folded_text stack, λ fits. h (sum_fits (folded_text stack) all (sample_weight by_period stack.sample) old (are.sums (folded_text stack)) fits))

module _ (by_period : Bool) (stack : Stack) (text : List ℕ) (count : ℕ) (is_text : text ≡ folded_text stack) (is_count : count ≡ sample_weight by_period stack.sample) where
  pub stack_counted : {T E : Type 0} (old new : List FoldedStack) (r : Result T E) → OnOk r (CountsMore text count old new) → OnOk r (Counts by_period old stack new)
  stack_counted old new (Ok done) more =
      subst (λ (t : List ℕ). CountsMore t (sample_weight by_period stack.sample) old new) is_text (subst (λ (n : ℕ). CountsMore text n old new) is_count more)
  stack_counted old new (Err e) more = tt

  pub stack_refused : {T : Type 0} (old : List FoldedStack) (r : Result T FoldedError) → IfErr r (IsNotAdded text count old) → IfErr r (IsNotCounted by_period old stack)
  stack_refused old (Ok done) h = tt
  stack_refused old (Err why) h =
      not_counted by_period stack old why (subst (λ (t : List ℕ). IsNotAdded t (sample_weight by_period stack.sample) old why) is_text (subst (λ (n : ℕ). IsNotAdded text n old why) is_count h))

-- where it wasn't since it has too many, and else
pub other_line : (why : FoldedError) → (why ≡ TooManySamples → ⊥) → uncounted why ≡ input_refusal Text InputMemory
other_line TooManySamples not = absurd (not refl)
other_line OutOfMemory not = refl
other_line (NotFolded number) not = refl
other_line NoSamples not = refl

-- ---- stacks, one after the other

map_then : {X Y : Type 0} (f : X → Y) (xs ys : List X) → map f (xs ++ ys) ≡ map f xs ++ map f ys
map_then f [] ys = refl
map_then {X} {Y} f (x ∷ xs) ys = ap (λ (l : List Y). f x ∷ l) (map_then f xs ys)

-- by a visitor that counts so, which is this after the last one
module _ {V : Type 0} (last : V) (period_of : V → Bool) (counts_of : V → List FoldedStack) where
  abbrev pub Counts-each : V → Stack → V → Type 0
  Counts-each old stack new = Counts (period_of old) (counts_of old) stack (counts_of new) × (period_of new ≡ period_of old)

  abbrev pub Refuses-each : V → Stack → V → FoldedError → Type 0
  Refuses-each old stack new why = IsNotCounted (period_of old) (counts_of old) stack why

  all_counted : (stacks : List Stack) (old new : V) (all : List FoldedStack) → FoldsTo Counts-each old stacks new → AreCounted all (counts_of old) → AreCounted (all ++ map (folded_sample (period_of old)) stacks) (counts_of new) × (period_of new ≡ period_of old)
  all_counted [] old new all same are =
      (subst (λ (l : List FoldedStack). AreCounted l (counts_of new)) (sym (append-nil all)) (subst (λ (v : V). AreCounted all (counts_of v)) same are), ap period_of (sym same))
  all_counted (stack ∷ stacks) old new all (mid, (counts, same), rest) are =
      let first = folded_sample (period_of old) stack in
      let (more, also) = all_counted stacks mid new (all ++ first ∷ []) rest (counts all are) in
      let here = subst (λ (b : Bool). AreCounted ((all ++ first ∷ []) ++ map (folded_sample b) stacks) (counts_of new)) same more in
      (subst (λ (l : List FoldedStack). AreCounted l (counts_of new)) (append_assoc all (first ∷ []) (map (folded_sample (period_of old)) stacks)) here, also ∙ same)

  module _ {F Handle : Type 0} (by_period : Bool) (choice : Choice) (may_open : FilePlace → Option Handle → Type 0) (remaining : Handle → Option (List ℕ)) (old : V) (is : period_of old ≡ by_period) (none : AreCounted [] (counts_of old))
      (visited : Result ⊤ (VisitError FoldedError)) (before new : Option (List ℕ)) (r : Result ℕ F) where
    abbrev IsEnd : Result ⊤ (VisitError FoldedError) → Type 0
    IsEnd result = EndsFolded (counts_of last) result before new r

    ends_as : (result : Result ⊤ (VisitError FoldedError)) → visited ≡ result → IsEnd visited → IsEnd result
    ends_as result same ends = subst IsEnd same ends

    module _ (machine : SampleMachine) (files : List KnownFile) (records : List Record) where
      abbrev Are : List Stack → List Record → Type 0
      Are stacks some = AreStacks true machine files choice some stacks

      abbrev Printed : Option PerfError → Type 0
      Printed error = PrintsSome (λ line. IsFolded by_period choice machine files records error line ⊎ IsInputRefused Text line) before new r

      are_folded : (stacks : List Stack) → Are stacks records → FoldsTo Counts-each old stacks last → AreFolded by_period choice machine files records (counts_of last)
      are_folded stacks are folds =
          let (counts, same) = all_counted stacks old last [] folds none in
          (map (folded_sample by_period) stacks, (stacks, are, refl), subst (λ (b : Bool). AreCounted (map (folded_sample b) stacks) (counts_of last)) is counts)

      -- their lines were printed, or memory was refused
      ended : (error own : Option PerfError) (stacks : List Stack) → own ≡ error → Are stacks records → FoldsTo Counts-each old stacks last → PrintsSome (IsEndFolded (counts_of last) error) before new r → Printed own
      ended error own stacks same are folds (line, prints, inl lines) = subst Printed (sym same) (line, prints, inl (inl (counts_of last, are_folded stacks are folds, lines)))
      ended error own stacks same are folds (line, prints, inr refused) = (line, prints, inr (InputMemory, refused))

      are_many : (n : ℕ) (stacks : List Stack) (stack : Stack) (mid : V) → Are (stacks ++ stack ∷ []) (take n records) → FoldsTo Counts-each old stacks mid → Refuses-each mid stack last TooManySamples → HaveTooMany by_period choice machine files records
      are_many n stacks stack mid are folds refused =
          let (counts, same) = all_counted stacks old mid [] folds none in
          let many = subst (λ (b : Bool). HasTooMany (map (folded_sample (period_of old)) stacks ++ folded_sample b stack ∷ [])) same (refused (map (folded_sample (period_of old)) stacks) counts) in
          let here = subst (λ (b : Bool). HasTooMany (map (folded_sample b) stacks ++ folded_sample b stack ∷ [])) is many in
          (n, map (folded_sample by_period) (stacks ++ stack ∷ []), (stacks ++ stack ∷ [], are, refl), subst HasTooMany (sym (map_then (folded_sample by_period) stacks (stack ∷ []))) here)

      stopped_by : (error : Option PerfError) (why : FoldedError) (n : ℕ) (stacks : List Stack) (stack : Stack) (mid : V) → Are (stacks ++ stack ∷ []) (take n records) → FoldsTo Counts-each old stacks mid → Refuses-each mid stack last why
          → Prints (uncounted why) before new r → Printed error
      stopped_by error TooManySamples n stacks stack mid are folds refused prints = (too_many, prints, inl (inr (are_many n stacks stack mid are folds refused, refl)))
      stopped_by error OutOfMemory n stacks stack mid are folds refused prints = (input_refusal Text InputMemory, prints, inr (InputMemory, refl))
      stopped_by error (NotFolded number) n stacks stack mid are folds refused prints = (input_refusal Text InputMemory, prints, inr (InputMemory, refl))
      stopped_by error NoSamples n stacks stack mid are folds refused prints = (input_refusal Text InputMemory, prints, inr (InputMemory, refl))

      each : (error : Option PerfError) (result : Result ⊤ (VisitError FoldedError)) → AreVisited Counts-each Refuses-each true machine files choice records error old last result → IsEnd result → Printed error
      each error (Ok done) (same, stacks, are, folds) ends = ended None error stacks same are folds ends
      each error (Err (stopped.Records e)) (same, stacks, are, folds) ends = ended (Some e) error stacks same are folds ends
      each error (Err (stopped.Input why)) visits ends = (input_refusal Text why, ends, inr (why, refl))
      each error (Err (stopped.Visitor why)) (n, stacks, stack, mid, are, folds, refused) ends = stopped_by error why n stacks stack mid are folds refused ends
      each error (Err (stopped.Profile e)) visits ends = absurd visits
      each error (Err stopped.UnknownMachine) visits ends = absurd visits

    pub folded_printed : (bytes : List ℕ) → IsEnd visited → IsProfileVisited Counts-each Refuses-each true choice may_open remaining old last visited bytes
        → PrintsSome (IsOwed Text true may_open remaining (IsFolded by_period choice) bytes) before new r
    folded_printed bytes ends (inl holds) =
        print_profile true may_open remaining (VisitsAll Counts-each Refuses-each true choice may_open remaining old last visited) (IsProfileRefused old last visited) (IsMachineUnknown old last visited)
        Text (IsFolded by_period choice) before new r (λ machine files sorted error visits. each machine files sorted error visited visits ends)
        (λ e nothing. ends_as (Err (stopped.Profile e)) nothing.0 ends) (λ nothing. ends_as (Err stopped.UnknownMachine) nothing.0 ends) bytes holds
    folded_printed bytes ends (inr (why, same, nothing)) = (input_refusal Text why, ends_as (Err (stopped.Input why)) same ends, inr (why, refl))
