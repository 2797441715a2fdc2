-- The frames of a thread, and the texts of threads one after the other.
use Rattle.std.proofs.Common.{◌≡◌, ◌∙◌, ◌+◌, ◌<◌, ◌≤◌, ℕ, Bool, List, [], ◌∷◌, ◌++◌, Option, Some, None, Result, Ok, length, get_or, take, map, refl, sym, ap, subst, inl, inr, append_assoc, append-nil, add-one, cond, true, false}
use Rattle.std.proofs.Math.Seq.{take-suc}
use Rattle.std.proofs.lemmas.List.{get_or-map, length-map, take_all}
use Rattle.std.specs.Io.KnownBytes.{Appends}
use Rattle.std.specs.Result.{IsErr}
use Rattle.cfi_read_core.specs.ReadFunctions.{Position}
use Rattle.cfi_step.specs.declared.module.LoadedModule.{LoadedModule}
use Rattle.cfi_step.specs.declared.walk.Walk.{Walk}
use Rattle.cfi_cores.specs.declared.error.CoreError.{CoreError}
use Rattle.cfi_cores.specs.CoreFiles.{Core}
use Rattle.cfi_cores.specs.CoreThreads.{CoreThread, thread_register}
use Rattle.cfi_processes.specs.declared.registers.SampleMachine.{SampleMachine}
use Rattle.cfi_processes.specs.KnownFiles.{KnownFile}
use Rattle.cfi_processes.specs.Registers.{pc_number}
use Rattle.cfi_processes.specs.SampleStacks.{WalkRoom}
use Rattle.cfi_text.specs.WriterOutput.{IsBeginning, Prints, PrintsSome}
use Rattle.cfi_text.proofs.WrittenLemmas.{appends_then, beginning_then, none_yet}
use Rattle.cfi_text.proofs.PartsWritten.{last_written}
use Rattle.cfi_core_stacks.specs.CoreOutputs.{AreOfThreads, AreThreadsPrinted, PrintsFound, core_ended}
use Rattle.cfi_frames.specs.Sequences.{AreOfAll}
use Rattle.cfi_core_stacks.specs.ThreadOutputs.{IsThreadText}
use Rattle.cfi_core_stacks.specs.AskedThreads.{asked_threads, is_asked_thread}
use Rattle.cfi_core_stacks.specs.CoreCode.{core_mappings}
use Rattle.cfi_frames.specs.Outputs.{no_memory}
use Rattle.cfi_core_stacks.proofs.KnownLemmas.{begun_found}
use Rattle.cfi_core_stacks.specs.declared.listing.ThreadListing.{ThreadListing}
use Rattle.cfi_core_stacks.specs.ThreadFrames.{IsThreadWalk, IsUnwound, IsUnwoundFrom, thread_registers}

module _ {R T : Type 0} (position : R → Position) (number : T → ℕ) (rule_limit stack_limit : Option ℕ) (copies_free : Bool) (modules : List (LoadedModule R)) (machine : SampleMachine) (memory : ℕ → ℕ → Option ℕ)
    (thread : CoreThread) (old new : WalkRoom) where
  -- from its pc, the frames are those of a walk over the memory
  pub unwound : (pc : ℕ) (known : List (Option ℕ)) (walk : Walk) → Some pc ≡ thread_register machine thread (pc_number machine) → known ≡ thread_registers machine thread
      → IsThreadWalk position number rule_limit stack_limit copies_free modules machine memory pc known old walk new
      → IsUnwound position number rule_limit stack_limit copies_free modules machine memory thread old (Ok walk) new
  unwound pc known walk has_pc are walks =
      subst (IsUnwoundFrom position number rule_limit stack_limit copies_free modules machine memory thread old (Ok walk) new) has_pc
      (walk, refl, subst (λ (rs : List (Option ℕ)). IsThreadWalk position number rule_limit stack_limit copies_free modules machine memory pc rs old walk new) are walks)

-- ---- texts one after the other

module _ (listing : ThreadListing) (files : List KnownFile) (memory : ℕ → ℕ → Option ℕ) (core : Core) where
  abbrev IsText : CoreThread → List ℕ → Type 0
  IsText = IsThreadText listing core.machine files (core_mappings files core.segments core.mapped) memory core.name

  abbrev AreTexts : List CoreThread → List ℕ → Type 0
  AreTexts = AreOfThreads listing files memory core

  -- With the texts of any further threads the text of the first is that of all.
  pub record GoesOn (first : List CoreThread) (front : List ℕ) : Type 0 where
    pub goes_on : (rest : List CoreThread) (text : List ℕ) → AreTexts rest text → AreTexts (first ++ rest) (front ++ text)

  -- and it was written
  abbrev pub Printed : List CoreThread → Option (List ℕ) → Option (List ℕ) → Type 0
  Printed first old new = (front : List ℕ) × Appends old new front × GoesOn first front

  pub none_printed : (old : Option (List ℕ)) → Printed [] old old
  none_printed old = ([], none_yet old, record { goes_on = λ rest text are. are })

  -- a thread that isn't asked for
  pub one_passed : (first all : List CoreThread) (t : CoreThread) (old new : Option (List ℕ)) → all ≡ first ++ t ∷ [] → is_asked_thread listing t ≡ false → Printed first old new → Printed all old new
  one_passed first all t old new is_all out (front, given, so) = (
    front,
    given,
    subst (λ (threads : List CoreThread). GoesOn threads front) (sym is_all) (record {
      goes_on = λ rest others are.
          subst (λ (threads : List CoreThread). AreTexts threads (front ++ others)) (sym (append_assoc first (t ∷ []) rest))
          (so.goes_on (t ∷ rest) others
          (subst (λ (b : Bool). AreOfAll IsText (cond b (t ∷ asked_threads listing rest) (asked_threads listing rest)) others) (sym out) are));
    }),
  )

  one_more : (first : List CoreThread) (t : CoreThread) (front text : List ℕ) → is_asked_thread listing t ≡ true → GoesOn first front → IsText t text → GoesOn (first ++ t ∷ []) (front ++ text)
  one_more first t front text asked so is = record {
    goes_on = λ rest others are.
        let more : AreTexts (t ∷ rest) (text ++ others) =
        subst (λ (b : Bool). AreOfAll IsText (cond b (t ∷ asked_threads listing rest) (asked_threads listing rest)) (text ++ others)) (sym asked)
        (text, others, is, are, refl) in
        subst (λ (whole : List ℕ). AreTexts ((first ++ t ∷ []) ++ rest) whole) (sym (append_assoc front text others))
        (subst (λ (threads : List CoreThread). AreTexts threads (front ++ (text ++ others))) (sym (append_assoc first (t ∷ []) rest)) (so.goes_on (t ∷ rest) (text ++ others) more));
  }

  pub one_printed : (first all : List CoreThread) (t : CoreThread) (old mid new : Option (List ℕ)) (text : List ℕ) → all ≡ first ++ t ∷ [] → is_asked_thread listing t ≡ true → Printed first old mid → IsText t text → Appends mid new text → Printed all old new
  one_printed first all t old mid new text is_all asked (front, given, so) is more = (
    front ++ text,
    appends_then old mid new front text given more,
    subst (λ (threads : List CoreThread). GoesOn threads (front ++ text)) (sym is_all) (one_more first t front text asked so is),
  )

  -- so far they are the texts of the first
  so_far : (first : List CoreThread) (front : List ℕ) → GoesOn first front → AreTexts first front
  so_far first front so =
      subst (λ (threads : List CoreThread). AreTexts threads front) (append-nil first)
      (subst (λ (text : List ℕ). AreTexts (first ++ []) text) (append-nil front) (so.goes_on [] [] refl))

  -- the text of the next thread was begun
  pub broken : {E : Type 0} (n : ℕ) (t : CoreThread) (old mid new : Option (List ℕ)) (may_lack : Bool) (result : Result (Option ℕ) E) (text : List ℕ) → IsErr result
      → take (n + 1) core.threads ≡ take n core.threads ++ t ∷ [] → is_asked_thread listing t ≡ true → Printed (take n core.threads) old mid
      → IsText t text → ((begun : List ℕ) × Appends mid new begun × IsBeginning begun text) → PrintsFound (λ line. AreThreadsPrinted listing files memory core line) old new may_lack result
  broken n t old mid new may_lack result text err is_next asked (front, given, so) is begun =
      let whole : List ℕ = (front ++ text) ++ (no_memory listing.format).text in
      let are = subst (λ (first : List CoreThread). AreTexts first (front ++ text)) (sym is_next)
      (so_far (take n core.threads ++ t ∷ []) (front ++ text) (one_more (take n core.threads) t front text asked so is)) in
      begun_found (λ line. AreThreadsPrinted listing files memory core line) old new may_lack result (record { text = whole; status = 1 }) err
      (beginning_then old mid new text (no_memory listing.format).text whole (record { front = front; given = given; whole = sym (append_assoc front text (no_memory listing.format).text) }) begun)
      (inr (n + 1, front ++ text, are, refl))

  -- all were printed
  behind : (front : List ℕ) → record { text = front ++ (core_ended listing.format [] core.error).text; status = (core_ended listing.format [] core.error).status } ≡ core_ended listing.format front core.error
  behind front = by core.error
    where
      by : (error : Option CoreError) → record { text = front ++ (core_ended listing.format [] error).text; status = (core_ended listing.format [] error).status } ≡ core_ended listing.format front error
      by None = ap (λ (text : List ℕ). record { text = text; status = 0 }) (append-nil front)
      by (Some e) = refl

  pub printed : {E : Type 0} (first : List CoreThread) (old mid new : Option (List ℕ)) (r : Result ℕ E) → first ≡ core.threads → Printed first old mid
      → Prints (core_ended listing.format [] core.error) mid new r → PrintsSome (λ line. AreThreadsPrinted listing files memory core line) old new r
  printed first old mid new r all (front, given, so) (written, status) = (
    record { text = front ++ (core_ended listing.format [] core.error).text; status = (core_ended listing.format [] core.error).status },
    (last_written old mid new r front (core_ended listing.format [] core.error).text given written, status),
    inl (front, subst (λ (threads : List CoreThread). AreTexts threads front) all (so_far first front so), behind front),
  )

  -- all were printed, and the error that ended the notes was begun
  pub begun : {E : Type 0} (first : List CoreThread) (old mid new : Option (List ℕ)) (may_lack : Bool) (r : Result (Option ℕ) E) → IsErr r → first ≡ core.threads → Printed first old mid
      → ((front : List ℕ) × Appends mid new front × IsBeginning front (core_ended listing.format [] core.error).text) → PrintsFound (λ line. AreThreadsPrinted listing files memory core line) old new may_lack r
  begun first old mid new may_lack r err all (front, given, so) last =
      let end : List ℕ = (core_ended listing.format [] core.error).text in
      begun_found (λ line. AreThreadsPrinted listing files memory core line) old new may_lack r (record { text = front ++ end; status = (core_ended listing.format [] core.error).status }) err
      (beginning_then old mid new end [] (front ++ end) (record { front = front; given = given; whole = ap (λ (text : List ℕ). front ++ text) (append-nil end) }) last)
      (inl (front, subst (λ (threads : List CoreThread). AreTexts threads front) all (so_far first front so), behind front))

-- one more thread of the code
pub next_thread : {A : Type 0} (view : A → CoreThread) (list : List A) (i : ℕ) (d : A) → i < length list → take (i + 1) (map view list) ≡ take i (map view list) ++ view (get_or list i d) ∷ []
next_thread view list i d inside =
    ap (λ (n : ℕ). take n (map view list)) (add-one i) ∙ (take-suc (map view list) i (view d) (rw (length-map list view) inside)
    ∙ ap (λ (next : CoreThread). take i (map view list) ++ next ∷ []) (get_or-map view list i d (view d) inside))

-- those up to the end are all
pub all_threads : {A : Type 0} (view : A → CoreThread) (list : List A) (i : ℕ) → length list ≤ i → take i (map view list) ≡ map view list
all_threads view list i behind = take_all i (map view list) (rw (length-map list view) behind)
