-- Stacks that are printed one after the other.
use Rattle.std.proofs.Common.{◌≡◌, ◌∙◌, ◌⊎◌, ℕ, not, List, [], ◌∷◌, ◌++◌, Option, Some, None, Result, Ok, Err, OnOk, IfErr, IfOk, ap, append_assoc, append-nil, inl, inr, refl, subst, sym, take}
use Rattle.std.specs.Prelude.{⊤}
use Rattle.std.specs.Io.KnownBytes.{Appends}
use Rattle.std.specs.List.{FoldsTo}
use Rattle.std.specs.Result.{IsErr}
use Rattle.cfi_perf.specs.declared.error.PerfError.{PerfError}
use Rattle.cfi_perf.specs.Events.{Record}
use Rattle.cfi_text.specs.declared.style.Format.{Format}
use Rattle.cfi_text.specs.InputRefusals.{input_refusal}
use Rattle.cfi_text.specs.declared.reading.InputError.{InputError}
use Rattle.cfi_text.specs.declared.reading.InputError.TheVariants.{OutOfMemory}
use Rattle.cfi_text.specs.Lines.{Line}
use Rattle.cfi_text.specs.WriterOutput.{IsBeginning, Prints, PrintsSome, Writes}
use Rattle.cfi_text.proofs.WrittenLemmas.{appends_then, beginning_then, none_yet}
use Rattle.cfi_text.proofs.PartsWritten.{first_refused, last_written}
use Rattle.cfi_processes.specs.declared.registers.SampleMachine.{SampleMachine}
use Rattle.cfi_mapped.specs.Wanted.{FilePlace}
use Rattle.cfi_processes.specs.KnownFiles.{KnownFile}
use Rattle.cfi_stacks.specs.declared.listing.StackStyle.{StackStyle}
use Rattle.cfi_stacks.specs.declared.visitor.VisitError.{VisitError}
use Rattle.cfi_stacks.specs.declared.visitor.VisitError.TheVariants as stopped
use Rattle.cfi_stacks.specs.Choices.{Choice}
use Rattle.cfi_stacks.specs.ChosenStacks.{AreStackTexts, AreStacks}
use Rattle.cfi_stacks.specs.ProfileOutputs.{AreStacksPrinted, Ends, IsInputRefused, IsOwed, after_text, profile_ended}
use Rattle.cfi_stacks.specs.SampleOutputs.{Begins, IsInFormat, IsSaidIn, Shows, Stack}
use Rattle.cfi_stacks.specs.Visits.{AreVisited, IsMachineUnknown, IsProfileRefused, IsProfileVisited, VisitsAll}
use Rattle.cfi_stacks.proofs.ContentLemmas.{print_profile}
use Rattle.cfi_frames.specs.Sequences.{AreOfAll}

-- a text, and the error that ended the records behind it
pub behind : (format : Format) (front : List ℕ) (error : Option PerfError) → record { text = front ++ (profile_ended format [] error).text; status = (profile_ended format [] error).status } ≡ profile_ended format front error
behind format front None = ap (λ (text : List ℕ). record { text = text; status = 0 }) (append-nil front)
behind format front (Some e) = refl

-- no status is returned with an error
pub no_status_is : {E : Type 0} (r : Result ℕ E) (n : ℕ) → IsErr r → IfOk r (λ status. status ≡ n)
no_status_is (Ok m) n err = cc
no_status_is (Err e) n err = tt

-- ---- a stack

module _ (old new : Option (List ℕ)) (object : List ℕ) (format : Format) where
  abbrev IsSaid : List ℕ → Type 0
  IsSaid text = IsSaidIn format (text ≡ object)

  pub stack_shown : {T E : Type 0} (r : Result T E) → ((text : List ℕ) × Writes old new r text × IsSaid text) → OnOk r ((text : List ℕ) × IsSaid text × Appends old new text)
  stack_shown (Ok done) (text, written, said) = (text, said, written)
  stack_shown (Err e) written = tt

  pub stack_begun : {T E : Type 0} (r : Result T E) → ((text : List ℕ) × Writes old new r text × IsSaid text) → IfErr r (λ e. (text : List ℕ) × IsSaid text × ((begun : List ℕ) × Appends old new begun × IsBeginning begun text))
  stack_begun (Ok done) written = tt
  stack_begun (Err e) (text, begun, said) = (text, said, begun)

-- ---- stacks, one after the other

are_then : {X A : Type 0} (IsOf : X → List A → Type 0) (xs ys : List X) (found more : List A) → AreOfAll IsOf xs found → AreOfAll IsOf ys more → AreOfAll IsOf (xs ++ ys) (found ++ more)
are_then {X} {A} IsOf [] ys found more none are = subst (λ (l : List A). AreOfAll IsOf ys (l ++ more)) (sym none) are
are_then {X} {A} IsOf (x ∷ xs) ys found more (first, others, is, rest, whole) are = (first, others ++ more, is, are_then IsOf xs ys others more rest are, ap (λ (l : List A). l ++ more) whole ∙ append_assoc first others more)

alone : {X A : Type 0} (IsOf : X → List A → Type 0) (x : X) (found : List A) → IsOf x found → AreOfAll IsOf (x ∷ []) found
alone IsOf x found is = (found, [], is, refl, sym (append-nil found))

-- by a printer with a style and bytes, which is this after the last one
module _ {V : Type 0} (last : V) (style_of : V → StackStyle) (bytes_of : V → Option (List ℕ)) where
  abbrev pub Prints-each : V → Stack → V → Type 0
  Prints-each old stack new = Shows (style_of old) (bytes_of old) stack (bytes_of new) × (style_of new ≡ style_of old)

  abbrev pub Begins-each : (E : Type 0) → V → Stack → V → E → Type 0
  Begins-each E old stack new why = Begins (style_of old) (bytes_of old) stack (bytes_of new)

  texts_of : (stacks : List Stack) (old new : V) → FoldsTo Prints-each old stacks new → (text : List ℕ) × AreOfAll (IsInFormat (style_of old)) stacks text × Appends (bytes_of old) (bytes_of new) text × (style_of new ≡ style_of old)
  texts_of [] old new same = ([], refl, subst (λ (v : V). Appends (bytes_of old) (bytes_of v) []) same (none_yet (bytes_of old)), ap style_of (sym same))
  texts_of (stack ∷ stacks) old new (mid, ((first, is, goes), same), rest) =
      let (others, are, more, also) = texts_of stacks mid new rest in (
        first ++ others,
        (first, others, is, subst (λ (style : StackStyle). AreOfAll (IsInFormat style) stacks others) same are, refl),
        appends_then (bytes_of old) (bytes_of mid) (bytes_of new) first others goes more,
        also ∙ same,
      )

  -- ---- and what comes after them

  module _ {E F Handle : Type 0} (style : StackStyle) (choice : Choice) (may_open : FilePlace → Option Handle → Type 0) (remaining : Handle → Option (List ℕ)) (old : V) (is : style_of old ≡ style) (visited : Result ⊤ (VisitError E)) (new : Option (List ℕ)) (r : Result ℕ F) where
    abbrev IsEnd : Result ⊤ (VisitError E) → Option (List ℕ) → Type 0
    IsEnd result before = Ends style.format result before new r

    -- where nothing was visited
    as_before : (why : VisitError E) → visited ≡ Err why → last ≡ old → IsEnd visited (bytes_of last) → IsEnd (Err why) (bytes_of old)
    as_before why same none ends = subst (λ (v : V). IsEnd (Err why) (bytes_of v)) none (subst (λ (result : Result ⊤ (VisitError E)). IsEnd result (bytes_of last)) same ends)

    module _ (machine : SampleMachine) (files : List KnownFile) (records : List Record) where
      abbrev Are : List Stack → List Record → Type 0
      Are stacks records = AreStacks (not style.raw) machine files choice records stacks

      abbrev Printed : Option PerfError → Type 0
      Printed error = PrintsSome (λ line. AreStacksPrinted style choice machine files records error line ⊎ IsInputRefused style.format line) (bytes_of old) new r

      texts : (stacks : List Stack) (some : List Record) (mid : V) → Are stacks some → FoldsTo Prints-each old stacks mid
          → (text : List ℕ) × AreStackTexts style machine files choice some text × Appends (bytes_of old) (bytes_of mid) text
      texts stacks some mid are folds =
          let (text, are_texts, goes, same) = texts_of stacks old mid folds in (text, (stacks, are, subst (λ (s : StackStyle). AreOfAll (IsInFormat s) stacks text) is are_texts), goes)

      ended : (error own : Option PerfError) (stacks : List Stack) → own ≡ error → Are stacks records → FoldsTo Prints-each old stacks last → Prints (profile_ended style.format [] error) (bytes_of last) new r → Printed own
      ended error own stacks same are folds (written, status) =
          let (text, are_texts, goes) = texts stacks records last are folds in
          subst Printed (sym same) (
            record { text = text ++ (profile_ended style.format [] error).text; status = (profile_ended style.format [] error).status },
            (last_written (bytes_of old) (bytes_of last) new r text (profile_ended style.format [] error).text goes written, status),
            inl (inl (text, are_texts, behind style.format text error)),
          )

      refused : (error : Option PerfError) (why : InputError) (n : ℕ) (stacks : List Stack) → Are stacks (take n records) → FoldsTo Prints-each old stacks last → Prints (input_refusal style.format why) (bytes_of last) new r → Printed error
      refused error why n stacks are folds (written, status) =
          let (text, are_texts, goes) = texts stacks (take n records) last are folds in (
            after_text text (input_refusal style.format why),
            (last_written (bytes_of old) (bytes_of last) new r text (input_refusal style.format why).text goes written, status),
            inl (inr (n, text, are_texts, why, refl)),
          )

      -- a stack was begun
      broken : (error : Option PerfError) (n : ℕ) (stacks : List Stack) (stack : Stack) (mid : V) → Are (stacks ++ stack ∷ []) (take n records) → FoldsTo Prints-each old stacks mid → Begins (style_of mid) (bytes_of mid) stack (bytes_of last)
          → new ≡ bytes_of last → IsErr r → Printed error
      broken error n stacks stack mid are folds (last_text, is_last, begun) same err =
          let (text, are_texts, goes, also) = texts_of stacks old mid folds in
          let front = subst (λ (s : StackStyle). AreOfAll (IsInFormat s) stacks text) is are_texts in
          let back = subst (λ (s : StackStyle). IsInFormat s stack last_text) (also ∙ is) is_last in
          let both = beginning_then (bytes_of old) (bytes_of mid) (bytes_of last) last_text [] (text ++ last_text) (record { front = text; given = goes; whole = ap (λ (l : List ℕ). text ++ l) (append-nil last_text) }) begun in
          let refusal : Line = input_refusal style.format OutOfMemory in (
            after_text (text ++ last_text) refusal,
            (subst (λ (o : Option (List ℕ)). Writes (bytes_of old) o r ((text ++ last_text) ++ refusal.text)) (sym same) (first_refused (bytes_of old) (bytes_of last) r (text ++ last_text) refusal.text err both), no_status_is r refusal.status err),
            inl (inr (n, text ++ last_text, (stacks ++ stack ∷ [], are, are_then (IsInFormat style) stacks (stack ∷ []) text last_text front (alone (IsInFormat style) stack last_text back)), OutOfMemory, refl)),
          )

      each : (error : Option PerfError) (result : Result ⊤ (VisitError E)) → AreVisited Prints-each (Begins-each E) (not style.raw) machine files choice records error old last result → IsEnd result (bytes_of last) → Printed error
      each error (Ok done) (none, stacks, are, folds) ends = ended None error stacks none are folds ends
      each error (Err (stopped.Records e)) (same, stacks, are, folds) ends = ended (Some e) error stacks same are folds ends
      each error (Err (stopped.Input why)) (n, stacks, are, folds) ends = refused error why n stacks are folds ends
      each error (Err (stopped.Visitor why)) (n, stacks, stack, mid, are, folds, begun) (same, err) = broken error n stacks stack mid are folds begun same err
      each error (Err (stopped.Profile e)) visits ends = absurd visits
      each error (Err stopped.UnknownMachine) visits ends = absurd visits

    pub stacks_printed : (bytes : List ℕ) → IsEnd visited (bytes_of last) → IsProfileVisited Prints-each (Begins-each E) (not style.raw) choice may_open remaining old last visited bytes
        → PrintsSome (IsOwed style.format (not style.raw) may_open remaining (AreStacksPrinted style choice) bytes) (bytes_of old) new r
    stacks_printed bytes ends (inl holds) =
        print_profile (not style.raw) may_open remaining (VisitsAll Prints-each (Begins-each E) (not style.raw) choice may_open remaining old last visited) (IsProfileRefused old last visited) (IsMachineUnknown old last visited)
        style.format (AreStacksPrinted style choice) (bytes_of old) new r (λ machine files sorted error visits. each machine files sorted error visited visits ends)
        (λ e none. as_before (stopped.Profile e) none.0 none.1 ends) (λ none. as_before stopped.UnknownMachine none.0 none.1 ends) bytes holds
    stacks_printed bytes ends (inr (why, same, none)) = (input_refusal style.format why, as_before (stopped.Input why) same none ends, inr (why, refl))
