-- What comes of the chosen samples of records, one record behind the other.
use Rattle.std.proofs.Common.{◌≡◌, ◌∙◌, ◌&&◌, ◌-◌, ℕ, suc, zero, Bool, true, false, not, cond, true≢false, List, [], ◌∷◌, ◌++◌, Option, Some, None, take, refl, sym, ap, subst, append_assoc, append-nil, arith, nat_eq}
use Rattle.std.proofs.Math.Seq.{take-nil}
use Rattle.std.specs.Option.{option_eq}
use Rattle.cfi_perf.specs.Events.{Event, Record, ForkEvent, LostEvent, MappingEvent, OtherEvent, ProgramEvent, SampleEvent}
use Rattle.cfi_processes.specs.KnownFiles.{KnownFile}
use Rattle.std.proofs.Common.{inl, inr}
use Rattle.cfi_stacks.specs.Choices.{Choice, limited}
use Rattle.cfi_stacks.specs.Turns.{IsKnownAfter, IsTurn, is_not_chosen, left_after}
use Rattle.cfi_stacks.specs.KnownSamples.{Known, KnownSample, chosen, chosen_of, is_chosen, known_after, sample_at}
use Rattle.cfi_frames.specs.Sequences.{AreOfAll}

follows : (files : List KnownFile) (event : Event) (before now : Known) → IsKnownAfter files event before now → now ≡ known_after files event before
follows files event before now is_after = λ i. record { mapped = λ pid. is_after.0 pid i; names = λ tid. is_after.1 tid i }

-- whether no more may be printed
full : (left : Option ℕ) → option_eq nat_eq left (Some 0) ≡ true → left ≡ Some 0
full None is = absurd (true≢false (sym is))
full (Some n) is = ap Some (grind arith)

-- none is left of no more
pub limited_none : {A : Type 0} (left : Option ℕ) → limited {A = A} left [] ≡ []
limited_none None = refl
limited_none (Some n) = take-nil n

less_one : (n : ℕ) → suc n - 1 ≡ n
less_one n = omega arith

-- a list without its first item, if that isn't kept
dropped : {X : Type 0} (b : Bool) (x : X) (xs : List X) → not (b && true) ≡ true → cond b (x ∷ xs) xs ≡ xs
dropped true x xs out = absurd (true≢false (sym out))
dropped false x xs out = refl

module _ (files : List KnownFile) (choice : Choice) {A : Type 0} (IsOf : KnownSample → List A → Type 0) where
  -- what comes of the chosen ones of these records, where so many are left
  abbrev pub AreLeft : Option ℕ → Known → List Record → List A → Type 0
  AreLeft left before records found = AreOfAll IsOf (limited left (chosen_of choice files before records)) found

  abbrev pub AreAll : List Record → List A → Type 0
  AreAll records found = AreOfAll IsOf (chosen choice files records) found

  -- With what comes of any further records, what came of the first is what comes of all.
  pub record GoesOn (first : List Record) (left : Option ℕ) (now : Known) (front : List A) : Type 0 where
    pub goes_on : (rest : List Record) (found : List A) → AreLeft left now rest found → AreAll (first ++ rest) (front ++ found)

  pub none_gone : (now : Known) → ((pid : ℕ) → now.mapped pid ≡ []) → ((tid : ℕ) → now.names tid ≡ None) → GoesOn [] choice.limit now []
  none_gone now nothing nameless = record {
    goes_on = λ rest found are. subst (λ (state : Known). AreLeft choice.limit state rest found) (λ i. record { mapped = λ pid. nothing pid i; names = λ tid. nameless tid i }) are;
  }

  -- ---- a sample that isn't chosen

  left_out : (now : Known) (time : ℕ) (event : Event) (rest : List Record) → is_not_chosen choice now time event ≡ true
      → chosen_of choice files now (record { time = time; event = event } ∷ rest) ≡ chosen_of choice files now rest
  left_out now time (SampleEvent s) rest out =
      dropped (is_chosen choice (record { known = now; time = time; sample = s })) (record { known = now; time = time; sample = s }) (chosen_of choice files now rest) out
  left_out now time (MappingEvent m) rest out = absurd (true≢false (sym out))
  left_out now time (ProgramEvent p) rest out = absurd (true≢false (sym out))
  left_out now time (ForkEvent f) rest out = absurd (true≢false (sym out))
  left_out now time (LostEvent l) rest out = absurd (true≢false (sym out))
  left_out now time OtherEvent rest out = absurd (true≢false (sym out))

  pub one_passed : (first all : List Record) (r : Record) (left : Option ℕ) (now : Known) (front : List A) → all ≡ first ++ r ∷ [] → is_not_chosen choice now r.time r.event ≡ true
      → GoesOn first left now front → GoesOn all left now front
  one_passed first all r left now front is_all out so = subst (λ (records : List Record). GoesOn records left now front) (sym is_all) (record {
    goes_on = λ rest found are.
        subst (λ (records : List Record). AreAll records (front ++ found)) (sym (append_assoc first (r ∷ []) rest))
        (so.goes_on (r ∷ rest) found (subst (λ (samples : List KnownSample). AreOfAll IsOf (limited left samples) found) (sym (left_out now r.time r.event rest out)) are));
  })

  -- ---- a record that is followed

  -- a sample with what comes of the others
  with_first : (it : KnownSample) (samples : List KnownSample) (text found : List A) → AreOfAll IsOf (it ∷ []) text → AreOfAll IsOf samples found → AreOfAll IsOf (it ∷ samples) (text ++ found)
  with_first it samples text found (first, others, is, none, whole) are =
      (first, found, is, are, ap (λ (front : List A). front ++ found) (whole ∙ ap (λ (rest : List A). first ++ rest) none ∙ append-nil first))

  within : (left : Option ℕ) (it : KnownSample) (samples : List KnownSample) (text found : List A) → option_eq nat_eq left (Some 0) ≡ false → AreOfAll IsOf (it ∷ []) text
      → AreOfAll IsOf (limited (left_after left (SampleEvent it.sample)) samples) found → AreOfAll IsOf (limited left (it ∷ samples)) (text ++ found)
  within None it samples text found some is are = with_first it samples text found is are
  within (Some zero) it samples text found some is are = absurd (true≢false some)
  within (Some (suc n)) it samples text found some is are = with_first it (take n samples) text found is (subst (λ (k : ℕ). AreOfAll IsOf (take k samples) found) (less_one n) are)

  kept : (b : Bool) (left : Option ℕ) (it : KnownSample) (more : List KnownSample) (text found : List A) → not (b && true) ≡ false → option_eq nat_eq left (Some 0) ≡ false → AreOfAll IsOf (it ∷ []) text
      → AreOfAll IsOf (limited (left_after left (SampleEvent it.sample)) more) found → AreOfAll IsOf (limited left (cond b (it ∷ more) more)) (text ++ found)
  kept true left it more text found inside some is are = within left it more text found some is are
  kept false left it more text found inside some is are = absurd (true≢false inside)

  followed : (before : Known) (time : ℕ) (event : Event) (left : Option ℕ) (text : List A) (rest : List Record) (found : List A) → is_not_chosen choice before time event ≡ false → option_eq nat_eq left (Some 0) ≡ false
      → AreOfAll IsOf (sample_at (known_after files event before) time event) text → AreLeft (left_after left event) (known_after files event before) rest found
      → AreLeft left before (record { time = time; event = event } ∷ rest) (text ++ found)
  followed before time (SampleEvent s) left text rest found inside some is are =
      kept (is_chosen choice (record { known = before; time = time; sample = s })) left (record { known = before; time = time; sample = s }) (chosen_of choice files before rest) text found inside some is are
  followed before time (MappingEvent m) left text rest found inside some is are = subst (λ (front : List A). AreLeft left before (record { time = time; event = MappingEvent m } ∷ rest) (front ++ found)) (sym is) are
  followed before time (ProgramEvent p) left text rest found inside some is are = subst (λ (front : List A). AreLeft left before (record { time = time; event = ProgramEvent p } ∷ rest) (front ++ found)) (sym is) are
  followed before time (ForkEvent f) left text rest found inside some is are = subst (λ (front : List A). AreLeft left before (record { time = time; event = ForkEvent f } ∷ rest) (front ++ found)) (sym is) are
  followed before time (LostEvent l) left text rest found inside some is are = subst (λ (front : List A). AreLeft left before (record { time = time; event = LostEvent l } ∷ rest) (front ++ found)) (sym is) are
  followed before time OtherEvent left text rest found inside some is are = subst (λ (front : List A). AreLeft left before (record { time = time; event = OtherEvent } ∷ rest) (front ++ found)) (sym is) are

  pub one_more : (first all : List Record) (r : Record) (left : Option ℕ) (before now : Known) (front text : List A) → all ≡ first ++ r ∷ [] → is_not_chosen choice before r.time r.event ≡ false → option_eq nat_eq left (Some 0) ≡ false
      → GoesOn first left before front → IsKnownAfter files r.event before now → AreOfAll IsOf (sample_at now r.time r.event) text → GoesOn all (left_after left r.event) now (front ++ text)
  one_more first all r left before now front text is_all inside some so is_after is = subst (λ (records : List Record). GoesOn records (left_after left r.event) now (front ++ text)) (sym is_all) (record {
    goes_on = λ rest found are.
        let same = follows files r.event before now is_after in
        let here = subst (λ (state : Known). AreOfAll IsOf (sample_at state r.time r.event) text) same is in
        let later = subst (λ (state : Known). AreLeft (left_after left r.event) state rest found) same are in
        subst (λ (whole : List A). AreAll ((first ++ r ∷ []) ++ rest) whole) (sym (append_assoc front text found))
        (subst (λ (records : List Record). AreAll records (front ++ (text ++ found))) (sym (append_assoc first (r ∷ []) rest))
        (so.goes_on (r ∷ rest) (text ++ found) (followed before r.time r.event left text rest found inside some here later)));
  })

  -- ---- a record in either way

  pub turned : (first all : List Record) (r : Record) (left more : Option ℕ) (before now : Known) (front found : List A) → all ≡ first ++ r ∷ [] → option_eq nat_eq left (Some 0) ≡ false
      → GoesOn first left before front → IsTurn IsOf files choice before left r now more found → GoesOn all more now (front ++ found)
  turned first all r left more before now front found is_all some so (inl (out, same, as_before, none)) =
      subst (λ (text : List A). GoesOn all more now text) (sym (ap (λ (l : List A). front ++ l) none ∙ append-nil front))
      (subst (λ (k : Known). GoesOn all more k front) (sym same)
      (subst (λ (n : Option ℕ). GoesOn all n before front) (sym as_before) (one_passed first all r left before front is_all out so)))
  turned first all r left more before now front found is_all some so (inr (inside, is_after, as_after, are)) =
      subst (λ (n : Option ℕ). GoesOn all n now (front ++ found)) (sym as_after) (one_more first all r left before now front found is_all inside some so is_after are)

  -- ---- the end

  -- so far it is what comes of the first
  pub so_far : (first : List Record) (left : Option ℕ) (now : Known) (front : List A) → GoesOn first left now front → AreAll first front
  so_far first left now front so =
      subst (λ (records : List Record). AreAll records front) (append-nil first)
      (subst (λ (found : List A). AreAll (first ++ []) found) (append-nil front) (so.goes_on [] [] (subst (λ (samples : List KnownSample). AreOfAll IsOf samples []) (sym (limited_none left)) refl)))

  -- no more may be printed: it is what comes of all
  pub so_many : (first rest : List Record) (left : Option ℕ) (now : Known) (front : List A) → option_eq nat_eq left (Some 0) ≡ true → GoesOn first left now front → AreAll (first ++ rest) front
  so_many first rest left now front none so =
      subst (λ (found : List A). AreAll (first ++ rest) found) (append-nil front)
      (so.goes_on rest [] (subst (λ (n : Option ℕ). AreOfAll IsOf (limited n (chosen_of choice files now rest)) []) (sym (full left none)) refl))
