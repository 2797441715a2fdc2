-- Lines that wait in a text before they are written.
use Rattle.std.proofs.Common.{◌≡◌, ◌∙◌, ℕ, true, false, Bool, List, [], ◌++◌, Option, Result, Ok, Err, IfOk, OnOk, refl, sym, ap, subst, append-nil, append_assoc}
use Rattle.std.specs.Prelude.{MatchResult}
use Rattle.std.specs.Result.{IsErr}
use Rattle.std.specs.Io.KnownBytes.{Appends}
use Rattle.cfi_text.specs.Texts.{IsWhole, Puts, contents}
use Rattle.cfi_text.specs.WriterOutput.{IsBeginning, PrintsSome, Writes}
use Rattle.cfi_text.specs.declared.text.Text.{Text}
use Rattle.cfi_text.proofs.WrittenLemmas.{appends_then, none_yet}
use Rattle.cfi_files.specs.Sending.{Grows, HasBegun, IsEmpty, IsSent, Sends}

-- ---- what a call leaves where it returns, and where it fails

abbrev pub Passes : Text → Text → Option (List ℕ) → Option (List ℕ) → List ℕ → Type 0
Passes x y a b part = (first : Option (List ℕ)) → (sent : List ℕ) → IsSent first a x sent → IsSent first b y (sent ++ part)

abbrev pub Fails : Text → Option (List ℕ) → Option (List ℕ) → List ℕ → Type 0
Fails x a b part = (first : Option (List ℕ)) → (sent : List ℕ) → IsSent first a x sent → HasBegun first b (sent ++ part)

pub begun_more : (first now : Option (List ℕ)) (sent part : List ℕ) → HasBegun first now sent → HasBegun first now (sent ++ part)
begun_more first now sent part (front, given, (rest, cut)) =
    (front, given, (rest ++ part, sym (append_assoc front rest part) ∙ ap (λ (xs : List ℕ). xs ++ part) cut))

pub begun_in : (first now : Option (List ℕ)) (sent part left all : List ℕ) → HasBegun first now (sent ++ part) → sent ++ (part ++ left) ≡ all → HasBegun first now all
begun_in first now sent part left all begun whole =
    subst (λ (xs : List ℕ). HasBegun first now xs) (append_assoc sent part left ∙ whole) (begun_more first now (sent ++ part) left begun)

-- ---- a part is put

whole_before : (x y : Text) (part : List ℕ) → Puts part x y → IsWhole y → IsWhole x
whole_before x y part p whole = by x.is_short refl
  where
    by : (short : Bool) → x.is_short ≡ short → x.is_short ≡ false
    by true is = cc (p.remembers is, whole)
    by false is = is

pub passes_put : (x y : Text) (a : Option (List ℕ)) (part : List ℕ) → Puts part x y → Passes x y a a part
passes_put x y a part p first sent is = record {
  begun = begun_more first a sent part is.begun;
  waits = λ whole. waiting whole (is.waits (whole_before x y part p whole));
}
  where
    waiting : IsWhole y → ((front : List ℕ) × Appends first a front × (front ++ contents x ≡ sent)) → (front : List ℕ) × Appends first a front × (front ++ contents y ≡ sent ++ part)
    waiting whole (front, given, same) =
        (front, given, ap (λ (xs : List ℕ). front ++ xs) (p.adds whole) ∙ sym (append_assoc front (contents x) part) ∙ ap (λ (xs : List ℕ). xs ++ part) same)

pub passes_nothing : (x : Text) (a : Option (List ℕ)) → Passes x x a a []
passes_nothing x a first sent is = subst (λ (xs : List ℕ). IsSent first a x xs) (sym (append-nil sent)) is

-- ---- the text is written

sent_written : (first now new : Option (List ℕ)) (x y : Text) (sent : List ℕ) → Appends now new (contents x) → contents y ≡ [] → ((front : List ℕ) × Appends first now front × (front ++ contents x ≡ sent)) → IsSent first new y sent
sent_written first now new x y sent more empty (front, given, same) =
    let all = appends_then first now new front (contents x) given more in
    record {
      begun = (front ++ contents x, all, ([], append-nil (front ++ contents x) ∙ same));
      waits = λ whole. (front ++ contents x, all, ap (λ (xs : List ℕ). (front ++ contents x) ++ xs) empty ∙ append-nil (front ++ contents x) ∙ same);
    }

begun_written : (first now new : Option (List ℕ)) (x : Text) (sent : List ℕ) → HasBegun now new (contents x) → ((front : List ℕ) × Appends first now front × (front ++ contents x ≡ sent)) → HasBegun first new sent
begun_written first now new x sent (more, written, (rest, cut)) (front, given, same) =
    (front ++ more, appends_then first now new front more given written, (rest, append_assoc front more rest ∙ ap (λ (xs : List ℕ). front ++ xs) cut ∙ same))

-- a text that isn't whole isn't written
pub not_written : (first now new : Option (List ℕ)) (x : Text) (sent : List ℕ) → HasBegun now new (contents x) → (x.is_short ≡ true → new ≡ now) → IsSent first now x sent → HasBegun first new sent
not_written first now new x sent begun unwritten is = by x.is_short refl
  where
    by : (short : Bool) → x.is_short ≡ short → HasBegun first new sent
    by true short = subst (λ (b : Option (List ℕ)). HasBegun first b sent) (sym (unwritten short)) is.begun
    by false whole = begun_written first now new x sent begun (is.waits whole)

pub sends_written : {T E : Type 0} (x y : Text) (a b : Option (List ℕ)) (r : Result T E) → Writes a b r (contents x) → OnOk r (IsWhole x) → OnOk r (contents y ≡ []) → (x.is_short ≡ true → b ≡ a) → Sends x y a b r []
sends_written x y a b (Ok u) written whole empty unwritten first sent is =
    subst (λ (xs : List ℕ). IsSent first b y xs) (sym (append-nil sent)) (sent_written first a b x y sent written empty (is.waits whole))
sends_written x y a b (Err e) written whole empty unwritten first sent is =
    begun_more first b sent [] (not_written first a b x sent written unwritten is)

-- ---- one part after another

pub sends_then : {T E : Type 0} (x y z : Text) (a b c : Option (List ℕ)) (r : Result T E) (p q : List ℕ) → Passes x y a b p → Sends y z b c r q → Sends x z a c r (p ++ q)
sends_then x y z a b c r p q f g first sent is =
    subst (λ (xs : List ℕ). MatchResult r (λ _. IsSent first c z xs) (λ _. HasBegun first c xs)) (append_assoc sent p q) (g first (sent ++ p) (f first sent is))

-- that is put
pub sends_behind : {T E : Type 0} (x y z : Text) (a b : Option (List ℕ)) (r : Result T E) (p q : List ℕ) → Puts p x y → Sends y z a b r q → Sends x z a b r (p ++ q)
sends_behind x y z a b r p q put g = sends_then x y z a a b r p q (passes_put x y a p put) g

-- a line is put, and the text is written if it is long
pub sends_line : {T E : Type 0} (x y z : Text) (a b : Option (List ℕ)) (r : Result T E) (p : List ℕ) → Puts p x y → Sends y z a b r [] → Sends x z a b r p
sends_line x y z a b r p put g =
    subst (λ (xs : List ℕ). Sends x z a b r xs) (append-nil p) (sends_behind x y z a b r p [] put g)

pub passes_line : (x y z : Text) (a b : Option (List ℕ)) (p : List ℕ) → Puts p x y → Passes y z a b [] → Passes x z a b p
passes_line x y z a b p put f first sent is = subst (λ (xs : List ℕ). IsSent first b z xs) (append-nil (sent ++ p)) (f first (sent ++ p) (passes_put x y a p put first sent is))

pub fails_line : (x y : Text) (a b : Option (List ℕ)) (p : List ℕ) → Puts p x y → Fails y a b [] → Fails x a b p
fails_line x y a b p put f first sent is = subst (λ (xs : List ℕ). HasBegun first b xs) (append-nil (sent ++ p)) (f first (sent ++ p) (passes_put x y a p put first sent is))

pub sends_failed : {T E : Type 0} (x y : Text) (a b : Option (List ℕ)) (r : Result T E) (p q : List ℕ) → IsErr r → Fails x a b p → Sends x y a b r (p ++ q)
sends_failed x y a b (Ok u) p q err f first sent is = cc err
sends_failed x y a b (Err e) p q err f first sent is =
    subst (λ (xs : List ℕ). HasBegun first b xs) (append_assoc sent p q) (begun_more first b (sent ++ p) q (f first sent is))

-- ---- what is left to send

pub record IsLeft (first now : Option (List ℕ)) (waiting : Text) (left all : List ℕ) : Type 0 where
  pub sent : List ℕ
  pub is : IsSent first now waiting sent
  pub whole : sent ++ left ≡ all

pub left_first : (first now : Option (List ℕ)) (x : Text) (sent left : List ℕ) → IsSent first now x sent → IsLeft first now x left (sent ++ left)
left_first first now x sent left is = record { sent = sent; is = is; whole = refl }

pub left_then : (first a b : Option (List ℕ)) (x y : Text) (part left all : List ℕ) → IsLeft first a x (part ++ left) all → Passes x y a b part → IsLeft first b y left all
left_then first a b x y part left all given f = record {
  sent = given.sent ++ part;
  is = f first given.sent given.is;
  whole = append_assoc given.sent part left ∙ given.whole;
}

pub left_failed : (first a b : Option (List ℕ)) (x : Text) (part left all : List ℕ) → IsLeft first a x (part ++ left) all → Fails x a b part → HasBegun first b all
left_failed first a b x part left all given f = begun_in first b given.sent part left all (f first given.sent given.is) given.whole

pub left_none : (first now : Option (List ℕ)) (x : Text) (left all : List ℕ) → IsLeft first now x left all → left ≡ [] → IsSent first now x all
left_none first now x left all given none =
    subst (λ (xs : List ℕ). IsSent first now x xs) (sym (append-nil given.sent) ∙ ap (λ (xs : List ℕ). given.sent ++ xs) (sym none) ∙ given.whole) given.is

-- where a call failed, whatever it returns
pub failed : {T E : Type 0} (first now : Option (List ℕ)) (y : Text) (r : Result T E) (all : List ℕ) → IsErr r → HasBegun first now all → MatchResult r (λ _. IsSent first now y all) (λ _. HasBegun first now all)
failed first now y (Ok u) all err begun = cc err
failed first now y (Err e) all err begun = begun

-- ---- from an empty text on

pub nothing_sent : (a : Option (List ℕ)) (x : Text) → IsEmpty x → IsSent a a x []
nothing_sent a x (whole, empty) = record {
  begun = ([], none_yet a, ([], refl));
  waits = λ _. ([], none_yet a, empty);
}

pub all_written : (first now new : Option (List ℕ)) (x : Text) (all : List ℕ) → IsSent first now x all → Appends now new (contents x) → IsWhole x → Appends first new all
all_written first now new x all is written whole = by (is.waits whole)
  where
    by : ((front : List ℕ) × Appends first now front × (front ++ contents x ≡ all)) → Appends first new all
    by (front, given, same) = subst (λ (xs : List ℕ). Appends first new xs) same (appends_then first now new front (contents x) given written)

-- ---- outputs that grow

pub grows_none : (a : Option (List ℕ)) → Grows a a
grows_none a = ([], none_yet a)

pub grows_then : (a b c : Option (List ℕ)) → Grows a b → Grows b c → Grows a c
grows_then a b c (p, given) (q, more) = (p ++ q, appends_then a b c p q given more)

pub grows_begun : (a b : Option (List ℕ)) (all : List ℕ) → HasBegun a b all → Grows a b
grows_begun a b all (front, given, rest) = (front, given)

waiting_sent : (a : Option (List ℕ)) (x : Text) → IsSent a a x (contents x)
waiting_sent a x = record {
  begun = ([], none_yet a, (contents x, refl));
  waits = λ _. ([], none_yet a, refl);
}

pub grows_passed : (x y : Text) (a b : Option (List ℕ)) (part : List ℕ) → Passes x y a b part → Grows a b
grows_passed x y a b part f = grows_begun a b (contents x ++ part) (f a (contents x) (waiting_sent a x)).begun

pub grows_failed : (x : Text) (a b : Option (List ℕ)) (part : List ℕ) → Fails x a b part → Grows a b
grows_failed x a b part f = grows_begun a b (contents x ++ part) (f a (contents x) (waiting_sent a x))

pub grows_sent : {T E : Type 0} (x y : Text) (a b : Option (List ℕ)) (r : Result T E) (part : List ℕ) → Sends x y a b r part → Grows a b
grows_sent x y a b (Ok u) part f = grows_passed x y a b part f
grows_sent x y a b (Err e) part f = grows_failed x a b part f

-- ---- what is printed

pub no_status : {E : Type 0} (r : Result ℕ E) → IsErr r → IfOk r (λ status. status ≡ 0)
no_status (Ok n) err = cc
no_status (Err e) err = tt

-- some text, with this status
pub prints_grown : {E : Type 0} (a b : Option (List ℕ)) (r : Result ℕ E) → Grows a b → IfOk r (λ status. status ≡ 0) → PrintsSome (λ line. line.status ≡ 0) a b r
prints_grown a b (Ok n) (more, given) is = (record { text = more; status = 0 }, (given, is), refl)
prints_grown a b (Err e) (more, given) is = (record { text = more; status = 0 }, ((more, given, ([], append-nil more)), tt), refl)
