-- What a writer was given.
use Rattle.std.proofs.Common.{◌≡◌, ℕ, List, [], ◌++◌, Option, Some, None, Result, Ok, Err, refl, sym, ◌∙◌, ap, append_assoc, append-nil, take, drop, subst, length, ◌-◌, length-drop}
use Rattle.std.proofs.Math.Seq.{take-length}
use Rattle.std.proofs.lemmas.List.{take-append-drop}
use Rattle.std.specs.Io.KnownBytes.{Appends, Keeps}
use Rattle.std.specs.Result.{IsErr}
use Rattle.cfi_text.specs.WriterOutput.{IsBeginning, Writes}

pub appends_then : (a b c : Option (List ℕ)) (x y : List ℕ) → Appends a b x → Appends b c y → Appends a c (x ++ y)
appends_then None b c x y p q = tt
appends_then (Some xs) None c x y p q = absurd p
appends_then (Some xs) (Some ys) None x y p q = absurd q
appends_then (Some xs) (Some ys) (Some zs) x y p q = q ∙ ap (λ front. front ++ y) p ∙ append_assoc xs x y

pub keeps_is : (a b : Option (List ℕ)) → Keeps a b → Appends a b []
keeps_is None b k = tt
keeps_is (Some xs) None k = absurd k
keeps_is (Some xs) (Some ys) k = k ∙ sym (append-nil xs)

pub none_yet : (a : Option (List ℕ)) → Appends a a []
none_yet None = tt
none_yet (Some xs) = sym (append-nil xs)

-- a text of which a front was given, and what is left of it
pub record IsGiven (old new : Option (List ℕ)) (left text : List ℕ) : Type 0 where
  pub front : List ℕ
  pub given : Appends old new front
  pub whole : front ++ left ≡ text

pub given_first : (old : Option (List ℕ)) (text : List ℕ) → IsGiven old old text text
given_first old text = record { front = []; given = none_yet old; whole = refl }

pub given_more : (old new newer : Option (List ℕ)) (left text : List ℕ) (n : ℕ) → IsGiven old new left text → Appends new newer (take n left) → IsGiven old newer (drop n left) text
given_more old new newer left text n is more = record {
  front = is.front ++ take n left;
  given = appends_then old new newer is.front (take n left) is.given more;
  whole = append_assoc is.front (take n left) (drop n left) ∙ ap (λ xs. is.front ++ xs) (take-append-drop n left) ∙ is.whole;
}

pub given_same : (old new newer : Option (List ℕ)) (left text : List ℕ) → IsGiven old new left text → Keeps new newer → IsGiven old newer left text
given_same old new newer left text is same = record {
  front = is.front ++ [];
  given = appends_then old new newer is.front [] is.given (keeps_is new newer same);
  whole = append_assoc is.front [] left ∙ is.whole;
}

-- where what is left is the rest by its length
pub given_on : (old new newer : Option (List ℕ)) (left text next : List ℕ) (n : ℕ) → IsGiven old new left text → Appends new newer (take n left) → next ≡ take (length left - n) (drop n left) → IsGiven old newer next text
given_on old new newer left text next n is more e =
    let whole : next ≡ drop n left = e ∙ rw (← length-drop n left) (take-length (drop n left)) in
    rw whole (given_more old new newer left text n is more)

pub given_all : (old new : Option (List ℕ)) (left text : List ℕ) → IsGiven old new left text → left ≡ [] → Appends old new text
given_all old new left text is none =
    let whole : is.front ≡ text = sym (append-nil is.front) ∙ ap (λ xs. is.front ++ xs) (sym none) ∙ is.whole in
    let P : List ℕ → Type 0 = λ xs. Appends old new xs in subst P whole is.given

-- ---- one part of a text after another

pub given_then : (old new newer : Option (List ℕ)) (part left text : List ℕ) → IsGiven old new (part ++ left) text → Appends new newer part → IsGiven old newer left text
given_then old new newer part left text is more = record {
  front = is.front ++ part;
  given = appends_then old new newer is.front part is.given more;
  whole = append_assoc is.front part left ∙ is.whole;
}

-- a beginning of the next part is a beginning of the whole
pub beginning_then : (old new newer : Option (List ℕ)) (part left text : List ℕ) → IsGiven old new (part ++ left) text →
    ((front : List ℕ) × Appends new newer front × IsBeginning front part) → (front : List ℕ) × Appends old newer front × IsBeginning front text
beginning_then old new newer part left text is (front, more, (rest, cut)) = (
  is.front ++ front,
  appends_then old new newer is.front front is.given more,
  (rest ++ left, append_assoc is.front front (rest ++ left) ∙ ap (λ xs. is.front ++ xs) (sym (append_assoc front rest left) ∙ ap (λ xs. xs ++ left) cut) ∙ is.whole),
)

-- the last part
pub writes_last : {T E : Type 0} (old new newer : Option (List ℕ)) (r : Result T E) (left text : List ℕ) → IsGiven old new left text → Writes new newer r left → Writes old newer r text
writes_last old new newer (Ok x) left text is more =
    let P : List ℕ → Type 0 = λ xs. Appends old newer xs in subst P is.whole (appends_then old new newer is.front left is.given more)
writes_last old new newer (Err e) left text is (front, more, (rest, cut)) = (
  is.front ++ front,
  appends_then old new newer is.front front is.given more,
  (rest, append_assoc is.front front rest ∙ ap (λ xs. is.front ++ xs) cut ∙ is.whole),
)

pub writes_refused : {T E : Type 0} (old new : Option (List ℕ)) (r : Result T E) (text : List ℕ) → IsErr r → ((front : List ℕ) × Appends old new front × IsBeginning front text) → Writes old new r text
writes_refused old new (Ok x) text h more = cc
writes_refused old new (Err e) text h more = more
