-- The paths of files, as they are made.
use Rattle.std.proofs.Common.{◌≡◌, ◌≢◌, ◌∙◌, ◌++◌, ◌+◌, ◌<◌, ◌≤◌, ◌==◌, append_assoc, ℕ, zero, suc, Bool, false, List, [], ◌∷◌, length, get_or, take, Option, Result, Ok, Err, IfOk, IfSome, refl, ap, subst, sym, arith, eq-eqb, ne_eqb}
use Rattle.std.specs.Prelude.{if◌then◌else◌}
use Rattle.std.specs.List.{list_any}
use Rattle.std.proofs.lemmas.List.Elements.{All-from_get_or}
use Rattle.std.proofs.lemmas.List.Folds.{list_any_at, list_any_none}
use Rattle.cfi_commands.specs.Folders.{folder_of}
use Rattle.std.specs.Result.{result_ok}

-- what was made, if anything was
pub made_is : {S E : Type 0} (bytes_of : S → List ℕ) (r : Result S E) (o : Option S) (text : List ℕ) → o ≡ result_ok r → IfOk r (λ s. bytes_of s ≡ text) → IfSome o (λ s. bytes_of s ≡ text)
made_is {S = S} {E = E} bytes_of r o text e h = subst (λ x. IfSome x (λ s. bytes_of s ≡ text)) (sym e) (go r h)
  where
    go : (r : Result S E) → IfOk r (λ s. bytes_of s ≡ text) → IfSome (result_ok r) (λ s. bytes_of s ≡ text)
    go (Ok s) h = h
    go (Err e) h = tt

-- six texts, one behind the other
pub in_one : (a b c d e f : List ℕ) → a ++ (b ++ (c ++ (d ++ (e ++ f)))) ≡ a ++ b ++ c ++ d ++ e ++ f
in_one a b c d e f =
    sym (append_assoc (a ++ b ++ c ++ d) e f ∙ append_assoc (a ++ b ++ c) d (e ++ f) ∙ append_assoc (a ++ b) c (d ++ (e ++ f)) ∙ append_assoc a b (c ++ (d ++ (e ++ f))))

-- ---- the folder of a file

none_in : (cs : List ℕ) → ((j : ℕ) → j < length cs → get_or cs j 0 ≢ 47) → list_any (λ c. c == 47) cs ≡ false
none_in cs none = list_any_none (λ c. c == 47) cs (All-from_get_or (λ (c : ℕ). (c == 47) ≡ false) cs 0 (λ k inside. ne_eqb (get_or cs k 0) 47 (none k inside)))

-- the bytes before the last slash
pub before_last : (path : List ℕ) (i : ℕ) → i < length path → get_or path i 0 ≡ 47 → ((j : ℕ) → i + 1 ≤ j → j < length path → get_or path j 0 ≢ 47) → folder_of path ≡ take i path
before_last [] i inside here after = absurd (omega (arith, inside))
before_last (c ∷ cs) zero inside here after =
    ap (λ (b : Bool). if b then c ∷ folder_of cs else []) (none_in cs (λ j below. after (suc j) (omega arith) (omega (arith, below))))
before_last (c ∷ cs) (suc i) inside here after =
    ap (λ (b : Bool). if b then c ∷ folder_of cs else []) (list_any_at (λ c. c == 47) cs i 0 (omega (arith, inside)) (eq-eqb (get_or cs i 0) 47 here))
    ∙ ap (λ (front : List ℕ). c ∷ front) (before_last cs i (omega (arith, inside)) here (λ j from below. after (suc j) (omega (arith, from)) (omega (arith, below))))

pub without_slash : (path : List ℕ) → ((j : ℕ) → j < length path → get_or path j 0 ≢ 47) → folder_of path ≡ []
without_slash [] none = refl
without_slash (c ∷ cs) none = ap (λ (b : Bool). if b then c ∷ folder_of cs else []) (none_in cs (λ j below. none (suc j) (omega (arith, below))))
