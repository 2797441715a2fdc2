-- What a run prints.
use Rattle.std.proofs.Common.{◌≡◌, ◌==◌, true, false, ◌⊎◌, inl, inr, ◌≤◌, ◌<◌, ℕ, List, [], ◌++◌, get_or, Option, Some, None, Result, Ok, Err, refl, sym, ◌∙◌, ap, subst, arith, append-nil}
use Rattle.std.specs.Option.{IsSome}
use Rattle.std.specs.Io.KnownBytes.{Appends, Keeps}
use Rattle.cfi_programs.specs.Input.{Bytes}
use Rattle.cfi_text.specs.Lines.{Line}
use Rattle.cfi_text.specs.Refusals.{out_of_memory}
use Rattle.cfi_programs.specs.WrongLines.{wrong_hexadecimal, wrong_input, wrong_words}
use Rattle.cfi_programs.specs.Runs.{Tool, IsNoWrongLine, IsLineFor, IsPut, PutsAnswer, IsOwedBy, IsRun, LineOfInput, LineOfRequest, LineOfWords, requested}
use Rattle.cfi_text.specs.Texts.{contents}
use Rattle.cfi_text.specs.WriterOutput.{IsBeginning, Prints}
use Rattle.cfi_text.specs.declared.text.Text.{Text}
use Rattle.cfi_text.proofs.WrittenLemmas.{appends_then, keeps_is}

-- what holds of the lines of a program
abbrev pub AreNoWrongLines : Tool → Type 0
AreNoWrongLines tool = (r : tool.Request) (bytes : Bytes) (printed : Line) → tool.IsLine r bytes printed → IsNoWrongLine printed

-- ---- the line that is owed

owed_hexadecimal : (tool : Tool) (r : tool.Request) (input : List ℕ) → tool.meaning r input ≡ None → LineOfRequest tool (Some r) input wrong_hexadecimal
owed_hexadecimal tool r input e =
    let P : Option Bytes → Type 0 = λ bytes. LineOfInput tool r bytes wrong_hexadecimal in
    subst P (sym e) refl

owed_answer : (tool : Tool) (r : tool.Request) (input : List ℕ) (bytes : Bytes) (printed : Line) → tool.meaning r input ≡ Some bytes →
    tool.IsLine r bytes printed → LineOfRequest tool (Some r) input printed
owed_answer tool r input bytes printed e is =
    let P : Option Bytes → Type 0 = λ read. LineOfInput tool r read printed in
    subst P (sym e) is

pub owes_memory : (tool : Tool) (o : Option tool.Request) (r : tool.Request) (input : List ℕ) → o ≡ Some r → IsOwedBy tool o input out_of_memory
owes_memory tool o r input e =
    let P : Option tool.Request → Type 0 = λ request. IsOwedBy tool request input out_of_memory in
    subst P (sym e) (inr (refl, inl refl))

pub owes_hexadecimal : (tool : Tool) (o : Option tool.Request) (r : tool.Request) (input : List ℕ) → o ≡ Some r → tool.meaning r input ≡ None → IsOwedBy tool o input wrong_hexadecimal
owes_hexadecimal tool o r input e wrong =
    let P : Option tool.Request → Type 0 = λ request. IsOwedBy tool request input wrong_hexadecimal in
    subst P (sym e) (inl (owed_hexadecimal tool r input wrong))

owes_line : (tool : Tool) (r : tool.Request) (input : List ℕ) (bytes : Bytes) (printed : Line) → tool.meaning r input ≡ Some bytes →
    IsLineFor tool r bytes printed → IsOwedBy tool (Some r) input printed
owes_line tool r input bytes printed d (inl is) = inl (owed_answer tool r input bytes printed d is)
owes_line tool r input bytes printed d (inr memory) = inr (refl, inl memory)

pub owes_answer : (Q : Line → Type 0) (tool : Tool) (o : Option tool.Request) (r : tool.Request) (input : List ℕ) (bytes : Bytes) → o ≡ Some r →
    tool.meaning r input ≡ Some bytes → ((printed : Line) × Q printed × IsLineFor tool r bytes printed) → (printed : Line) × Q printed × IsOwedBy tool o input printed
owes_answer Q tool o r input bytes e d (printed, shows, which) =
    let P : Option tool.Request → Type 0 = λ request. IsOwedBy tool request input printed in
    (printed, shows, subst P (sym e) (owes_line tool r input bytes printed d which))

-- ---- a line that begins with the text of another

pub line_is : (text : List ℕ) (status : ℕ) (printed : Line) → text ≡ printed.text → status ≡ printed.status → record { text = text; status = status } ≡ printed
line_is text status printed p q = rw (p, q) refl

-- the code at a place of a line that begins with a text
code_at : (k : ℕ) (front rest text : List ℕ) (printed : Line) → front ++ rest ≡ printed.text → front ≡ text → get_or printed.text k 0 ≡ get_or (text ++ rest) k 0
code_at k front rest text printed e p = ap (λ xs. get_or xs k 0) (sym e ∙ ap (λ xs. xs ++ rest) p)

first_of : (printed line : Line) (k code : ℕ) → get_or printed.text k 0 ≡ code → printed ≡ line → get_or line.text k 0 ≡ code
first_of printed line k code e p = rw (← p) e

-- the line of a refusal begins with an r
no_refusal : (printed : Line) → get_or printed.text 0 0 ≡ 119 → printed ≡ out_of_memory → ⊥
no_refusal printed first memory =
    let e : ◌≡◌ {A = ℕ} 114 119 = first_of printed out_of_memory 0 119 first memory in
    absurd (omega arith)

-- a line that is owed where the words are right, of two that begin with w
owed_right : (tool : Tool) → AreNoWrongLines tool → (r : tool.Request) (bytes : Option Bytes) (printed : Line) → LineOfInput tool r bytes printed → get_or printed.text 0 0 ≡ 119 →
    (printed ≡ wrong_hexadecimal) × LineOfInput tool r bytes wrong_hexadecimal
owed_right tool plain r None printed h e = (h, refl)
owed_right tool plain r (Some bytes) printed is e =
    let clash : true ≡ false = subst (λ code. (code == 119) ≡ false) e (plain r bytes printed is).beginning in
    cc

words_wrong : (tool : Tool) → AreNoWrongLines tool → (request : Option tool.Request) (input : List ℕ) (printed : Line) → IsOwedBy tool request input printed →
    get_or printed.text 0 0 ≡ 119 → get_or printed.text 6 0 ≡ 119 → LineOfRequest tool request input wrong_words
words_wrong tool plain None input printed owed first seventh = refl
words_wrong tool plain (Some r) input printed (inl line) first seventh =
    let e : ◌≡◌ {A = ℕ} 104 119 = first_of printed wrong_hexadecimal 6 119 seventh (owed_right tool plain r (tool.meaning r input) printed line first).0 in
    absurd (omega arith)
words_wrong tool plain (Some r) input printed (inr (some, inl memory)) first seventh = absurd (no_refusal printed first memory)
words_wrong tool plain (Some r) input printed (inr (some, inr unread)) first seventh =
    let e : ◌≡◌ {A = ℕ} 105 119 = first_of printed wrong_input 6 119 seventh unread in
    absurd (omega arith)

hexadecimal_wrong : (tool : Tool) → AreNoWrongLines tool → (request : Option tool.Request) (input : List ℕ) (printed : Line) → IsOwedBy tool request input printed →
    get_or printed.text 0 0 ≡ 119 → get_or printed.text 6 0 ≡ 104 → LineOfRequest tool request input wrong_hexadecimal
hexadecimal_wrong tool plain None input printed (inl line) first seventh =
    let e : ◌≡◌ {A = ℕ} 119 104 = first_of printed wrong_words 6 104 seventh line in
    absurd (omega arith)
hexadecimal_wrong tool plain None input printed (inr (none, line)) first seventh = cc
hexadecimal_wrong tool plain (Some r) input printed (inl line) first seventh = (owed_right tool plain r (tool.meaning r input) printed line first).1
hexadecimal_wrong tool plain (Some r) input printed (inr (some, inl memory)) first seventh = absurd (no_refusal printed first memory)
hexadecimal_wrong tool plain (Some r) input printed (inr (some, inr unread)) first seventh =
    let e : ◌≡◌ {A = ℕ} 105 104 = first_of printed wrong_input 6 104 seventh unread in
    absurd (omega arith)

status_of : (printed line : Line) → printed.status ≤ 1 → printed ≡ line → line.status ≤ 1
status_of printed line h e = rw (← e) h

answered : (tool : Tool) (request : Option tool.Request) (input : List ℕ) (printed : Line) → IsOwedBy tool request input printed → printed.status ≤ 1 →
    IsSome request × (LineOfRequest tool request input printed ⊎ (printed ≡ out_of_memory))
answered tool None input printed (inl line) low = (let h : 2 ≤ 1 = status_of printed wrong_words low line in absurd (omega arith))
answered tool None input printed (inr (none, line)) low = cc
answered tool (Some r) input printed (inl line) low = (refl, inl line)
answered tool (Some r) input printed (inr (some, inl memory)) low = (refl, inr memory)
answered tool (Some r) input printed (inr (some, inr unread)) low = (let h : 2 ≤ 1 = status_of printed wrong_input low unread in absurd (omega arith))

-- ---- the run

-- the answer that was put is the line that is shown, unless memory was refused
pub answer_shown : (P : Line → Type 0) (tool : Tool) (r : tool.Request) (bytes : Bytes) (x y : Text) (status : ℕ) → contents x ≡ [] → PutsAnswer tool r bytes x y status →
    ((shown : Line) × P shown × IsPut y status shown) → (shown : Line) × P shown × IsLineFor tool r bytes shown
answer_shown P tool r bytes x y status empty (printed, (puts, same), which) (shown, prints, inl (whole, is)) =
    let text : contents y ≡ printed.text = puts.adds whole ∙ ap (λ (xs : List ℕ). xs ++ printed.text) empty in
    (shown, prints, subst (λ (l : Line). IsLineFor tool r bytes l) (sym (is ∙ line_is (contents y) status printed text same)) which)
answer_shown P tool r bytes x y status empty put (shown, prints, inr memory) = (shown, prints, inr memory)

is_run : (tool : Tool) → AreNoWrongLines tool → (words : Option (List (List ℕ))) (input written : List ℕ) (status : ℕ) (printed : Line) → IsOwedBy tool (requested tool words) input printed →
    IsBeginning written printed.text → ((written ≡ printed.text) × (status ≡ printed.status)) ⊎ (IsBeginning written printed.text × (status ≡ 2))
    → (status ≤ 1 → (written ≡ printed.text) × (status ≡ printed.status)) → (1 < status → status ≡ 2) → IsRun tool words input written status
is_run tool plain words input written status printed owed (rest, begins) ends whole high = record {
  printed = printed;
  owed = owed;
  ends = ends;
  answered = λ low.
      let is : record { text = written; status = status } ≡ printed = line_is written status printed (whole low).0 (whole low).1 in
      let P : Line → Type 0 = λ shown. IsSome (requested tool words) × (LineOfWords tool words input shown ⊎ (shown ≡ out_of_memory)) in
      subst P (sym is) (answered tool (requested tool words) input printed owed (rw (← (whole low).1) low));
  otherwise = high;
  words_wrong = λ _ e. words_wrong tool plain (requested tool words) input printed owed (code_at 0 written rest wrong_words.text printed begins e) (code_at 6 written rest wrong_words.text printed begins e);
  hexadecimal_wrong = λ _ e. hexadecimal_wrong tool plain (requested tool words) input printed owed (code_at 0 written rest wrong_hexadecimal.text printed begins e) (code_at 6 written rest wrong_hexadecimal.text printed begins e);
}

bound_by : (printed line : Line) → line.status ≤ 2 → printed ≡ line → printed.status ≤ 2
bound_by printed line h e = rw e h

one_below : (n : ℕ) → n ≤ 1 → n ≤ 2
one_below n h = omega arith

input_bound : (tool : Tool) → AreNoWrongLines tool → (r : tool.Request) (bytes : Option Bytes) (printed : Line) → LineOfInput tool r bytes printed → printed.status ≤ 2
input_bound tool plain r None printed e = bound_by printed wrong_hexadecimal (omega arith) e
input_bound tool plain r (Some bytes) printed is = one_below printed.status (plain r bytes printed is).low

status_bound : (tool : Tool) → AreNoWrongLines tool → (request : Option tool.Request) (input : List ℕ) (printed : Line) → IsOwedBy tool request input printed → printed.status ≤ 2
status_bound tool plain None input printed (inl e) = bound_by printed wrong_words (omega arith) e
status_bound tool plain (Some r) input printed (inl line) = input_bound tool plain r (tool.meaning r input) printed line
status_bound tool plain request input printed (inr (some, inl e)) = bound_by printed out_of_memory (omega arith) e
status_bound tool plain request input printed (inr (some, inr e)) = bound_by printed wrong_input (omega arith) e

pub run_ends : {E : Type 0} (tool : Tool) → AreNoWrongLines tool → (words : Option (List (List ℕ))) (input : List ℕ) (old mid new : Option (List ℕ)) (result : Result ℕ E) (status : ℕ) → result ≡ Ok status → Keeps mid new →
    ((printed : Line) × Prints printed old mid result × IsOwedBy tool (requested tool words) input printed) → (written : List ℕ) × Appends old new written × IsRun tool words input written status
run_ends tool plain words input old mid new (Ok answered) status e keeps (printed, prints, owed) =
    let same : answered ≡ status = cc in
    let is : status ≡ printed.status = sym same ∙ prints.1 in
    let P : List ℕ → Type 0 = λ xs. Appends old new xs in
    let whole : Appends old new printed.text = subst P (append-nil printed.text) (appends_then old mid new printed.text [] prints.0 (keeps_is mid new keeps)) in
    let bound : printed.status ≤ 2 = status_bound tool plain (requested tool words) input printed owed in
    (printed.text, whole, is_run tool plain words input printed.text status printed owed ([], append-nil printed.text) (inl (refl, is)) (λ low. (refl, is)) (λ high. omega arith))
run_ends tool plain words input old mid new (Err error) status e keeps (printed, prints, owed) = cc

-- where the line or the flush after it failed
pub run_fails : {E : Type 0} (tool : Tool) → AreNoWrongLines tool → (words : Option (List (List ℕ))) (input : List ℕ) (old mid new : Option (List ℕ)) (result : Result ℕ E) → Keeps mid new →
    ((printed : Line) × Prints printed old mid result × IsOwedBy tool (requested tool words) input printed) → (written : List ℕ) × Appends old new written × IsRun tool words input written 2
run_fails tool plain words input old mid new (Ok answered) keeps (printed, prints, owed) =
    let P : List ℕ → Type 0 = λ xs. Appends old new xs in
    let whole : Appends old new printed.text = subst P (append-nil printed.text) (appends_then old mid new printed.text [] prints.0 (keeps_is mid new keeps)) in
    (printed.text, whole, is_run tool plain words input printed.text 2 printed owed ([], append-nil printed.text) (inr (([], append-nil printed.text), refl)) (λ low. absurd (omega arith)) (λ high. refl))
run_fails tool plain words input old mid new (Err error) keeps (printed, ((front, more, begins), _), owed) =
    let P : List ℕ → Type 0 = λ xs. Appends old new xs in
    let whole : Appends old new front = subst P (append-nil front) (appends_then old mid new front [] more (keeps_is mid new keeps)) in
    (front, whole, is_run tool plain words input front 2 printed owed begins (inr (begins, refl)) (λ low. absurd (omega arith)) (λ high. refl))
