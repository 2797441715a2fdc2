-- A value is read back.
use Rattle.std.proofs.Common.{◌≡◌, ◌∙◌, ℕ, ◌^◌, ◌<◌, Bool, true, false, cond, nat_lt, List, [], ◌∷◌, ◌++◌, Some, codes, refl, sym, ap, ap₂, arith, append_assoc, append-nil}
use Rattle.std.specs.Prelude.{option_and_then}
use Rattle.std.specs.Fmt.{decimal}
use Rattle.std.proofs.lemmas.Bool.{ltb-true}
use Rattle.json.specs.Json as read
use Rattle.json.specs.Token.{Token}
use Rattle.json.specs.Text.{content}
use Rattle.json.specs.Word.{ends_word, word}
use Rattle.json.specs.Lex.{Place, after_comma, after_key, after_value, begins_colon, between, colon, fresh, if_allowed, lex, may_begin, place_token, punctuate, string_token, token, tokens}
use Rattle.json.specs.Tree.{items_tokens, json_tokens, members_tokens}
use Rattle.json.proofs.Printed.Decimals.{IsNumber-decimal}
use Rattle.json.proofs.Printed.Numbers.{in_word-ended, lex-number}
use Rattle.json.proofs.Printed.Trees.{value-json_tokens}
use Rattle.cfi_text.specs.JsonTexts.{json_name, json_escaped, separated}
use Rattle.cfi_text.specs.Lines.{address_text}
use Rattle.cfi_json.specs.Json.{Json, name, text, number, address, flag, array, object, Items, no_items, item, Members, no_members, member, quoted, flag_text, json_text, items_text, members_text, name_read, value_read, items_read, members_read, NestsWithin, ReadsBack}
use Rattle.cfi_json.proofs.OneLine.{one_line}
use Rattle.cfi_json.proofs.Strings.{Reads, reads_address, reads_decimal, reads_name, reads_text}

-- ---- what may come after a value

data Rest : Type 0 where
  nothing : Rest
  line_feed : Rest
  comma_then : List ℕ → Rest
  bracket_then : List ℕ → Rest
  brace_then : List ℕ → Rest

abbrev rest_text : Rest → List ℕ
rest_text nothing = []
rest_text line_feed = 10 ∷ []
rest_text (comma_then r) = 44 ∷ r
rest_text (bracket_then r) = 93 ∷ r
rest_text (brace_then r) = 125 ∷ r

ended : (t : Rest) → ends_word (rest_text t) ≡ true
ended nothing = refl
ended line_feed = refl
ended (comma_then r) = refl
ended (bracket_then r) = refl
ended (brace_then r) = refl

no_colon : (t : Rest) → begins_colon (lex between (rest_text t)) ≡ false
unfolding lex
no_colon nothing = refl
no_colon line_feed = refl
no_colon (comma_then r) = refl
no_colon (bracket_then r) = refl
no_colon (brace_then r) = refl

-- ---- the tokens of a text

abbrev tokens_at : Place → List ℕ → List Token
tokens_at p xs = punctuate p (lex between xs)

lex_quoted : (characters bytes r : List ℕ) → Reads characters bytes → lex between (quoted characters ++ r) ≡ token (Token.string bytes) ∷ lex between r
unfolding lex content
lex_quoted characters bytes r h =
    ap (λ (xs : List ℕ). lex between (34 ∷ xs)) (append_assoc characters (34 ∷ []) r)
    ∙ ap₂ (λ o l. token (string_token o) ∷ l) (h.read (34 ∷ r) ∙ ap Some (append-nil bytes)) (h.passed (34 ∷ r))

-- at a place where a value may begin
module _ (p : Place) (may : may_begin p ≡ true) where
  string_tokens : (characters bytes : List ℕ) (t : Rest) → Reads characters bytes → tokens_at p (quoted characters ++ rest_text t) ≡ Token.string bytes ∷ tokens_at after_value (rest_text t)
  unfolding punctuate
  string_tokens characters bytes t h =
      let k : Place → List Token = λ next. punctuate next (lex between (rest_text t)) in
      ap (punctuate p) (lex_quoted characters bytes (rest_text t) h)
      ∙ ap (λ b. place_token p (Token.string bytes) b k) (no_colon t)
      ∙ ap (λ b. if_allowed b (Token.string bytes) k after_value) may

  key_tokens : (characters bytes r : List ℕ) → Reads characters bytes → tokens_at p (quoted characters ++ 58 ∷ r) ≡ Token.key bytes ∷ tokens_at fresh r
  unfolding punctuate lex
  key_tokens characters bytes r h =
      let k : Place → List Token = λ next. punctuate next (colon ∷ lex between r) in
      ap (punctuate p) (lex_quoted characters bytes (58 ∷ r) h) ∙ ap (λ b. if_allowed b (Token.key bytes) k after_key) may

  decimal_tokens : (n : ℕ) (t : Rest) → n < 2 ^ 53 → tokens_at p (decimal n ++ rest_text t) ≡ Token.number (decimal n) ∷ tokens_at after_value (rest_text t)
  unfolding punctuate
  decimal_tokens n t h =
      let k : Place → List Token = λ next. punctuate next (lex between (rest_text t)) in
      ap (punctuate p) (lex-number (decimal n) (rest_text t) (IsNumber-decimal n (omega (arith, h))) (ended t))
      ∙ ap (λ b. if_allowed b (Token.number (decimal n)) k after_value) may

  number_tokens : (n : ℕ) (t : Rest) (b : Bool) → (b ≡ true → n < 2 ^ 53) →
      tokens_at p (cond b (decimal n) (quoted (decimal n)) ++ rest_text t) ≡ json_tokens (cond b (read.number (decimal n)) (read.string (decimal n))) ++ tokens_at after_value (rest_text t)
  number_tokens n t true h = decimal_tokens n t (h refl)
  number_tokens n t false h = string_tokens (decimal n) (decimal n) t (reads_decimal n)

  flag_tokens : (is : Bool) (t : Rest) → tokens_at p (flag_text is ++ rest_text t) ≡ Token.boolean is ∷ tokens_at after_value (rest_text t)
  unfolding punctuate lex word
  flag_tokens true t =
      let k : Place → List Token = λ next. punctuate next (lex between (rest_text t)) in
      ap (punctuate p) (ap₂ (λ b l. token (cond b (Token.boolean true) Token.bad) ∷ l) (ended t) (in_word-ended (rest_text t) (ended t)))
      ∙ ap (λ b. if_allowed b (Token.boolean true) k after_value) may
  flag_tokens false t =
      let k : Place → List Token = λ next. punctuate next (lex between (rest_text t)) in
      ap (punctuate p) (ap₂ (λ b l. token (cond b (Token.boolean false) Token.bad) ∷ l) (ended t) (in_word-ended (rest_text t) (ended t)))
      ∙ ap (λ b. if_allowed b (Token.boolean false) k after_value) may

  array_begins : (xs r : List ℕ) → tokens_at p ((91 ∷ (xs ++ 93 ∷ [])) ++ r) ≡ Token.begin_array ∷ tokens_at fresh (xs ++ 93 ∷ r)
  unfolding punctuate lex
  array_begins xs r =
      ap (λ (ys : List ℕ). tokens_at p (91 ∷ ys)) (append_assoc xs (93 ∷ []) r)
      ∙ ap (λ b. if_allowed b Token.begin_array (λ next. punctuate next (lex between (xs ++ 93 ∷ r))) fresh) may

  object_begins : (xs r : List ℕ) → tokens_at p ((123 ∷ (xs ++ 125 ∷ [])) ++ r) ≡ Token.begin_object ∷ tokens_at fresh (xs ++ 125 ∷ r)
  unfolding punctuate lex
  object_begins xs r =
      ap (λ (ys : List ℕ). tokens_at p (123 ∷ ys)) (append_assoc xs (125 ∷ []) r)
      ∙ ap (λ b. if_allowed b Token.begin_object (λ next. punctuate next (lex between (xs ++ 125 ∷ r))) fresh) may

-- ---- a value among others

abbrev items_rest : Items → List ℕ → Rest
items_rest no_items r = bracket_then r
items_rest (item v vs) r = comma_then ((json_text v ++ items_text vs) ++ 93 ∷ r)

items_rest_is : (vs : Items) (r : List ℕ) → rest_text (items_rest vs r) ≡ items_text vs ++ 93 ∷ r
items_rest_is no_items r = refl
items_rest_is (item v vs) r = refl

abbrev members_rest : Members → List ℕ → Rest
members_rest no_members r = brace_then r
members_rest (member k v ms) r = comma_then ((quoted (json_name k) ++ (codes ":" ++ (json_text v ++ members_text ms))) ++ 125 ∷ r)

members_rest_is : (ms : Members) (r : List ℕ) → rest_text (members_rest ms r) ≡ members_text ms ++ 125 ∷ r
members_rest_is no_members r = refl
members_rest_is (member k v ms) r = refl

-- the text of a value gives its tokens
abbrev GivesTokens : Json → Type 0
GivesTokens v = (p : Place) (t : Rest) → may_begin p ≡ true → tokens_at p (json_text v ++ rest_text t) ≡ json_tokens (value_read v) ++ tokens_at after_value (rest_text t)

-- so do those behind a value
abbrev GiveItems : Items → Type 0
GiveItems vs = (r : List ℕ) → tokens_at after_value (items_text vs ++ 93 ∷ r) ≡ items_tokens (items_read vs) ++ tokens_at after_value r

abbrev GiveMembers : Members → Type 0
GiveMembers ms = (r : List ℕ) → tokens_at after_value (members_text ms ++ 125 ∷ r) ≡ members_tokens (members_read ms) ++ tokens_at after_value r

item_tokens : (p : Place) → may_begin p ≡ true → (v : Json) (vs : Items) (r : List ℕ) → GivesTokens v → GiveItems vs →
    tokens_at p ((json_text v ++ items_text vs) ++ 93 ∷ r) ≡ (json_tokens (value_read v) ++ items_tokens (items_read vs)) ++ tokens_at after_value r
item_tokens p may v vs r one more =
    let t = items_rest vs r in
    let is = items_rest_is vs r in
    let first = json_tokens (value_read v) in
    ap (tokens_at p) (append_assoc (json_text v) (items_text vs) (93 ∷ r) ∙ ap (λ (xs : List ℕ). json_text v ++ xs) (sym is))
    ∙ one p t may
    ∙ ap (λ (xs : List ℕ). first ++ tokens_at after_value xs) is
    ∙ ap (λ (ts : List Token). first ++ ts) (more r)
    ∙ sym (append_assoc first (items_tokens (items_read vs)) (tokens_at after_value r))

member_tokens : (p : Place) → may_begin p ≡ true → (k : List ℕ) (v : Json) (ms : Members) (r : List ℕ) → GivesTokens v → GiveMembers ms →
    tokens_at p ((quoted (json_name k) ++ (codes ":" ++ (json_text v ++ members_text ms))) ++ 125 ∷ r) ≡ (Token.key (name_read k) ∷ (json_tokens (value_read v) ++ members_tokens (members_read ms))) ++ tokens_at after_value r
member_tokens p may k v ms r one more =
    let t = members_rest ms r in
    let is = members_rest_is ms r in
    let first = json_tokens (value_read v) in
    let behind = json_text v ++ members_text ms in
    ap (tokens_at p) (append_assoc (quoted (json_name k)) (58 ∷ behind) (125 ∷ r))
    ∙ key_tokens p may (json_name k) (name_read k) (behind ++ 125 ∷ r) (reads_name k)
    ∙ ap (λ (ts : List Token). Token.key (name_read k) ∷ ts)
    (ap (tokens_at fresh) (append_assoc (json_text v) (members_text ms) (125 ∷ r) ∙ ap (λ (xs : List ℕ). json_text v ++ xs) (sym is))
    ∙ one fresh t refl
    ∙ ap (λ (xs : List ℕ). first ++ tokens_at after_value xs) is
    ∙ ap (λ (ts : List Token). first ++ ts) (more r)
    ∙ sym (append_assoc first (members_tokens (members_read ms)) (tokens_at after_value r)))

-- ---- all values

mutual
  unfolding punctuate lex

  value_tokens : (v : Json) → GivesTokens v
  value_tokens (name bytes) p t may = string_tokens p may (json_name bytes) (name_read bytes) t (reads_name bytes)
  value_tokens (text characters) p t may = string_tokens p may (json_escaped characters) characters t (reads_text characters)
  value_tokens (number n) p t may = number_tokens p may n t (nat_lt n (2 ^ 53)) (ltb-true n (2 ^ 53))
  value_tokens (address a) p t may = string_tokens p may (address_text a) (address_text a) t (reads_address a)
  value_tokens (flag is) p t may = flag_tokens p may is t
  value_tokens (array vs) p t may =
      array_begins p may (separated true (items_text vs)) (rest_text t) ∙ ap (λ (ts : List Token). Token.begin_array ∷ ts) (first_items vs (rest_text t))
  value_tokens (object ms) p t may =
      object_begins p may (separated true (members_text ms)) (rest_text t) ∙ ap (λ (ts : List Token). Token.begin_object ∷ ts) (first_members ms (rest_text t))

  first_items : (vs : Items) (r : List ℕ) → tokens_at fresh (separated true (items_text vs) ++ 93 ∷ r) ≡ items_tokens (items_read vs) ++ tokens_at after_value r
  first_items no_items r = refl
  first_items (item v vs) r = item_tokens fresh refl v vs r (value_tokens v) (more_items vs)

  more_items : (vs : Items) → GiveItems vs
  more_items no_items r = refl
  more_items (item v vs) r = item_tokens after_comma refl v vs r (value_tokens v) (more_items vs)

  first_members : (ms : Members) (r : List ℕ) → tokens_at fresh (separated true (members_text ms) ++ 125 ∷ r) ≡ members_tokens (members_read ms) ++ tokens_at after_value r
  first_members no_members r = refl
  first_members (member k v ms) r = member_tokens fresh refl k v ms r (value_tokens v) (more_members ms)

  more_members : (ms : Members) → GiveMembers ms
  more_members no_members r = refl
  more_members (member k v ms) r = member_tokens after_comma refl k v ms r (value_tokens v) (more_members ms)

-- ---- the law

all_tokens : (v : Json) (t : Rest) → tokens_at after_value (rest_text t) ≡ [] → tokens (json_text v ++ rest_text t) ≡ json_tokens (value_read v) ++ []
all_tokens v t none = value_tokens v fresh t refl ∙ ap (λ (ts : List Token). json_tokens (value_read v) ++ ts) none

read_before : (v : Json) (t : Rest) → NestsWithin v → tokens_at after_value (rest_text t) ≡ [] → read.document (json_text v ++ rest_text t) ≡ Some (value_read v)
read_before v t shallow none =
    ap (λ (ts : List Token). option_and_then (λ q. read.if_last q.0 q.1) (read.value read.max_depth ts)) (all_tokens v t none)
    ∙ ap (option_and_then (λ q. read.if_last q.0 q.1)) (value-json_tokens (value_read v) read.max_depth [] shallow)

nothing_more : tokens_at after_value (rest_text nothing) ≡ []
unfolding punctuate lex
nothing_more = refl

line_ends : tokens_at after_value (rest_text line_feed) ≡ []
unfolding punctuate lex
line_ends = refl

pub reads_back : ReadsBack
reads_back v shallow = record {
  alone = ap read.document (sym (append-nil (json_text v))) ∙ read_before v nothing shallow nothing_more;
  on_line = read_before v line_feed shallow line_ends;
  one_line = one_line v;
}
