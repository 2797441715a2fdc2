-- What lines say of errors.
--     refusal_words name said advice      in text: the name, a sentence, and what to do about it
--     json_refusal name said advice      the same as the end of an object of JSON
--     json_reason reason      the end of an object that has a reason alone
use Rattle.std.specs.Prelude.{ℕ, List, ◌++◌, codes}

abbrev pub refusal_words : List ℕ → List ℕ → List ℕ → List ℕ
refusal_words name said advice =
    codes "refused " ++ (name ++ (codes ": " ++ (said ++ advice)))

abbrev pub json_reason : List ℕ → List ℕ
json_reason reason = codes "\"error\":\"" ++ (reason ++ codes "\"}\n")

abbrev pub json_refusal : List ℕ → List ℕ → List ℕ → List ℕ
json_refusal name said advice =
    codes "\"error\":\""
    ++ (name ++ (codes "\",\"reason\":\"" ++ (said ++ (advice ++ codes "\"}\n"))))
