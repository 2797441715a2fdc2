-- The functions of folded stacks as objects of JSON (RFC 8259), one on a line.
--     objects_text all rows      how many samples there are, and then each function with its own
use Rattle.std.specs.Prelude.{ℕ, List, [], ◌∷◌, ◌++◌, codes}
use Rattle.std.specs.List.{flat_map}
use Rattle.cfi_flame.specs.Functions.{FunctionRow}
use Rattle.cfi_text.specs.JsonTexts.{json_escaped, json_number}

abbrev pub samples_object : ℕ → List ℕ
samples_object all = codes "{\"samples\":" ++ (json_number all ++ (codes "}" ++ 10 ∷ []))

-- that the line of this number isn't folded
abbrev pub not_folded_object : ℕ → List ℕ
not_folded_object number =
    codes "{\"error\":\"NotFolded\",\"line\":" ++ (json_number number ++ (codes "}" ++ 10 ∷ []))

-- behind a name
abbrev pub counts_members : FunctionRow → List ℕ
counts_members row =
    codes "\",\"self\":" ++ (json_number row.own ++ (codes ",\"total\":"
    ++ (json_number row.total ++ (codes "}" ++ 10 ∷ []))))

abbrev pub function_object : FunctionRow → List ℕ
function_object row = codes "{\"function\":\"" ++ (json_escaped row.name ++ counts_members row)

abbrev pub objects_text : ℕ → List FunctionRow → List ℕ
objects_text all rows = samples_object all ++ flat_map function_object rows
