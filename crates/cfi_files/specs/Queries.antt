-- What was asked for a row, as the beginning of an object of JSON.
use Rattle.std.specs.Prelude.{ℕ, List, ◌++◌, Option, Some, None, codes}
use Rattle.cfi_text.specs.Escapes.{escaped}
use Rattle.cfi_text.specs.Lines.{address_text}
use Rattle.cfi_text.specs.declared.escapes.Escaping.TheVariants.{Json}

abbrev pub address_member : Option ℕ → List ℕ
address_member None = codes "\","
address_member (Some address) =
    codes "\",\"address\":\"" ++ (address_text address ++ codes "\",")

-- `{"asked":"WORD","address":"0xADDRESS",`
abbrev pub query_members : List ℕ → Option ℕ → List ℕ
query_members word address =
    codes "{\"asked\":\"" ++ (escaped Json word ++ address_member address)
