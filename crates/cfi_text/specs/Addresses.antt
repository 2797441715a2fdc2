-- Addresses as they are printed.
use Rattle.std.specs.Prelude.{ℕ, false, List, ◌++◌, codes}
use Rattle.std.specs.Fmt.{digits}

abbrev pub address_text : ℕ → List ℕ
address_text address = codes "0x" ++ digits 16 false address
