-- The row of what was found, where that is what the scan finds.
use Rattle.std.proofs.Common.{◌≡◌, ℕ, Bool, Option, Result, subst}
use Rattle.gimli_cfi.specs.Words.{chosen_fde, Error, Fde, IsRowByScan, IsRowOfFound, Row}
use Rattle.gimli_cfi.specs.Words.{Section}

pub by_scan : (rule_limit stack_limit : Option ℕ) (copies_free : Bool) (section : Section) (a : ℕ) (found : Result Fde Error) (row : Result (Row ℕ) Error) →
    found ≡ chosen_fde section a → IsRowOfFound rule_limit stack_limit copies_free section a found row → IsRowByScan rule_limit stack_limit copies_free section a row
by_scan rule_limit stack_limit copies_free section a found row same is = subst (λ (f : Result Fde Error). IsRowOfFound rule_limit stack_limit copies_free section a f row) same is
