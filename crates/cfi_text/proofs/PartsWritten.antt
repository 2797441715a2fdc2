-- A text of two parts, one after the other.
use Rattle.std.proofs.Common.{ℕ, List, ◌++◌, Option, Result}
use Rattle.std.specs.Result.{IsErr}
use Rattle.std.specs.Io.KnownBytes.{Appends}
use Rattle.cfi_text.specs.WriterOutput.{IsBeginning, Writes}
use Rattle.cfi_text.proofs.WrittenLemmas.{beginning_then, given_first, given_then, writes_last, writes_refused}

pub first_refused : {T E : Type 0} (old new : Option (List ℕ)) (r : Result T E) (first last : List ℕ) → IsErr r
    → ((front : List ℕ) × Appends old new front × IsBeginning front first) → Writes old new r (first ++ last)
first_refused old new r first last err begun = writes_refused old new r (first ++ last) err (beginning_then old old new first last (first ++ last) (given_first old (first ++ last)) begun)

pub last_written : {T E : Type 0} (old mid new : Option (List ℕ)) (r : Result T E) (first last : List ℕ) → Appends old mid first → Writes mid new r last → Writes old new r (first ++ last)
last_written old mid new r first last written more = writes_last old mid new r last (first ++ last) (given_then old old mid first last (first ++ last) (given_first old (first ++ last)) written) more
