-- What `cfi unwind` prints as JSON (RFC 8259), read back as values.
--     reason_value error reason      the value that says why there is no more, and what that means
--     ProfileOutputsReadBack      each line that is printed of a profile is read as a value
use Rattle.std.specs.Prelude.{Bool, List, ℕ, Option, codes}
use Rattle.cfi_text.specs.Lines.{Line}
use Rattle.cfi_mapped.specs.Wanted.{FilePlace}
use Rattle.cfi_stacks.specs.declared.listing.Listing.TheVariants as listings
use Rattle.cfi_stacks.specs.Choices.{Choice}
use Rattle.cfi_stacks.specs.ProfileOutputs.{IsListingOwed}
use Rattle.cfi_json.specs.Json.{Json, object, text, no_members, member, AreLinesOf}

abbrev pub reason_value : List ℕ → List ℕ → Json
reason_value error reason =
    object (member (codes "error") (text error)
    (member (codes "reason") (text reason) no_members))

-- its stacks, and why there are no more
abbrev pub ProfileOutputsReadBack : Type 1
ProfileOutputsReadBack =
    (raw : Bool) (choice : Choice) (Handle : Type 0)
    (may_open : FilePlace → Option Handle → Type 0) (remaining : Handle → Option (List ℕ))
    (bytes : List ℕ) (printed : Line) →
    IsListingOwed (listings.Json raw) choice may_open remaining bytes printed →
    (values : List Json) × AreLinesOf printed.text values
