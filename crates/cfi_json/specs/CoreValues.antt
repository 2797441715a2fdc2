-- What `cfi stack` prints as JSON (RFC 8259), read back as values.
--     error_value reason      the value that says why there is no answer
--     CoreOutputsReadBack      each line that is printed of a core file is read as a value
use Rattle.std.specs.Prelude.{ℕ, Bool, List, Option, codes}
use Rattle.cfi_text.specs.declared.style.Format.TheVariants as formats
use Rattle.cfi_text.specs.Lines.{Line}
use Rattle.cfi_mapped.specs.Wanted.{FilePlace}
use Rattle.cfi_core_stacks.specs.declared.listing.ThreadListing.{ThreadListing}
use Rattle.cfi_core_stacks.specs.CoreOutputs.{IsCoreOwed}
use Rattle.cfi_json.specs.Json.{Json, object, text, no_members, member, AreLinesOf}

abbrev pub error_value : List ℕ → Json
error_value reason = object (member (codes "error") (text reason) no_members)

abbrev pub in_json : Bool → Option ℕ → ThreadListing
in_json raw asked = record { raw = raw; format = formats.Json; thread = asked }

-- its stacks, and why there are no more
abbrev pub CoreOutputsReadBack : Type 1
CoreOutputsReadBack =
    (raw : Bool) (asked : Option ℕ) (Handle : Type 0)
    (may_open : FilePlace → Option Handle → Type 0) (remaining : Handle → Option (List ℕ))
    (bytes : List ℕ) (printed : Line) →
    IsCoreOwed (in_json raw asked) may_open remaining bytes printed →
    (values : List Json) × AreLinesOf printed.text values
