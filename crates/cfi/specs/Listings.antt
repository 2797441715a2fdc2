-- How the stacks of a profile are listed.
--     listing_for raw format      in a format, with or without the functions
use Rattle.std.specs.Prelude.{Bool}
use Rattle.cfi_stacks.specs.declared.listing.Listing.{Listing}
use Rattle.cfi_stacks.specs.declared.listing.Listing.TheVariants as listing
use Rattle.cfi_text.specs.declared.style.Format.{Format}
use Rattle.cfi_text.specs.declared.style.Format.TheVariants.{Json, Text}

abbrev pub listing_for : Bool → Format → Listing
listing_for raw Text = listing.Frames raw
listing_for raw Json = listing.Json raw
