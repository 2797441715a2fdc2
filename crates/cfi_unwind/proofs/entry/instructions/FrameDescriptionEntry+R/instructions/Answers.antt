use Rattle.std.proofs.Common.{◌≡◌, ◌∙◌, ℕ, Option, refl}
use Rattle.cfi_read_core.specs.ReadFunctions.{Extent}
use Rattle.cfi_read_core.specs.ReaderCalls.{extent_of}
use Rattle.cfi_entry.specs.EntryInstructions.{instructions_in}
use Rattle.cfi_entry.specs.Sections.{Section, section_of}
use Rattle.cfi_unwind.proofs.entry.instructions.FrameDescriptionEntry+R.instructions.Goals as goal

same_in : (section : Section) (extent : Extent) {size size' : ℕ} {encoding encoding' : Option ℕ} → size ≡ size' → encoding ≡ encoding' →
    instructions_in section size encoding extent ≡ instructions_in section size' encoding' extent
same_in section extent sized encoded = rw (sized, encoded) refl

pub returns-clause-left : goal.returns-clause-left
returns-clause-left g c =
    c.instructions_in.ensures.left ∙ same_in (section_of (g.Section._UnwindSectionPrivate.view c.args.section.now) c.args.bases.now) (extent_of (g.R.Reader.position c.args.self.now.instructions)) c.address_size_of-size.ensures c.fde_address_encoding-encoding.ensures
