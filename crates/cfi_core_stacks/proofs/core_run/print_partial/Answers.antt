use Rattle.std.proofs.Common.{◌⊎◌, ◌≡◌, List, ℕ, Some, subst, sym}
use Rattle.std.specs.List.Sorted.{IsNonDecreasingBy}
use Rattle.std.specs.Option.{is_some}
use Rattle.std.specs.declared.io.Error.{Error}
use Rattle.cfi_elf.specs.Images.{image_view}
use Rattle.cfi_elf.specs.declared.program_header.ProgramHeader.{ProgramHeader}
use Rattle.cfi_text.specs.WriterOutput.{Writes}
use Rattle.cfi_frames.specs.Outputs.{no_memory}
use Rattle.cfi_core_stacks.specs.CoreOutputs.{IsOfCore}
use Rattle.cfi_core_stacks.proofs.KnownLemmas.{found_some, gathered, places_in_order, refused_of_parts}
use Rattle.cfi_core_stacks.proofs.core_run.print_partial.Goals as goal

pub known_by_parts-known-requires : goal.known_by_parts-known-requires
known_by_parts-known-requires g c =
    subst (IsNonDecreasingBy (λ (h : ProgramHeader). h.p_vaddr)) (sym c.as_slice-places.ensures.value) (places_in_order (g.I.FileInput.bytes c.args.input.now) (image_view c.args.image) c.args.partial.now c.requires.parts c.requires.partial)

pub returns-in-Ok-Some : goal.returns-in-Ok-Some
returns-in-Ok-Some g c =
    let old = g.W.Write.contents c.args.output.now in
    let new = g.W.Write.contents c.write_gathered.new.output in
    gathered c.args.listing (g.O.Opener.may_open c.args.opener.now) g.O.File.Read.remaining (g.I.FileInput.bytes c.args.input.now) c.args.image c.args.partial.now c.requires.parts c.requires.partial
    Error c.known_by_parts-known.result c.as_slice-places.result.now c.new-text.result.items c.print_known.new.output.items c.in-Ok-Some.status old new c.write_gathered.result
    c.as_slice-places.ensures.value c.new-text.ensures.items c.known_by_parts-known.ensures.known
    (λ whole knows. found_some Error (λ line. IsOfCore c.args.listing (g.O.Opener.may_open c.args.opener.now) g.O.File.Read.remaining whole line ⊎ (line ≡ no_memory c.args.listing.format)) (Some c.new-text.result.items) (Some c.print_known.new.output.items)
    (is_some c.known_by_parts-known.result.parts) c.in-Ok-Some.field-0 c.in-Ok-Some.status c.in-Ok-Some.field-0-is (c.in-Ok-Some.ensures whole knows))
    (subst (λ (text : List ℕ). Writes old new c.write_gathered.result text) c.as_slice.ensures.value c.write_gathered.ensures.written) c.write_gathered.ensures.status

pub returns : goal.returns
returns g c =
    refused_of_parts c.args.listing (g.O.Opener.may_open c.args.opener.now) g.O.File.Read.remaining (image_view c.args.image) (g.I.FileInput.bytes c.args.input.now) _ _ c.write_refusal_in.result c.requires.parts c.write_refusal_in.ensures
