use Rattle.std.proofs.Common.{subst, sym}
use Rattle.cfi_cores.specs.PartialCores.{IsPartial}
use Rattle.cfi_object.specs.FileParts.{AreOfInput, image_of}
use Rattle.cfi_core_stacks.proofs.KnownLemmas.{refused_of_parts, some_is}
use Rattle.cfi_core_stacks.proofs.core_run.print_parts.Goals as goal

pub print_partial-requires-clause-parts : goal.print_partial-requires-clause-parts
print_partial-requires-clause-parts g c = subst (AreOfInput (g.I.FileInput.bytes c.args.input.now)) (sym c.image-image.ensures) c.requires

pub print_partial-requires-clause-partial : goal.print_partial-requires-clause-partial
print_partial-requires-clause-partial g c = λ bytes of. some_is c.in-Ok-Some.field-0 c.in-Ok-Some.partial (IsPartial bytes) c.in-Ok-Some.field-0-is (c.in-Ok-Some.ensures bytes of)

pub returns-in-Err : goal.returns-in-Err
returns-in-Err g c =
    refused_of_parts c.args.listing (g.O.Opener.may_open c.args.opener.now) g.O.File.Read.remaining (image_of c.args.parts.now) (g.I.FileInput.bytes c.args.input.now) _ _ c.write_refusal_in.result c.requires c.write_refusal_in.ensures
