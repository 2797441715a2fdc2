use Rattle.std.proofs.Common.{ℕ, List, Option, subst, sym}
use Rattle.cfi_object.specs.FileParts.{AreOfInput}
use Rattle.cfi_object.specs.FileParts.{image_of}
use Rattle.cfi_core_stacks.specs.CoreOutputs.{PrintsCoreOwed}
use Rattle.cfi_core_stacks.proofs.KnownLemmas.{unread}
use Rattle.cfi_frames.proofs.InputLemmas.{for_input}
use Rattle.cfi_core_stacks.proofs.core_run.print_core.Goals as goal

pub print_parts-requires : goal.print_parts-requires
print_parts-requires g c = subst (λ (known : Option (List ℕ)). AreOfInput known (image_of c.in-Ok.parts)) (sym c.read_core_parts.ensures.same) c.in-Ok.ensures.read

pub returns-in-Ok : goal.returns-in-Ok
returns-in-Ok g c =
    subst (λ (known : Option (List ℕ)). PrintsCoreOwed c.args.listing (g.O.Opener.may_open c.args.opener.now) g.O.File.Read.remaining known (g.W.Write.contents c.args.output.now) (g.W.Write.contents c.print_parts.new.output) c.print_parts.result)
    c.read_core_parts.ensures.same c.print_parts.ensures

pub returns-in-Err : goal.returns-in-Err
returns-in-Err g c =
    for_input (g.I.FileInput.bytes c.args.input.now) _ (λ bytes. unread c.args.listing (g.O.Opener.may_open c.args.opener.now) g.O.File.Read.remaining bytes _ _ _ c.write_input_refusal.result c.write_input_refusal.ensures)
