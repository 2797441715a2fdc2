use Rattle.std.proofs.Common.{subst}
use Rattle.cfi_files.specs.DumpProgramOutput.{IsPrinted}
use Rattle.cfi_text.specs.WriterOutput.{PrintsSome}
use Rattle.cfi_files.proofs.dump.print.print_either.Goals as goal

pub returns-in-DebugFrame : goal.returns-in-DebugFrame
returns-in-DebugFrame g c =
    subst (λ section. PrintsSome (IsPrinted c.args.names c.args.printed section) (g.W.Write.contents c.args.output.now) (g.W.Write.contents c.print_section.new.output) c.print_section.result)
    c.in-DebugFrame.ensures c.print_section.ensures

pub returns-in-EhFrame : goal.returns-in-EhFrame
returns-in-EhFrame g c =
    subst (λ section. PrintsSome (IsPrinted c.args.names c.args.printed section) (g.W.Write.contents c.args.output.now) (g.W.Write.contents c.print_section-in-EhFrame.new.output) c.print_section-in-EhFrame.result)
    c.in-EhFrame.ensures c.print_section-in-EhFrame.ensures
