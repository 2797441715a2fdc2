use Rattle.std.proofs.Common.{◌∙◌, Some, IfOk, ap, subst}
use Rattle.cfi_compiled.specs.CompiledTables.{IsCompiled}
use Rattle.gimli_cfi.specs.SectionSources.{given_section}
use Rattle.cfi_c.proofs.Sections.{same_section}
use Rattle.cfi_c.proofs.compiled.compile.Goals as goal

pub returns-in-DebugFrame : goal.returns-in-DebugFrame
returns-in-DebugFrame c =
    subst (λ s. IfOk c.new.result (IsCompiled (Some 192) (Some 4) s))
    (c.in-DebugFrame.ensures ∙ ap given_section c.source_of-source.ensures ∙ same_section c.args.bases.now c.args.section.now) c.new.ensures.rows

pub returns-in-EhFrame : goal.returns-in-EhFrame
returns-in-EhFrame c =
    subst (λ s. IfOk c.new-in-EhFrame.result (IsCompiled (Some 192) (Some 4) s))
    (c.in-EhFrame.ensures ∙ ap given_section c.source_of-source.ensures ∙ same_section c.args.bases.now c.args.section.now) c.new-in-EhFrame.ensures.rows
