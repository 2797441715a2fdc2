use Rattle.std.proofs.Common.{◌≡◌, ◌∙◌, Bor, IfOk, List, ℕ, Option, None, Some, ap, false, option_map, refl, sym, true}
use Rattle.cfi_elf.specs.DebugLinks.{link_view}
use Rattle.cfi_mapped.specs.CodeParts.{ArePartsOf}
use Rattle.cfi_mapped.specs.FileReads.{IsDebugOf}
use Rattle.cfi_mapped.specs.FileBuilds.{id_in, link_in}
use Rattle.cfi_mapped.specs.Wanted.{is_text}
use Rattle.cfi_mapped.proofs.ReadFiles.{debug_first, debug_link, debug_none, not_text, of_text}
use Rattle.cfi_mapped.proofs.read_files.read_debug.Goals as goal

pub returns-then-is_text : goal.returns-then-is_text
returns-then-is_text g c = λ bytes of.
    let name = c.args.file.now.name.now in
    let may_open = g.O.Opener.may_open c.args.opener.now in
    let remaining = g.O.File.Read.remaining in
    of_text (λ bytes. ArePartsOf (IsDebugOf may_open remaining name bytes) None) (is_text name c.args.file.now.process) bytes (sym c.is_text.ensures ∙ c.if-is_text.true) (None, refl, refl)

pub returns-in_default : goal.returns-in_default
returns-in_default g c = λ bytes of.
    let name = c.args.file.now.name.now in
    let may_open = g.O.Opener.may_open c.args.opener.now in
    let remaining = g.O.File.Read.remaining in
    not_text (λ bytes. ArePartsOf (IsDebugOf may_open remaining name bytes) None) (is_text name c.args.file.now.process) bytes (sym c.is_text.ensures ∙ c.if-is_text.false)
    (debug_none may_open remaining name c.args.code.now c.in_default.is bytes of)

pub returns-in-Some-2 : goal.returns-in-Some-2
returns-in-Some-2 g c = λ bytes of.
    let name = c.args.file.now.name.now in
    let may_open = g.O.Opener.may_open c.args.opener.now in
    let remaining = g.O.File.Read.remaining in
    not_text (λ bytes. ArePartsOf (IsDebugOf may_open remaining name bytes) (Some c.in-Some-2.debug)) (is_text name c.args.file.now.process) bytes (sym c.is_text.ensures ∙ c.if-is_text.false)
    (debug_first may_open remaining name c.args.code.now c.in-Some.code c.in-Some.is
    (option_map (λ (build : Bor (List ℕ)). build.now) c.id_in-build.result) (c.id_in-build.ensures ∙ ap id_in c.image.ensures) _ c.in-Some-2.debug c.in-Some-2.is c.in_ok-debug.ensures bytes of)

pub returns-in-None : goal.returns-in-None
returns-in-None g c = λ bytes of.
    let name = c.args.file.now.name.now in
    let may_open = g.O.Opener.may_open c.args.opener.now in
    let remaining = g.O.File.Read.remaining in
    not_text (λ bytes. IfOk c.read_by_link.result (ArePartsOf (IsDebugOf may_open remaining name bytes))) (is_text name c.args.file.now.process) bytes (sym c.is_text.ensures ∙ c.if-is_text.false)
    (debug_link may_open remaining name c.args.code.now c.in-Some.code c.in-Some.is
    (option_map (λ (build : Bor (List ℕ)). build.now) c.id_in-build.result) (c.id_in-build.ensures ∙ ap id_in c.image.ensures)
    (option_map link_view c.link_in.result) (c.link_in.ensures ∙ ap link_in c.image-in-None.ensures) _ c.in-None.is c.in_ok-debug.ensures c.read_by_link.result c.read_by_link.ensures bytes of)
