use Rattle.std.proofs.Common.{◌∙◌, Bor, List, ℕ, Some, ap, option_map, sym}
use Rattle.cfi_elf.specs.DebugLinks.{link_view}
use Rattle.cfi_mapped.specs.FileBuilds.{is_linked}
use Rattle.cfi_mapped.specs.FileReads.{IsAllLeft}
use Rattle.cfi_mapped.proofs.ReadFiles.{linked_not, linked_whole, unread, was_read}
use Rattle.cfi_mapped.proofs.read_files.read_if_linked.Goals as goal

pub returns-then-is_linked : goal.returns-then-is_linked
returns-then-is_linked g c =
    let known = g.I.FileInput.bytes c.args.file.now in
    linked_whole known (link_view c.args.link.now) (option_map (λ (build : Bor (List ℕ)). build.now) c.args.build) c.whole.result c.in-Some.bytes.items c.whole.ensures
    (sym (c.is_linked.ensures ∙ ap (is_linked (link_view c.args.link.now) (option_map (λ (build : Bor (List ℕ)). build.now) c.args.build)) c.as_slice.ensures.value) ∙ c.if-is_linked.true)
    (was_read (λ bytes. IsAllLeft known (Some bytes.items)) c.read_whole.result _ c.in_ok-bytes.ensures c.in-Some.bytes c.in-Some.is c.read_whole.ensures.read)

pub returns-else-is_linked : goal.returns-else-is_linked
returns-else-is_linked g c =
    let known = g.I.FileInput.bytes c.args.file.now in
    linked_not known (link_view c.args.link.now) (option_map (λ (build : Bor (List ℕ)). build.now) c.args.build) c.in-Some.bytes.items
    (sym (c.is_linked.ensures ∙ ap (is_linked (link_view c.args.link.now) (option_map (λ (build : Bor (List ℕ)). build.now) c.args.build)) c.as_slice.ensures.value) ∙ c.if-is_linked.false)
    (was_read (λ bytes. IsAllLeft known (Some bytes.items)) c.read_whole.result _ c.in_ok-bytes.ensures c.in-Some.bytes c.in-Some.is c.read_whole.ensures.read)

pub returns-in_default : goal.returns-in_default
returns-in_default g c = unread (g.I.FileInput.bytes c.args.file.now) (link_view c.args.link.now) (option_map (λ (build : Bor (List ℕ)). build.now) c.args.build)
