use Rattle.std.proofs.Common.{◌⊎◌, ◌≡◌, ◌∙◌, Bool, List, ap, inl, map, not, subst, sym}
use Rattle.std.specs.Option.{is_some}
use Rattle.cfi_cores.specs.CoreFiles.{core_view}
use Rattle.cfi_cores.specs.CoreSegments.{AreByAddress, segment_view}
use Rattle.cfi_mapped.specs.declared.opened_file.OpenedFile.{OpenedFile}
use Rattle.cfi_mapped.specs.OpenedFiles.{AreOpenedAs, are_whole}
use Rattle.cfi_processes.specs.KnownFiles.{KnownFile, known_view}
use Rattle.cfi_processes.specs.ProfileFiles.{AreProfileFilesOf}
use Rattle.cfi_frames.specs.Outputs.{no_memory}
use Rattle.cfi_core_stacks.specs.CoreOutputs.{AreThreadsPrinted, IsOfCore, PrintsFound, core_memory}
use Rattle.cfi_core_stacks.proofs.KnownLemmas.{found_more, none_is, of_known, refused_found}
use Rattle.cfi_core_stacks.proofs.core_run.print_by_files.Goals as goal

pub returns-in_default : goal.returns-in_default
returns-in_default g c = λ whole known.
    refused_found c.args.listing (g.O.Opener.may_open c.args.opener.now) g.O.File.Read.remaining whole _ _ (is_some c.args.known.now.parts) c.print_refused.result (c.print_refused.ensures (is_some c.args.known.now.parts))

pub returns-in_default-profile_files : goal.returns-in_default-profile_files
returns-in_default-profile_files g c = λ whole known.
    refused_found c.args.listing (g.O.Opener.may_open c.args.opener.now) g.O.File.Read.remaining whole _ _ (is_some c.args.known.now.parts) c.print_refused-in_default-profile_files.result (c.print_refused-in_default-profile_files.ensures (is_some c.args.known.now.parts))

pub returns-in_default-core_code : goal.returns-in_default-core_code
returns-in_default-core_code g c = λ whole known.
    refused_found c.args.listing (g.O.Opener.may_open c.args.opener.now) g.O.File.Read.remaining whole _ _ (is_some c.args.known.now.parts) c.print_refused-in_default-core_code.result (c.print_refused-in_default-core_code.ensures (is_some c.args.known.now.parts))

pub core_code-requires : goal.core_code-requires
core_code-requires g c = λ whole. ap are_whole c.as_slice-opened.ensures.value ∙ c.in-Ok.ensures.whole whole

pub memory_of-memory-requires-clause-windows : goal.memory_of-memory-requires-clause-windows
memory_of-memory-requires-clause-windows g c = subst AreByAddress (sym c.as_slice.ensures.value) c.in-Ok-core_code.ensures.in_order

pub returns-in-Ok-new : goal.returns-in-Ok-new
returns-in-Ok-new g c = λ whole known.
    let parts = c.args.known.now.parts in
    let core = core_view c.args.known.now.core.now in
    let files = map known_view c.as_slice-files.result.now in
    let (all, are, hold) = c.in-Ok.ensures.opened in
    let held = subst (λ (opened : List OpenedFile). AreOpenedAs opened all) (sym c.as_slice-opened.ensures.value) hold in
    let named = subst (λ (files : List KnownFile). AreProfileFilesOf (not c.args.listing.raw) all files) (sym (ap (map known_view) c.as_slice-files.ensures.value)) (c.in-Ok-profile_files.ensures all held) in
    let (lent, sorted, same) = c.in-Ok-core_code.ensures.windows all held in
    let memory = c.memory_of-memory.ensures.memory whole known lent (λ is. ap (map segment_view) c.as_slice.ensures.value ∙ same (none_is parts c.is_none-is_whole.result c.is_none-is_whole.ensures is)) in
    let old = g.W.Write.contents c.args.output.now in
    let new = g.W.Write.contents c.print_threads.new.output in
    found_more (λ line. AreThreadsPrinted c.args.listing files (core_memory whole lent) core line) old new
    (λ line. IsOfCore c.args.listing (g.O.Opener.may_open c.args.opener.now) g.O.File.Read.remaining whole line ⊎ (line ≡ no_memory c.args.listing.format))
    (λ line is. inl (of_known c.args.listing (g.O.Opener.may_open c.args.opener.now) g.O.File.Read.remaining files all named lent line parts core whole known are c.requires.threads sorted is)) (is_some parts) c.print_threads.result
    (subst (λ (may_lack : Bool). PrintsFound (λ line. AreThreadsPrinted c.args.listing files (core_memory whole lent) core line) old new may_lack c.print_threads.result)
    c.memory_of-memory.ensures.parts (c.print_threads.ensures (core_memory whole lent) memory))

pub returns : goal.returns
returns g c = λ whole known.
    refused_found c.args.listing (g.O.Opener.may_open c.args.opener.now) g.O.File.Read.remaining whole _ _ (is_some c.args.known.now.parts) c.print_refused-in-Err.result (c.print_refused-in-Err.ensures (is_some c.args.known.now.parts))
