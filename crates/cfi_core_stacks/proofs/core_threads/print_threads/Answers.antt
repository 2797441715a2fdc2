use Rattle.std.proofs.Common.{None, Ok, ◌≡◌, ◌∙◌, ◌+◌, ◌∷◌, ◌++◌, [], List, ap, get_or, map, subst, sym, take}
use Rattle.std.specs.declared.io.Error.{Error}
use Rattle.cfi_cores.specs.CoreFiles.{core_view}
use Rattle.cfi_cores.specs.declared.thread.CoreThread.{CoreThread as ThreadOfCode}
use Rattle.cfi_cores.specs.CoreThreads.{CoreThread, thread_view}
use Rattle.cfi_processes.specs.FileModules.{AreModulesOfFiles}
use Rattle.cfi_processes.specs.KnownFiles.{known_view}
use Rattle.cfi_mapped.specs.ThreadNames.{name_bytes}
use Rattle.cfi_core_stacks.specs.CoreCode.{core_mappings}
use Rattle.cfi_core_stacks.specs.KnownCores.{has_parts}
use Rattle.cfi_core_stacks.proofs.CoreRunLemmas.{text_there}
use Rattle.cfi_core_stacks.proofs.KnownLemmas.{text_found, text_lacks}
use Rattle.cfi_processes.proofs.RoomLemmas.{room_for_all}
use Rattle.cfi_core_stacks.proofs.ThreadLemmas.{Printed, all_threads, begun, broken, next_thread, none_printed, one_passed, one_printed, printed}
use Rattle.cfi_core_stacks.proofs.core_threads.print_threads.Goals as goal

no_thread : ThreadOfCode
no_thread = record { tid = 0; signal = 0; fault = None; registers = record { ref_ptr = (0, 0); now = [] } }

pub loop-thread-init : goal.loop-thread-init
loop-thread-init g c = (
  λ all known. none_printed c.args.listing (map known_view c.args.files.now) all (core_view c.args.core.now) (g.W.Write.contents c.args.output.now),
  room_for_all c.args.files.now c.args.room c.requires.frames c.requires.rows,
)

pub returns : goal.returns
returns g c = λ all known.
    printed c.args.listing (map known_view c.args.files.now) all (core_view c.args.core.now) {E = Error} _ _ _ _ (Ok c.in_ok-status.status)
    (all_threads thread_view c.as_slice-threads.result.now c.loop-thread.thread-index c.loop-thread-test.false ∙ ap (map thread_view) c.as_slice-threads.ensures.value) (c.loop-thread.invariant.0 all known) c.in_ok-status.ensures

pub returns-in_err-status : goal.returns-in_err-status
returns-in_err-status g c = λ all known.
    begun c.args.listing (map known_view c.args.files.now) all (core_view c.args.core.now) _ _ _ _ (has_parts c.args.memory.now) c.from_residual-in_err-status.result c.from_residual-in_err-status.ensures.0
    (all_threads thread_view c.as_slice-threads.result.now c.loop-thread.thread-index c.loop-thread-test.false ∙ ap (map thread_view) c.as_slice-threads.ensures.value) (c.loop-thread.invariant.0 all known) c.in_err-status.ensures.0

pub loop-thread-preserved : goal.loop-thread-preserved
unfolding no_thread
loop-thread-preserved g c =
    let core = core_view c.args.core.now in
    let files = map known_view c.args.files.now in
    let threads = c.as_slice-threads.result.now in
    let i = c.loop-thread.thread-index in
    let t = get_or threads i no_thread in
    let mapped = c.as_slice.ensures.all ∙ c.requires.mappings in (
      λ all known.
          let (text, written, is) = text_found Error _ _ _ _ c.in_ok-found.found c.if-not-found.false (c.in_ok-found.ensures.printed all known) in
          one_printed c.args.listing files all core (take i (map thread_view threads)) (take (i + 1) (map thread_view threads)) (thread_view t) _ _ _ text
          (next_thread thread_view threads i no_thread c.loop-thread-test.true) (sym c.is_asked_for.ensures ∙ c.if-not-is_asked_for.false) (c.loop-thread.invariant.0 all known)
          (text_there c.args.listing core.machine files c.as_slice.result.now (core_mappings files core.segments core.mapped) all (name_bytes c.shown_name-name.result) core.name (thread_view t) text mapped c.shown_name-name.ensures is) written,
      c.in_ok-found.ensures.cached,
    )

pub returns-in_err-found : goal.returns-in_err-found
unfolding no_thread
returns-in_err-found g c = λ all known.
    let core = core_view c.args.core.now in
    let files = map known_view c.args.files.now in
    let threads = c.as_slice-threads.result.now in
    let i = c.loop-thread.thread-index in
    let t = get_or threads i no_thread in
    let (text, given, is) = c.in_err-found.ensures.printed all known in
    let mapped = c.as_slice.ensures.all ∙ c.requires.mappings in
    let whole : map thread_view threads ≡ core.threads = ap (map thread_view) c.as_slice-threads.ensures.value in
    broken c.args.listing files all core i (thread_view t) _ _ _ (has_parts c.args.memory.now) c.from_residual.result text c.from_residual.ensures.0
    (subst (λ (ts : List CoreThread). take (i + 1) ts ≡ take i ts ++ thread_view t ∷ []) whole (next_thread thread_view threads i no_thread c.loop-thread-test.true)) (sym c.is_asked_for.ensures ∙ c.if-not-is_asked_for.false)
    (subst (λ (ts : List CoreThread). Printed c.args.listing files all core (take i ts) (g.W.Write.contents c.args.output.now) (g.W.Write.contents c.loop-thread.output)) whole (c.loop-thread.invariant.0 all known))
    (text_there c.args.listing core.machine files c.as_slice.result.now (core_mappings files core.segments core.mapped) all (name_bytes c.shown_name-name.result) core.name (thread_view t) text mapped c.shown_name-name.ensures is) given

pub returns-then-not-found : goal.returns-then-not-found
returns-then-not-found g c = λ all known. text_lacks Error _ _ _ _ c.in_ok-found.found c.if-not-found.true (c.in_ok-found.ensures.printed all known)

pub loop-thread-preserved-then-not-is_asked_for : goal.loop-thread-preserved-then-not-is_asked_for
unfolding no_thread
loop-thread-preserved-then-not-is_asked_for g c =
    let threads = c.as_slice-threads.result.now in
    let i = c.loop-thread.thread-index in
    let t = get_or threads i no_thread in (
      λ all known.
          one_passed c.args.listing (map known_view c.args.files.now) all (core_view c.args.core.now) (take i (map thread_view threads)) (take (i + 1) (map thread_view threads)) (thread_view t) _ _
          (next_thread thread_view threads i no_thread c.loop-thread-test.true) (sym c.is_asked_for.ensures ∙ c.if-not-is_asked_for.true) (c.loop-thread.invariant.0 all known),
      c.loop-thread.invariant.1,
    )

pub print_thread-requires-clause-files : goal.print_thread-requires-clause-files
print_thread-requires-clause-files g c = subst (AreModulesOfFiles c.args.files.now) (sym c.as_slice-modules.ensures.value) c.requires.files
