use Rattle.std.proofs.Common.{◌∙◌, inl, sym}
use Rattle.std.specs.Option.{is_some}
use Rattle.cfi_cores.specs.CoreFiles.{core_view}
use Rattle.cfi_core_stacks.specs.CoreOutputs.{no_thread}
use Rattle.cfi_core_stacks.proofs.KnownLemmas.{begun_found, none_asked}
use Rattle.cfi_core_stacks.proofs.core_run.print_known.Goals as goal

pub returns-then-lacks_thread : goal.returns-then-lacks_thread
returns-then-lacks_thread g c = λ whole known. (
  no_thread c.args.listing.format,
  c.in_ok-status.ensures,
  inl (none_asked c.args.listing (g.O.Opener.may_open c.args.opener.now) g.O.File.Read.remaining c.args.known.now.parts (core_view c.args.known.now.core.now) whole known (sym c.lacks_thread.ensures ∙ c.if-lacks_thread.true)),
)

pub returns-in_err-status : goal.returns-in_err-status
returns-in_err-status g c = λ whole known.
    begun_found _ _ _ (is_some c.args.known.now.parts) c.from_residual.result (no_thread c.args.listing.format) c.from_residual.ensures.0 c.in_err-status.ensures.0
    (inl (none_asked c.args.listing (g.O.Opener.may_open c.args.opener.now) g.O.File.Read.remaining c.args.known.now.parts (core_view c.args.known.now.core.now) whole known (sym c.lacks_thread.ensures ∙ c.if-lacks_thread.true)))

pub print_by_files-requires-clause-threads : goal.print_by_files-requires-clause-threads
print_by_files-requires-clause-threads g c = sym c.lacks_thread.ensures ∙ c.if-lacks_thread.false
