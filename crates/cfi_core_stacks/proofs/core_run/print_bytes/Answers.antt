use Rattle.cfi_core_stacks.specs.CoreOutputs.{core_refusal}
use Rattle.cfi_core_stacks.proofs.CoreRunLemmas.{printed_of_core, refused}
use Rattle.cfi_core_stacks.proofs.core_run.print_bytes.Goals as goal

pub returns-in-Ok : goal.returns-in-Ok
returns-in-Ok g c =
    printed_of_core c.args.listing (g.O.Opener.may_open c.args.opener.now) g.O.File.Read.remaining c.args.bytes.now c.read_core.result c.in-Ok.core _ _ c.print_read.result c.in-Ok.is c.read_core.ensures.core c.print_read.ensures

pub returns-in-Err : goal.returns-in-Err
returns-in-Err g c = (
  core_refusal c.args.listing.format c.in-Err.error,
  c.write_core_refusal.ensures,
  refused c.args.listing (g.O.Opener.may_open c.args.opener.now) g.O.File.Read.remaining c.args.bytes.now c.read_core.result c.in-Err.error c.in-Err.is c.read_core.ensures.core,
)
