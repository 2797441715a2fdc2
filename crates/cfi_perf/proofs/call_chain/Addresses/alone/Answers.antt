use Rattle.std.proofs.lemmas.List.{append-nil}
use Rattle.cfi_perf.specs.CallChains.{at_first}
use Rattle.cfi_perf.specs.ByteReads.{entries}
use Rattle.cfi_perf.proofs.call_chain.Addresses.alone.Goals as goal

pub returns : goal.returns
unfolding entries
returns c = append-nil (at_first c.args.address)
