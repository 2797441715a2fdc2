use Rattle.cfi_json.specs.Printed.{value_view}
use Rattle.cfi_json.proofs.Values.{reads_back}
use Rattle.cfi_json.proofs.value.put_json.Goals as goal

pub returns-clause-read : goal.returns-clause-read
returns-clause-read c = reads_back (value_view c.args.value.now)
