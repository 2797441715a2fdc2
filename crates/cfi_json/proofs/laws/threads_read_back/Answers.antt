use Rattle.cfi_json.proofs.ThreadValues.{threads_read}
use Rattle.cfi_json.proofs.laws.threads_read_back.Goals as goal

pub returns : goal.returns
returns c = threads_read
