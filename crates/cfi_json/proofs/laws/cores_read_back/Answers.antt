use Rattle.cfi_json.proofs.ThreadValues.{cores_read}
use Rattle.cfi_json.proofs.laws.cores_read_back.Goals as goal

pub returns : goal.returns
returns c = cores_read
