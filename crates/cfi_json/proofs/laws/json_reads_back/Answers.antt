use Rattle.cfi_json.proofs.Values.{reads_back}
use Rattle.cfi_json.proofs.laws.json_reads_back.Goals as goal

pub returns : goal.returns
returns c = reads_back
