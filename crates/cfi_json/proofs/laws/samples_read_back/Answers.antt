use Rattle.cfi_json.proofs.SampleValues.{samples_read}
use Rattle.cfi_json.proofs.laws.samples_read_back.Goals as goal

pub returns : goal.returns
returns c = samples_read
