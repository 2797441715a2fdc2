use Rattle.cfi_json.proofs.SampleValues.{profiles_read}
use Rattle.cfi_json.proofs.laws.profiles_read_back.Goals as goal

pub returns : goal.returns
returns c = profiles_read
