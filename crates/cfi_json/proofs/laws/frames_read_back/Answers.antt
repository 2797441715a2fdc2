use Rattle.cfi_json.proofs.FrameValues.{frames_read}
use Rattle.cfi_json.proofs.laws.frames_read_back.Goals as goal

pub returns : goal.returns
returns c = frames_read
