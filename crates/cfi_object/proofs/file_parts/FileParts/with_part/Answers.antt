use Rattle.cfi_object.proofs.WholeParts.{all_result}
use Rattle.cfi_object.proofs.file_parts.FileParts.with_part.Goals as goal

pub returns-else-is_free-2-clause-read : goal.returns-else-is_free-2-clause-read
returns-else-is_free-2-clause-read g c = all_result (g.I.FileInput.bytes c.args.input.now) c.read_whole.result c.read_whole.ensures.read
