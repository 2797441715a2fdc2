use Rattle.cfi_object.proofs.file_parts.FileParts.read_whole.Goals as goal

pub returns-clause-read : goal.returns-clause-read
returns-clause-read g c = (c.in_ok-bytes.bytes.items, c.in_ok-bytes.ensures.read, c.whole.ensures)
