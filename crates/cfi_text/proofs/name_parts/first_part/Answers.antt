use Rattle.cfi_text.proofs.NameLemmas.{taken}
use Rattle.cfi_text.proofs.name_parts.first_part.Goals as goal

pub slice_bounds-result-end : goal.slice_bounds-result-end
slice_bounds-result-end c = taken c.decode-character.result.1 c.args.bytes.now c.decode-character.ensures.size c.requires
