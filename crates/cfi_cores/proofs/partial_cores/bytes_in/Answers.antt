use Rattle.std.proofs.Common.{◌∙◌, ◌-◌, ℕ, ap, min}
use Rattle.cfi_cores.proofs.PartBytes.{if_all}
use Rattle.cfi_cores.proofs.partial_cores.bytes_in.Goals as goal

pub returns : goal.returns
returns c = λ bytes of.
    if_all bytes c.args.place.now c.size_in-size.result (c.size_in-size.ensures.value ∙ ap (λ (n : ℕ). min c.args.place.now.p_filesz (n - c.args.place.now.p_offset)) of.length_is) c.part_in.result (c.part_in.ensures bytes of)
