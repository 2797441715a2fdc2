use Rattle.cfi_read_core.proofs.Onward.{onward_initial_length}
use Rattle.cfi_entry.proofs.Within.{behind_of, split_of}
use Rattle.cfi_entry.proofs.prefix.read_prefix.Goals as goal

pub read_identified-requires : goal.read_identified-requires
read_identified-requires g c =
    let sound = g.met.R.Reader.sound c.read_short_length.new.input in
    let whole = behind_of onward_initial_length c.in-Some.ensures.1 c.requires in
    split_of _ sound.ordered c.in_ok-extent.ensures.read.0 c.in_ok-extent.ensures.part whole
