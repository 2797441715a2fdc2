use Rattle.std.proofs.Common.{◌∙◌, ap}
use Rattle.cfi_read_core.specs.Addresses.{wrap}
use Rattle.cfi_unwind.proofs.entry.fde.FrameDescriptionEntry+R.end_address.Goals as goal

pub returns : goal.returns
returns g c = c.wrapping_add_sized.ensures ∙ ap (wrap c.args.self.now.initial_address c.args.self.now.address_range) c.address_size.ensures.value
