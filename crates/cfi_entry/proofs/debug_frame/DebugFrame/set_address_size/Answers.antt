use Rattle.cfi_entry.proofs.debug_frame.DebugFrame.set_address_size.Goals as goal

pub returns-clause-size : goal.returns-clause-size
returns-clause-size g c = c.new-self.ensures
