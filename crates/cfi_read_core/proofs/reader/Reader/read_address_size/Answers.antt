use Rattle.std.proofs.Common.{rules}
use Rattle.cfi_read_core.specs.Addresses.{IsAddressSize}
use Rattle.cfi_read_core.proofs.ReadNumbers.{address_size_read}
use Rattle.cfi_read_core.proofs.reader.Reader.read_address_size.Goals as goal

pub returns-in-1-2 : goal.returns-in-1-2
returns-in-1-2 g c =
    let sized : IsAddressSize c.in_ok-size.size = search rules in
    let position = g.Self.Reader.position in
    address_size_read (position c.args.self.now) (position c.read_u8.new.self) c.in_ok-size.size sized c.in_ok-size.ensures
