use Rattle.std.proofs.Common.{Ok, ap}
use Rattle.std.specs.Int.{w16}
use Rattle.cfi_read_core.specs.Addresses.{address_width}
use Rattle.cfi_read_core.proofs.ReadNumbers.{address_read}
use Rattle.cfi_read_core.proofs.reader.Reader.read_address.Goals as goal

pub returns-in_ok-read_u16-in-2 : goal.returns-in_ok-read_u16-in-2
returns-in_ok-read_u16-in-2 g c =
    rw c.from-in-2.ensures (address_read c.args.size w16 (g.Self.Reader.position c.args.self.now) (g.Self.Reader.position c.read_u16.new.self) (Ok c.in_ok-read_u16-in-2.field-0) (ap address_width c.in-2.is) c.in_ok-read_u16-in-2.ensures)
