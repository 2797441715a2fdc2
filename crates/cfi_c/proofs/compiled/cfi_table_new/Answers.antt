use Rattle.std.proofs.Common.{◌≡◌, Some, rules}
use Rattle.cfi_read_core.specs.Addresses.{IsAddressSize}
use Rattle.cfi_c.specs.TableRows.{IsTableOf, table_in}
use Rattle.cfi_c.proofs.TableAnswers.{made}
use Rattle.cfi_c.proofs.compiled.cfi_table_new.Goals as goal

pub returns : goal.returns
returns c =
    let sized : IsAddressSize c.args.bases.now.address_size = search rules in
    let is : table_in c.of.result ≡ Some c.in-Ok.made = search rules in
    let compiled : IsTableOf c.args.bases.now c.args.section.now c.in-Ok.made = search rules in
    made c.args.bases.now c.args.section.now (table_in c.args.table.now) (table_in c.of.result) c.in-Ok.made sized is compiled
