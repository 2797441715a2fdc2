use Rattle.std.proofs.Common.{rules}
use Rattle.std.specs.Fmt.{signed_decimal}
use Rattle.cfi_text.specs.Texts.{Puts}
use Rattle.cfi_text.proofs.TextLemmas.{both}
use Rattle.cfi_row_text.proofs.row_text.put_val_offset.Goals as goal

pub returns : goal.returns
returns c =
    let number : Puts (signed_decimal c.args.offset) c.put.new.self c.number.new.self = search rules in
    both _ _ _ _ _ (both _ _ _ _ _ c.put.ensures number) c.put-2.ensures
