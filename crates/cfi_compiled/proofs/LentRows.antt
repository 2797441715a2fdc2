-- The row of a table alone, of what it lends.
use Rattle.std.proofs.Common.{◌≡◌, Result, Ok, Err, refl}
use Rattle.cfi_read_core.specs.declared.error.Error.{Error}
use Rattle.cfi_compiled.specs.CompiledRows.{frame_lent, parts_lent}
use Rattle.cfi_compiled.specs.FrameParts.{parts_of_frame}
use Rattle.cfi_compiled.specs.declared.row.CompiledRow.{CompiledRow}

pub parts_lent_are : (lent : Result CompiledRow Error) → parts_lent lent ≡ parts_of_frame (frame_lent lent)
parts_lent_are (Ok row) = refl
parts_lent_are (Err e) = refl
