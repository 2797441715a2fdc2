-- Byte orders.
use Rattle.std.specs.Prelude.{Bool, true, false}
use Rattle.cfi_read_core.specs.declared.endianity.RunTimeEndian.{RunTimeEndian}
use Rattle.cfi_read_core.specs.declared.endianity.RunTimeEndian.TheVariants.{Little, Big}

abbrev pub is_big : RunTimeEndian → Bool
is_big Little = false
is_big Big = true
