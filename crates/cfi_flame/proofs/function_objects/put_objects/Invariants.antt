use Rattle.cfi_text.proofs.TextLemmas.{IsPut}
use Rattle.cfi_flame.proofs.ObjectLemmas.{objects_from}
use Rattle.cfi_flame.proofs.function_objects.put_objects.Given as goal

abbrev pub invariant-loop-row : goal.invariant-loop-row
invariant-loop-row l = IsPut l.initial.text l.text (objects_from l.rows l.row-index) (objects_from l.rows 0)
