use Rattle.cfi_text.proofs.TextLemmas.{both}
use Rattle.cfi_flame.proofs.function_objects.put_function.Goals as goal

pub returns : goal.returns
returns c =
    both _ _ _ _ _ c.put.ensures (both _ _ _ _ _ c.json_escaped.ensures (both _ _ _ _ _ c.put-2.ensures (both _ _ _ _ _ c.put_number.ensures c.put_ended.ensures)))
