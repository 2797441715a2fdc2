-- Functions as C sees them.
--     written_function function      what an FDE says of its function, as C gets it
use Rattle.std.specs.Prelude.{ℕ, Bool, true, false, Option, Some, None, is_some}
use Rattle.cfi_parts.specs.declared.pointer.Pointer.{Pointer}
use Rattle.cfi_parts.specs.declared.pointer.Pointer.TheVariants.{Indirect}
use Rattle.cfi_parts.specs.Pointers.{pointer_value}
use Rattle.cfi_step.specs.declared.function.Function.{Function}
use Rattle.cfi_c.specs.declared.function.CfiFunction.{CfiFunction}

abbrev pub pointer_address : Option Pointer → ℕ
pointer_address (Some p) = pointer_value p
pointer_address None = 0

abbrev pub is_pointer_indirect : Option Pointer → Bool
is_pointer_indirect (Some (Indirect a)) = true
is_pointer_indirect _ = false

abbrev pub written_function : Option Function → CfiFunction
written_function (Some f) = record {
  start = f.start;
  end = f.end;
  lsda = pointer_address f.lsda;
  personality = pointer_address f.personality;
  fde = f.offset;
  return_address = f.return_address.0;
  is_known = true;
  has_lsda = is_some f.lsda;
  has_personality = is_some f.personality;
  lsda_is_indirect = is_pointer_indirect f.lsda;
  personality_is_indirect = is_pointer_indirect f.personality;
  is_signal_trampoline = f.is_signal_trampoline;
}
written_function None = record {
  start = 0;
  end = 0;
  lsda = 0;
  personality = 0;
  fde = 0;
  return_address = 0;
  is_known = false;
  has_lsda = false;
  has_personality = false;
  lsda_is_indirect = false;
  personality_is_indirect = false;
  is_signal_trampoline = false;
}
