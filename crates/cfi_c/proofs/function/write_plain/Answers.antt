use Rattle.std.proofs.Common.{Option, sym}
use Rattle.std.specs.Prelude.{is_some, true}
use Rattle.cfi_parts.specs.declared.pointer.Pointer.{Pointer}
use Rattle.cfi_c.specs.declared.function.CfiFunction.{CfiFunction}
use Rattle.cfi_c.specs.WrittenFunctions.{is_pointer_indirect}
use Rattle.cfi_c.specs.WrittenFunctions.{pointer_address}
use Rattle.cfi_c.proofs.function.write_plain.Goals as goal

pub returns : goal.returns
returns c =
    let f = c.args.plain in
    let made : Option Pointer → Option Pointer → CfiFunction = λ lsda personality. record {
      start = f.start;
      end = f.end;
      lsda = pointer_address lsda;
      personality = pointer_address personality;
      fde = f.offset;
      return_address = f.return_address.0;
      is_known = true;
      has_lsda = is_some lsda;
      has_personality = is_some personality;
      lsda_is_indirect = is_pointer_indirect lsda;
      personality_is_indirect = is_pointer_indirect personality;
      is_signal_trampoline = f.is_signal_trampoline;
    } in
    λ i. made (sym c.requires.lsda i) (sym c.requires.personality i)
