use Rattle.std.proofs.Common.{ap, ℕ}
use Rattle.std.specs.Option.{option_map}
use Rattle.cfi_parts.specs.declared.pointer.Pointer.{Pointer}
use Rattle.cfi_entry.proofs.cie.CommonInformationEntry+R.personality.Goals as goal

pub returns : goal.returns
returns g c = ap (option_map (λ (p : ℕ × Pointer). p.1)) c.in_ok-personality.ensures
