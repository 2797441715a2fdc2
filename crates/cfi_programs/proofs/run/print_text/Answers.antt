use Rattle.std.proofs.Common.{◌∙◌, inl, inr, refl}
use Rattle.cfi_text.specs.Refusals.{out_of_memory}
use Rattle.cfi_programs.proofs.RunLemmas.{line_is}
use Rattle.cfi_programs.proofs.run.print_text.Goals as goal

pub returns-in-Ok : goal.returns-in-Ok
returns-in-Ok g c = (
  record { text = c.as_slice.result.now; status = c.args.status },
  c.print_bytes.ensures,
  inl (c.in-Ok.ensures.whole, line_is _ _ _ (c.as_slice.ensures.value ∙ c.in-Ok.ensures.bytes) refl),
)

pub returns-in-Err : goal.returns-in-Err
returns-in-Err g c = (out_of_memory, c.write_refusal.ensures, inr refl)
