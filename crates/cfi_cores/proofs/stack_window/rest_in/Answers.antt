use Rattle.std.proofs.Common.{◌∙◌, ◌-◌, ℕ, List, ap, arith, drop, subst, sym}
use Rattle.cfi_cores.specs.StackWindows.{AreFrom}
use Rattle.cfi_cores.proofs.PartBytes.{rest_of_part}
use Rattle.cfi_cores.proofs.stack_window.rest_in.Goals as goal

pub returns : goal.returns
returns c = λ bytes of.
    let read = c.args.read.now in
    let i = c.args.offset - read.offset in
    subst (λ (xs : List ℕ). AreFrom bytes c.args.offset xs) (sym (c.bytes_from.ensures ∙ ap (drop i) c.as_slice.ensures.value))
    (rest_of_part bytes read.bytes.items read.offset i c.args.offset (omega (arith, c.if-offset-read.false)) of)
