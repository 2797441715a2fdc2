use Rattle.std.proofs.Common.{◌≡◌, ◌∙◌, rules, sym, refl, true, false}
use Rattle.cfi_read_core.specs.PointerEncodings.{is_omitted}
use Rattle.cfi_parts.proofs.PointerReads.{pointer_read, omitted_refused}
use Rattle.cfi_parts.proofs.pointer.parse_encoded_pointer.Goals as goal

pub returns-then-is_indirect : goal.returns-then-is_indirect
returns-then-is_indirect g c =
    let given : is_omitted c.args.encoding.0 ≡ false = search rules in
    (pointer_read _ _ _ _ given c.in_ok-base.ensures.0 c.bytes-size.ensures c.in_ok-value.ensures.0 c.wrapping_add_sized-address.ensures (sym c.is_indirect.ensures ∙ c.if-is_indirect.true), c.in_ok-value.ensures.1)

pub returns-else-is_indirect : goal.returns-else-is_indirect
returns-else-is_indirect g c =
    let given : is_omitted c.args.encoding.0 ≡ false = search rules in
    (pointer_read _ _ _ _ given c.in_ok-base.ensures.0 c.bytes-size.ensures c.in_ok-value.ensures.0 c.wrapping_add_sized-address.ensures (sym c.is_indirect.ensures ∙ c.if-is_indirect.false), c.in_ok-value.ensures.1)

pub returns-then-eq : goal.returns-then-eq
returns-then-eq g c =
    let given : is_omitted c.args.encoding.0 ≡ true = search rules in
    (omitted_refused _ _ _ _ given, refl)
