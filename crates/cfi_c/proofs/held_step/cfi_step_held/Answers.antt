use Rattle.std.proofs.Common.{◌≡◌, ◌≤◌, ◌∙◌, ℕ, List, length, true, ap, arith, inr, rules, subst, sym}
use Rattle.std.specs.Option.{option_map}
use Rattle.std.proofs.lemmas.List.{length-map}
use Rattle.cfi_step.specs.declared.packed_rows.PackedRow.{PackedRow}
use Rattle.cfi_c.specs.CachedSteps.{IsCachedFor, held_rows, cache_rows}
use Rattle.cfi_c.specs.PassedRegisters.{plain_of}
use Rattle.cfi_c.specs.PassedRegisters.{known_value}
use Rattle.cfi_c.specs.SteppedFrames.{IsStepped}
use Rattle.cfi_c.specs.PassedRegisters.{written_value}
use Rattle.cfi_c.proofs.CachedSteps.{stepped_in_place}
use Rattle.cfi_c.proofs.held_step.cfi_step_held.Goals as goal

pub returns-clause-stepped : goal.returns-clause-stepped
returns-clause-stepped c = λ made loaded cached.
    let memory = c.args.memory.now in
    let step = c.step_by_held-is_stepped in
    let old = c.args.registers.now in
    let new = step.new.registers in
    let size : memory.address_size ≡ 8 = search rules in
    let same : cache_rows c.args.cache.now ≡ held_rows (option_map (λ cache. cache.value) c.into_box-held.result) =
    sym (ap held_rows (c.into_box-held.ensures ∙ ap (λ cache. cache.held.cache) c.replace.ensures.value)) in
    let room : length (plain_of new) ≤ 256 = omega (arith, step.auto.registers, length-map new (λ register. written_value (known_value register)), c.if-registers-gt256.false) in
    subst (λ (a : ℕ). IsStepped true loaded memory a old (plain_of old) (plain_of new) step.new.function c.args.caller.now step.new.caller step.new.end) c.row_address-address.ensures
    (stepped_in_place memory loaded c.args.file c.row_address-address.result (held_rows (option_map (λ cache. cache.value) c.into_box-held.result)) old (plain_of old) (plain_of new)
    step.new.function c.args.caller.now step.new.caller step.new.end (inr (inr (inr size))) (omega arith) room
    (subst (λ (rows : List PackedRow). IsCachedFor memory.address_size c.args.file loaded rows) same cached) (step.ensures.stepped made))
