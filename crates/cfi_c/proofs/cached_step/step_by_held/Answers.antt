use Rattle.std.proofs.Common.{◌≡◌, ◌≤◌, ◌∙◌, length, true, ap, arith, rules, subst, sym}
use Rattle.std.specs.Option.{option_map}
use Rattle.cfi_read_core.specs.Addresses.{IsAddressSize}
use Rattle.cfi_step.specs.PackedRows.{rows_in}
use Rattle.cfi_c.specs.CachedSteps.{IsCachedFor, held_rows}
use Rattle.cfi_c.proofs.CachedSteps.{stepped_after_keeping}
use Rattle.cfi_c.proofs.cached_step.step_by_held.Goals as goal

pub returns-in-Some-clause-stepped : goal.returns-in-Some-clause-stepped
returns-in-Some-clause-stepped c = λ made cached.
    let memory = c.args.memory.now in
    let step = c.step_by_rows in
    let before = rows_in c.as_mut.result.now in
    let live : c.args.context.now.live ≡ true = search rules in
    let is_size : IsAddressSize memory.address_size = search rules in
    let room : length step.new.caller_registers ≤ 256 = omega (arith, step.auto.caller_registers, c.if-caller_registers-gt256.false) in
    let same : held_rows (option_map (λ cache. cache.value) c.args.held.now) ≡ before = ap (λ held. held_rows (option_map (λ cache. cache.value) held)) c.in-Some.is ∙ sym (ap rows_in c.as_mut.ensures.value) in
    stepped_after_keeping memory c.args.module.now c.args.file c.args.address c.args.context.now.live before (rows_in step.new.rows) c.args.registers.now c.first_registers-registers.result.now
    c.args.caller_registers.now step.new.caller_registers step.new.function c.args.caller.now step.new.caller step.new.end live c.first_registers-registers.ensures.first is_size room step.ensures.kept
    (subst (IsCachedFor memory.address_size c.args.file c.args.module.now) same cached) (step.ensures.stepped made)

pub returns-in-Some-clause-kept : goal.returns-in-Some-clause-kept
returns-in-Some-clause-kept c =
    let before = rows_in c.as_mut.result.now in
    let same : held_rows (option_map (λ cache. cache.value) c.args.held.now) ≡ before = ap (λ held. held_rows (option_map (λ cache. cache.value) held)) c.in-Some.is ∙ sym (ap rows_in c.as_mut.ensures.value) in
    λ other another alike right. c.step_by_rows.ensures.kept other another alike (subst (IsCachedFor c.args.memory.now.address_size other another) same right)

pub returns-in-None-clause-kept : goal.returns-in-None-clause-kept
returns-in-None-clause-kept c = λ other another alike right. right
