use Rattle.std.proofs.Common.{◌≡◌, ◌∙◌, ℕ, false, true, ap, rules, subst, sym}
use Rattle.std.specs.Option.{option_map}
use Rattle.cfi_step.specs.Steps.{row_address}
use Rattle.cfi_c.specs.CachedSteps.{IsCachedFor, held_rows, cache_rows}
use Rattle.cfi_c.specs.SteppedFrames.{IsStepped}
use Rattle.cfi_c.proofs.CachedSteps.{kept_as, stepped_as_left}
use Rattle.cfi_c.proofs.cached_step.cfi_step_cached.Goals as goal

pub returns-then-is_stepped-clause-stepped : goal.returns-then-is_stepped-clause-stepped
returns-then-is_stepped-clause-stepped c = λ cached.
    let memory = c.args.memory.now in
    let step = c.step_by_held-is_stepped in
    let made : step.result ≡ true = search rules in
    let same : cache_rows c.args.cache.now ≡ held_rows (option_map (λ cache. cache.value) c.into_box-held.result) =
    sym (ap held_rows (c.into_box-held.ensures ∙ ap (λ cache. cache.held.cache) c.replace.ensures.value)) in
    subst (λ (a : ℕ). IsStepped c.args.context.now.live c.args.module.now memory a c.args.registers.now c.args.caller_registers.now step.new.caller_registers step.new.function c.args.caller.now step.new.caller step.new.end)
    c.row_address-address.ensures
    (step.ensures.stepped made (subst (IsCachedFor memory.address_size c.args.file c.args.module.now) same cached))

pub returns-then-is_stepped-clause-kept : goal.returns-then-is_stepped-clause-kept
returns-then-is_stepped-clause-kept c =
    let step = c.step_by_held-is_stepped in
    kept_as c.args.memory.now.address_size c.args.file c.args.module.now (held_rows (option_map (λ cache. cache.value) c.into_box-held.result)) (cache_rows c.args.cache.now)
    (held_rows (option_map (λ cache. cache.value) step.new.held)) (cache_rows c.of-2.result)
    (ap held_rows (c.into_box-held.ensures ∙ ap (λ cache. cache.held.cache) c.replace.ensures.value)) (sym (ap held_rows c.of-2.ensures)) step.ensures.kept

pub returns-clause-stepped : goal.returns-clause-stepped
returns-clause-stepped c = λ cached.
    let before = c.step_by_held-is_stepped in
    let step = c.cfi_step in
    let left : before.result ≡ false = search rules in
    stepped_as_left c.args.memory.now c.args.module.now (row_address c.args.pc c.args.is_interrupted) c.args.context.now.live before.new.context.live c.args.registers.now
    c.args.caller_registers.now before.new.caller_registers step.new.caller_registers step.new.function c.args.caller.now before.new.caller step.new.caller step.new.end
    before.ensures.context (before.ensures.unwritten left).0 (before.ensures.unwritten left).1 step.ensures.stepped

pub returns-clause-kept : goal.returns-clause-kept
returns-clause-kept c =
    let step = c.step_by_held-is_stepped in
    kept_as c.args.memory.now.address_size c.args.file c.args.module.now (held_rows (option_map (λ cache. cache.value) c.into_box-held.result)) (cache_rows c.args.cache.now)
    (held_rows (option_map (λ cache. cache.value) step.new.held)) (cache_rows c.of-2.result)
    (ap held_rows (c.into_box-held.ensures ∙ ap (λ cache. cache.held.cache) c.replace.ensures.value)) (sym (ap held_rows c.of-2.ensures)) step.ensures.kept
