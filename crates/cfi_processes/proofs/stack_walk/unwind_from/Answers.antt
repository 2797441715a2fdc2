use Rattle.std.proofs.Common.{ℕ, sym, subst, true, None}
use Rattle.std.specs.Prelude.{take}
use Rattle.cfi_read_core.specs.AddressSizes.{size_in_bytes}
use Rattle.cfi_step.specs.CachedRows.{AreCachedFor, KeepsFor}
use Rattle.cfi_step.specs.ModuleLists.{module_list}
use Rattle.cfi_processes.proofs.Unwinding.{of_machine}
use Rattle.cfi_processes.proofs.stack_walk.unwind_from.Goals as goal

pub returns-clause-walk : goal.returns-clause-walk
returns-clause-walk g c = (
  of_machine g.R.Reader.position (λ (n : ℕ). n) g.S.Rules.ArrayLike.limit g.S-Stack-ArrayLike.limit g.S.Rules.CopyList.copies_free
      (module_list c.args.modules) c.args.machine (g.M.Memory.number_at c.args.memory.now)
      (size_in_bytes c.new.result) c.abi.result c.new.ensures c.abi.ensures
      (record {
        at = record { pc = c.args.pc; is_interrupted = true; callee_cfa = None };
        registers = c.args.registers.now;
        caller = c.args.caller.now;
      })
      (take c.unwind_cached.result.count c.unwind_cached.new.frames) c.unwind_cached.result.end c.unwind_cached.new.registers c.unwind_cached.new.caller c.unwind_cached.ensures.walk,
  (c.unwind_cached.ensures.rest, c.unwind_cached.ensures.count, c.unwind_cached.ensures.full),
)

pub unwind_cached-requires-clause-cached : goal.unwind_cached-requires-clause-cached
unwind_cached-requires-clause-cached g c =
    subst (λ (n : ℕ). AreCachedFor g.R.Reader.position n g.S.Rules.ArrayLike.limit g.S-Stack-ArrayLike.limit g.S.Rules.CopyList.copies_free (module_list c.args.modules) c.args.cache.now)
    (sym c.new.ensures) c.requires.cached

pub returns-clause-cached : goal.returns-clause-cached
returns-clause-cached g c =
    subst (λ (n : ℕ). AreCachedFor g.R.Reader.position n g.S.Rules.ArrayLike.limit g.S-Stack-ArrayLike.limit g.S.Rules.CopyList.copies_free (module_list c.args.modules) c.unwind_cached.new.cache)
    c.new.ensures c.unwind_cached.ensures.cached

pub returns-clause-kept : goal.returns-clause-kept
returns-clause-kept g c =
    subst (λ (n : ℕ). KeepsFor g.R.Reader.position n g.S.Rules.ArrayLike.limit g.S-Stack-ArrayLike.limit g.S.Rules.CopyList.copies_free (module_list c.args.modules) c.args.cache.now c.unwind_cached.new.cache)
    c.new.ensures c.unwind_cached.ensures.kept
