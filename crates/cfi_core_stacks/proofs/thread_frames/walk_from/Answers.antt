use Rattle.std.proofs.Common.{ℕ, sym, subst, true, None}
use Rattle.std.specs.Prelude.{take}
use Rattle.cfi_read_core.specs.AddressSizes.{size_in_bytes}
use Rattle.cfi_step.specs.CachedRows.{AreCachedFor, KeepsFor, slot_view}
use Rattle.cfi_step.specs.ModuleLists.{module_list}
use Rattle.cfi_step.proofs.KeptRows.{kept_for_numbered}
use Rattle.cfi_core_stacks.proofs.SignalLemmas.{of_thread}
use Rattle.cfi_core_stacks.proofs.thread_frames.walk_from.Goals as goal

pub returns-clause-walk : goal.returns-clause-walk
returns-clause-walk g c = (
  of_thread g.R.Reader.position (λ (n : ℕ). n) g.S.Rules.ArrayLike.limit g.S-Stack-ArrayLike.limit g.S.Rules.CopyList.copies_free
      (module_list c.args.modules) c.args.machine (g.M.Memory.number_at c.args.memory.now)
      (size_in_bytes c.new.result) c.abi.result c.new.ensures c.abi.ensures
      (record {
        at = record { pc = c.args.pc; is_interrupted = true; callee_cfa = None };
        registers = c.args.registers.now;
        caller = c.args.caller.now;
      })
      (take c.write_frames.result.count c.write_frames.new.frames) c.write_frames.result.end c.write_frames.new.registers c.write_frames.new.caller c.write_frames.ensures.walk,
  (c.write_frames.ensures.rest, c.write_frames.ensures.count, c.write_frames.ensures.full),
)

pub write_frames-requires-clause-can : goal.write_frames-requires-clause-can
write_frames-requires-clause-can g c = λ rows same keeps.
    kept_for_numbered g.R.Reader.position (λ (n : ℕ). n) slot_view (size_in_bytes c.new.result) g.S.Rules.ArrayLike.limit g.S-Stack-ArrayLike.limit g.S.Rules.CopyList.copies_free
    (module_list c.args.modules) c.args.cache.now rows c.requires.numbered keeps
    (subst (λ (n : ℕ). AreCachedFor g.R.Reader.position n g.S.Rules.ArrayLike.limit g.S-Stack-ArrayLike.limit g.S.Rules.CopyList.copies_free (module_list c.args.modules) c.args.cache.now)
    (sym c.new.ensures) c.requires.cached)

pub returns-clause-kept : goal.returns-clause-kept
returns-clause-kept g c =
    subst (λ (n : ℕ). KeepsFor g.R.Reader.position n g.S.Rules.ArrayLike.limit g.S-Stack-ArrayLike.limit g.S.Rules.CopyList.copies_free (module_list c.args.modules) c.args.cache.now c.write_frames.new.cache)
    c.new.ensures c.write_frames.ensures.kept

pub returns-clause-cached : goal.returns-clause-cached
returns-clause-cached g c =
    subst (λ (n : ℕ). AreCachedFor g.R.Reader.position n g.S.Rules.ArrayLike.limit g.S-Stack-ArrayLike.limit g.S.Rules.CopyList.copies_free (module_list c.args.modules) c.write_frames.new.cache)
    c.new.ensures
    (kept_for_numbered g.R.Reader.position (λ (n : ℕ). n) slot_view (size_in_bytes c.new.result) g.S.Rules.ArrayLike.limit g.S-Stack-ArrayLike.limit g.S.Rules.CopyList.copies_free
    (module_list c.args.modules) c.args.cache.now c.write_frames.new.cache c.requires.numbered c.write_frames.ensures.kept
    (subst (λ (n : ℕ). AreCachedFor g.R.Reader.position n g.S.Rules.ArrayLike.limit g.S-Stack-ArrayLike.limit g.S.Rules.CopyList.copies_free (module_list c.args.modules) c.args.cache.now)
    (sym c.new.ensures) c.requires.cached))
