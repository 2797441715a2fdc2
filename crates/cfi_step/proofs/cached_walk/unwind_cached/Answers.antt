use Rattle.std.proofs.Common.{ℕ}
use Rattle.cfi_read_core.specs.AddressSizes.{size_in_bytes}
use Rattle.cfi_step.specs.CachedRows.{slot_view}
use Rattle.cfi_step.specs.ModuleLists.{module_list}
use Rattle.cfi_step.proofs.KeptRows.{kept_for_numbered}
use Rattle.cfi_step.proofs.cached_walk.unwind_cached.Goals as goal

pub write_frames-requires-clause-can : goal.write_frames-requires-clause-can
write_frames-requires-clause-can g c = λ rows same keeps.
    kept_for_numbered g.R.Reader.position (λ (n : ℕ). n) slot_view (size_in_bytes c.args.process.now.address_size) g.S.Rules.ArrayLike.limit g.S-Stack-ArrayLike.limit g.S.Rules.CopyList.copies_free
    (module_list c.args.process.now.modules) c.args.cache.now rows c.requires.numbered keeps c.requires.cached

pub returns-clause-cached : goal.returns-clause-cached
returns-clause-cached g c =
    kept_for_numbered g.R.Reader.position (λ (n : ℕ). n) slot_view (size_in_bytes c.args.process.now.address_size) g.S.Rules.ArrayLike.limit g.S-Stack-ArrayLike.limit g.S.Rules.CopyList.copies_free
    (module_list c.args.process.now.modules) c.args.cache.now c.write_frames.new.cache c.requires.numbered c.write_frames.ensures.kept c.requires.cached
