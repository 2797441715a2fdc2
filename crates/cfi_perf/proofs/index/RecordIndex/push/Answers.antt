use Rattle.cfi_perf.proofs.IndexSteps.{all_kept, kept_added, kept_of_other, kept_of_sample, kept_otherwise, kind_of_other, kind_of_sample, kind_otherwise, none_kept, other_added, placed, sample_added}
use Rattle.cfi_perf.specs.declared.index.PlaceKind.TheVariants.{InFile, Kept, Nothing}
use Rattle.cfi_perf.proofs.index.RecordIndex.push.Goals as goal

pub returns-in-Sample-clause-indexed : goal.returns-in-Sample-clause-indexed
returns-in-Sample-clause-indexed c =
    sample_added c.args.self.now c.push_place.new.self c.args.item.now c.args.offset c.args.bytes.now c.push_place.result c.in-Sample.field-0 c.in-Sample.is c.push_place.ensures.places c.push_place.ensures.kept

pub returns-in-Other-clause-indexed : goal.returns-in-Other-clause-indexed
returns-in-Other-clause-indexed c =
    other_added c.args.self.now c.push_place-in-Other.new.self c.args.item.now c.args.offset c.args.bytes.now c.push_place-in-Other.result c.in-Other.is c.push_place-in-Other.ensures.places c.push_place-in-Other.ensures.kept

pub returns-in_default-clause-indexed : goal.returns-in_default-clause-indexed
returns-in_default-clause-indexed c =
    kept_added c.args.self.now c.keep.new.self c.args.item.now c.args.offset c.args.bytes.now c.keep.result c.in_default.not-Other c.keep.ensures.places c.keep.ensures.kept

pub returns-in-Sample-clause-kept : goal.returns-in-Sample-clause-kept
returns-in-Sample-clause-kept c =
    none_kept c.args.self.now c.push_place.new.self c.args.item.now c.args.offset c.args.bytes.now c.push_place.result (kept_of_sample c.args.item.now.event c.in-Sample.field-0 c.args.bytes.now c.in-Sample.is) c.push_place.ensures.kept

pub returns-in-Other-clause-kept : goal.returns-in-Other-clause-kept
returns-in-Other-clause-kept c =
    none_kept c.args.self.now c.push_place-in-Other.new.self c.args.item.now c.args.offset c.args.bytes.now c.push_place-in-Other.result (kept_of_other c.args.item.now.event c.args.bytes.now c.in-Other.is) c.push_place-in-Other.ensures.kept

pub returns-in_default-clause-kept : goal.returns-in_default-clause-kept
returns-in_default-clause-kept c =
    all_kept c.args.self.now c.keep.new.self c.args.item.now c.args.offset c.args.bytes.now c.keep.result (kept_otherwise c.args.item.now.event c.args.bytes.now c.in_default.not-Sample c.in_default.not-Other) c.keep.ensures.kept

pub returns-in-Sample-clause-places : goal.returns-in-Sample-clause-places
returns-in-Sample-clause-places c =
    placed c.push_place.result c.args.self.now.places.items c.push_place.new.self.places.items c.args.item.now.time c.args.offset _ _ InFile _ (kind_of_sample c.args.item.now.event c.in-Sample.field-0 c.in-Sample.is) c.push_place.ensures.places

pub returns-in-Other-clause-places : goal.returns-in-Other-clause-places
returns-in-Other-clause-places c =
    placed c.push_place-in-Other.result c.args.self.now.places.items c.push_place-in-Other.new.self.places.items c.args.item.now.time c.args.offset _ _ Nothing _ (kind_of_other c.args.item.now.event c.in-Other.is) c.push_place-in-Other.ensures.places

pub returns-in_default-clause-places : goal.returns-in_default-clause-places
returns-in_default-clause-places c =
    placed c.keep.result c.args.self.now.places.items c.keep.new.self.places.items c.args.item.now.time c.args.offset _ _ Kept _ (kind_otherwise c.args.item.now.event c.in_default.not-Sample c.in_default.not-Other) c.keep.ensures.places
