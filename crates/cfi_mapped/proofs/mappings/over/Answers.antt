use Rattle.std.proofs.Common.{◌≡◌, ◌++◌, Ok, sym, ◌∙◌, rules, tests}
use Rattle.std.specs.List.{filter_map}
use Rattle.std.specs.declared.alloc.AllocError.{AllocError}
use Rattle.std.proofs.lemmas.Iterator.{YieldsList-from_slice}
use Rattle.std.proofs.lemmas.Iterator.Adapters.{items_from_extend}
use Rattle.std.proofs.lemmas.Iterator.Consumers.{YieldsList-from_filter_map}
use Rattle.cfi_mapped.specs.Mappings.{part_below, part_from}
use Rattle.cfi_mapped.proofs.MappedOver.{joined, over_is}
use Rattle.cfi_mapped.proofs.mappings.over.Goals as goal

pub returns : goal.returns
returns c =
    let old = c.args.old.now in
    let below : c.extend.new.self.items ≡ c.in_ok-list.list.items ++ filter_map (part_below c.args.new.start) old =
    (items_from_extend {E = AllocError} (Ok c.in_ok-extend.field-0) c.in_ok-extend.ensures.ran
    (YieldsList-from_filter_map _ (part_below c.args.new.start) (YieldsList-from_slice old cc) c.filter_map.ensures.closure (λ x r q k. search (rules, tests)))).0 in
    let above : c.extend-2.new.self.items ≡ c.push.new.self.items ++ filter_map (part_from c.args.new.end) old =
    (items_from_extend {E = AllocError} (Ok c.in_ok-extend-2.field-0) c.in_ok-extend-2.ensures.ran
    (YieldsList-from_filter_map _ (part_from c.args.new.end) (YieldsList-from_slice old cc) c.filter_map-2.ensures.closure (λ x r q k. search (rules, tests)))).0 in
    joined (filter_map (part_below c.args.new.start) old) c.args.new (filter_map (part_from c.args.new.end) old) c.in_ok-list.ensures.items below c.in_ok-push.ensures.items above ∙ sym (over_is c.args.new old c.requires.bytes)
