-- The order of what is mapped after a new mapping.
use Rattle.std.proofs.Common.{ℕ, ◌<◌, ◌≤◌, ◌++◌, List, [], ◌∷◌, Option, arith, sym, subst}
use Rattle.std.specs.List.{filter_map, cons_option}
use Rattle.cfi_mapped.specs.declared.mappings.MappedCode.{MappedCode}
use Rattle.cfi_mapped.specs.Mappings.{AreMappedInOrder, mapped_over, part_below, part_from}
use Rattle.cfi_mapped.proofs.MappedOver.{by_below, by_from, over_is}

lower : (low p : ℕ) (list : List MappedCode) → low ≤ p → AreMappedInOrder p list → AreMappedInOrder low list
lower low p [] less order = tt
lower low p (m ∷ list) less order = (omega (arith, order.0), order.1, order.2)

-- what is above a limit begins there, and where it began
from_same : (low limit : ℕ) (list : List MappedCode) → AreMappedInOrder low list → AreMappedInOrder low (filter_map (part_from limit) list)
from_same low limit [] order = tt
from_same low limit (m ∷ list) order =
    let kept = filter_map (part_from limit) list in
    let rest = from_same m.end limit list order.2 in
    by_from (λ (part : Option MappedCode). AreMappedInOrder low (cons_option part kept)) limit m
    (λ ends. lower low m.end kept (omega (arith, order.0, order.1)) rest)
    (λ more later. (order.0, order.1, rest))
    (λ more begins. (omega (arith, order.0), more, rest))

from_limit : (low limit : ℕ) (list : List MappedCode) → AreMappedInOrder low list → AreMappedInOrder limit (filter_map (part_from limit) list)
from_limit low limit [] order = tt
from_limit low limit (m ∷ list) order =
    let kept = filter_map (part_from limit) list in
    by_from (λ (part : Option MappedCode). AreMappedInOrder limit (cons_option part kept)) limit m
    (λ ends. from_limit m.end limit list order.2)
    (λ more later. (later, order.1, from_same m.end limit list order.2))
    (λ more begins. (omega arith, more, from_same m.end limit list order.2))

module _ (new : MappedCode) (bytes : new.start < new.end) (above : List MappedCode) (later : AreMappedInOrder new.end above) where
  below_order : (low : ℕ) (list : List MappedCode) → low ≤ new.start → AreMappedInOrder low list → AreMappedInOrder low (filter_map (part_below new.start) list ++ new ∷ above)
  below_order low [] less order = (less, bytes, later)
  below_order low (m ∷ list) less order =
      let kept = filter_map (part_below new.start) list in
      by_below (λ (part : Option MappedCode). AreMappedInOrder low (cons_option part kept ++ new ∷ above)) new.start m
      (λ none. below_order low list less (lower low m.end list (omega (arith, order.0, order.1)) order.2))
      (λ begins ends. (order.0, order.1, below_order m.end list ends order.2))
      (λ begins more. (order.0, begins, below_order new.start list (omega arith) (lower new.start m.end list (omega arith) order.2)))

pub over_in_order : (new : MappedCode) (list : List MappedCode) → new.start < new.end → AreMappedInOrder 0 list → AreMappedInOrder 0 (mapped_over new list)
over_in_order new list bytes order =
    subst (AreMappedInOrder 0) (sym (over_is new list bytes))
    (below_order new bytes (filter_map (part_from new.end) list) (from_limit 0 new.end list order) 0 list (omega arith) order)
