use Rattle.std.proofs.Common.{◌≡◌, Some, drop, map, option_map}
use Rattle.std.specs.List.{fold}
use Rattle.cfi_elf.specs.BestNames.{best, better_of}
use Rattle.cfi_elf.specs.Functions.{function_view}
use Rattle.cfi_elf.proofs.best_name.best_of.Given as goal

abbrev pub invariant-loop-function : goal.invariant-loop-function
invariant-loop-function l =
    fold (λ found f. Some (better_of found f)) (option_map function_view l.best) (map function_view (drop l.function-index l.functions)) ≡ best (map function_view l.functions)
