use Rattle.std.proofs.Common.{◌≡◌, rules, true}
use Rattle.std.specs.Prelude.{is_none}
use Rattle.cfi_expression.specs.Windows.{number_in}
use Rattle.cfi_c.proofs.StepsInModules.{if_none}
use Rattle.cfi_c.proofs.unwind_registers.walk.Goals as goal

pub write_all-requires-clause-can : goal.write_all-requires-clause-can
write_all-requires-clause-can c = λ rows. (
  c.requires.size,
  (λ i. number_in (c.window_over.ensures.bytes i) (c.window_over.ensures.base i)),
  c.abi_of.ensures,
  λ in_order.
      let none : is_none c.out_of_order.result ≡ true = search rules in
      if_none c.out_of_order.result _ c.out_of_order.ensures.sorted none,
)
