-- The checker's description of `UnwindContext<usize, StoreOnHeap>`. It follows the type; another
-- one is refused by `HeldContext`.
use Rattle.cfi_read_core.specs.contracts.common.Register.{the_row as register}
use Rattle.cfi_read_core.specs.contracts.common.RegisterDefault.TheImpl as register-default
use Rattle.cfi_read_core.specs.contracts.common.StoreOnHeap.{the_row as store}
use Rattle.cfi_read_core.specs.contracts.offset.UsizeReaderOffset.TheImpl as offset
use Rattle.arrayvec.specs.contracts.array_vec.ArrayVec
use Rattle.cfi_read_core.specs.contracts.array_like.ArrayVecArrayLike.TheImpl as list
use Rattle.cfi_read_core.specs.contracts.array_like.ArrayVecCopyList.TheImpl as copies
use Rattle.cfi_read_core.specs.contracts.reserved.Reserved
use Rattle.cfi_read_core.specs.contracts.reserved.ReservedArrayLike.TheImpl as reserved-list
use Rattle.cfi_state.specs.contracts.table.rules.RegisterRuleClone.TheImpl as rule-clone
use Rattle.cfi_state.specs.contracts.table.rules.RegisterRuleDefault.TheImpl as rule-default
use Rattle.gimli_cfi.specs.contracts.table.RegisterRule
use Rattle.gimli_cfi.specs.contracts.table.UnwindContext
use Rattle.gimli_cfi.specs.contracts.table.UnwindTableRow
use Rattle.core.specs.contracts.clone.Clone+copy.TheImpl as copy
use Rattle.std.specs.contracts.prelude.Tuple2Clone.TheImpl as pair-clone
use Rattle.std.specs.contracts.prelude.Tuple2Default.TheImpl as pair-default
use Rattle.std.specs.contracts.prelude.UsizeClone.TheImpl as usize-clone
use Rattle.std.specs.contracts.prelude.UsizeDebug.TheImpl as usize-debug
use Rattle.std.specs.contracts.prelude.UsizeOrd.TheImpl as usize-ord
use Rattle.std.specs.contracts.prelude.UsizePartialEq.TheImpl as usize-partial-eq
use Rattle.std.specs.contracts.prelude.UsizePartialOrd.TheImpl as usize-partial-ord
use denote.Builtin.{unit, usize}
use denote.Param.{number}
use denote.RattleType.{RattleType}
use denote.Struct.Tuple.{Tuple}
use mathlib.Core.List.{[], ◌∷◌}

-- a register and its rule
abbrev pair : RattleType
pair = Tuple (register ∷ RegisterRule.the_row usize ∷ [])

-- the rules of a row, and a row
abbrev rules : RattleType
rules = ArrayVec.the_row pair (number 192) unit

abbrev pub heap_context_row : RattleType
heap_context_row =
    let empty_pair =
    pair-default.ghosts register (RegisterRule.the_row usize) register-default.ghosts
    pair-default.no_dict (rule-default.ghosts usize) pair-default.no_dict in
    let rule_list = list.ghosts pair (number 192) empty_pair list.no_dict list.no_dict in
    let row =
    UnwindTableRow.the_row usize rules offset.ghosts usize-partial-eq.ghosts usize-ord.ghosts
    usize-partial-ord.ghosts usize-debug.ghosts rule_list in
    UnwindContext.the_row usize store rules
    (Reserved.the_row row (number 4))
    offset.ghosts usize-partial-eq.ghosts usize-ord.ghosts usize-partial-ord.ghosts
    usize-debug.ghosts rule_list
    (copies.ghosts pair (number 192)
    (pair-clone.ghosts register (RegisterRule.the_row usize) (copy.ghosts register)
    pair-clone.no_dict
    (rule-clone.ghosts usize usize-clone.ghosts rule-clone.no_dict rule-clone.no_dict)
    pair-clone.no_dict pair-clone.no_dict pair-clone.no_dict)
    copies.no_dict empty_pair copies.no_dict)
    (reserved-list.ghosts row (number 4) reserved-list.no_dict)
