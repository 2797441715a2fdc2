-- Where the expressions of instructions are: in the section from which they were read (DWARF 5
-- section 6.4.2).
--     LiesIn section e      the expression's bytes are there, from the offset on
--     place_in section e      where they are
--     expression_bytes e      them, from a reader of the section
--     expression_of i, HasExpressionIn number section i      the expression that an instruction
--         holds lies in the section
use Rattle.std.specs.Prelude.{ℕ, ◌+◌, ◌-◌, ◌≤◌, Option, Some, None, IfSome}
use Rattle.cfi_read_core.specs.ReadFunctions.{Read, Position, Extent, ◌>>◌, skip, split}
use Rattle.cfi_read_core.specs.ReaderCalls.{extent_of}
use Rattle.cfi_read_core.specs.declared.dwarf_section.Expression.{Expression}
use Rattle.cfi_read_core.specs.declared.instruction.UnwindExpression.{UnwindExpression}
use Rattle.cfi_read_core.specs.declared.instruction.CallFrameInstruction.{CallFrameInstruction}
use Rattle.cfi_read_core.specs.declared.instruction.CallFrameInstruction.TheVariants as instruction
use Rattle.cfi_read_core.specs.MappedInstructions.{map_expression}

pub record LiesIn (section : Position) (e : UnwindExpression ℕ) : Type 0 where
  pub ends : e.offset + e.length ≤ section.source.last - section.place

abbrev pub place_in : Position → UnwindExpression ℕ → Extent
place_in section e =
    record { first = section.place + e.offset; last = section.place + e.offset + e.length }

-- where the bytes are that a reader of an expression has
abbrev pub expression_extent : {R : Type 0} → (R → Position) → Expression R → Extent
expression_extent position e = extent_of (position e.0)

-- from a reader of the section in which the expression was read
unfoldable pub expression_bytes : UnwindExpression ℕ → Read Extent
expression_bytes e = do
  skip e.offset
  split e.length

abbrev pub expression_of : {T : Type 0} → CallFrameInstruction T → Option (UnwindExpression T)
expression_of (instruction.DefCfaExpression e) = Some e
expression_of (instruction.Expression register e) = Some e
expression_of (instruction.ValExpression register e) = Some e
expression_of _ = None

abbrev pub HasExpressionIn : {T : Type 0} → (T → ℕ) → Position → CallFrameInstruction T → Type 0
HasExpressionIn number section i =
    IfSome (expression_of i) (λ e. LiesIn section (map_expression number e))
