-- An expression in words: the name and the operand of each of its operations in order.
--     in_words names size section expression      an expression of the section, where an address
--         has this size
--     hexadecimal_of section expression      its bytes
use Rattle.std.specs.Prelude.{ℕ, zero, suc, ◌-◌, Bool, true, false, List, [], ◌∷◌, ◌++◌}
use Rattle.std.specs.Prelude.{Option, Some, None, Result, Ok, Err, codes, flat_map, ◌==◌}
use Rattle.std.specs.Prelude.{if◌then◌else◌}
use Rattle.std.specs.Fmt.{decimal, signed_decimal}
use Rattle.cfi_read_core.specs.declared.error.Error.{Error}
use Rattle.cfi_read_core.specs.declared.instruction.UnwindExpression.{UnwindExpression}
use Rattle.cfi_read_core.specs.ReadFunctions.{Source, Position, Extent, rest}
use Rattle.cfi_read_core.specs.ReaderCalls.{bytes_left, read_at, remaining}
use Rattle.cfi_read_core.specs.ExpressionPlaces.{expression_bytes}
use Rattle.cfi_text.specs.Names.{byte_digits}
use Rattle.cfi_text.specs.RegisterNames.{register_text}
use Rattle.cfi_text.specs.declared.register_names.RegisterNames.{RegisterNames}
use Rattle.cfi_text.specs.Lines.{address_text}
use Rattle.cfi_row_text.specs.Operations.{operation_entry}
use Rattle.cfi_row_text.specs.OperationReads.{operation}
use Rattle.cfi_row_text.specs.RowLines.{offset_text}
use Rattle.cfi_row_text.specs.declared.operation_reader.Operand.{Operand}
use Rattle.cfi_row_text.specs.declared.operation_reader.Operand.TheVariants as operands
use Rattle.cfi_row_text.specs.declared.operation_reader.Operation.{Operation}

-- ---- an operation

abbrev pub operand_text : RegisterNames → Operand → List ℕ
operand_text names operands.Unknown = []
operand_text names operands.Nothing = []
operand_text names (operands.Address n) = codes " " ++ address_text n
operand_text names (operands.Unsigned n) = codes " " ++ decimal n
operand_text names (operands.Signed z) = codes " " ++ signed_decimal z
operand_text names (operands.Register r) = codes " " ++ register_text names r.0
operand_text names (operands.RegisterOffset r z) =
    codes " " ++ (register_text names r.0 ++ offset_text z)

abbrev pub operation_text : RegisterNames → Operation → List ℕ
operation_text names o = (operation_entry o.opcode).name ++ operand_text names o.operand

-- ---- bytes

abbrev pub hexadecimal_bytes : List ℕ → List ℕ
hexadecimal_bytes bytes = flat_map byte_digits bytes

-- those after an opcode
abbrev pub bytes_text : List ℕ → List ℕ
bytes_text [] = []
bytes_text (b ∷ bs) = codes " 0x" ++ (byte_digits b ++ hexadecimal_bytes bs)

-- where an operation isn't known or is cut: the opcode, and all bytes after it
abbrev pub unknown_text : List ℕ → List ℕ
unknown_text [] = []
unknown_text (opcode ∷ bs) = codes "DW_OP_0x" ++ (byte_digits opcode ++ bytes_text bs)

-- ---- operations in order

-- an operation that is in the table, with its operand
abbrev pub with_operand : Operation → Operand → Option Operation
with_operand o operands.Unknown = None
with_operand o operand = Some o

abbrev pub known_operation : Result Operation Error → Option Operation
known_operation (Ok o) = with_operand o o.operand
known_operation (Err e) = None

-- before each but the first
abbrev pub operation_comma : Bool → List ℕ
operation_comma true = []
operation_comma false = codes ", "

-- an operation and those after it; or all that is left
abbrev pub operation_then : RegisterNames → Bool → Option Operation → List ℕ → List ℕ → List ℕ
operation_then names is_first None left others = operation_comma is_first ++ unknown_text left
operation_then names is_first (Some o) left others =
    (operation_comma is_first ++ operation_text names o) ++ others

-- from a place on at most n, each of which takes a byte at least
unfoldable pub words_from : RegisterNames → ℕ → ℕ → Source → ℕ → Bool → List ℕ
words_from names size zero source place is_first = []
words_from names size (suc n) source place is_first =
    let read = operation size source place in
    if (source.last - place) == 0
    then []
    else operation_then names is_first (known_operation read.value) (rest source place)
    (words_from names size n source read.place false)

-- those of all bytes of a reader
abbrev pub words_at : RegisterNames → ℕ → Position → List ℕ
words_at names size at = words_from names size (remaining at) at.source at.place true

-- ---- an expression of a section

-- a reader of these bytes
abbrev pub expression_reader : Position → Extent → Position
expression_reader section extent =
    record { source = record section.source { last = extent.last }; place = extent.first }

-- an expression of a row or an instruction always lies in its section
abbrev pub words_in : RegisterNames → ℕ → Position → Result Extent Error → List ℕ
words_in names size section (Ok extent) = words_at names size (expression_reader section extent)
words_in names size section (Err e) = codes "..."

abbrev pub in_words : RegisterNames → ℕ → Position → UnwindExpression ℕ → List ℕ
in_words names size section expression =
    codes "expr("
    ++ (words_in names size section (read_at section (expression_bytes expression))
    ++ codes ")")

abbrev pub hexadecimal_in : Position → Result Extent Error → List ℕ
hexadecimal_in section (Ok extent) =
    hexadecimal_bytes (bytes_left (expression_reader section extent))
hexadecimal_in section (Err e) = codes "..."

abbrev pub hexadecimal_of : Position → UnwindExpression ℕ → List ℕ
hexadecimal_of section expression =
    hexadecimal_in section (read_at section (expression_bytes expression))
