-- What takes a few bits each in a packed row: from the lowest bit on four bits for the count of its
-- rules, two for the LSDA's pointer, two for the personality's, one for a signal trampoline, one
-- for a row, and six for the size of pushed arguments in words of eight bytes.
--     rule_count, lsda_kind, personality_kind, is_trampoline, has_row, args_size marks      each of
--         them
--     is_plain marks      neither pointer is there
--     HasCounts rules pushed marks      the two numbers are these
use Rattle.std.specs.Prelude.{◌≡◌, ℕ, ◌*◌, ◌/◌, ◌%◌, ◌==◌, Bool, ◌&&◌, if◌then◌else◌}
use Rattle.cfi_step.specs.declared.marks.Marks.{Marks}
use Rattle.cfi_step.specs.declared.marks.PointerKind.{PointerKind}
use Rattle.cfi_step.specs.declared.marks.PointerKind.TheVariants as pointer

abbrev pub kind_by : ℕ → PointerKind
kind_by n = if n == 0 then pointer.Absent else if n == 1 then pointer.Direct else pointer.Indirect

module _ (marks : Marks) where
  abbrev pub rule_count : ℕ
  rule_count = marks.bits % 16

  abbrev pub lsda_kind : PointerKind
  lsda_kind = kind_by (marks.bits / 16 % 4)

  abbrev pub personality_kind : PointerKind
  personality_kind = kind_by (marks.bits / 64 % 4)

  abbrev pub is_plain : Bool
  is_plain = (marks.bits / 16 % 4 == 0) && (marks.bits / 64 % 4 == 0)

  abbrev pub is_trampoline : Bool
  is_trampoline = marks.bits / 256 % 2 == 1

  abbrev pub has_row : Bool
  has_row = marks.bits / 512 % 2 == 1

  abbrev pub args_size : ℕ
  args_size = marks.bits / 1024 * 8

abbrev pub HasCounts : ℕ → ℕ → Marks → Type 0
HasCounts rules pushed marks = (rule_count marks ≡ rules) × (args_size marks ≡ pushed)
