use Rattle.std.proofs.Common.{[], refl, sym, ◌∙◌}
use Rattle.cfi_elf.specs.Notes.{first_view}
use Rattle.cfi_elf.proofs.NoteSteps.{cut_met, first_met, none_met}
use Rattle.cfi_elf.proofs.notes.Notes.next.Goals as goal

pub returns-then-is_empty : goal.returns-then-is_empty
returns-then-is_empty c =
    let walk = c.args.self.now in (
      none_met walk.big_endian walk.bytes.now (sym c.is_empty.ensures ∙ c.if-is_empty.true),
      none_met walk.big_endian walk.bytes.now (sym c.is_empty.ensures ∙ c.if-is_empty.true),
    )

pub returns-in-Some : goal.returns-in-Some
returns-in-Some c =
    let walk = c.args.self.now in
    first_met walk.big_endian walk.bytes.now (first_view c.in-Some.found) (sym c.is_empty.ensures ∙ c.if-is_empty.false) c.in-Some.ensures

pub returns-in-None : goal.returns-in-None
returns-in-None c =
    let walk = c.args.self.now in (
      refl,
      cut_met walk.big_endian walk.bytes.now (sym c.is_empty.ensures ∙ c.if-is_empty.false) c.in-None.ensures,
      none_met walk.big_endian [] refl,
    )
