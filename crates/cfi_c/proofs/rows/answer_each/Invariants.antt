use Rattle.std.proofs.Common.{◌≡◌, ◌*◌, ◌≤◌, length}
use Rattle.std.specs.Option.{option_map}
use Rattle.cfi_c.specs.ManyAddresses.{AreAnswered}
use Rattle.cfi_c.specs.AddressRows.{is_live}
use Rattle.cfi_c.proofs.rows.answer_each.Given as goal

abbrev pub invariant-loop-i : goal.invariant-loop-i
invariant-loop-i l =
    (is_live l.held ≡ is_live l.initial.held) ×
    (length l.rows ≡ length l.initial.rows) ×
    (length l.rules ≡ length l.initial.rules) ×
    (l.first ≡ l.i * l.per_row) ×
    (l.first ≤ length l.rules) ×
    (l.i ≤ length l.rows) ×
    AreAnswered (is_live l.initial.held) l.asked.bases.now l.asked.section.now (option_map (λ bytes. bytes.now) l.asked.header) l.addresses l.per_row l.i l.initial.rows l.rows l.initial.rules l.rules
