use Rattle.std.proofs.Common.{rules, ◌≡◌, ◌+◌, ◌*◌, ◌<◌, ◌≤◌, length, slice_index_or, slice_set, sym, ap, subst, ◌∙◌}
use Rattle.std.specs.Option.{option_map}
use Rattle.cfi_c.specs.AddressRows.{IsAnswerForC, is_live}
use Rattle.cfi_c.specs.WrittenRows.{SameAround}
use Rattle.cfi_c.proofs.Counts.{answered_one_more, one_more}
use Rattle.cfi_c.proofs.rows.answer_each.Goals as goal

pub loop-i-preserved : goal.loop-i-preserved
loop-i-preserved c =
    let inv = c.loop-i.invariant in let i = c.loop-i.i in let per = c.args.per_row in
    let first : c.loop-i.first ≡ i * per = inv.3 in
    let header = option_map (λ bytes. bytes.now) c.args.asked.now.header in let a = slice_index_or c.args.addresses.now i 0 in
    let rows_stay : length (slice_set c.loop-i.rows i c.answer.new.row) ≡ length c.args.rows.now = search rules in
    let rules_stay : length c.answer.new.rules ≡ length c.args.rules.now = search rules in
    let fits : c.loop-i.first + per ≤ length c.answer.new.rules = search rules in
    let more : i + 1 ≤ length (slice_set c.loop-i.rows i c.answer.new.row) = search rules in
    let within : i < length c.loop-i.rows = search rules in
    let answered : IsAnswerForC (is_live c.args.held.now) c.args.asked.now.bases.now c.args.asked.now.section.now header a c.answer.new.row c.answer.new.rules (i * per) per =
    subst (λ l. IsAnswerForC l c.args.asked.now.bases.now c.args.asked.now.section.now header a c.answer.new.row c.answer.new.rules (i * per) per) inv.0
    (subst (λ f. IsAnswerForC (is_live c.loop-i.held) c.args.asked.now.bases.now c.args.asked.now.section.now header a c.answer.new.row c.answer.new.rules f per) first c.answer.ensures.answered) in
    let around : SameAround (i * per) per c.loop-i.rules c.answer.new.rules = subst (λ f. SameAround f per c.loop-i.rules c.answer.new.rules) first c.answer.ensures.around in (
      c.answer.ensures.kept ∙ inv.0,
      rows_stay,
      rules_stay,
      ap (λ n. n + per) first ∙ sym (one_more i per),
      fits,
      more,
      answered_one_more (is_live c.args.held.now) c.args.asked.now.bases.now c.args.asked.now.section.now header c.args.addresses.now per i c.args.rows.now c.loop-i.rows c.args.rules.now c.loop-i.rules c.answer.new.rules c.answer.new.row
          inv.6 within answered around,
    )
