use Rattle.std.proofs.Common.{◌≡◌, ap, sym, ◌∙◌, take, drop}
use Rattle.std.specs.List.{position_or_len}
use Rattle.cfi_programs.specs.Input.{decoded_bytes, is_line_feed}
use Rattle.cfi_programs.proofs.InputLemmas.{behind_line, line_end}
use Rattle.cfi_programs.proofs.input.split_after_first_line.Goals as goal

pub returns-in-Ok-clause-first : goal.returns-in-Ok-clause-first
returns-in-Ok-clause-first c =
    let line = c.first_line_len-end.ensures in
    let end : position_or_len is_line_feed c.args.text.now.items ≡ c.first_line_len-end.result =
    line_end _ _ (rw c.as_slice.ensures.value at line.within) (rw c.as_slice.ensures.value at line.before) (rw c.as_slice.ensures.value at line.found) in
    c.in-Ok.ensures.items ∙ ap (λ n. take n c.args.text.now.items) (sym end)

pub returns-in-Ok-clause-rest : goal.returns-in-Ok-clause-rest
returns-in-Ok-clause-rest c =
    let line = c.first_line_len-end.ensures in
    let end : position_or_len is_line_feed c.args.text.now.items ≡ c.first_line_len-end.result =
    line_end _ _ (rw c.as_slice.ensures.value at line.within) (rw c.as_slice.ensures.value at line.before) (rw c.as_slice.ensures.value at line.found) in
    ap decoded_bytes (c.in-Ok.ensures.tail ∙ ap (λ n. drop n c.args.text.now.items) (sym end)) ∙ behind_line c.args.text.now.items
