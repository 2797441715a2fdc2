use Rattle.std.proofs.Common.{◌≡◌, Err, rules, subst, sym}
use Rattle.cfi_read_core.specs.ReaderCalls.{map_ok}
use Rattle.cfi_programs.specs.Input.{IsDecoded, bytes_of_sections}
use Rattle.cfi_programs.proofs.InputLemmas.{not_unreadable, whole_read, whole_refused}
use Rattle.cfi_programs.proofs.input.decode_sections.Goals as goal

pub returns-in_ok-decode-in-None-clause-read : goal.returns-in_ok-decode-in-None-clause-read
returns-in_ok-decode-in-None-clause-read c =
    whole_read _ c.args.text.items _ _ c.in-None.is c.in_ok-decode-in-None.ensures.value c.new.ensures.items

pub returns-in_err-decode-in-None-clause-read : goal.returns-in_err-decode-in-None-clause-read
returns-in_err-decode-in-None-clause-read c =
    let gives : c.from_residual.result ≡ Err c.in_err-decode-in-None.field-0.0 = search rules in
    rw gives (whole_refused _ c.args.text.items _ c.in-None.is c.in_err-decode-in-None.ensures.refused)

pub returns-in_err-decode-in-None-clause-refused : goal.returns-in_err-decode-in-None-clause-refused
returns-in_err-decode-in-None-clause-refused c =
    let gives : c.from_residual.result ≡ Err c.in_err-decode-in-None.field-0.0 = search rules in
    rw gives (not_unreadable c.args.text.items _ c.in_err-decode-in-None.ensures.refused)

pub returns-in-Some-clause-read : goal.returns-in-Some-clause-read
returns-in-Some-clause-read c =
    subst (λ header. IsDecoded header c.args.text.items (map_ok bytes_of_sections c.decode_lines.result)) (sym c.in-Some.is) c.decode_lines.ensures.read
