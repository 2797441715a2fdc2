use Rattle.std.proofs.Common.{◌≡◌, ◌∙◌, ap, not, rules, sym}
use Rattle.std.proofs.lemmas.Fn.{filter_same}
use Rattle.hex.specs.Hex.{decode_of}
use Rattle.cfi_programs.specs.Input.{is_space, without_spaces}
use Rattle.cfi_programs.proofs.InputLemmas.{refused_as}
use Rattle.cfi_programs.proofs.input.decode.Goals as goal

pub returns-in-Ok-clause-value : goal.returns-in-Ok-clause-value
returns-in-Ok-clause-value c =
    let digits : c.as_slice.result.now ≡ without_spaces c.args.text.items =
    c.as_slice.ensures.value ∙ filter_same _ (λ x. not (is_space x)) _ (λ x b f k. search rules) _ _ c.retain.ensures.filtered in
    sym (ap decode_of digits) ∙ c.in-Ok.ensures.ok

pub returns : goal.returns
returns c =
    let digits : c.as_slice.result.now ≡ without_spaces c.args.text.items =
    c.as_slice.ensures.value ∙ filter_same _ (λ x. not (is_space x)) _ (λ x b f k. search rules) _ _ c.retain.ensures.filtered in
    record { value = tt; refused = rw c.refusal_of.ensures (refused_as c.args.text.items c.in-Err.error (rw digits at c.in-Err.ensures.err)) }
