use Rattle.std.proofs.Common.{rules}
use Rattle.cfi_text.specs.Texts.{Puts}
use Rattle.cfi_text.proofs.TextLemmas.{both}
use Rattle.cfi_row_text.specs.ExpressionWords.{in_words}
use Rattle.cfi_row_text.specs.RowLines.{cfa_saying}
use Rattle.cfi_row_text.proofs.json_row.put_json_cfa.Goals as goal

pub returns : goal.returns
returns g c =
    let from = g.S._UnwindSectionPrivate.view c.args.section.now in
    let say = in_words c.args.style.names from.address_size from.position in
    let said : Puts (cfa_saying say c.args.style.names c.args.cfa) c.put.new.self c.put_cfa.new.text = search rules in
    both _ _ _ _ _ c.put.ensures (both _ _ _ _ _ said (both _ _ _ _ _ c.put-2.ensures c.put_cfa_bytes.ensures))
