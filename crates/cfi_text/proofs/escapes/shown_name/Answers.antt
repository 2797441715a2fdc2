use Rattle.cfi_text.specs.Names.{shown}
use Rattle.cfi_text.proofs.TextLemmas.{made}
use Rattle.cfi_text.proofs.escapes.shown_name.Goals as goal

pub returns : goal.returns
returns c = made (λ bytes. bytes.items) c.into_bytes.result _ _ (shown c.args.name.now) c.new-text.ensures.empty c.name.ensures c.into_bytes.ensures.whole c.into_bytes.ensures.bytes
