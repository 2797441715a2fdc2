use Rattle.cfi_text.proofs.text.Text.+hexadecimal.Given as goal

abbrev pub decreases-hexadecimal : goal.decreases-hexadecimal
decreases-hexadecimal l = l.number
