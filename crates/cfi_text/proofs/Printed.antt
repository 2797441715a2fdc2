-- Lines of text, by computation.
use Rattle.std.proofs.Common.{◌≡◌, [], ◌∷◌, ◌++◌, refl, codes}
use Rattle.std.specs.Fmt.{digits}
use Rattle.cfi_read_core.specs.declared.error.Error.TheVariants.{NoUnwindInfoForAddress}
use Rattle.cfi_text.specs.Lines.{address_text}
use Rattle.cfi_text.specs.Refusals.{refusal_line}

address : address_text 0x1F0a ≡ codes "0x1f0a"
unfolding digits
address = refl

refused : refusal_line NoUnwindInfoForAddress ≡ record { text = codes "refused NoUnwindInfoForAddress" ++ 10 ∷ []; status = 1 }
refused = refl
