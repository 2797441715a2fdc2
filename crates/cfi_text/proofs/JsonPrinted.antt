-- The numbers, strings and errors of JSON, by computation.
use Rattle.std.proofs.Common.{◌≡◌, ◌^◌, [], ◌∷◌, ◌++◌, refl, codes}
use Rattle.cfi_read_core.specs.declared.error.Error.TheVariants.{NoUnwindInfoForAddress, NotCieId, UnknownCallFrameInstruction}
use Rattle.cfi_text.specs.JsonTexts.{json_escaped, json_name, json_number}
use Rattle.cfi_text.specs.Refusals.{reason_end, reason_line, refusal_in, refusal_told}
use Rattle.std.specs.Fmt.{digits}
use Rattle.cfi_text.specs.declared.style.Format.TheVariants.{Json, Text}

greatest_number : json_number (9007199254740991) ≡ codes "9007199254740991"
unfolding digits
greatest_number = refl

least_string : json_number (2 ^ 53) ≡ codes "\"9007199254740992\""
unfolding digits
least_string = refl

-- a tab, a quotation mark, a backslash, delete and a character of two bytes
escaped_characters : json_escaped (codes "a" ++ 9 ∷ 0x1f ∷ codes "\"\\" ++ 0x7f ∷ 0xc3 ∷ 0xa9 ∷ []) ≡ codes "a\\u0009\\u001f\\\"\\\\" ++ 0x7f ∷ 0xc3 ∷ 0xa9 ∷ []
unfolding digits
escaped_characters = refl

-- a name: escape, a quotation mark, U+0085, a character of two bytes, and the first of them alone
name_characters : json_name (0x1b ∷ 0x22 ∷ 0xc2 ∷ 0x85 ∷ 0xc3 ∷ 0xa9 ∷ 0xc3 ∷ []) ≡ codes "\\u001b\\\"\\u0085" ++ 0xc3 ∷ 0xa9 ∷ codes "\\ufffd"
unfolding digits
name_characters = refl

refused : refusal_in Json NoUnwindInfoForAddress ≡ record { text = codes "{\"error\":\"NoUnwindInfoForAddress\"}" ++ 10 ∷ []; status = 1 }
refused = refl

told : refusal_told Json (NotCieId 0x1f) ≡ record { text = codes "{\"error\":\"NotCieId\",\"reason\":\"the entry at offset 0x1f is not a CIE\"}" ++ 10 ∷ []; status = 1 }
unfolding digits
told = refl

-- the opcode of one machine
advised : refusal_told Text (UnknownCallFrameInstruction (record { 0 = 0x2d })) ≡ record { text = codes "refused UnknownCallFrameInstruction: unknown call frame opcode 0x2d; DW_CFA_GNU_window_save of SPARC isn't supported" ++ 10 ∷ []; status = 1 }
unfolding digits
advised = refl

no_address : reason_line Json (codes "no address") 1 ≡ record { text = codes "{\"error\":\"no address\"}" ++ 10 ∷ []; status = 1 }
no_address = refl

-- the end of an object that has begun
no_address_behind : reason_end Json [] (codes "no address") ≡ record { text = codes "\"error\":\"no address\"}" ++ 10 ∷ []; status = 1 }
no_address_behind = refl
