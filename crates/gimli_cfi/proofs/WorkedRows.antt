-- Rows worked out, by computation.
use Rattle.std.proofs.Common.{◌≡◌, ℕ, List, [], ◌∷◌, Some, Result, Ok, Err, ℤ, pos, negsuc, refl, codes}
use Rattle.std.specs.FinMap.{from_entries}
use Rattle.cfi_read_core.specs.declared.error.Error.{Error}
use Rattle.cfi_read_core.specs.declared.error.Error.TheVariants.{AddressOverflow, BadUnsignedLeb128, CfiInstructionInInvalidContext, NoUnwindInfoForAddress, StackFull, UnknownCallFrameInstruction}
use Rattle.cfi_read_core.specs.declared.common.Vendor.TheVariants as vendors
use Rattle.cfi_read_core.specs.ReadFunctions.{unexpected_eof}
use Rattle.cfi_state.specs.declared.table.rules.CfaRule.{CfaRule}
use Rattle.cfi_state.specs.declared.table.rules.CfaRule.TheVariants.{RegisterAndOffset}
use Rattle.cfi_state.specs.declared.table.rules.RegisterRule.{RegisterRule}
use Rattle.cfi_state.specs.declared.table.rules.RegisterRule.TheVariants.{Offset, Constant}
use Rattle.cfi_state.specs.Row.{Row}
use Rattle.cfi_entry.specs.Sections.{Section}
use Rattle.cfi_unwind.specs.AddressRow.{row_by_scan}
use Rattle.gimli_cfi.proofs.Computing.{computing, debug_frame, three}

-- a CFA by its register and offset
abbrev cfa_at : ℕ → ℤ → CfaRule ℕ
cfa_at register offset = RegisterAndOffset (record { 0 = register }) offset

-- with room for 192 rules in a row, and for 4 rows
abbrev row_at : Section → ℕ → Result (Row ℕ) Error
row_at section a = row_by_scan (Some 192) (Some 4) section a

abbrev with_arguments : ℕ → ℕ → ℕ → CfaRule ℕ → List (ℕ × RegisterRule ℕ) → Result (Row ℕ) Error
with_arguments args_size from to cfa rules = Ok (record { start_address = from; end_address = to; parts = record { cfa = cfa; rules = from_entries rules; args_size = args_size } })

abbrev row : ℕ → ℕ → CfaRule ℕ → List (ℕ × RegisterRule ℕ) → Result (Row ℕ) Error
row = with_arguments 0

-- ---- three rows

abbrev plain : Section
plain = debug_frame (codes "10000000 ffffffff 04000800 017810 0c0708 9001 1c000000 00000000 0010000000000000 2000000000000000 41 0e10 8602 43 0d06")

plain_first : row_at plain 0x1000 ≡ row 0x1000 0x1001 (cfa_at 7 (pos 8)) ((16, Offset (negsuc 7)) ∷ [])
unfolding computing
plain_first = refl

plain_second : row_at plain 0x1002 ≡ row 0x1001 0x1004 (cfa_at 7 (pos 16)) ((16, Offset (negsuc 7)) ∷ (6, Offset (negsuc 15)) ∷ [])
unfolding computing
plain_second = refl

plain_third : row_at plain 0x101f ≡ row 0x1004 0x1020 (cfa_at 6 (pos 16)) ((16, Offset (negsuc 7)) ∷ (6, Offset (negsuc 15)) ∷ [])
unfolding computing
plain_third = refl

plain_above : row_at plain 0x1020 ≡ Err NoUnwindInfoForAddress
unfolding computing
plain_above = refl

nothing : row_at (debug_frame []) 0 ≡ Err NoUnwindInfoForAddress
unfolding computing
nothing = refl

-- ---- remembered and restored: a move in between stays

abbrev restored : Section
restored = debug_frame (codes "10000000 ffffffff 04000800 017810 0c0708 9001 19000000 00000000 0010000000000000 2000000000000000 0a 0e20 42 0b")

restored_first : row_at restored 0x1000 ≡ row 0x1000 0x1002 (cfa_at 7 (pos 32)) ((16, Offset (negsuc 7)) ∷ [])
unfolding computing
restored_first = refl

restored_second : row_at restored 0x1002 ≡ row 0x1002 0x1020 (cfa_at 7 (pos 8)) ((16, Offset (negsuc 7)) ∷ [])
unfolding computing
restored_second = refl

-- ---- two initial rules take a row

abbrev too_deep : Section
too_deep = debug_frame (codes "12000000 ffffffff 04000800 017810 0c0708 9001 8602 17000000 00000000 0010000000000000 2000000000000000 0a0a0a")

third_remember : row_at too_deep 0x1000 ≡ Err StackFull
unfolding computing
third_remember = refl

-- ---- a bracket over the border, and a register whose initial rule is restored

abbrev over_the_border : Section
over_the_border = debug_frame (codes "11000000 ffffffff 04000800 017810 0c0708 0a 9001 17000000 00000000 0010000000000000 2000000000000000 0b 41 d0")

without_rule : row_at over_the_border 0x1000 ≡ row 0x1000 0x1001 (cfa_at 7 (pos 8)) []
unfolding computing
without_rule = refl

with_initial_rule : row_at over_the_border 0x1001 ≡ row 0x1001 0x1020 (cfa_at 7 (pos 8)) ((16, Offset (negsuc 7)) ∷ [])
unfolding computing
with_initial_rule = refl

-- ---- a refusal after the row doesn't count

abbrev cut_off : Section
cut_off = debug_frame (codes "10000000 ffffffff 04000800 017810 0c0708 9001 16000000 00000000 0010000000000000 2000000000000000 41 02")

before_the_cut : row_at cut_off 0x1000 ≡ row 0x1000 0x1001 (cfa_at 7 (pos 8)) ((16, Offset (negsuc 7)) ∷ [])
unfolding computing
before_the_cut = refl

behind_the_cut : row_at cut_off 0x1001 ≡ Err (unexpected_eof 46)
unfolding computing
behind_the_cut = refl

-- ---- offsets below the CFA

abbrev least_factor : Section
least_factor = debug_frame (codes "17000000 ffffffff 04000800 01 8080808080808080807f 10 0c0708 17000000 00000000 0010000000000000 2000000000000000 2f 06 01")

negation_wraps : row_at least_factor 0x1000 ≡ row 0x1000 0x1020 (cfa_at 7 (pos 8)) ((6, Offset (negsuc 9223372036854775807)) ∷ [])
unfolding computing
negation_wraps = refl

abbrev negative_in_brackets : Section
negative_in_brackets = debug_frame (codes "10000000 ffffffff 04000800 017810 0c0708 9001 1b000000 00000000 0010000000000000 2000000000000000 0a 2f 06 02 41 0b 00")

negative_offset : row_at negative_in_brackets 0x1000 ≡ row 0x1000 0x1001 (cfa_at 7 (pos 8)) ((16, Offset (negsuc 7)) ∷ (6, Offset (pos 16)) ∷ [])
unfolding computing
negative_offset = refl

negative_offset_struck : row_at negative_in_brackets 0x1001 ≡ row 0x1001 0x1020 (cfa_at 7 (pos 8)) ((16, Offset (negsuc 7)) ∷ [])
unfolding computing
negative_offset_struck = refl

-- ---- the sign state toggles

abbrev signed_state : Section
signed_state = debug_frame (codes "0b000000 ffffffff 04000800 017810 1a000000 00000000 0010000000000000 2000000000000000 2d 41 0a 2d 41 0b")

abbrev of_aarch64 : Section
of_aarch64 = record signed_state { vendor = vendors.AArch64 }

signed_first : row_at of_aarch64 0x1000 ≡ row 0x1000 0x1001 (cfa_at 0 (pos 0)) ((34, Constant 1) ∷ [])
unfolding computing
signed_first = refl

signed_second : row_at of_aarch64 0x1001 ≡ row 0x1001 0x1002 (cfa_at 0 (pos 0)) ((34, Constant 0) ∷ [])
unfolding computing
signed_second = refl

signed_third : row_at of_aarch64 0x1002 ≡ row 0x1002 0x1020 (cfa_at 0 (pos 0)) ((34, Constant 1) ∷ [])
unfolding computing
signed_third = refl

of_no_vendor : row_at signed_state 0x1000 ≡ Err (UnknownCallFrameInstruction (record { 0 = 0x2d }))
unfolding computing
of_no_vendor = refl

-- ---- moves: a product that wraps, and a location that doesn't fit

abbrev wrapped_product : Section
wrapped_product = debug_frame (codes "19000000 ffffffff 04000800 80808080808080808001 7810 0c0708 9001 15000000 00000000 0010000000000000 2000000000000000 42")

second_of_two : row_at wrapped_product 0x1000 ≡ row 0x1000 0x1020 (cfa_at 7 (pos 8)) ((16, Offset (negsuc 7)) ∷ [])
unfolding computing
second_of_two = refl

abbrev past_four_bytes : Section
past_four_bytes = debug_frame (codes "10000000 ffffffff 04000400 017810 0c0708 9001 0d000000 00000000 feffffff 01000000 6a")

no_such_location : row_at past_four_bytes 0xfffffffe ≡ Err AddressOverflow
unfolding computing
no_such_location = refl

-- ---- a number of more than 64 bits

abbrev too_large : Section
too_large = debug_frame (codes "10000000 ffffffff 04000800 017810 0c0708 9001 1f000000 00000000 0010000000000000 2000000000000000 0e80808080808080808002")

no_such_number : row_at too_large 0x1000 ≡ Err BadUnsignedLeb128
unfolding computing
no_such_number = refl

-- ---- an offset while the CFA is an expression

abbrev under_an_expression : Section
under_an_expression = debug_frame (codes "10000000 ffffffff 04000800 017810 0c0708 9001 1b000000 00000000 0010000000000000 2000000000000000 8602 0f0130 0d06")

no_register : row_at under_an_expression 0x1000 ≡ Err CfiInstructionInInvalidContext
unfolding computing
no_register = refl

-- ---- .eh_frame

of_three : row_at three 0x1018 ≡ row 0x1011 0x1020 (cfa_at 7 (pos 16)) ((16, Offset (negsuc 7)) ∷ [])
unfolding computing
of_three = refl

-- ---- the size of the arguments comes back too

abbrev arguments : Section
arguments = debug_frame (codes "10000000 ffffffff 04000800 017810 0c0708 9001 1b000000 00000000 0010000000000000 2000000000000000 2e10 0a 2e20 41 0b")

inner_arguments : row_at arguments 0x1000 ≡ with_arguments 32 0x1000 0x1001 (cfa_at 7 (pos 8)) ((16, Offset (negsuc 7)) ∷ [])
unfolding computing
inner_arguments = refl

outer_arguments : row_at arguments 0x1001 ≡ with_arguments 16 0x1001 0x1020 (cfa_at 7 (pos 8)) ((16, Offset (negsuc 7)) ∷ [])
unfolding computing
outer_arguments = refl
