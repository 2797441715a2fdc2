-- Names that are worked out from the definitions alone.
use Rattle.std.proofs.Common.{◌≡◌, [], ◌∷◌, ◌++◌, codes, refl}
use Rattle.cfi_text.specs.Names.{shown}

-- ---- sequences that are none (Table 3-7)

-- an overlong form of U+002F
overlong : shown (0xc0 ∷ 0xaf ∷ []) ≡ codes "\\xc0\\xaf"
overlong = refl

-- U+D800
surrogate : shown (0xed ∷ 0xa0 ∷ 0x80 ∷ []) ≡ codes "\\xed\\xa0\\x80"
surrogate = refl

-- above U+10FFFF
above : shown (0xf4 ∷ 0x90 ∷ 0x80 ∷ 0x80 ∷ []) ≡ codes "\\xf4\\x90\\x80\\x80"
above = refl

-- cut, and what goes on without a beginning
cut : shown (0xf0 ∷ 0x9f ∷ 0x98 ∷ []) ≡ codes "\\xf0\\x9f\\x98"
cut = refl

trailing : shown (0x80 ∷ 0x41 ∷ []) ≡ codes "\\x80A"
trailing = refl

-- ---- names

-- größe
in_utf8 : shown (0x67 ∷ 0x72 ∷ 0xc3 ∷ 0xb6 ∷ 0xc3 ∷ 0x9f ∷ 0x65 ∷ []) ≡ 0x67 ∷ 0x72 ∷ 0xc3 ∷ 0xb6 ∷ 0xc3 ∷ 0x9f ∷ 0x65 ∷ []
in_utf8 = refl

-- the same in Latin-1
in_latin : shown (0x67 ∷ 0x72 ∷ 0xf6 ∷ 0xdf ∷ 0x65 ∷ []) ≡ codes "gr\\xf6\\xdfe"
in_latin = refl

-- what clears a terminal, by ESC and by the one character for both, U+009B
by_escape : shown (0x1b ∷ codes "[2J") ≡ codes "\\x1b[2J"
by_escape = refl

by_introducer : shown (0xc2 ∷ 0x9b ∷ codes "2J") ≡ codes "\\xc2\\x9b2J"
by_introducer = refl

-- and what looks like an escape stays as it is
backslash : shown (codes "a\\x1b") ≡ codes "a\\x1b"
backslash = refl

line_feed_and_delete : shown (0x61 ∷ 0x0a ∷ 0x62 ∷ 0x7f ∷ []) ≡ codes "a\\x0ab\\x7f"
line_feed_and_delete = refl

-- a cut character before one that is whole, U+00E9
cut_and_whole : shown (0xe2 ∷ 0x82 ∷ 0xc3 ∷ 0xa9 ∷ []) ≡ codes "\\xe2\\x82" ++ 0xc3 ∷ 0xa9 ∷ []
cut_and_whole = refl

-- a no-break space, U+00A0, the first character behind the control characters
no_break_space : shown (0xc2 ∷ 0xa0 ∷ []) ≡ 0xc2 ∷ 0xa0 ∷ []
no_break_space = refl
