-- The texts of values, and what is read from them, by computation.
use Rattle.std.proofs.Common.{◌≡◌, ◌^◌, true, [], ◌∷◌, refl, codes}
use Rattle.std.specs.Fmt.{digits}
use Rattle.cfi_json.specs.Json.{name, number, address, flag, array, object, no_items, item, no_members, member, json_text, name_read}

-- a frame of the kernel
a_frame : json_text (object (member (codes "place") (address 0x4c0) (member (codes "function") (name (codes "f")) (member (codes "offset") (number 7) (member (codes "kernel") (flag true) no_members)))))
    ≡ codes "{\"place\":\"0x4c0\",\"function\":\"f\",\"offset\":7,\"kernel\":true}"
unfolding digits
a_frame = refl

nested : json_text (array (item (object no_members) (item (array no_items) (item (number (2 ^ 53)) no_items)))) ≡ codes "[{},[],\"9007199254740992\"]"
unfolding digits
nested = refl

-- a quotation mark, and a byte that is not UTF-8
in_name : json_text (name (0x22 ∷ 0xff ∷ 0x61 ∷ [])) ≡ codes "\"\\\"\\ufffda\""
in_name = refl

from_name : name_read (0x22 ∷ 0xff ∷ 0xc2 ∷ 0x85 ∷ 0x61 ∷ []) ≡ 0x22 ∷ 0xef ∷ 0xbf ∷ 0xbd ∷ 0xc2 ∷ 0x85 ∷ 0x61 ∷ []
unfolding Rattle.std.specs.Char.encode_utf8
from_name = refl
