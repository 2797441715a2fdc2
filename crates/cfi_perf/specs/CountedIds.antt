-- The identification of a build in an entry or a record: room for 20 bytes, and how many it has.
--     counted_id count bytes      the identification in these bytes
--     count_at place bytes      how many bytes it has
use Rattle.std.specs.Prelude.{ℕ, List, length, take, Option, Some, None, slice_get, unwrap_or}
use Rattle.std.specs.Prelude.{◌==◌, if◌then◌else◌}

-- at most 20 of these bytes, as many as are counted; none where there are none
abbrev pub counted_id : ℕ → List ℕ → Option (List ℕ)
counted_id count bytes =
    let id = take count (take 20 bytes) in if length id == 0 then None else Some id

-- how many bytes an identification has, by the byte at this place; 0 where there is none
abbrev pub count_at : ℕ → List ℕ → ℕ
count_at place bytes = unwrap_or (slice_get bytes place) 0
