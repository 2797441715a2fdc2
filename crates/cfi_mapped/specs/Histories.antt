-- What is mapped where in the processes of a profile, after changes one after the other.
--     Change      a mapping into a process; a process that runs another program; a process that
--         another one made
--     mappings_after change before pid      what is mapped in a process after a change
--     places_after changes pid a      to which place of which file an address of a process belongs
--         after changes, the first of which comes first: by the last one that counts
use Rattle.std.specs.Prelude.{ℕ, ◌==◌, ◌&&◌, List, [], ◌∷◌, Option, Some, None, reverse}
use Rattle.std.specs.Prelude.{if◌then◌else◌}
use Rattle.cfi_mapped.specs.declared.mappings.MappedCode.{MappedCode}
use Rattle.cfi_mapped.specs.Mappings.{MappedPlace, has_byte_at, mapped_over, mapped_place}

-- a thread is made in the process that makes it
pub data Change : Type 0 where
  mapped : (pid : ℕ) (new : MappedCode) → Change
  executed : (pid : ℕ) → Change
  forked : (pid parent : ℕ) → Change

abbrev pub mappings_after : Change → (ℕ → List MappedCode) → ℕ → List MappedCode
mappings_after (mapped pid new) before q = if q == pid then mapped_over new (before q) else before q
mappings_after (executed pid) before q = if q == pid then [] else before q
mappings_after (forked pid parent) before q = if q == pid then before parent else before q

-- looking back from the last change, which comes first here
abbrev pub place_back : List Change → ℕ → ℕ → Option MappedPlace
place_back [] q a = None
place_back (mapped pid new ∷ past) q a =
    if q == pid && has_byte_at new a then Some (mapped_place new a) else place_back past q a
place_back (executed pid ∷ past) q a = if q == pid then None else place_back past q a
place_back (forked pid parent ∷ past) q a =
    if q == pid then place_back past parent a else place_back past q a

abbrev pub places_after : List Change → ℕ → ℕ → Option MappedPlace
places_after changes q a = place_back (reverse changes) q a
