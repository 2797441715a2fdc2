use Rattle.std.proofs.Common.{◌≡◌, ◌<◌, ◌+◌, ◌∷◌, [], false, length, drop, arith, rules}
use Rattle.std.specs.Prelude.{slice_index_or}
use Rattle.std.proofs.lemmas.List.{drop_more}
use Rattle.cfi_c.specs.declared.memory.CfiWindow.{CfiWindow}
use Rattle.cfi_c.proofs.EightBytes.{first_there}
use Rattle.cfi_c.proofs.first_window.FirstWindow.of.Goals as goal

pub returns : goal.returns
returns c = λ k inside.
    let memory = c.args.memory.now in
    let windows = memory.windows.now in
    let none : CfiWindow = record { base = 0; bytes = record { ref_ptr = (0, 0); now = [] } } in
    let window = slice_index_or windows 0 none in
    let size : memory.address_size ≡ 8 = search rules in
    let little : memory.big_endian ≡ false = search rules in
    let some : 0 < length windows = search rules in
    let whole : windows ≡ window ∷ drop (0 + 1) windows = drop_more windows 0 none some in
    first_there memory window (drop (0 + 1) windows) k size little whole (omega (arith, inside, c.places_in.ensures.0)) (omega (arith, inside, c.places_in.ensures.1))
