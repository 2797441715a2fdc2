-- Input, by computation.
use Rattle.std.proofs.Common.{◌≡◌, [], ◌∷◌, ◌++◌, Some, None, refl, codes}
use Rattle.cfi_programs.specs.Input.{bytes_by}
use Rattle.cfi_programs.proofs.Computing.{computing}

spaces_are_ignored : bytes_by None (codes "0a 0B" ++ 13 ∷ 10 ∷ 9 ∷ codes "c" ++ codes " d") ≡ Some (record { section = 10 ∷ 11 ∷ 0xcd ∷ []; header = [] })
unfolding computing
spaces_are_ignored = refl

no_digit : bytes_by None (codes "0g") ≡ None
unfolding computing
no_digit = refl

header_behind_the_line : bytes_by (Some 0) (codes "0102" ++ 10 ∷ codes "03" ++ 10 ∷ codes "04") ≡ Some (record { section = 1 ∷ 2 ∷ []; header = 3 ∷ 4 ∷ [] })
unfolding computing
header_behind_the_line = refl

no_header : bytes_by (Some 0) (codes "0102") ≡ Some (record { section = 1 ∷ 2 ∷ []; header = [] })
unfolding computing
no_header = refl
