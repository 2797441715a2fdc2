-- The lowest address of loaded segments.
use Rattle.std.proofs.Common.{◌≤◌, ℕ, Bool, true, false, List, [], ◌∷◌, arith}
use Rattle.std.specs.Prelude.{if◌then◌else◌}
use Rattle.std.proofs.Math.Nat.{min-le_right}
use Rattle.cfi_c.specs.declared.program_header.CfiProgramHeader.{CfiProgramHeader}
use Rattle.cfi_c.specs.LoadedImages.{is_type, lowest}

either : (b : Bool) (x y n : ℕ) → x ≤ n → y ≤ n → (if b then x else y) ≤ n
either true x y n here there = here
either false x y n here there = there

pub is_address : (headers : List CfiProgramHeader) → lowest headers ≤ 18446744073709551615
is_address [] = omega arith
is_address (header ∷ headers) =
    let rest : lowest headers ≤ 18446744073709551615 = is_address headers in
    either (is_type 1 header) _ _ _ (omega (arith, rest, min-le_right header.p_vaddr (lowest headers))) rest
