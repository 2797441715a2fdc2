use Rattle.std.proofs.Common.{◌≡◌, ◌∙◌, List, min, sym, subst, arith}
use Rattle.std.proofs.Math.Nat.{min-eq_left}
use Rattle.std.proofs.Math.ListN.{drop_of_length-le}
use Rattle.cfi_c.specs.declared.program_header.CfiProgramHeader.{CfiProgramHeader}
use Rattle.cfi_c.specs.LoadedImages.{lowest}
use Rattle.cfi_c.proofs.LoadedRanges.{is_address}
use Rattle.cfi_c.proofs.program_header.lowest.Goals as goal

pub loop-header-init : goal.loop-header-init
loop-header-init c = (omega (arith, is_address c.args.headers.now), omega arith)

pub returns : goal.returns
returns c =
    let least = c.loop-header.least in
    sym (min-eq_left c.loop-header.invariant.1)
    ∙ subst (λ (rest : List CfiProgramHeader). min least (lowest rest) ≡ lowest c.args.headers.now) (drop_of_length-le c.args.headers.now (omega (arith, c.loop-header-test.false))) c.loop-header.invariant.0
