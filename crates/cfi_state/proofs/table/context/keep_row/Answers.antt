use Rattle.std.proofs.Common.{◌≡◌, ◌≢◌, Some, ap, subst, length, take, arith, inr}
use Rattle.std.proofs.lemmas.Result.{err_from_is_err_and}
use Rattle.cfi_state.proofs.Contexts.{kept-over, kept-appended}
use Rattle.cfi_state.proofs.table.context.keep_row.Goals as goal

pub returns-then-depth-as_slice-clause-ok : goal.returns-then-depth-as_slice-clause-ok
returns-then-depth-as_slice-clause-ok g c =
    kept-over (g.S-Stack-ArrayLike.items c.args.stack.now) (g.S-Stack-ArrayLike.items c.copy_over.new.stack) c.args.depth c.args.row.now (omega (arith, ap length c.as_slice.ensures.value)) c.in_ok-copy_over.ensures.ok

pub append_copy-requires : goal.append_copy-requires
append_copy-requires g c =
    let all : c.args.depth ≡ length (g.S-Stack-ArrayLike.items c.args.stack.now) = omega (arith, ap length c.as_slice.ensures.value, c.requires.within) in
    subst (λ n. g.S-Stack-ArrayLike.limit ≢ Some n) all c.requires.room

pub returns-clause-ok : goal.returns-clause-ok
returns-clause-ok g c =
    let all : c.args.depth ≡ length (g.S-Stack-ArrayLike.items c.args.stack.now) = omega (arith, ap length c.as_slice.ensures.value, c.requires.within) in
    rw c.as_slice-2.ensures.value
    (kept-appended (g.S-Stack-ArrayLike.items c.args.stack.now) (g.S-Stack-ArrayLike.items c.append_copy.new.stack) c.args.depth c.args.row.now all c.in_ok-append_copy.ensures.ok)

pub returns-in_err-copy_over-clause-err : goal.returns-in_err-copy_over-clause-err
returns-in_err-copy_over-clause-err g c =
    let p = err_from_is_err_and c.from_residual.result c.from_residual.ensures.1 in
    rw p.1 c.in_err-copy_over.ensures.err

pub returns-in_err-copy_over-clause-memory : goal.returns-in_err-copy_over-clause-memory
returns-in_err-copy_over-clause-memory g c =
    let p = err_from_is_err_and c.from_residual.result c.from_residual.ensures.1 in
    rw (p.1, p.2) (c.in_err-copy_over.ensures.memory.0, inr c.in_err-copy_over.ensures.memory.1)

pub returns-in_err-append_copy-clause-err : goal.returns-in_err-append_copy-clause-err
returns-in_err-append_copy-clause-err g c =
    let p = err_from_is_err_and c.from_residual-in_err-append_copy.result c.from_residual-in_err-append_copy.ensures.1 in
    let same = c.in_err-append_copy.ensures.err in
    rw p.1 (omega (arith, ap length same, c.requires.within), ap (take c.args.depth) same)

pub returns-in_err-append_copy-clause-memory : goal.returns-in_err-append_copy-clause-memory
returns-in_err-append_copy-clause-memory g c =
    let p = err_from_is_err_and c.from_residual-in_err-append_copy.result c.from_residual-in_err-append_copy.ensures.1 in
    rw (p.1, p.2) c.in_err-append_copy.ensures.memory
