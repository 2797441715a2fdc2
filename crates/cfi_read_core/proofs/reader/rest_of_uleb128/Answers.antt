use Rattle.std.proofs.Common.{◌≡◌, ◌≤◌, ◌%◌, ℕ, refl, ap, ◌∙◌, arith, ⊎_elim}
use Rattle.std.proofs.lemmas.Result.{err_from_is_err_and}
use Rattle.cfi_read_core.specs.ReadFunctions.{rest}
use Rattle.cfi_read_core.specs.ReaderCalls.{one_back}
use Rattle.cfi_read_core.proofs.Leb128.{left_gives, after_first, reads_refused, reads_too_large, reads_last, reads_on, sum_fits, product_fits, before_tenth, weight_grows, bounded, one_more}
use Rattle.cfi_read_core.proofs.reader.rest_of_uleb128.Goals as goal

pub loop-index-init : goal.loop-index-init
loop-index-init g c =
    let here = g.R.Reader.position c.args.input.now in
    let sound = g.met.R.Reader.sound c.args.input.now in
    let low : c.from-value.result ≡ c.args.first % 128 = c.from-value.ensures in
    record {
      number = ap (λ (v : ℕ). left_gives 8 128 v (rest here.source here.place) here.place) low ∙ after_first here.source sound.within here.place c.args.first c.requires.first.0 c.requires.goes_on;
      same = refl;
      weighs = refl;
      bound = omega arith;
      few = omega arith;
    }

pub returns-in_err-byte : goal.returns-in_err-byte
returns-in_err-byte g c =
    let p = err_from_is_err_and c.from_residual.result c.from_residual.ensures.1 in
    let i = c.loop-index.invariant in
    rw (p.1, p.2) (reads_refused (one_back (g.R.Reader.position c.args.input.now)) _ (g.met.R.Reader.sound c.loop-index.input) i.same c.loop-index.index c.loop-index.weight c.loop-index.value i.number _ _ c.in_err-byte.ensures)

pub returns-then-byte-gt1 : goal.returns-then-byte-gt1
returns-then-byte-gt1 g c =
    let i = c.loop-index.invariant in
    reads_too_large (one_back (g.R.Reader.position c.args.input.now)) _ (g.met.R.Reader.sound c.loop-index.input) i.same c.loop-index.index c.loop-index.weight c.loop-index.value i.number c.in_ok-byte.byte _ c.in_ok-byte.ensures c.if-index-eq9.true c.if-byte-gt1.true

pub overflow_mul-value : goal.overflow_mul-value
overflow_mul-value g c =
    let i = c.loop-index.invariant in
    let tenth : c.loop-index.index ≡ 9 → c.in_ok-byte.byte ≤ 1 = λ e. ⊎_elim (λ both. both.1) (λ other. absurd (other e)) c.else-index-eq9.either in
    omega (arith, product_fits c.loop-index.index c.loop-index.weight c.loop-index.value c.in_ok-byte.byte c.from.result i.few i.weighs i.bound tenth c.from.ensures)

pub overflow_add-value : goal.overflow_add-value
overflow_add-value g c =
    let i = c.loop-index.invariant in
    let tenth : c.loop-index.index ≡ 9 → c.in_ok-byte.byte ≤ 1 = λ e. ⊎_elim (λ both. both.1) (λ other. absurd (other e)) c.else-index-eq9.either in
    omega (arith, sum_fits c.loop-index.index c.loop-index.weight c.loop-index.value c.in_ok-byte.byte c.from.result i.few i.weighs i.bound tenth c.from.ensures)

pub returns-then-byte-lt128 : goal.returns-then-byte-lt128
returns-then-byte-lt128 g c =
    let i = c.loop-index.invariant in
    let tenth : c.loop-index.index ≡ 9 → c.in_ok-byte.byte ≤ 1 = λ e. ⊎_elim (λ both. both.1) (λ other. absurd (other e)) c.else-index-eq9.either in
    reads_last (one_back (g.R.Reader.position c.args.input.now)) _ (g.met.R.Reader.sound c.loop-index.input) i.same c.loop-index.index c.loop-index.weight c.loop-index.value i.number c.in_ok-byte.byte c.from.result _ c.in_ok-byte.ensures c.if-byte-lt128.true i.few tenth c.from.ensures

pub overflow_mul-weight : goal.overflow_mul-weight
overflow_mul-weight g c =
    let i = c.loop-index.invariant in
    let tenth : c.loop-index.index ≡ 9 → c.in_ok-byte.byte ≤ 1 = λ e. ⊎_elim (λ both. both.1) (λ other. absurd (other e)) c.else-index-eq9.either in
    let before = before_tenth c.loop-index.index c.in_ok-byte.byte i.few tenth c.if-byte-lt128.false in
    omega (arith, (weight_grows c.loop-index.index c.loop-index.weight before i.weighs).1)

pub loop-index-preserved : goal.loop-index-preserved
loop-index-preserved g c =
    let i = c.loop-index.invariant in
    let tenth : c.loop-index.index ≡ 9 → c.in_ok-byte.byte ≤ 1 = λ e. ⊎_elim (λ both. both.1) (λ other. absurd (other e)) c.else-index-eq9.either in
    let before = before_tenth c.loop-index.index c.in_ok-byte.byte i.few tenth c.if-byte-lt128.false in
    record {
      number = reads_on (one_back (g.R.Reader.position c.args.input.now)) _ (g.met.R.Reader.sound c.loop-index.input) i.same c.loop-index.index c.loop-index.weight c.loop-index.value i.number c.in_ok-byte.byte c.from.result (g.R.Reader.position c.read_u8.new.self) c.in_ok-byte.ensures c.if-byte-lt128.false before c.from.ensures;
      same = c.in_ok-byte.ensures.1 ∙ i.same;
      weighs = (weight_grows c.loop-index.index c.loop-index.weight before i.weighs).0;
      bound = bounded c.loop-index.value c.loop-index.weight c.in_ok-byte.byte c.from.result i.bound c.from.ensures;
      few = one_more c.loop-index.index before;
    }
