use Rattle.std.proofs.Common.{refl, sym, ◌∙◌, arith, ⊎_elim, inl, inr}
use Rattle.std.proofs.lemmas.Result.{err_from_is_err_and}
use Rattle.cfi_read_core.proofs.Leb128.{weight_grows, bounded, one_more, nine_turns}
use Rattle.cfi_read_core.proofs.SignedLeb128.{whole_number, reads_refused, reads_last, reads_on, reads_bad_tenth, reads_tenth, bad_tenth, sum_fits, product_fits, weight_room}
use Rattle.cfi_read_core.proofs.reader.Reader.read_sleb128.Goals as goal

pub loop-index-init : goal.loop-index-init
loop-index-init g c = record { number = sym (whole_number _ _); same = refl; weighs = refl; bound = omega arith; few = omega arith }

pub returns-in_err-byte : goal.returns-in_err-byte
returns-in_err-byte g c =
    let p = err_from_is_err_and c.from_residual.result c.from_residual.ensures.1 in
    let i = c.loop-index.invariant in
    rw (p.1, p.2) (reads_refused (g.Self.Reader.position c.args.self.now) _ (g.met.Self.Reader.sound c.loop-index.self) i.same c.loop-index.index c.loop-index.weight c.loop-index.value i.number _ (g.Self.Reader.position c.read_u8.new.self) c.in_err-byte.ensures)

pub overflow_mul-value : goal.overflow_mul-value
overflow_mul-value g c =
    let i = c.loop-index.invariant in
    omega (arith, product_fits c.loop-index.index c.loop-index.weight c.loop-index.value c.in_ok-byte.byte c.from.result c.loop-index-test.true i.weighs i.bound c.from.ensures)

pub overflow_add-value : goal.overflow_add-value
overflow_add-value g c =
    let i = c.loop-index.invariant in
    omega (arith, sum_fits c.loop-index.index c.loop-index.weight c.loop-index.value c.in_ok-byte.byte c.from.result c.loop-index-test.true i.weighs i.bound c.from.ensures)

pub overflow_mul-weight : goal.overflow_mul-weight
overflow_mul-weight g c = omega (arith, (weight_grows c.loop-index.index c.loop-index.weight c.loop-index-test.true c.loop-index.invariant.weighs).1)

pub with_sign-requires-clause-below : goal.with_sign-requires-clause-below
with_sign-requires-clause-below g c = bounded c.loop-index.value c.loop-index.weight c.in_ok-byte.byte c.from.result c.loop-index.invariant.bound c.from.ensures

pub with_sign-requires-clause-room : goal.with_sign-requires-clause-room
with_sign-requires-clause-room g c =
    let i = c.loop-index.invariant in
    weight_room c.loop-index.index c.loop-index.weight c.loop-index.value c.in_ok-byte.byte c.loop-index-test.true i.weighs i.bound

pub returns-then-byte-lt128 : goal.returns-then-byte-lt128
returns-then-byte-lt128 g c =
    let i = c.loop-index.invariant in
    reads_last (g.Self.Reader.position c.args.self.now) _ (g.met.Self.Reader.sound c.loop-index.self) i.same c.loop-index.index c.loop-index.weight c.loop-index.value i.number c.in_ok-byte.byte c.from.result c.with_sign.result _ c.in_ok-byte.ensures
    c.if-byte-lt128.true c.loop-index-test.true i.weighs i.bound c.from.ensures c.with_sign.ensures

pub loop-index-preserved : goal.loop-index-preserved
loop-index-preserved g c =
    let i = c.loop-index.invariant in
    record {
      number =
          reads_on (g.Self.Reader.position c.args.self.now) _ (g.met.Self.Reader.sound c.loop-index.self) i.same c.loop-index.index c.loop-index.weight c.loop-index.value i.number c.in_ok-byte.byte c.from.result
          (g.Self.Reader.position c.read_u8.new.self) c.in_ok-byte.ensures c.if-byte-lt128.false c.loop-index-test.true c.from.ensures;
      same = c.in_ok-byte.ensures.1 ∙ i.same;
      weighs = (weight_grows c.loop-index.index c.loop-index.weight c.loop-index-test.true i.weighs).0;
      bound = bounded c.loop-index.value c.loop-index.weight c.in_ok-byte.byte c.from.result i.bound c.from.ensures;
      few = one_more c.loop-index.index c.loop-index-test.true;
    }

pub returns-in_err-tenth : goal.returns-in_err-tenth
returns-in_err-tenth g c =
    let p = err_from_is_err_and c.from_residual-in_err-tenth.result c.from_residual-in_err-tenth.ensures.1 in
    let i = c.loop-index.invariant in
    rw (p.1, p.2) (reads_refused (g.Self.Reader.position c.args.self.now) _ (g.met.Self.Reader.sound c.loop-index.self) i.same c.loop-index.index c.loop-index.weight c.loop-index.value i.number _ _ c.in_err-tenth.ensures)

pub returns-then-tenth-ne127 : goal.returns-then-tenth-ne127
returns-then-tenth-ne127 g c =
    let i = c.loop-index.invariant in
    let nine = nine_turns c.loop-index.index i.few c.loop-index-test.false in
    reads_bad_tenth (g.Self.Reader.position c.args.self.now) _ (g.met.Self.Reader.sound c.loop-index.self) i.same c.loop-index.index c.loop-index.weight c.loop-index.value i.number c.in_ok-tenth.tenth _ c.in_ok-tenth.ensures
    nine (bad_tenth c.in_ok-tenth.tenth c.if-tenth-ne0.true c.if-tenth-ne127.true)

pub returns : goal.returns
returns g c =
    let i = c.loop-index.invariant in
    let nine = nine_turns c.loop-index.index i.few c.loop-index-test.false in
    reads_tenth (g.Self.Reader.position c.args.self.now) _ (g.met.Self.Reader.sound c.loop-index.self) i.same c.loop-index.index c.loop-index.weight c.loop-index.value i.number c.in_ok-tenth.tenth c.with_sign-2.result _ c.in_ok-tenth.ensures
    nine i.weighs i.bound (⊎_elim (λ ones. inr ones.1) (λ none. inl none) c.else-tenth-ne0.either) c.with_sign-2.ensures
