use Rattle.std.proofs.Common.{arith, refl}
use Rattle.gimli_cfi.proofs.hdr.iter.EhHdrTableIterIterator.size_hint.Goals as goal

pub returns-clause-lower : goal.returns-clause-lower
returns-clause-lower g c = λ _. omega arith

pub returns-clause-upper : goal.returns-clause-upper
returns-clause-upper g c = (tt, omega arith)

pub returns-clause-exact : goal.returns-clause-exact
returns-clause-exact g c = refl
