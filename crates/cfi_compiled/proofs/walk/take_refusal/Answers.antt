use Rattle.std.proofs.Common.{arith}
use Rattle.std.proofs.lemmas.Result.{on_ok_weaker}
use Rattle.cfi_compiled.proofs.Grown.{if_ok}
use Rattle.cfi_compiled.proofs.walk.take_refusal.Goals as goal

pub error-requires : goal.error-requires
error-requires g c = omega arith

pub returns-in_default : goal.returns-in_default
returns-in_default g c = record {
  due = if_ok c.error.result c.in_default.not-OutOfMemory;
  before = on_ok_weaker c.error.result (λ same a low. same a (omega (arith, low))) c.error.ensures.before;
  after = c.error.ensures.after;
  free = c.error.ensures.free;
}
