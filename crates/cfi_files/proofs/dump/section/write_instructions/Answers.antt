use Rattle.cfi_files.proofs.SendingLemmas.{grows_failed, grows_none, grows_passed, grows_then}
use Rattle.cfi_files.proofs.dump.section.write_instructions.Goals as goal

pub loop-instruction-init : goal.loop-instruction-init
loop-instruction-init g c = record {
  can_next = tt;
  is_finite = tt;
  grows = grows_none _;
}

pub loop-instruction-preserved : goal.loop-instruction-preserved
loop-instruction-preserved g c = record {
  can_next = tt;
  is_finite = tt;
  grows = grows_then _ _ _ c.loop-instruction.invariant.grows (grows_passed _ _ _ _ _ c.in_ok-write_if_full.ensures);
}

pub returns-in_err-write_if_full : goal.returns-in_err-write_if_full
returns-in_err-write_if_full g c = grows_then _ _ _ c.loop-instruction.invariant.grows (grows_failed _ _ _ _ c.in_err-write_if_full.ensures)
