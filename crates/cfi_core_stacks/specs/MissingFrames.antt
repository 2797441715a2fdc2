-- Where no call frames have the address of a frame.
--     lacks_frames end      whether a walk ends for that
--     has_no_frames step      the same of a step
use Rattle.std.specs.Prelude.{Bool, true, false, Result, Ok, Err}
use Rattle.cfi_read_core.specs.declared.error.Error.{Error}
use Rattle.cfi_read_core.specs.declared.error.Error.TheVariants.{NoUnwindInfoForAddress}
use Rattle.cfi_expression.specs.declared.error.FrameError.{FrameError}
use Rattle.cfi_expression.specs.declared.error.FrameError.TheVariants.{NoRow}
use Rattle.cfi_step.specs.declared.step.Caller.{Caller}
use Rattle.cfi_step.specs.declared.walk.End.{End}
use Rattle.cfi_step.specs.declared.walk.End.TheVariants.{Failed, NoModule}

abbrev pub is_absent : Error → Bool
is_absent NoUnwindInfoForAddress = true
is_absent e = false

abbrev pub lacks_row : FrameError → Bool
lacks_row (NoRow e) = is_absent e
lacks_row e = false

-- no module has the address, or no FDE of the module has it
abbrev pub lacks_frames : End → Bool
lacks_frames NoModule = true
lacks_frames (Failed e) = lacks_row e
lacks_frames end = false

abbrev pub has_no_frames : Result Caller End → Bool
has_no_frames (Ok c) = false
has_no_frames (Err end) = lacks_frames end
