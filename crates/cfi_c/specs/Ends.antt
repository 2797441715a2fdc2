-- Why there are no more frames, or no caller, as C gets it.
--     failed_end e      the end where no caller is found
--     written_end end      why there are no more frames
--     end_by caller      why there is no caller, or that there is one
--     no_context      the end without a context
use Rattle.std.specs.Prelude.{ℕ, pos, Option, Some, None, Result, Ok, Err}
use Rattle.std.specs.Int.{cast_unsigned, w16}
use Rattle.cfi_read_core.specs.RefusalNames.{value_of}
use Rattle.cfi_read_core.specs.declared.error.Error.{Error}
use Rattle.cfi_expression.specs.declared.error.FrameError.{FrameError}
use Rattle.cfi_expression.specs.declared.error.FrameError.TheVariants as failed
use Rattle.cfi_step.specs.declared.step.Caller.{Caller}
use Rattle.cfi_step.specs.declared.walk.End.{End}
use Rattle.cfi_step.specs.declared.walk.End.TheVariants as ends
use Rattle.cfi_c.specs.declared.end.CfiEnd.{CfiEnd}
use Rattle.cfi_c.specs.Refusals.{error_status}

abbrev pub plain_end : ℕ → ℕ → CfiEnd
plain_end kind refused = record { refused = refused; kind = kind; status = pos 0 }

-- an error of the sections
abbrev pub refused_end : ℕ → Error → CfiEnd
refused_end kind e = record { refused = value_of e; kind = kind; status = error_status e }

abbrev pub failed_end : FrameError → CfiEnd
failed_end (failed.NoRow e) = refused_end 4 e
failed_end (failed.Unreadable e) = refused_end 5 e
failed_end (failed.UnsupportedOperation opcode) = plain_end 6 opcode
failed_end (failed.UnsupportedSize size) = plain_end 7 size
failed_end (failed.UnknownRegister r) = plain_end 8 r.0
failed_end (failed.UnreadableMemory a) = plain_end 9 a
failed_end failed.NotEnoughStackItems = plain_end 10 0
failed_end failed.StackFull = plain_end 11 0
failed_end failed.DivisionByZero = plain_end 12 0
failed_end (failed.BadBranchTarget distance) = plain_end 13 (cast_unsigned w16 distance)
failed_end failed.TooManyIterations = plain_end 14 0
failed_end failed.ArchitecturalRule = plain_end 15 0

abbrev pub written_end : End → CfiEnd
written_end ends.Outermost = plain_end 0 0
written_end ends.NoModule = plain_end 1 0
written_end ends.NotRising = plain_end 2 0
written_end ends.NoRoom = plain_end 3 0
written_end (ends.Failed e) = failed_end e

abbrev pub no_context : CfiEnd
no_context = record { refused = 0; kind = 16; status = pos 64 }

-- 17: there is a caller
abbrev pub end_at : Option ℕ → CfiEnd
end_at (Some pc) = plain_end 17 0
end_at None = plain_end 0 0

abbrev pub end_by : Result Caller FrameError → CfiEnd
end_by (Ok c) = end_at c.pc
end_by (Err e) = failed_end e
