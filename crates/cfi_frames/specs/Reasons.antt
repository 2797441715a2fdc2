-- Why a stack has no more frames, as it is printed.
--     reason_of end      the reason why a walk has no more frames; none where its last frame is the
--         outermost one
--     reason_without why      the reason why a sample has no frames
--     reason_for result      the reason by what was found of a stack
use Rattle.std.specs.Prelude.{List, ℕ, Option, Some, None, Result, Ok, Err, codes}
use Rattle.cfi_read_core.specs.declared.error.Error.{Error}
use Rattle.cfi_expression.specs.declared.error.FrameError.{FrameError}
use Rattle.cfi_expression.specs.declared.error.FrameError.TheVariants.{NoRow, Unreadable}
use Rattle.cfi_expression.specs.declared.error.FrameError.TheVariants.{UnsupportedOperation}
use Rattle.cfi_expression.specs.declared.error.FrameError.TheVariants.{UnsupportedSize}
use Rattle.cfi_expression.specs.declared.error.FrameError.TheVariants.{UnknownRegister}
use Rattle.cfi_expression.specs.declared.error.FrameError.TheVariants.{UnreadableMemory}
use Rattle.cfi_expression.specs.declared.error.FrameError.TheVariants.{NotEnoughStackItems}
use Rattle.cfi_expression.specs.declared.error.FrameError.TheVariants.{StackFull, DivisionByZero}
use Rattle.cfi_expression.specs.declared.error.FrameError.TheVariants.{BadBranchTarget}
use Rattle.cfi_expression.specs.declared.error.FrameError.TheVariants.{TooManyIterations}
use Rattle.cfi_expression.specs.declared.error.FrameError.TheVariants.{ArchitecturalRule}
use Rattle.cfi_step.specs.declared.walk.End.{End}
use Rattle.cfi_step.specs.declared.walk.End.TheVariants.{Outermost, NoModule, Failed, NotRising}
use Rattle.cfi_step.specs.declared.walk.End.TheVariants.{NoRoom}
use Rattle.cfi_step.specs.declared.walk.Walk.{Walk}
use Rattle.cfi_processes.specs.declared.sample_stack.NoFrames.{NoFrames}
use Rattle.cfi_processes.specs.declared.sample_stack.NoFrames.TheVariants.{NoRegisters, OtherAbi}
use Rattle.cfi_processes.specs.declared.sample_stack.NoFrames.TheVariants.{NoProgramCounter}
use Rattle.cfi_processes.specs.declared.sample_stack.NoFrames.TheVariants.{NoStackPointer}
use Rattle.cfi_frames.specs.declared.reasons.Reason.{Reason as ReasonOfCode}

-- the name of a variant, what it says in words, and the error of the call frames that it carries
pub record Reason : Type 0 where
  pub name : List ℕ
  pub words : List ℕ
  pub error : Option Error

abbrev pub reason_view : ReasonOfCode → Reason
reason_view reason =
    record { name = reason.name.now; words = reason.words.now; error = reason.error }

abbrev pub plain_reason : List ℕ → List ℕ → Reason
plain_reason name words = record { name = name; words = words; error = None }

abbrev pub reason_with_error : List ℕ → List ℕ → Error → Reason
reason_with_error name words error = record { name = name; words = words; error = Some error }

abbrev pub reason_of_error : FrameError → Reason
reason_of_error (NoRow error) =
    reason_with_error (codes "NoRow") (codes "the call frames have no row for this address") error
reason_of_error (Unreadable error) =
    reason_with_error (codes "Unreadable") (codes "the call frames can't be read") error
reason_of_error (UnsupportedOperation opcode) =
    plain_reason (codes "UnsupportedOperation") (codes "an expression has an unsupported operation")
reason_of_error (UnsupportedSize size) =
    plain_reason (codes "UnsupportedSize")
    (codes "an expression reads a number of an unsupported size")
reason_of_error (UnknownRegister register) =
    plain_reason (codes "UnknownRegister") (codes "a needed register isn't known")
reason_of_error (UnreadableMemory address) =
    plain_reason (codes "UnreadableMemory") (codes "needed memory isn't there")
reason_of_error NotEnoughStackItems =
    plain_reason (codes "NotEnoughStackItems") (codes "an expression takes more than it has")
reason_of_error StackFull =
    plain_reason (codes "StackFull") (codes "an expression needs more room than there is")
reason_of_error DivisionByZero =
    plain_reason (codes "DivisionByZero") (codes "an expression divides by zero")
reason_of_error (BadBranchTarget distance) =
    plain_reason (codes "BadBranchTarget") (codes "an expression branches out of itself")
reason_of_error TooManyIterations =
    plain_reason (codes "TooManyIterations") (codes "an expression has too many steps")
reason_of_error ArchitecturalRule =
    plain_reason (codes "ArchitecturalRule") (codes "the rule is architectural")

abbrev pub reason_of : End → Option Reason
reason_of Outermost = None
reason_of NoModule =
    Some (plain_reason (codes "NoModule") (codes "no file with call frames is mapped here"))
reason_of (Failed error) = Some (reason_of_error error)
reason_of NotRising =
    Some (plain_reason (codes "NotRising") (codes "the caller's frame isn't above this one"))
reason_of NoRoom =
    Some (plain_reason (codes "NoRoom") (codes "there are more frames than can be kept"))

abbrev pub reason_without : NoFrames → Reason
reason_without NoRegisters =
    plain_reason (codes "NoRegisters") (codes "the sample has no registers of user space")
reason_without (OtherAbi abi) =
    plain_reason (codes "OtherAbi") (codes "the registers aren't those of a 64-bit program")
reason_without NoProgramCounter =
    plain_reason (codes "NoProgramCounter") (codes "the program counter isn't known")
reason_without NoStackPointer =
    plain_reason (codes "NoStackPointer") (codes "the stack pointer isn't known")

-- why the walk has no more frames, or none
abbrev pub reason_for : Result Walk NoFrames → Option Reason
reason_for (Ok walk) = reason_of walk.end
reason_for (Err why) = Some (reason_without why)
