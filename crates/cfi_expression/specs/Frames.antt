-- What an expression sees of a frame.
--     Frame, frame_view      a frame, and that of the code
--     known, register_in      the value of a register
--     number_at      the number at an address
use Rattle.std.specs.Prelude.{ℕ, ◌&&◌, nat_le, List, Option, None, Result, Err, ok_or}
use Rattle.std.specs.Prelude.{slice_index_or, if◌then◌else◌}
use Rattle.cfi_read_core.specs.declared.common.Register.{Register}
use Rattle.cfi_read_core.specs.Addresses.{is_sized}
use Rattle.cfi_read_core.specs.AddressSizes.{size_in_bytes}
use Rattle.cfi_expression.specs.declared.error.FrameError.{FrameError}
use Rattle.cfi_expression.specs.declared.error.FrameError.TheVariants.{UnsupportedSize}
use Rattle.cfi_expression.specs.declared.error.FrameError.TheVariants.{UnknownRegister}
use Rattle.cfi_expression.specs.declared.error.FrameError.TheVariants.{UnreadableMemory}
use Rattle.cfi_expression.specs.declared.frame.Frame.{Frame as LentFrame}

pub record Frame : Type 0 where
  pub registers : List (Option ℕ)  -- the value of each register by its number, where it is known
  -- the number of so many bytes at an address, where they can be read
  pub memory : ℕ → ℕ → Option ℕ
  pub size : ℕ  -- of an address, in bytes

abbrev pub frame_view : {M : Type 0} → (M → ℕ → ℕ → Option ℕ) → LentFrame M → Frame
frame_view number_at frame = record {
  registers = frame.registers.now;
  memory = number_at frame.memory.now;
  size = size_in_bytes frame.address_size;
}

-- ---- registers and memory

abbrev pub known : List (Option ℕ) → ℕ → Option ℕ
known registers r = slice_index_or registers r None

abbrev pub register_in : Frame → Register → Result ℕ FrameError
register_in frame r = ok_or (known frame.registers r.0) (UnknownRegister r)

-- a number has 1, 2, 4 or 8 bytes, and is as wide as an address at most; a size of 3, 5, 6 or 7,
-- which DW_OP_deref_size may have (DWARF 5 section 2.5.1.3), is refused
abbrev pub number_at : Frame → ℕ → ℕ → Result ℕ FrameError
number_at frame a size =
    if is_sized size && nat_le size frame.size then ok_or (frame.memory a size) (UnreadableMemory a)
    else Err (UnsupportedSize size)
