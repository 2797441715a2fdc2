-- The frames of a stack as values.
--     Frame, frame_view      its address, whose code it is in and where that is, and that of the
--         code
--     frame_site kind with_functions files list a      where an address of a process or of the
--         kernel is, where this is mapped; with the function or without it
--     walked_frame with_functions files list frame      a frame that a walk found
--     called_frame kind with_functions files list a      a frame of a call chain
use Rattle.std.specs.Prelude.{ℕ, Bool, false, List, if◌then◌else◌}
use Rattle.cfi_mapped.specs.declared.mappings.MappedCode.{MappedCode}
use Rattle.cfi_step.specs.declared.walk.StackFrame.{StackFrame}
use Rattle.cfi_step.specs.Steps.{row_address}
use Rattle.cfi_processes.specs.declared.frames.Frame.{Frame as FrameOfCode}
use Rattle.cfi_processes.specs.declared.frames.FrameKind.{FrameKind}
use Rattle.cfi_processes.specs.declared.frames.FrameKind.TheVariants.{Kernel, User}
use Rattle.cfi_processes.specs.KernelSites.{kernel_site}
use Rattle.cfi_processes.specs.KnownFiles.{KnownFile}
use Rattle.cfi_processes.specs.Sites.{Site, site_of, site_view, without_function}

pub record Frame : Type 0 where
  pub address : ℕ
  pub kind : FrameKind
  pub is_interrupted : Bool
  pub site : Site

abbrev pub frame_view : FrameOfCode → Frame
frame_view frame = record {
  address = frame.address;
  kind = frame.kind;
  is_interrupted = frame.is_interrupted;
  site = site_view frame.site;
}

abbrev pub full_site : FrameKind → List KnownFile → List MappedCode → ℕ → Site
full_site User files list a = site_of files list a
full_site Kernel files list a = kernel_site files list a

abbrev pub frame_site : FrameKind → Bool → List KnownFile → List MappedCode → ℕ → Site
frame_site kind with_functions files list a =
    if with_functions then full_site kind files list a
    else without_function (full_site kind files list a)

-- looked up as its row is: by a return address less one, unless it was interrupted
abbrev pub walked_frame : Bool → List KnownFile → List MappedCode → StackFrame → Frame
walked_frame with_functions files list frame =
    let address = row_address frame.pc frame.is_interrupted in
    record {
      address = address;
      kind = User;
      is_interrupted = frame.is_interrupted;
      site = frame_site User with_functions files list address;
    }

-- by the address that stands in the chain, as perf script does
abbrev pub called_frame : FrameKind → Bool → List KnownFile → List MappedCode → ℕ → Frame
called_frame kind with_functions files list a = record {
  address = a;
  kind = kind;
  is_interrupted = false;
  site = frame_site kind with_functions files list a;
}
