-- The values of JSON (RFC 8259) that the objects of frames are the texts of.
--     frame_value style frame      that of a frame
--     frame_values style frames      those of the frames, in an array
--     FramesReadBack      the array of the frames is read as these values
--     stack_members style frames reason      the members of a stack with these frames, after those
--         of its thread: the frames, and why there are no more, if there is a reason
use Rattle.std.specs.Prelude.{ℕ, Bool, true, false, List, ◌++◌, Option, Some, None, codes, map}
use Rattle.cfi_elf.specs.FunctionPlaces.{Place}
use Rattle.cfi_processes.specs.declared.frames.FrameKind.{FrameKind}
use Rattle.cfi_processes.specs.declared.frames.FrameKind.TheVariants.{Kernel, User}
use Rattle.cfi_processes.specs.Frames.{Frame}
use Rattle.cfi_frames.specs.declared.frame_style.FrameStyle.{FrameStyle}
use Rattle.cfi_frames.specs.FrameJson.{frames_json, shown_function}
use Rattle.cfi_frames.specs.Reasons.{Reason}
use Rattle.cfi_json.specs.Json.{Json, address, array, flag, name, number, object, text}
use Rattle.cfi_json.specs.Json.{Members, no_members, member, IsReadAs}
use Rattle.cfi_json.specs.Printed.{items_of}

-- ---- the members of a frame, before those that follow

abbrev pub with_address : Bool → ℕ → Members → Members
with_address false a members = members
with_address true a members = member (codes "address") (address a) members

-- the name, and how far after its beginning
abbrev pub with_function : Option Place → Members → Members
with_function None members = members
with_function (Some place) members =
    member (codes "function") (name place.name)
    (member (codes "offset") (number place.offset) members)

abbrev pub with_file : Option (List ℕ) → Members → Members
with_file None members = members
with_file (Some file) members = member (codes "file") (name file) members

abbrev pub kind_members : FrameKind → Members
kind_members User = no_members
kind_members Kernel = member (codes "kernel") (flag true) no_members

-- raw: without the function
abbrev pub frame_members : FrameStyle → Frame → Members
frame_members style frame =
    with_address style.with_address frame.address
    (member (codes "place") (address frame.site.place)
    (with_function (shown_function style.raw frame.site.function)
    (with_file frame.site.file (kind_members frame.kind))))

-- ---- frames

abbrev pub frame_value : FrameStyle → Frame → Json
frame_value style frame = object (frame_members style frame)

abbrev pub frame_values : FrameStyle → List Frame → Json
frame_values style frames = array (items_of (map (frame_value style) frames))

-- as it stands in the object of a stack
abbrev pub frame_array : FrameStyle → List Frame → List ℕ
frame_array style frames = codes "[" ++ (frames_json style frames ++ codes "]")

abbrev pub FramesReadBack : Type 0
FramesReadBack =
    (style : FrameStyle) (frames : List Frame) →
    IsReadAs (frame_array style frames) (frame_values style frames)

-- ---- the last members of a stack

abbrev pub reason_members : Option Reason → Members
reason_members None = no_members
reason_members (Some reason) = member (codes "end") (text reason.name) no_members

abbrev pub stack_members : FrameStyle → List Frame → Option Reason → Members
stack_members style frames reason =
    member (codes "frames") (frame_values style frames) (reason_members reason)
