-- The frames of a stack as objects of JSON (RFC 8259), and the end of the stack's object.
--     frame_json style frame      the object of a frame
--     frames_json style frames      those of the frames, with commas between them
--     object_end reason      what comes after the frames: why there are no more, if there is a
--         reason
use Rattle.std.specs.Prelude.{ℕ, Bool, true, List, [], ◌∷◌, ◌++◌, Option, Some, None, codes}
use Rattle.std.specs.Prelude.{if◌then◌else◌}
use Rattle.std.specs.List.{flat_map}
use Rattle.cfi_elf.specs.FunctionPlaces.{Place}
use Rattle.cfi_processes.specs.declared.frames.FrameKind.{FrameKind}
use Rattle.cfi_processes.specs.declared.frames.FrameKind.TheVariants.{Kernel, User}
use Rattle.cfi_processes.specs.Frames.{Frame}
use Rattle.cfi_processes.specs.Sites.{Site}
use Rattle.cfi_text.specs.JsonTexts.{json_name, json_number, separated}
use Rattle.cfi_text.specs.Lines.{address_text}
use Rattle.cfi_frames.specs.declared.frame_style.FrameStyle.{FrameStyle}
use Rattle.cfi_frames.specs.Reasons.{Reason}

-- ---- a frame

abbrev pub place_member : ℕ → List ℕ
place_member place = codes "\"place\":\"" ++ (address_text place ++ codes "\"")

-- the name, and how far after its beginning
abbrev pub function_members : Option Place → List ℕ
function_members None = []
function_members (Some place) =
    codes ",\"function\":\""
    ++ (json_name place.name ++ (codes "\",\"offset\":" ++ json_number place.offset))

abbrev pub file_member : Option (List ℕ) → List ℕ
file_member None = []
file_member (Some name) = codes ",\"file\":\"" ++ (json_name name ++ codes "\"")

-- raw: the function is left out
abbrev pub shown_function : Bool → Option Place → Option Place
shown_function raw function = if raw then None else function

-- where the function or the file isn't known, it is left out
abbrev pub site_json : Bool → Site → List ℕ
site_json raw site =
    place_member site.place
    ++ (function_members (shown_function raw site.function) ++ file_member site.file)

-- the address in the process
abbrev pub frame_address : ℕ → List ℕ
frame_address a = codes "{\"address\":\"" ++ (address_text a ++ codes "\",")

abbrev pub frame_opening : Bool → ℕ → List ℕ
frame_opening with_address a = if with_address then frame_address a else codes "{"

abbrev pub kind_closing : FrameKind → List ℕ
kind_closing User = codes "}"
kind_closing Kernel = codes ",\"kernel\":true}"

abbrev pub frame_json : FrameStyle → Frame → List ℕ
frame_json style frame =
    frame_opening style.with_address frame.address
    ++ (site_json style.raw frame.site ++ kind_closing frame.kind)

-- ---- the frames, after a comma each but the first

abbrev pub comma_before : Bool → List ℕ
comma_before is_first = if is_first then [] else codes ","

-- after a comma each
abbrev pub led_frames : FrameStyle → List Frame → List ℕ
led_frames style frames = flat_map (λ frame. codes "," ++ frame_json style frame) frames

abbrev pub frames_json : FrameStyle → List Frame → List ℕ
frames_json style frames = separated true (led_frames style frames)

-- ---- why a stack ends, and the end of its object

abbrev pub reason_member : Option Reason → List ℕ
reason_member None = []
reason_member (Some reason) = codes ",\"end\":\"" ++ (reason.name ++ codes "\"")

abbrev pub object_end : Option Reason → List ℕ
object_end reason = codes "]" ++ (reason_member reason ++ (codes "}" ++ 10 ∷ []))
