-- The objects of frames are the texts of their values.
use Rattle.std.proofs.Common.{◌≡◌, ◌∙◌, ℕ, Bool, true, false, List, [], ◌∷◌, ◌++◌, drop, Option, Some, None, Result, Ok, Err, codes, map, refl, sym, ap, append_assoc, arith}
use Rattle.std.specs.Prelude.{⊤}
use Rattle.cfi_elf.specs.FunctionPlaces.{Place}
use Rattle.cfi_text.specs.JsonTexts.{json_escaped, json_name, json_number, separated}
use Rattle.cfi_text.specs.Lines.{address_text}
use Rattle.cfi_expression.specs.declared.error.FrameError.{FrameError}
use Rattle.cfi_expression.specs.declared.error.FrameError.TheVariants as failed
use Rattle.cfi_step.specs.declared.walk.End.{End}
use Rattle.cfi_step.specs.declared.walk.End.TheVariants.{Outermost, NoModule, Failed, NotRising, NoRoom}
use Rattle.cfi_step.specs.declared.walk.Walk.{Walk}
use Rattle.cfi_processes.specs.declared.frames.FrameKind.{FrameKind}
use Rattle.cfi_processes.specs.declared.frames.FrameKind.TheVariants.{Kernel, User}
use Rattle.cfi_processes.specs.declared.sample_stack.NoFrames.{NoFrames}
use Rattle.cfi_processes.specs.declared.sample_stack.NoFrames.TheVariants.{NoRegisters, OtherAbi, NoProgramCounter, NoStackPointer}
use Rattle.cfi_processes.specs.Frames.{Frame}
use Rattle.cfi_frames.specs.declared.frame_style.FrameStyle.{FrameStyle}
use Rattle.cfi_frames.specs.FrameJson.{file_member, frame_json, frame_opening, frames_json, function_members, kind_closing, led_frames, object_end, place_member, reason_member, shown_function}
use Rattle.cfi_frames.specs.Reasons.{Reason, reason_for, reason_of, reason_of_error, reason_without}
use Rattle.cfi_json.specs.Json.{address, name, number, object, text, Members, no_members, member, json_text, items_text, members_text, NestsWithin}
use Rattle.cfi_json.specs.Printed.{items_of}
use Rattle.cfi_json.specs.FrameValues.{FramesReadBack, frame_array, frame_members, frame_value, frame_values, kind_members, reason_members, stack_members, with_address, with_file, with_function}
use Rattle.cfi_json.proofs.Building.{each_text, member_onto, onto}
use Rattle.cfi_json.proofs.Depths.{AreShallow, IsShallow, shallow_array, shallow_member, shallow_number, shallow_object}
use Rattle.cfi_json.proofs.Values.{reads_back}

-- ---- the text of a frame

-- what ends an object, after members that begin with a comma each
abbrev closed : Members → List ℕ
closed members = members_text members ++ codes "}"

kind_is : (kind : FrameKind) → kind_closing kind ≡ closed (kind_members kind)
kind_is User = refl
kind_is Kernel = refl

string_joined : (s r : List ℕ) → (s ++ codes "\"") ++ (r ++ codes "}") ≡ ((s ++ codes "\"") ++ r) ++ codes "}"
string_joined s r = simp append_assoc

file_is : (file : Option (List ℕ)) (x : List ℕ) (rest : Members) → x ≡ closed rest → file_member file ++ x ≡ closed (with_file file rest)
file_is None x rest h = h
file_is (Some file) x rest h = ap (λ (xs : List ℕ). file_member (Some file) ++ xs) h ∙ ap (λ (xs : List ℕ). codes ",\"file\":\"" ++ xs) (string_joined (json_name file) (members_text rest))

function_joined : (n o r : List ℕ) → (n ++ (codes "\",\"offset\":" ++ o)) ++ (r ++ codes "}") ≡ ((n ++ codes "\"") ++ (codes ",\"offset\":" ++ (o ++ r))) ++ codes "}"
function_joined n o r = simp append_assoc

function_is : (function : Option Place) (x : List ℕ) (rest : Members) → x ≡ closed rest → function_members function ++ x ≡ closed (with_function function rest)
function_is None x rest h = h
function_is (Some place) x rest h =
    ap (λ (xs : List ℕ). function_members (Some place) ++ xs) h
    ∙ ap (λ (xs : List ℕ). codes ",\"function\":\"" ++ xs) (function_joined (json_name place.name) (json_number place.offset) (members_text rest))

-- the place is there, so that no comma stands before the first member
place_is : (place : ℕ) (x : List ℕ) (rest : Members) → x ≡ closed rest → codes "," ++ (place_member place ++ x) ≡ closed (member (codes "place") (address place) rest)
place_is place x rest h =
    ap (λ (xs : List ℕ). codes "," ++ (place_member place ++ xs)) h ∙ ap (λ (xs : List ℕ). codes ",\"place\":\"" ++ xs) (string_joined (address_text place) (members_text rest))

address_joined : (a m : List ℕ) → (a ++ codes "\",") ++ m ≡ (a ++ codes "\"") ++ (codes "," ++ m)
address_joined a m = simp append_assoc

opened_is : (is_shown : Bool) (a place : ℕ) (x : List ℕ) (rest : Members) → codes "," ++ x ≡ closed (member (codes "place") (address place) rest) →
    frame_opening is_shown a ++ x ≡ json_text (object (with_address is_shown a (member (codes "place") (address place) rest)))
opened_is false a place x rest h = ap (λ (xs : List ℕ). codes "{" ++ drop 1 xs) h
opened_is true a place x rest h =
    ap (λ (xs : List ℕ). codes "{\"address\":\"" ++ xs) (address_joined (address_text a) x ∙ ap (λ (xs : List ℕ). (address_text a ++ codes "\"") ++ xs) h ∙ sym (append_assoc (address_text a ++ codes "\"") (members_text (member (codes "place") (address place) rest)) (codes "}")))

parts_joined : (o p f n k : List ℕ) → o ++ ((p ++ (f ++ n)) ++ k) ≡ o ++ (p ++ (f ++ (n ++ k)))
parts_joined o p f n k = simp append_assoc

pub frame_is : (style : FrameStyle) (frame : Frame) → frame_json style frame ≡ json_text (frame_value style frame)
frame_is style frame =
    let place = frame.site.place in
    let function = shown_function style.raw frame.site.function in
    let last = kind_closing frame.kind in
    let by_file = with_file frame.site.file (kind_members frame.kind) in
    let by_function = with_function function by_file in
    let behind = function_is function (file_member frame.site.file ++ last) by_file (file_is frame.site.file last (kind_members frame.kind) (kind_is frame.kind)) in
    parts_joined (frame_opening style.with_address frame.address) (place_member place) (function_members function) (file_member frame.site.file) last
    ∙ opened_is style.with_address frame.address place (place_member place ++ (function_members function ++ (file_member frame.site.file ++ last))) by_function
    (place_is place (function_members function ++ (file_member frame.site.file ++ last)) by_function behind)

pub frames_are : (style : FrameStyle) (frames : List Frame) → frame_array style frames ≡ json_text (frame_values style frames)
frames_are style frames =
    let led : led_frames style frames ≡ items_text (items_of (map (frame_value style) frames)) = each_text (frame_value style) (frame_json style) (frame_is style) frames in
    ap (λ (xs : List ℕ). codes "[" ++ (separated true xs ++ codes "]")) led

-- ---- how deep it nests

shallow_file : (file : Option (List ℕ)) (rest : Members) → AreShallow 0 rest → AreShallow 0 (with_file file rest)
shallow_file None rest h = h
shallow_file (Some file) rest h = shallow_member 0 (codes "file") (name file) rest (omega arith) h

shallow_function : (function : Option Place) (rest : Members) → AreShallow 0 rest → AreShallow 0 (with_function function rest)
shallow_function None rest h = h
shallow_function (Some place) rest h =
    let behind = member (codes "offset") (number place.offset) rest in
    shallow_member 0 (codes "function") (name place.name) behind (omega arith) (shallow_member 0 (codes "offset") (number place.offset) rest (shallow_number 0 place.offset) h)

shallow_kind : (kind : FrameKind) → AreShallow 0 (kind_members kind)
shallow_kind User = omega arith
shallow_kind Kernel = omega arith

shallow_address : (is_shown : Bool) (a : ℕ) (rest : Members) → AreShallow 0 rest → AreShallow 0 (with_address is_shown a rest)
shallow_address false a rest h = h
shallow_address true a rest h = shallow_member 0 (codes "address") (address a) rest (omega arith) h

shallow_frame : (style : FrameStyle) (frame : Frame) → IsShallow 1 (frame_value style frame)
shallow_frame style frame =
    let function = shown_function style.raw frame.site.function in
    let by_file = with_file frame.site.file (kind_members frame.kind) in
    let by_function = with_function function by_file in
    shallow_object 0 (frame_members style frame) (shallow_address style.with_address frame.address (member (codes "place") (address frame.site.place) by_function)
    (shallow_member 0 (codes "place") (address frame.site.place) by_function (omega arith) (shallow_function function by_file (shallow_file frame.site.file (kind_members frame.kind) (shallow_kind frame.kind)))))

pub shallow_frames : (style : FrameStyle) (frames : List Frame) → IsShallow 2 (frame_values style frames)
shallow_frames style frames = shallow_array 1 (frame_value style) (shallow_frame style) frames

pub frames_read : FramesReadBack
frames_read style frames =
    let shallow : NestsWithin (frame_values style frames) = omega (arith, shallow_frames style frames) in
    rw (frames_are style frames) (reads_back (frame_values style frames) shallow).alone

-- ---- why there are no more: no character of a reason's name is escaped

abbrev pub IsPlain : List ℕ → Type 0
IsPlain characters = json_escaped characters ≡ characters

abbrev pub HasPlainName : Option Reason → Type 0
HasPlainName None = ⊤
HasPlainName (Some reason) = IsPlain reason.name

plain_error : (error : FrameError) → IsPlain (reason_of_error error).name
plain_error (failed.NoRow error) = refl
plain_error (failed.Unreadable error) = refl
plain_error (failed.UnsupportedOperation opcode) = refl
plain_error (failed.UnsupportedSize size) = refl
plain_error (failed.UnknownRegister register) = refl
plain_error (failed.UnreadableMemory a) = refl
plain_error failed.NotEnoughStackItems = refl
plain_error failed.StackFull = refl
plain_error failed.DivisionByZero = refl
plain_error (failed.BadBranchTarget distance) = refl
plain_error failed.TooManyIterations = refl
plain_error failed.ArchitecturalRule = refl

plain_end : (end : End) → HasPlainName (reason_of end)
plain_end Outermost = tt
plain_end NoModule = refl
plain_end (Failed error) = plain_error error
plain_end NotRising = refl
plain_end NoRoom = refl

plain_without : (why : NoFrames) → IsPlain (reason_without why).name
plain_without NoRegisters = refl
plain_without (OtherAbi abi) = refl
plain_without NoProgramCounter = refl
plain_without NoStackPointer = refl

pub plain_reason : (result : Result Walk NoFrames) → HasPlainName (reason_for result)
plain_reason (Ok walk) = plain_end walk.end
plain_reason (Err why) = plain_without why

-- ---- the last members of a stack

reason_onto : (reason : Option Reason) (x : List ℕ) → HasPlainName reason → reason_member reason ++ x ≡ onto (reason_members reason) x
reason_onto None x h = refl
reason_onto (Some reason) x h = ap (λ (xs : List ℕ). codes ",\"end\":\"" ++ ((xs ++ codes "\"") ++ x)) (sym h)

pub stack_onto : (style : FrameStyle) (frames : List Frame) (reason : Option Reason) → HasPlainName reason → codes ",\"frames\":[" ++ (frames_json style frames ++ object_end reason) ≡ onto (stack_members style frames reason) (codes "}" ++ 10 ∷ [])
stack_onto style frames reason h =
    let closing : List ℕ = codes "}" ++ 10 ∷ [] in
    let y = reason_member reason ++ closing in
    ap (λ (xs : List ℕ). codes ",\"frames\":[" ++ xs) (sym (append_assoc (frames_json style frames) (codes "]") y))
    ∙ member_onto (codes "frames") (frame_array style frames) y (frame_values style frames) (reason_members reason) closing (sym (frames_are style frames)) (reason_onto reason closing h)

shallow_reason : (reason : Option Reason) → AreShallow 2 (reason_members reason)
shallow_reason None = omega arith
shallow_reason (Some reason) = shallow_member 2 (codes "end") (text reason.name) no_members (omega arith) (omega arith)

pub shallow_stack : (style : FrameStyle) (frames : List Frame) (reason : Option Reason) → AreShallow 2 (stack_members style frames reason)
shallow_stack style frames reason = shallow_member 2 (codes "frames") (frame_values style frames) (reason_members reason) (shallow_frames style frames) (shallow_reason reason)
