-- Frames and reasons as they are printed in JSON, worked out from the definitions alone.
use Rattle.std.proofs.Common.{◌≡◌, [], ◌∷◌, ◌++◌, Some, None, Ok, codes, refl, false, true}
use Rattle.std.specs.Fmt.{digits}
use Rattle.cfi_read_core.specs.declared.error.Error.TheVariants.{NoUnwindInfoForAddress}
use Rattle.cfi_expression.specs.declared.error.FrameError.TheVariants.{NoRow}
use Rattle.cfi_processes.specs.declared.frames.FrameKind.TheVariants.{Kernel, User}
use Rattle.cfi_step.specs.declared.walk.End.TheVariants.{Failed}
use Rattle.cfi_frames.specs.Reasons.{reason_for}
use Rattle.cfi_frames.specs.FrameJson.{frames_json, object_end}

two_frames : frames_json (record { raw = false; with_address = false })
    (record { address = 0x12; kind = Kernel; is_interrupted = false; site = record { place = 0x12; function = None; file = None } }
    ∷ record { address = 0x7034; kind = User; is_interrupted = true; site = record { place = 0x34; function = Some (record { name = codes "f"; offset = 18 }); file = Some (codes "/a") } } ∷ [])
    ≡ codes "{\"place\":\"0x12\",\"kernel\":true},{\"place\":\"0x34\",\"function\":\"f\",\"offset\":18,\"file\":\"/a\"}"
unfolding digits
two_frames = refl

with_its_address : frames_json (record { raw = true; with_address = true }) (record { address = 0x70c6; kind = User; is_interrupted = true; site = record { place = 0xc6; function = None; file = Some (codes "[vdso]") } } ∷ [])
    ≡ codes "{\"address\":\"0x70c6\",\"place\":\"0xc6\",\"file\":\"[vdso]\"}"
unfolding digits
with_its_address = refl

without_a_row : object_end (reason_for (Ok (record { count = 1; end = Failed (NoRow NoUnwindInfoForAddress) }))) ≡ codes "],\"end\":\"NoRow\"}" ++ 10 ∷ []
without_a_row = refl
