-- The objects of stacks as values, and their texts, by computation.
use Rattle.std.proofs.Common.{◌≡◌, true, false, [], ◌∷◌, Some, None, codes, refl}
use Rattle.std.specs.Fmt.{digits}
use Rattle.cfi_processes.specs.declared.frames.FrameKind.TheVariants.{Kernel, User}
use Rattle.cfi_json.specs.Json.{json_text}
use Rattle.cfi_json.specs.SampleValues.{sample_value}
use Rattle.cfi_json.specs.ThreadValues.{thread_value}

-- of a thread without a name
a_sample : json_text (sample_value false (record {
  name = None;
  time = 1000001999;
  sample = record { pid = 17261; tid = 8; ip = 0; cpu = None; period = 3; event = codes "cycles"; in_kernel = true; call_chain = None; copies_stack = true; user = record { registers = None; stack = [] } };
  frames = record { address = 0x12; kind = Kernel; is_interrupted = true; site = record { place = 0x12; function = Some (record { name = codes "f"; offset = 2 }); file = None } } ∷ [];
  reason = Some (record { name = codes "NoRegisters"; words = []; error = None });
}))
    ≡ codes "{\"comm\":\":8\",\"pid\":17261,\"tid\":8,\"time\":\"1.000001999\",\"period\":3,\"event\":\"cycles\",\"frames\":[{\"place\":\"0x12\",\"function\":\"f\",\"offset\":2,\"kernel\":true}],\"end\":\"NoRegisters\"}"
unfolding digits
a_sample = refl

-- at a fault, from the outermost frame on
a_thread : json_text (thread_value true (record {
  process = Some (codes "a");
  thread = record { tid = 7; signal = 11; fault = Some (record { code = 1; address = 0x10 }); registers = [] };
  frames = record { address = 0x70c6; kind = User; is_interrupted = true; site = record { place = 0xc6; function = None; file = Some (codes "/a") } } ∷ [];
  reason = None;
}))
    ≡ codes "{\"tid\":7,\"signal\":11,\"name\":\"SIGSEGV\",\"code\":1,\"fault\":\"0x10\",\"process\":\"a\",\"frames\":[{\"address\":\"0x70c6\",\"place\":\"0xc6\",\"file\":\"/a\"}]}"
unfolding digits
a_thread = refl
