-- Objects of samples, and which are chosen, worked out from the definitions alone.
use Rattle.std.proofs.Common.{◌≡◌, ℕ, List, [], ◌∷◌, Option, Some, None, codes, refl, false, true}
use Rattle.std.specs.Prelude.{nat_le}
use Rattle.std.specs.Fmt.{digits}
use Rattle.std.specs.List.{filter}
use Rattle.cfi_perf.specs.Samples.{Sample}
use Rattle.cfi_stacks.specs.Choices.{chooses, everything, limited}
use Rattle.cfi_stacks.specs.SampleMembers.{sample_head}

abbrev of_thread : ℕ → Option ℕ → ℕ → List ℕ → Sample
of_thread tid cpu period event = record { pid = 17261; tid = tid; ip = 0; cpu = cpu; period = period; event = event; in_kernel = false; call_chain = None; copies_stack = true; user = record { registers = None; stack = [] } }

-- ---- samples as objects of JSON

with_quote : sample_head (Some (codes "a\"b")) 1000001999 (of_thread 8 (Some 2) 3 (codes "cpu-clock"))
    ≡ codes "{\"comm\":\"a\\\"b\",\"pid\":17261,\"tid\":8,\"cpu\":2,\"time\":\"1.000001999\",\"period\":3,\"event\":\"cpu-clock\",\"frames\":["
unfolding digits
with_quote = refl

-- ---- chosen samples

by_its_number : chooses (record everything { comm = Some (codes ":8"); tid = Some 8; from = Some 5; until = Some 5 }) None 5 (of_thread 8 None 1 []) ≡ true
unfolding digits
by_its_number = refl

too_late : chooses (record everything { until = Some 4 }) None 5 (of_thread 8 None 1 []) ≡ false
too_late = refl

first_two : limited (Some 2) (filter (λ n. nat_le 2 n) (1 ∷ 2 ∷ 3 ∷ 4 ∷ [])) ≡ 2 ∷ 3 ∷ []
first_two = refl
