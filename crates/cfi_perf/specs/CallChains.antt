-- The call chain of a sample (perf_event_open(2), PERF_SAMPLE_CALLCHAIN; enum
-- perf_callchain_context).
--     chain_view chain      what a `CallChain` of the code is
--     in_context wanted context chain      the addresses of one context, where the chain begins in
--         another
--     addresses_left walk      those that an iterator of the code has left
use Rattle.std.specs.Prelude.{ℕ, ◌/◌, ◌==◌, Bool, List, [], ◌∷◌, ◌++◌, length, nat_le, Option, Some}
use Rattle.std.specs.Prelude.{None, if◌then◌else◌}
use Rattle.std.specs.Int.{w64}
use Rattle.cfi_read_core.specs.ByteOrder.{is_big}
use Rattle.cfi_read_core.specs.Numbers.{unsigned}
use Rattle.cfi_read_core.specs.SliceReaders.{slice_over, slice_position}
use Rattle.cfi_perf.specs.declared.call_chain.Addresses.{Addresses}
use Rattle.cfi_perf.specs.declared.call_chain.CallChain.{CallChain}
use Rattle.cfi_perf.specs.ByteReads.{entries, numbers_of}

-- from the innermost call out
abbrev pub chain_view : CallChain → List ℕ
chain_view chain = numbers_of (is_big chain.endian) chain.bytes.now

-- ---- contexts, as numbers of 64 bits: -128, -512 and -4095

abbrev pub PERF_CONTEXT_KERNEL : ℕ
PERF_CONTEXT_KERNEL = 0xffffffffffffff80

abbrev pub PERF_CONTEXT_USER : ℕ
PERF_CONTEXT_USER = 0xfffffffffffffe00

abbrev pub PERF_CONTEXT_MAX : ℕ
PERF_CONTEXT_MAX = 0xfffffffffffff001

-- an entry from PERF_CONTEXT_MAX on is the context of those that follow it
abbrev pub in_context : ℕ → ℕ → List ℕ → List ℕ
in_context wanted context [] = []
in_context wanted context (entry ∷ chain) =
    if nat_le PERF_CONTEXT_MAX entry then in_context wanted entry chain
    else if context == wanted then entry ∷ in_context wanted context chain
    else in_context wanted context chain

-- ---- the iterator of the code

abbrev pub chain_left : Addresses → List ℕ
chain_left walk =
    let now = slice_position is_big walk.entries in
    in_context walk.wanted walk.context (entries walk.left (unsigned w64) now.source now.place)

abbrev pub at_first : Option ℕ → List ℕ
at_first None = []
at_first (Some address) = address ∷ []

abbrev pub addresses_left : Addresses → List ℕ
addresses_left walk = at_first walk.first ++ chain_left walk
