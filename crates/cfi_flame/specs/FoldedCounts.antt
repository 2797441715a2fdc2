-- Samples that are counted by their stacks.
--     counted frames samples      the sum of the counts of the samples that have this stack, if any
--     AreCounted samples folded      each stack of the samples once, with that sum
--     line_text stack      its line: the stack, a space and the number
use Rattle.std.specs.Prelude.{◌≡◌, ◌<◌, ◌^◌, ℕ, ◌+◌, List, [], ◌∷◌, ◌++◌, Option, Some, None, codes}
use Rattle.std.specs.Prelude.{decimal, map, unwrap_or, if◌then◌else◌}
use Rattle.std.specs.Cmp.Lexicographic.{slice_cmp}
use Rattle.std.specs.List.Sorted.{IsStrictlySortedBy}
use Rattle.std.specs.Ordering.{nat_cmp}
use Rattle.std.specs.Str.{bytes_eq}
use Rattle.cfi_flame.specs.declared.counts.StackCounts.{StackCounts}
use Rattle.cfi_flame.specs.declared.folded.FoldedError.{FoldedError}
use Rattle.cfi_flame.specs.declared.folded.FoldedError.TheVariants.{OutOfMemory, NotFolded}
use Rattle.cfi_flame.specs.declared.folded.FoldedError.TheVariants.{NoSamples, TooManySamples}
use Rattle.cfi_flame.specs.FoldedStacks.{Stack}

-- ---- how many samples a stack has

-- none of them has it where it is `None`
abbrev pub counted : List ℕ → List Stack → Option ℕ
counted frames [] = None
counted frames (sample ∷ samples) =
    if bytes_eq frames sample.frames
    then Some (sample.count + unwrap_or (counted frames samples) 0)
    else counted frames samples

-- Each different stack stands once, in the order of their bytes, with the samples that have it.
pub record AreCounted (samples folded : List Stack) : Type 0 where
  pub ordered : IsStrictlySortedBy (slice_cmp nat_cmp) (map (λ stack. stack.frames) folded)
  pub sums : (frames : List ℕ) → counted frames folded ≡ counted frames samples

abbrev pub counted_in : StackCounts → List Stack
counted_in all =
    map (λ entry. record { frames = entry.0.items; count = entry.1 }) all.counts.entries

-- one more sample was counted, whichever those before were
abbrev pub CountsMore : List ℕ → ℕ → List Stack → List Stack → Type 0
CountsMore frames count old new =
    (samples : List Stack) → AreCounted samples old →
    AreCounted (samples ++ record { frames = frames; count = count } ∷ []) new

-- ---- why a sample wasn't counted

abbrev pub IsNotRaised : ℕ → ℕ → FoldedError → Type 0
IsNotRaised known count OutOfMemory = Unit {0}
IsNotRaised known count (NotFolded number) = ⊥
IsNotRaised known count NoSamples = ⊥
IsNotRaised known count TooManySamples = ¬ (known + count < 2 ^ 64)

-- with those that the stack had
abbrev pub IsNotAdded : List ℕ → ℕ → List Stack → FoldedError → Type 0
IsNotAdded frames count folded error =
    IsNotRaised (unwrap_or (counted frames folded) 0) count error

-- ---- their lines

abbrev pub line_text : Stack → List ℕ
line_text stack = stack.frames ++ (codes " " ++ (decimal stack.count ++ 10 ∷ []))
