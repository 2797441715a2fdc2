-- What is right for a core file that was read.
use Rattle.std.proofs.Common.{◌≡◌, ◌∙◌, ◌⊎◌, ℕ, List, Option, Result, Ok, Err, sym, ap, subst, inl, inr}
use Rattle.cfi_text.specs.Lines.{Line}
use Rattle.cfi_text.specs.WriterOutput.{PrintsSome}
use Rattle.cfi_mapped.specs.declared.mappings.MappedCode.{MappedCode}
use Rattle.cfi_processes.specs.declared.registers.SampleMachine.{SampleMachine}
use Rattle.cfi_processes.specs.KnownFiles.{KnownFile}
use Rattle.cfi_mapped.specs.Wanted.{FilePlace}
use Rattle.cfi_cores.specs.declared.core_file.Core.{Core as CoreOfCode}
use Rattle.cfi_cores.specs.declared.error.CoreError.{CoreError}
use Rattle.cfi_cores.specs.declared.error.CoreError.TheVariants.{OutOfMemory}
use Rattle.cfi_cores.specs.CoreFiles.{Core, IsCore, IsCoreOf, core_of, core_view}
use Rattle.cfi_cores.specs.CoreThreads.{CoreThread}
use Rattle.cfi_core_stacks.specs.declared.listing.ThreadListing.{ThreadListing}
use Rattle.cfi_frames.specs.Outputs.{no_memory}
use Rattle.cfi_core_stacks.specs.CoreOutputs.{IsCoreOutput, IsOfCore, IsOfRead, core_refusal}
use Rattle.cfi_core_stacks.specs.ThreadOutputs.{IsThreadText}

module _ (listing : ThreadListing) {Handle : Type 0} (may_open : FilePlace → Option Handle → Type 0) (remaining : Handle → Option (List ℕ)) (bytes : List ℕ) (r : Result CoreOfCode CoreError) where
  abbrev IsOut : Line → Type 0
  IsOut = IsCoreOutput listing may_open remaining bytes

  -- what is right for the core is right for the bytes
  of_core : (core : CoreOfCode) → r ≡ Ok core → (x : Result Core CoreError) → IsCoreOf x r → (line : Line) → IsOfCore listing may_open remaining (core_view core) line → IsOfRead listing may_open remaining x line
  of_core core is (Ok found) (other, also, sorted) line of =
      let same : core ≡ other = (let both : Ok core ≡ Ok other = sym is ∙ also in cc) in
      (core_view other, sorted, subst (λ (c : CoreOfCode). IsOfCore listing may_open remaining (core_view c) line) same of)
  of_core core is (Err e) also line of = absurd (let both : Ok core ≡ Err e = sym is ∙ also in cc)

  pub printed_of_core : {E : Type 0} (core : CoreOfCode) (old new : Option (List ℕ)) (result : Result ℕ E) → r ≡ Ok core → IsCore bytes r
      → PrintsSome (λ line. IsOfCore listing may_open remaining (core_view core) line ⊎ (line ≡ no_memory listing.format)) old new result → PrintsSome IsOut old new result
  printed_of_core core old new result is (inl read) (printed, prints, inl of) = (printed, prints, inl (of_core core is (core_of bytes) read printed of))
  printed_of_core core old new result is (inl read) (printed, prints, inr none) = (printed, prints, inr none)
  printed_of_core core old new result is (inr refused) prints = absurd (let both : Ok core ≡ Err OutOfMemory = sym is ∙ refused in cc)

  -- an error is that of the bytes, or memory was refused
  error_of : (e : CoreError) → r ≡ Err e → (x : Result Core CoreError) → IsCoreOf x r → IsOfRead listing may_open remaining x (core_refusal listing.format e)
  error_of e is (Ok found) (core, also, sorted) = absurd (let both : Err e ≡ Ok core = sym is ∙ also in cc)
  error_of e is (Err f) also =
      let same : e ≡ f = (let both : Err e ≡ Err f = sym is ∙ also in cc) in
      ap (core_refusal listing.format) same

  pub refused : (e : CoreError) → r ≡ Err e → IsCore bytes r → IsOut (core_refusal listing.format e)
  refused e is (inl read) = inl (error_of e is (core_of bytes) read)
  refused e is (inr none) =
      let same : e ≡ OutOfMemory = (let both : Err e ≡ Err OutOfMemory = sym is ∙ none in cc) in
      inr (ap (core_refusal listing.format) same)

-- a thread's text, where what is mapped is this
pub text_there : (listing : ThreadListing) (machine : SampleMachine) (files : List KnownFile) (list these : List MappedCode) (memory : ℕ → ℕ → Option ℕ) (name of : Option (List ℕ)) (thread : CoreThread) (text : List ℕ) → list ≡ these → name ≡ of
    → IsThreadText listing machine files list memory name thread text → IsThreadText listing machine files these memory of thread text
text_there listing machine files list these memory name of thread text mapped named is =
    subst (λ (list : List MappedCode). IsThreadText listing machine files list memory of thread text) mapped
    (subst (λ (n : Option (List ℕ)). IsThreadText listing machine files list memory n thread text) named is)
