-- What is returned of a core file, step by step.
use Rattle.std.proofs.Common.{◌≡◌, ◌∙◌, List, ℕ, Result, Ok, Err, inl, refl, ap, subst}
use Rattle.cfi_elf.specs.declared.program_header.ProgramHeader.{ProgramHeader}
use Rattle.cfi_elf.specs.ElfFiles.{File}
use Rattle.cfi_processes.specs.declared.registers.SampleMachine.{SampleMachine}
use Rattle.cfi_cores.specs.declared.core_file.Core.{Core as CoreOfCode}
use Rattle.cfi_cores.specs.declared.error.CoreError.{CoreError}
use Rattle.cfi_elf.specs.Results.{and_then}
use Rattle.cfi_cores.specs.CoreFiles.{Core, IsCore, IsCoreOf, IsSortedCore, core_elf, core_headers, core_of, core_view, core_with, machine_of}

module _ (bytes : List ℕ) where
  abbrev with_headers : SampleMachine → List ProgramHeader → Result Core CoreError
  with_headers machine headers = Ok (core_with machine bytes headers)

  abbrev with_machine : File → SampleMachine → Result Core CoreError
  with_machine file machine = and_then (core_headers file) (with_headers machine)

  abbrev with_file : File → Result Core CoreError
  with_file file = and_then (machine_of file) (with_machine file)

  by_file : (r : Result File CoreError) → r ≡ core_elf bytes → and_then r with_file ≡ core_of bytes
  unfolding core_of
  by_file r is = ap (λ (r : Result File CoreError). and_then r with_file) is

  returned : (found : Result Core CoreError) (r : Result CoreOfCode CoreError) → found ≡ core_of bytes → IsCoreOf found r → IsCore bytes r
  returned found r is so = inl (subst (λ (x : Result Core CoreError). IsCoreOf x r) is so)

  pub no_file : (e : CoreError) (r : Result CoreOfCode CoreError) → Err e ≡ core_elf bytes → r ≡ Err e → IsCore bytes r
  no_file e r is so = returned (Err e) r (by_file (Err e) is) so

  module _ (file : File) (elf : Ok file ≡ core_elf bytes) where
    by_machine : (m : Result SampleMachine CoreError) → m ≡ machine_of file → and_then m (with_machine file) ≡ core_of bytes
    by_machine m is = ap (λ (m : Result SampleMachine CoreError). and_then m (with_machine file)) is ∙ by_file (Ok file) elf

    pub no_machine : (e : CoreError) (r : Result CoreOfCode CoreError) → Err e ≡ machine_of file → r ≡ Err e → IsCore bytes r
    no_machine e r is so = returned (Err e) r (by_machine (Err e) is) so

    module _ (machine : SampleMachine) (known : Ok machine ≡ machine_of file) where
      by_headers : (h : Result (List ProgramHeader) CoreError) → h ≡ core_headers file → and_then h (with_headers machine) ≡ core_of bytes
      by_headers h is = ap (λ (h : Result (List ProgramHeader) CoreError). and_then h (with_headers machine)) is ∙ by_machine (Ok machine) known

      pub no_headers : (e : CoreError) (r : Result CoreOfCode CoreError) → Err e ≡ core_headers file → r ≡ Err e → IsCore bytes r
      no_headers e r is so = returned (Err e) r (by_headers (Err e) is) so

      pub core_found : (headers : List ProgramHeader) (core : CoreOfCode) → Ok headers ≡ core_headers file → IsSortedCore (core_with machine bytes headers) (core_view core) → IsCore bytes (Ok core)
      core_found headers core is so = returned (Ok (core_with machine bytes headers)) (Ok core) (by_headers (Ok headers) is) (core, refl, so)
