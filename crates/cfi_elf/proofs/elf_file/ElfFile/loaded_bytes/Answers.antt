use Rattle.std.proofs.Common.{◌-◌, ap, sym, ◌∙◌, Ok, Some, drop, ℕ}
use Rattle.cfi_elf.specs.ElfFiles.{file_view}
use Rattle.cfi_elf.specs.Segments.{bytes_after, loaded_bytes}
use Rattle.cfi_elf.specs.Results.{if_found}
use Rattle.cfi_elf.proofs.Chains.{ok_then}
use Rattle.cfi_elf.proofs.elf_file.ElfFile.loaded_bytes.Goals as goal

pub returns : goal.returns
unfolding loaded_bytes
returns c =
    ap (λ bytes. Ok (Some bytes)) (c.bytes_from.ensures ∙ ap (λ (n : ℕ). drop n c.in_ok-bytes.bytes.now) c.saturating_sub.ensures)
    ∙ (ok_then _ _ (λ bytes. Ok (Some bytes)) (ok_then _ _ (λ bytes. Ok (drop (c.args.address - c.in-Some.header.p_vaddr) bytes)) c.in_ok-bytes.ensures)
    ∙ ok_then _ _ (if_found (bytes_after (file_view c.args.self.now) c.args.address)) (sym (ap Ok c.in-Some.is) ∙ c.in_ok-header.ensures))
