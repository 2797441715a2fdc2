use Rattle.std.proofs.Common.{◌≡◌, ◌∙◌, ◌++◌, ◌+◌, ℕ, List, [], Option, true, drop, sym, ap, append-nil, arith}
use Rattle.std.specs.List.{filter_map}
use Rattle.cfi_elf.specs.declared.relocation.Relocation.{Relocation}
use Rattle.cfi_elf.specs.ElfFiles.{class_of_file, file_view, is_big_file}
use Rattle.cfi_elf.specs.Options.{with_more}
use Rattle.cfi_elf.specs.GotEntries.{slot_of}
use Rattle.cfi_elf.specs.PltSections.{got_relocations_view}
use Rattle.cfi_elf.specs.Relocations.{relocation, relocation_bytes, relocations}
use Rattle.cfi_elf.proofs.EntrySteps.{next_left, none_is, none_left}
use Rattle.cfi_elf.proofs.Gathered.{gathered}
use Rattle.cfi_elf.proofs.elf_file.ElfFile.add_slots.Goals as goal

-- nothing is left
done : (f : Relocation → Option ℕ) (found goal : List ℕ) (rest : List Relocation) → rest ≡ [] → found ++ filter_map f rest ≡ goal → found ≡ goal
done f found goal rest none so = sym (append-nil found) ∙ (ap (λ (rs : List Relocation). found ++ filter_map f rs) (sym none) ∙ so)

pub returns-in_default-clause-ok : goal.returns-in_default-clause-ok
returns-in_default-clause-ok c =
    let file = file_view c.args.self.now in
    let all = relocations file true c.args.entries.now in
    done (slot_of file (got_relocations_view c.args.got.now) c.args.name.now) c.loop-index.found.items _ (drop c.loop-index.index all) (none_is all c.loop-index.index c.in_default.ensures) c.loop-index.invariant

pub loop-index-preserved : goal.loop-index-preserved
loop-index-preserved c =
    let file = file_view c.args.self.now in
    let f = slot_of file (got_relocations_view c.args.got.now) c.args.name.now in
    let all = relocations file true c.args.entries.now in
    let i = c.loop-index.index in
    let found = c.loop-index.found.items in
    let rest = drop (i + 1) all in
    ap (λ (xs : List ℕ). xs ++ filter_map f rest) (c.in_ok-add.ensures.ok ∙ ap (with_more found) c.slot_of.ensures)
    ∙ (gathered f found c.in-Some.relocation rest
    ∙ (ap (λ (rs : List Relocation). found ++ filter_map f rs) (sym (next_left all i c.in-Some.relocation c.in-Some.ensures)) ∙ c.loop-index.invariant))

pub returns-clause-ok : goal.returns-clause-ok
returns-clause-ok c =
    let file = file_view c.args.self.now in
    let all = relocations file true c.args.entries.now in
    done (slot_of file (got_relocations_view c.args.got.now) c.args.name.now) c.loop-index.found.items _ (drop c.loop-index.index all)
    (none_left (relocation (class_of_file file) true (is_big_file file)) (relocation_bytes (class_of_file file) true) c.args.entries.now c.loop-index.index (omega (arith, c.loop-index-test.false))) c.loop-index.invariant
