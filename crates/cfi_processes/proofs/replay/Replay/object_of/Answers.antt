use Rattle.std.proofs.Common.{◌∙◌, ℕ, Some, None, cond, nat_lt, ap₂, sym, rules}
use borrow.Author.Tests.{tests}
use Rattle.std.proofs.lemmas.List.{length-map}
use Rattle.std.proofs.lemmas.Iterator.{YieldsList-from_slice}
use Rattle.std.proofs.lemmas.Iterator.Search.{position_from_yields_List}
use Rattle.cfi_processes.specs.declared.profile_files.ProfileFile.{ProfileFile}
use Rattle.cfi_perf.specs.Events.{mapping_record_view}
use Rattle.cfi_processes.specs.KnownFiles.{KnownFile, known_view}
use Rattle.cfi_processes.specs.Replays.{is_mapping_of}
use Rattle.cfi_mapped.proofs.FileLemmas.{place_mapped}
use Rattle.cfi_processes.proofs.replay.Replay.object_of.Goals as goal

pub returns-then-mapping : goal.returns-then-mapping
returns-then-mapping c =
    let files = c.args.self.now.files.now in
    let mapping = mapping_record_view c.args.mapping.now in
    let found = position_from_yields_List (λ (file : ProfileFile). is_mapping_of mapping (known_view file)) _ _ c.position.result c.position.ensures.ran (YieldsList-from_slice files cc) (λ x b q k. search (rules, tests)) in
    let there = ap₂ (λ (n m : ℕ). cond (nat_lt n m) (Some n) None) (place_mapped known_view (λ (file : KnownFile). is_mapping_of mapping file) files) (sym (length-map files known_view)) in
    rw (c.if-mapping.true) (found ∙ there)
