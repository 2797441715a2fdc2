use Rattle.std.proofs.Common.{◌≡◌, Bor, List, ℕ, ap, false, true, option_map, rules, tests}
use Rattle.cfi_mapped.specs.FileReads.{names_a_file}
use Rattle.cfi_mapped.specs.Wanted.{at_path, wanted_view}
use Rattle.cfi_mapped.specs.Notices.{missing}
use Rattle.cfi_mapped.proofs.Missing.{no_build, no_file, of_build}
use Rattle.cfi_mapped.proofs.ReadFiles.{contents_found, contents_told, read_at, whole_ok}
use Rattle.cfi_mapped.proofs.read_files.read_contents.Goals as goal

pub returns-then-not-is_file_name-clause-contents : goal.returns-then-not-is_file_name-clause-contents
returns-then-not-is_file_name-clause-contents g c =
    let is : names_a_file c.args.file.now.name.now ≡ false = search (rules, tests) in
    contents_told (g.O.Opener.may_open c.args.opener.now) g.O.File.Read.remaining (wanted_view c.args.file.now) c.is_kernel_name.result c.is_kernel_name.ensures is c.read_told.result c.read_told.ensures.contents

pub returns-then-not-is_file_name-clause-whole : goal.returns-then-not-is_file_name-clause-whole
returns-then-not-is_file_name-clause-whole g c = whole_ok c.args.whole c.read_told.result c.read_told.ensures.whole

pub returns-in-Some-clause-contents : goal.returns-in-Some-clause-contents
returns-in-Some-clause-contents g c =
    let is : names_a_file c.args.file.now.name.now ≡ true = search (rules, tests) in
    contents_found (g.O.Opener.may_open c.args.opener.now) g.O.File.Read.remaining (wanted_view c.args.file.now) _ (ap (option_map (λ (build : Bor (List ℕ)). build.now)) c.in-Some.is) is c.read_found.result c.read_found.ensures.contents

pub returns-in-None-clause-contents : goal.returns-in-None-clause-contents
returns-in-None-clause-contents g c =
    let is : names_a_file c.args.file.now.name.now ≡ true = search (rules, tests) in
    contents_found (g.O.Opener.may_open c.args.opener.now) g.O.File.Read.remaining (wanted_view c.args.file.now) _ (ap (option_map (λ (build : Bor (List ℕ)). build.now)) c.in-None.is) is c.read_opened.result
    (read_at (g.O.Opener.may_open c.args.opener.now) g.O.File.Read.remaining (at_path c.args.file.now.name.now) c.open.result c.open.ensures c.read_opened.result c.read_opened.ensures.contents)

pub returns-then-not-is_file_name-clause-said : goal.returns-then-not-is_file_name-clause-said
returns-then-not-is_file_name-clause-said g c =
    let is : names_a_file c.args.file.now.name.now ≡ false = search (rules, tests) in
    no_file c.args.file.now.name.now c.args.file.now.build_id (g.O.Opener.has_said c.args.opener.now (missing c.args.file.now.name.now)) is c.read_told.result

pub returns-in-Some-clause-said : goal.returns-in-Some-clause-said
returns-in-Some-clause-said g c =
    of_build c.args.file.now.name.now c.args.file.now.build_id (g.O.Opener.has_said c.args.opener.now (missing c.args.file.now.name.now)) c.read_found.result c.read_found.ensures.said

pub returns-in-None-clause-said : goal.returns-in-None-clause-said
returns-in-None-clause-said g c =
    no_build c.args.file.now.name.now c.args.file.now.build_id (g.O.Opener.has_said c.args.opener.now (missing c.args.file.now.name.now)) c.in-None.is c.read_opened.result
