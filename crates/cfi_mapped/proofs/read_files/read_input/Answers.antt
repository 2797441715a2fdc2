use Rattle.std.proofs.Common.{◌≡◌, Option, refl, true}
use Rattle.cfi_mapped.specs.declared.code_parts.CodeParts.{CodeParts}
use Rattle.cfi_mapped.specs.CodeParts.{ArePartsOf, is_whole}
use Rattle.cfi_mapped.specs.FileReads.{IsAllLeft}
use Rattle.cfi_mapped.proofs.ReadFiles.{all_of, if_read, none_of}
use Rattle.cfi_mapped.proofs.read_files.read_input.Goals as goal

pub returns-clause-contents : goal.returns-clause-contents
returns-clause-contents g c =
    let known = g.I.FileInput.bytes c.args.file.now in
    if_read (λ (code : Option CodeParts). ArePartsOf (IsAllLeft known) code) c.read.result c.if_readable.result c.if_readable.ensures (all_of known c.read.result c.read.ensures.read) (none_of known)

pub returns-clause-whole : goal.returns-clause-whole
returns-clause-whole g c =
    if_read (λ (code : Option CodeParts). c.args.whole ≡ true → is_whole code ≡ true) c.read.result c.if_readable.result c.if_readable.ensures c.read.ensures.whole (λ whole. refl)
