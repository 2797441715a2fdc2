use Rattle.std.proofs.Common.{ℕ, List, Option, IfOk, subst, sym}
use Rattle.cfi_mapped.specs.CodeParts.{ArePartsOf}
use Rattle.cfi_mapped.specs.FileReads.{IsReadIfOpened, IsAllLeft}
use Rattle.cfi_mapped.proofs.ReadFiles.{none_read}
use Rattle.cfi_mapped.proofs.read_files.read_opened.Goals as goal

pub returns-in-Some-clause-contents : goal.returns-in-Some-clause-contents
returns-in-Some-clause-contents g c =
    subst (λ (o : Option g.row.O-File.Denot). IfOk c.read_input.result (ArePartsOf (IsReadIfOpened g.O.File.Read.remaining o))) (sym c.in-Some.is)
    (subst (λ (left : Option (List ℕ)). IfOk c.read_input.result (ArePartsOf (IsAllLeft left))) (sym (g.met.O.Opener.same_bytes c.in-Some.file)) c.read_input.ensures.contents)

pub returns-in-None-clause-contents : goal.returns-in-None-clause-contents
returns-in-None-clause-contents g c = none_read g.O.File.Read.remaining c.args.opened c.in-None.is
