use Rattle.std.proofs.Common.{◌≡◌, drop, max}
use Rattle.std.specs.List.{fold}
use Rattle.cfi_files.specs.Findings.{finding_status}
use Rattle.cfi_files.specs.Findings.{greatest_status}
use Rattle.cfi_files.proofs.tally.greatest_status.Given as goal

abbrev pub invariant-loop-finding : goal.invariant-loop-finding
invariant-loop-finding l =
    fold (λ greatest finding. max greatest (finding_status finding)) l.greatest (drop l.finding-index l.findings) ≡ greatest_status l.findings
