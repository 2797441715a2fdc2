-- Whether the table of a header is faithful, as C gets it.
--     written_verdict verdict      the verdict as C gets it: its kind, and what goes with that
--     IsCheckedForC bases bytes header out      the verdict on the header's table
use Rattle.std.specs.Prelude.{◌≡◌, ℕ, pos, List, Option, Some, None, option_map}
use Rattle.cfi_read_core.specs.declared.error.Error.{Error}
use Rattle.cfi_read_core.specs.declared.error.Error.TheVariants.{UnsupportedAddressSize}
use Rattle.cfi_read_core.specs.Addresses.{IsAddressSize}
use Rattle.gimli_cfi.specs.CheckVerdicts.{IsVerdictIf}
use Rattle.gimli_cfi.specs.declared.hdr.unfaithful.Unfaithful.{Unfaithful}
use Rattle.gimli_cfi.specs.declared.hdr.unfaithful.Unfaithful.TheVariants as reasons
use Rattle.gimli_cfi.specs.declared.hdr.verdict.Verdict.{Verdict}
use Rattle.gimli_cfi.specs.declared.hdr.verdict.Verdict.TheVariants.{Faithful, NoTable, Refused}
use Rattle.gimli_cfi.specs.declared.hdr.verdict.Verdict.TheVariants.{Unfaithful as Not}
use Rattle.cfi_c.specs.declared.section.CfiBases.{CfiBases}
use Rattle.cfi_c.specs.declared.check.CfiVerdict.{CfiVerdict}
use Rattle.cfi_c.specs.PassedSections.{eh_frame_of, passed_header}
use Rattle.cfi_c.specs.Refusals.{error_status}
use Rattle.cfi_read_core.specs.RefusalNames.{value_of}

-- ---- how C sees it

-- without an error of the section
abbrev pub plain_verdict : ℕ → ℕ → ℕ → ℕ → CfiVerdict
plain_verdict kind first second third = record {
  first = first;
  second = second;
  third = third;
  refused = 0;
  kind = kind;
  status = pos 0;
}

-- by an error, at a row or an offset
abbrev pub refused_verdict : ℕ → ℕ → Error → CfiVerdict
refused_verdict kind first e = record {
  first = first;
  second = 0;
  third = 0;
  refused = value_of e;
  kind = kind;
  status = error_status e;
}

abbrev pub written_reason : Unfaithful → CfiVerdict
written_reason (reasons.Header e) = refused_verdict 3 0 e
written_reason (reasons.Row row e) = refused_verdict 4 row e
written_reason (reasons.Order row before start) = plain_verdict 5 row before start
written_reason (reasons.Entry offset e) = refused_verdict 6 offset e
written_reason (reasons.Fde offset e) = refused_verdict 7 offset e
written_reason (reasons.NoRow offset address) = plain_verdict 8 offset address 0
written_reason (reasons.Overlap offset end next) = plain_verdict 9 offset end next
written_reason (reasons.Count rows fdes) = plain_verdict 10 rows fdes 0

abbrev pub written_verdict : Verdict → CfiVerdict
written_verdict (Faithful rows) = plain_verdict 0 rows 0 0
written_verdict (Not reason) = written_reason reason
written_verdict NoTable = plain_verdict 1 0 0 0
written_verdict (Refused e) = refused_verdict 2 0 e

-- no header is no table
abbrev pub written_if : Option Verdict → CfiVerdict
written_if None = plain_verdict 1 0 0 0
written_if (Some verdict) = written_verdict verdict

-- ---- the verdict

abbrev pub IsPassedCheck : CfiBases → List ℕ → Option (List ℕ) → CfiVerdict → Type 0
IsPassedCheck bases bytes header out =
    (verdict : Option Verdict)
    × IsVerdictIf (eh_frame_of bases bytes) (option_map (passed_header bases) header) verdict
    × (out ≡ written_if verdict)

abbrev pub IsCheckedForC : CfiBases → List ℕ → Option (List ℕ) → CfiVerdict → Type 0
IsCheckedForC bases bytes header out =
    ((IsAddressSize bases.address_size → ⊥) →
    out ≡ refused_verdict 2 0 (UnsupportedAddressSize bases.address_size))
    × (IsAddressSize bases.address_size → IsPassedCheck bases bytes header out)
