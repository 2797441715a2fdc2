use Rattle.std.proofs.Common.{◌≡◌, [], Err, Ok, ap, refl, rules}
use Rattle.cfi_read_core.specs.ReaderCalls.{map_ok}
use Rattle.cfi_entry.specs.EntryViews.{cie_view}
use Rattle.cfi_unwind.specs.FdeViews.{fde_view}
use Rattle.cfi_unwind.proofs.ScanSteps.{if_ok}
use Rattle.cfi_unwind.proofs.entry.partial.PartialFrameDescriptionEntry+Section+R.parse_with.Goals as goal

pub returns-in_err-cie-clause-read : goal.returns-in_err-cie-clause-read
returns-in_err-cie-clause-read g c =
    let number = g.R.Offset.ReaderOffset.number in
    let gives : c.from_residual.result ≡ Err c.in_err-cie.field-0.0 = search rules in (
      Err c.in_err-cie.field-0.0,
      record {
        asked = _;
        answer = c.get_cie.result;
        at_offset = ap number c.cie_offset.ensures;
        seen = ap (map_ok (cie_view g.R.Reader.position number)) c.in_err-cie.was;
        call = record { shown_section = _; shown_bases = _; at_section = refl; at_bases = refl; call = c.get_cie.ensures };
      },
      ap (map_ok (fde_view g.R.Reader.position number)) gives,
    )

pub returns-clause-read : goal.returns-clause-read
returns-clause-read g c =
    let number = g.R.Offset.ReaderOffset.number in (
      Ok (cie_view g.R.Reader.position number c.in_ok-cie.cie),
      record {
        asked = _;
        answer = c.get_cie.result;
        at_offset = ap number c.cie_offset.ensures;
        seen = ap (map_ok (cie_view g.R.Reader.position number)) c.in_ok-cie.was;
        call = record { shown_section = _; shown_bases = _; at_section = refl; at_bases = refl; call = c.get_cie.ensures };
      },
      c.with_cie.ensures.read,
    )

pub returns-clause-cie : goal.returns-clause-cie
returns-clause-cie g c =
    if_ok c.with_cie.result (λ fde same. rw same (record {
      earlier = [];
      before = _;
      led = refl;
      asked = _;
      after = _;
      call = record { shown_section = _; shown_bases = _; at_section = refl; at_bases = refl; call = c.in_ok-cie.ensures };
    })) c.with_cie.ensures.cie
