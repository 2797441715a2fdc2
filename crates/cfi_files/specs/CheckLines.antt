-- The line that says whether the table of a header is faithful: in text, and in JSON as the end of
-- the object that begins with the name of the file.
use Rattle.std.specs.Prelude.{ℕ, List, [], ◌∷◌, ◌++◌, codes}
use Rattle.std.specs.Fmt.{decimal}
use Rattle.cfi_read_core.specs.declared.error.Error.{Error}
use Rattle.gimli_cfi.specs.declared.hdr.unfaithful.Unfaithful.{Unfaithful}
use Rattle.gimli_cfi.specs.declared.hdr.unfaithful.Unfaithful.TheVariants as reasons
use Rattle.gimli_cfi.specs.declared.hdr.verdict.Verdict.{Verdict}
use Rattle.gimli_cfi.specs.declared.hdr.verdict.Verdict.TheVariants as verdicts
use Rattle.cfi_text.specs.ErrorWords.{error_words}
use Rattle.cfi_text.specs.Lines.{address_text}
use Rattle.cfi_text.specs.JsonTexts.{json_number}
use Rattle.cfi_text.specs.declared.style.Format.{Format}
use Rattle.cfi_text.specs.declared.style.Format.TheVariants.{Text, Json}

abbrev pub refused_text : Error → List ℕ
refused_text error = codes ": refused " ++ error_words Text error

-- where the fault is, by row or by the offset of an entry in the section, and what it is
abbrev pub reason_text : Unfaithful → List ℕ
reason_text (reasons.Header error) = codes "header" ++ refused_text error
reason_text (reasons.Row row error) = codes "row " ++ (decimal row ++ refused_text error)
reason_text (reasons.Order row before start) =
    codes "row " ++ (decimal row ++ (codes ": starts at " ++ (address_text start
    ++ (codes ", the row before it at " ++ address_text before))))
reason_text (reasons.Entry offset error) =
    codes "entry " ++ (address_text offset ++ refused_text error)
reason_text (reasons.Fde offset error) =
    codes "FDE " ++ (address_text offset ++ refused_text error)
reason_text (reasons.NoRow offset address) =
    codes "FDE " ++ (address_text offset ++ (codes ": no row starts at " ++ (address_text address
    ++ codes " and leads to it")))
reason_text (reasons.Overlap offset end next) =
    codes "FDE " ++ (address_text offset ++ (codes ": ends at " ++ (address_text end
    ++ (codes ", the next row starts at " ++ address_text next))))
reason_text (reasons.Count rows fdes) =
    codes "table: " ++ (decimal rows ++ (codes " rows for " ++ (decimal fdes ++ codes " FDEs")))

abbrev pub verdict_text : Verdict → List ℕ
verdict_text (verdicts.Faithful rows) = codes "faithful " ++ decimal rows
verdict_text (verdicts.Unfaithful reason) = reason_text reason
verdict_text verdicts.NoTable = codes "header: has no table"
verdict_text (verdicts.Refused error) = reason_text (reasons.Header error)

-- in JSON, as the members after the name of the file
abbrev pub unfaithful_object : Unfaithful → List ℕ
unfaithful_object reason =
    codes "\"result\":\"unfaithful\",\"reason\":\"" ++ (reason_text reason ++ codes "\"}\n")

abbrev pub verdict_object : Verdict → List ℕ
verdict_object (verdicts.Faithful rows) =
    codes "\"result\":\"faithful\",\"rows\":" ++ (json_number rows ++ codes "}\n")
verdict_object (verdicts.Unfaithful reason) = unfaithful_object reason
verdict_object verdicts.NoTable =
    codes "\"result\":\"no table\",\"reason\":\"header: has no table\"}\n"
verdict_object (verdicts.Refused error) = unfaithful_object (reasons.Header error)

abbrev pub verdict_line : Format → Verdict → List ℕ
verdict_line Text verdict = verdict_text verdict ++ 10 ∷ []
verdict_line Json verdict = verdict_object verdict
