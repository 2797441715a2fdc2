-- Each line that is printed of a profile is the text of a value.
use Rattle.std.proofs.Common.{◌≡◌, ◌∙◌, ℕ, Bool, List, [], ◌∷◌, ◌++◌, Option, Some, None, Result, Ok, Err, codes, not, refl, sym, take, ap, subst, inl, inr, append_assoc, append-nil, arith}
use Rattle.cfi_text.specs.declared.style.Format.TheVariants as formats
use Rattle.cfi_text.specs.Lines.{Line}
use Rattle.cfi_text.specs.Refusals.{error_object}
use Rattle.cfi_perf.specs.declared.error.PerfError.{PerfError}
use Rattle.cfi_perf.specs.declared.error.PerfError.TheVariants as perf
use Rattle.cfi_perf.specs.ErrorNames.{name_of_perf}
use Rattle.cfi_perf.specs.ErrorTexts.{decimal_if, number_of_perf, sentence_of_perf, text_of_perf}
use Rattle.cfi_perf.specs.Events.{Record}
use Rattle.cfi_perf.specs.Profiles.{Profile, architecture, profile, profile_records}
use Rattle.cfi_perf.specs.Records.{Records}
use Rattle.cfi_mapped.specs.Wanted.{FilePlace}
use Rattle.cfi_processes.specs.declared.registers.SampleMachine.{SampleMachine}
use Rattle.cfi_processes.specs.KnownFiles.{KnownFile}
use Rattle.cfi_processes.specs.Registers.{machine_named}
use Rattle.cfi_stacks.specs.declared.listing.Listing.TheVariants as listings
use Rattle.cfi_stacks.specs.Choices.{Choice}
use Rattle.cfi_stacks.specs.ProfileContents.{HoldsOfHead, HoldsOfMachine, HoldsOfParsed, HoldsOfRecords}
use Rattle.cfi_stacks.specs.ProfileErrors.{perf_advice, perf_refusal}
use Rattle.cfi_stacks.specs.ProfileOutputs.{AreStacksPrinted, profile_ended, unknown_machine}
use Rattle.cfi_json.specs.Json.{NestsWithin, json_text, member, no_members, text}
use Rattle.cfi_json.specs.ProfileValues.{ProfileOutputsReadBack, reason_value}
use Rattle.cfi_json.proofs.Building.{each_read_back, object_is, string_onto}
use Rattle.cfi_json.proofs.CoreValues.{AreRead, IsRead, error_read, input_read, read_both}
use Rattle.cfi_json.proofs.FrameValues.{IsPlain}
use Rattle.cfi_json.proofs.Plain.{ArePlain, escaped_plain, plain_both, plain_decimal, plain_from}
use Rattle.cfi_json.proofs.SampleValues.{profiles_read}
use Rattle.cfi_json.proofs.Values.{reads_back}

-- ---- an error

plain_name : (error : PerfError) → IsPlain (name_of_perf error)
plain_name perf.NotPerf = refl
plain_name perf.PipeMode = refl
plain_name perf.HeaderCut = refl
plain_name (perf.HeaderSize size) = refl
plain_name perf.Directory = refl
plain_name (perf.AttributeSize size) = refl
plain_name perf.AttributesOutOfBounds = refl
plain_name perf.NoEvents = refl
plain_name perf.MixedEvents = refl
plain_name perf.DataOutOfBounds = refl
plain_name perf.FeatureOutOfBounds = refl
plain_name (perf.RecordSize size) = refl
plain_name perf.RecordCut = refl
plain_name perf.Compressed = refl

plain_parts : (error : PerfError) → ArePlain (sentence_of_perf error) × ArePlain (perf_advice error)
plain_parts perf.NotPerf = (plain_from (sentence_of_perf perf.NotPerf) refl, tt)
plain_parts perf.PipeMode = (plain_from (sentence_of_perf perf.PipeMode) refl, tt)
plain_parts perf.HeaderCut = (plain_from (sentence_of_perf perf.HeaderCut) refl, tt)
plain_parts (perf.HeaderSize size) = (plain_from (sentence_of_perf (perf.HeaderSize size)) refl, tt)
plain_parts perf.Directory = (plain_from (sentence_of_perf perf.Directory) refl, plain_from (perf_advice perf.Directory) refl)
plain_parts (perf.AttributeSize size) = (plain_from (sentence_of_perf (perf.AttributeSize size)) refl, plain_from (perf_advice (perf.AttributeSize size)) refl)
plain_parts perf.AttributesOutOfBounds = (plain_from (sentence_of_perf perf.AttributesOutOfBounds) refl, tt)
plain_parts perf.NoEvents = (plain_from (sentence_of_perf perf.NoEvents) refl, tt)
plain_parts perf.MixedEvents = (plain_from (sentence_of_perf perf.MixedEvents) refl, plain_from (perf_advice perf.MixedEvents) refl)
plain_parts perf.DataOutOfBounds = (plain_from (sentence_of_perf perf.DataOutOfBounds) refl, tt)
plain_parts perf.FeatureOutOfBounds = (plain_from (sentence_of_perf perf.FeatureOutOfBounds) refl, tt)
plain_parts (perf.RecordSize size) = (plain_from (sentence_of_perf (perf.RecordSize size)) refl, tt)
plain_parts perf.RecordCut = (plain_from (sentence_of_perf perf.RecordCut) refl, tt)
plain_parts perf.Compressed = (plain_from (sentence_of_perf perf.Compressed) refl, plain_from (perf_advice perf.Compressed) refl)

plain_number : (n : Option ℕ) → ArePlain (decimal_if n)
plain_number None = tt
plain_number (Some n) = plain_decimal n

abbrev told : PerfError → List ℕ
told error = text_of_perf error ++ perf_advice error

plain_told : (error : PerfError) → IsPlain (told error)
plain_told error =
    let parts = plain_parts error in
    escaped_plain (told error) (plain_both (text_of_perf error) (perf_advice error) (plain_both (sentence_of_perf error) (decimal_if (number_of_perf error)) parts.0 (plain_number (number_of_perf error))) parts.1)

joined : (n s x : List ℕ) → (codes "{\"error\":\"" ++ ((n ++ (codes "\",\"reason\":\"" ++ s)) ++ codes "\"}")) ++ x ≡ codes "{\"error\":\"" ++ (n ++ (codes "\",\"reason\":\"" ++ (s ++ (codes "\"}" ++ x))))
joined n s x = simp append_assoc

error_is : (n s : List ℕ) → IsPlain n → IsPlain s → error_object (n ++ (codes "\",\"reason\":\"" ++ s)) ++ 10 ∷ [] ≡ json_text (reason_value n s) ++ 10 ∷ []
error_is n s plain_n plain_s =
    let closing : List ℕ = codes "}" ++ 10 ∷ [] in
    let behind = member (codes "reason") (text s) no_members in
    let reason = string_onto (codes "reason") s closing (text s) no_members closing (ap (λ (xs : List ℕ). codes "\"" ++ (xs ++ codes "\"")) plain_s) refl in
    joined n s (10 ∷ [])
    ∙ object_is (codes "\"error\":\"" ++ (n ++ (codes "\",\"reason\":\"" ++ (s ++ (codes "\"" ++ closing))))) (codes "error") (text n) behind (10 ∷ []) (string_onto (codes "error") n (codes ",\"reason\":\"" ++ (s ++ (codes "\"" ++ closing))) (text n) behind closing (ap (λ (xs : List ℕ). codes "\"" ++ (xs ++ codes "\"")) plain_n) reason)

shallow_reason : (n s : List ℕ) → NestsWithin (reason_value n s)
shallow_reason n s = omega arith

perf_read : (error : PerfError) → IsRead (perf_refusal formats.Json error)
perf_read error =
    let v = reason_value (name_of_perf error) (told error) in (
      v ∷ [],
      record {
        are = error_is (name_of_perf error) (told error) (plain_name error) (plain_told error) ∙ sym (append-nil (json_text v ++ 10 ∷ []));
        each = each_read_back (λ s. reason_value (name_of_perf error) s) (λ s. reads_back (reason_value (name_of_perf error) s) (shallow_reason (name_of_perf error) s)) (told error ∷ []);
      },
    )

-- ---- the output

ended_read : (characters : List ℕ) (error : Option PerfError) → AreRead characters → IsRead (profile_ended formats.Json characters error)
ended_read characters None h = h
ended_read characters (Some error) h = read_both characters _ h (perf_read error)

module _ (raw : Bool) (choice : Choice) where
  abbrev Shows : Line → SampleMachine → List KnownFile → List Record → Option PerfError → Type 0
  Shows printed machine files records error = AreStacksPrinted (record { raw = raw; format = formats.Json }) choice machine files records error printed

  stacks_read : (machine : SampleMachine) (files : List KnownFile) (records : List Record) (error : Option PerfError) (printed : Line) → Shows printed machine files records error → IsRead printed
  stacks_read machine files records error printed (inl (characters, texts, is)) =
      let found = profiles_read raw machine files choice records characters texts in
      subst IsRead (sym is) (ended_read characters error (_, found.2))
  stacks_read machine files records error printed (inr (n, characters, texts, why, is)) =
      let found = profiles_read raw machine files choice (take n records) characters texts in
      subst IsRead (sym is) (read_both characters _ (_, found.2) (input_read why))

  module _ {Handle : Type 0} (may_open : FilePlace → Option Handle → Type 0) (remaining : Handle → Option (List ℕ)) (printed : Line) where
    abbrev IsPerf : PerfError → Type 0
    IsPerf error = printed ≡ perf_refusal formats.Json error

    abbrev IsOther : Type 0
    IsOther = printed ≡ unknown_machine formats.Json

    records_read : (machine : SampleMachine) (found : Records) → HoldsOfRecords (not raw) may_open remaining (Shows printed) machine found → IsRead printed
    records_read machine found (sorted, order, (opened, are_opened, files, are, stacks)) = stacks_read machine files sorted found.error printed stacks

    machine_read : (machine : Option SampleMachine) (found : Records) → HoldsOfMachine (not raw) may_open remaining (Shows printed) IsPerf IsOther machine found → IsRead printed
    machine_read None found is = subst IsRead (sym is) (error_read (codes "unknown machine") refl)
    machine_read (Some machine) found of = records_read machine found of

    head_read : (named : Result (Option (List ℕ)) PerfError) (found : Records) → HoldsOfHead (not raw) may_open remaining (Shows printed) IsPerf IsOther named found → IsRead printed
    head_read (Err error) found is = subst IsRead (sym is) (perf_read error)
    head_read (Ok None) found is = subst IsRead (sym is) (error_read (codes "unknown machine") refl)
    head_read (Ok (Some name)) found of = machine_read (machine_named name) found of

    parsed_read : (found : Result Profile PerfError) → HoldsOfParsed (not raw) may_open remaining (Shows printed) IsPerf IsOther found → IsRead printed
    parsed_read (Err error) is = subst IsRead (sym is) (perf_read error)
    parsed_read (Ok p) of = head_read (architecture p) (profile_records p) of

pub outputs_read : ProfileOutputsReadBack
outputs_read raw choice Handle may_open remaining bytes printed (inl of) = parsed_read raw choice may_open remaining printed (profile bytes) of
outputs_read raw choice Handle may_open remaining bytes printed (inr (why, is)) = subst IsRead (sym is) (input_read why)
