-- Where the records of a profile are among its bytes.
use Rattle.std.proofs.Common.{◌≡◌, refl, ◌∙◌, ◌+◌, ◌-◌, ℕ, Bool, true, false, List, Result, Ok, Err, length, take, drop, ap, sym, arith, min, subst, ◌<◌, ◌≤◌, ⊎_elim}
use Rattle.std.proofs.Math.Seq.{take-length}
use Rattle.std.proofs.lemmas.List.{length-drop, length-take, nil_from_length, take_min}
use Rattle.std.specs.Prelude.{if◌then◌else◌}
use Rattle.std.proofs.lemmas.Bool.{cases_lt}
use Rattle.cfi_perf.specs.declared.error.PerfError.{PerfError}
use Rattle.cfi_perf.specs.declared.file_header.FileHeader.{FileHeader}
use Rattle.cfi_read_core.specs.declared.endianity.RunTimeEndian.{RunTimeEndian}
use Rattle.cfi_perf.specs.FileHeaders.{byte_order, file_header}
use Rattle.cfi_perf.specs.Results.{and_then}
use Rattle.cfi_perf.specs.Pipes.{is_pipe, pipe_architecture, pipe_head, pipe_section, pipe_table}
use Rattle.cfi_perf.specs.Profiles.{Profile, file_profile, pipe_profile, profile, profile_by, with_head}
use Rattle.cfi_perf.specs.EventSections.{EventSection, events_by}
use Rattle.cfi_perf.specs.ProfileHeads.{ProfileHead}
use Rattle.cfi_read_core.specs.ByteOrder.{is_big}
use Rattle.cfi_read_core.specs.ReaderCalls.{map_ok}
use Rattle.cfi_perf.proofs.Chains.{gave}

-- of a part of a list, with what is after it
placed : (bytes : List ℕ) (offset size : ℕ) →
    take (length (take size (drop offset bytes))) (drop ((length bytes - length (drop (offset + size) bytes)) - length (take size (drop offset bytes))) bytes) ≡ take size (drop offset bytes)
placed bytes offset size =
    let d : List ℕ = drop offset bytes in
    let found : List ℕ = take size d in
    let count : length found ≡ min size (length d) = length-take size d in
    let from : length d ≡ length bytes - offset = length-drop offset bytes in
    let after = length-drop (offset + size) bytes in
    ⊎_elim
    (λ (past : length bytes < offset).
    let none : length found ≡ 0 = omega (arith, count, from, past) in
    ap (λ (n : ℕ). take n (drop ((length bytes - length (drop (offset + size) bytes)) - length found) bytes)) none ∙ sym (nil_from_length found none))
    (λ (within : offset ≤ length bytes).
    let place : (length bytes - length (drop (offset + size) bytes)) - length found ≡ offset = omega (arith, count, from, after, within) in
    ap (λ (n : ℕ). take (length found) (drop n bytes)) place ∙ (ap (λ (n : ℕ). take n d) count ∙ take_min size d))
    (cases_lt (length bytes) offset)

-- the profile that is made of its parts
abbrev IsPlaced : List ℕ → Profile → Type 0
IsPlaced bytes p = (p.head.size ≡ length p.records) × (take p.head.size (drop p.head.place bytes) ≡ p.records)

found_made : {x y : Profile} → ◌≡◌ {A = Result Profile PerfError} (Ok x) (Ok y) → x ≡ y
found_made is = cc

placed_of : (bytes : List ℕ) (endian : RunTimeEndian) (header : FileHeader) (events : EventSection) (p : Profile) → profile_by endian bytes header events ≡ p → IsPlaced bytes p
placed_of bytes endian header events p is = subst (λ (p : Profile). IsPlaced bytes p) is (refl, placed bytes header.records.offset header.records.size)

file_placed : (endian : RunTimeEndian) (bytes : List ℕ) (p : Profile) → file_profile endian bytes ≡ Ok p → IsPlaced bytes p
unfolding file_profile
file_placed endian bytes p is =
    let header = gave (file_header endian bytes) (λ header. and_then (events_by endian bytes header) (λ events. Ok (profile_by endian bytes header events))) p is in
    let events = gave (events_by endian bytes header.value) (λ events. Ok (profile_by endian bytes header.value events)) p header.gives in
    placed_of bytes endian header.value events.value p (found_made {x = profile_by endian bytes header.value events.value} events.gives)

of_pipe : (endian : RunTimeEndian) (records : List ℕ) (head : ProfileHead) → pipe_head endian records ≡ Ok head → (head.size ≡ length records) × (head.place ≡ 16)
unfolding pipe_head
of_pipe endian records head is =
    let events = gave (pipe_section (is_big endian) records) (λ events. Ok (record {
      endian = endian;
      events = pipe_table (is_big endian) records events;
      architecture = pipe_architecture (is_big endian) records events.first;
      place = 16;
      size = length records;
      is_cut = false;
    })) head is in
    let same : record {
      endian = endian;
      events = pipe_table (is_big endian) records events.value;
      architecture = pipe_architecture (is_big endian) records events.value.first;
      place = 16;
      size = length records;
      is_cut = false;
    } ≡ head = let e = events.gives in cc in
    (sym (ap (λ (h : ProfileHead). h.size) same), sym (ap (λ (h : ProfileHead). h.place) same))

pipe_placed : (endian : RunTimeEndian) (bytes : List ℕ) (r : Result ProfileHead PerfError) (p : Profile) → pipe_head endian (drop 16 bytes) ≡ r → map_ok (with_head (drop 16 bytes)) r ≡ Ok p → IsPlaced bytes p
pipe_placed endian bytes (Err e) p was is = absurd (cc)
pipe_placed endian bytes (Ok head) p was is =
    let same : with_head (drop 16 bytes) head ≡ p = cc in
    let of = of_pipe endian (drop 16 bytes) head was in
    subst (λ (p : Profile). IsPlaced bytes p) same
    (of.0, ap (λ (n : ℕ). take n (drop head.place bytes)) of.0 ∙ (ap (λ (n : ℕ). take (length (drop 16 bytes)) (drop n bytes)) of.1 ∙ take-length (drop 16 bytes)))

either_placed : (endian : RunTimeEndian) (bytes : List ℕ) (p : Profile) (b : Bool) → (if b then pipe_profile endian bytes else file_profile endian bytes) ≡ Ok p → IsPlaced bytes p
either_placed endian bytes p true is = pipe_placed endian bytes (pipe_head endian (drop 16 bytes)) p refl is
either_placed endian bytes p false is = file_placed endian bytes p is

all_placed : (bytes : List ℕ) (p : Profile) → profile bytes ≡ Ok p → IsPlaced bytes p
unfolding profile
all_placed bytes p is =
    let endian = gave (byte_order bytes) (λ endian. if is_pipe endian bytes then pipe_profile endian bytes else file_profile endian bytes) p is in
    either_placed endian.value bytes p (is_pipe endian.value bytes) endian.gives

-- how many bytes the records have, and which bytes of the file they are
pub records_counted : (bytes : List ℕ) (p : Profile) → profile bytes ≡ Ok p → p.head.size ≡ length p.records
records_counted bytes p is = (all_placed bytes p is).0

pub records_placed : (bytes : List ℕ) (p : Profile) → profile bytes ≡ Ok p → take p.head.size (drop p.head.place bytes) ≡ p.records
records_placed bytes p is = (all_placed bytes p is).1
