-- A core whose segments are at the headers that are loaded, by rising addresses.
use Rattle.std.proofs.Common.{◌≡◌, ◌∙◌, ◌==◌, ◌+◌, ◌<◌, ℕ, Bool, true, false, not, bit_and, List, [], ◌∷◌, length, get_or, map, cond, Some, None, refl, sym, ap, arith}
use Rattle.std.specs.Prelude.{if◌then◌else◌}
use Rattle.std.specs.List.{cons_option, filter, filter_map}
use Rattle.std.specs.List.Sorted.{IsNonDecreasingBy, IsSortedByKey, IsStableByKey, ties}
use Rattle.std.specs.Ordering.{is_lt, nat_cmp}
use Rattle.std.proofs.lemmas.List.{get_or-map, length-map}
use Rattle.cfi_elf.specs.declared.program_header.ProgramHeader.{ProgramHeader}
use Rattle.cfi_cores.specs.declared.segments.CoreSegment.{CoreSegment as SegmentOfCode}
use Rattle.cfi_cores.specs.CoreHeads.{ArePlaces, loaded_headers}
use Rattle.cfi_cores.specs.PartialCores.{segment_at}
use Rattle.cfi_cores.specs.CoreSegments.{AreSortedByAddress, CoreSegment, segment_bytes, loaded_in, segment_view}

no_place : ℕ → ProgramHeader
no_place a = record { p_type = 0; p_flags = 0; p_offset = 0; p_vaddr = a; p_filesz = 0; p_memsz = 0 }

filter_mapped : {X Y : Type 0} (p : Y → Bool) (f : X → Y) (xs : List X) → filter p (map f xs) ≡ map f (filter (λ x. p (f x)) xs)
filter_mapped p f [] = refl
filter_mapped {X} {Y} p f (x ∷ xs) = by (p (f x)) (filter_mapped p f xs)
  where
    by : (b : Bool) → filter p (map f xs) ≡ map f (filter (λ x. p (f x)) xs)
        → cond b (f x ∷ filter p (map f xs)) (filter p (map f xs)) ≡ map f (cond b (x ∷ filter (λ x. p (f x)) xs) (filter (λ x. p (f x)) xs))
    by true others = ap (λ (ys : List Y). f x ∷ ys) others
    by false others = others

map_mapped : {X Y Z : Type 0} (f : X → Y) (g : Y → Z) (xs : List X) → map g (map f xs) ≡ map (λ x. g (f x)) xs
map_mapped f g [] = refl
map_mapped {Z = Z} f g (x ∷ xs) = ap (λ (zs : List Z). g (f x) ∷ zs) (map_mapped f g xs)

module _ (bytes : List ℕ) where
  -- a segment of the code
  of_code : ProgramHeader → SegmentOfCode
  of_code h = record { start = h.p_vaddr; bytes = record { ref_ptr = (0, 0); now = segment_bytes bytes h }; is_executable = not (bit_and h.p_flags 1 == 0) }

  viewed : (hs : List ProgramHeader) → map segment_view (map of_code hs) ≡ map (segment_at bytes) hs
  unfolding of_code
  viewed hs = map_mapped of_code segment_view hs

  are_loaded : (hs : List ProgramHeader) → map (segment_at bytes) (loaded_headers hs) ≡ filter_map (loaded_in bytes) hs
  are_loaded [] = refl
  are_loaded (h ∷ hs) = by (h.p_type == 1) (are_loaded hs)
    where
      by : (b : Bool) → map (segment_at bytes) (loaded_headers hs) ≡ filter_map (loaded_in bytes) hs
          → map (segment_at bytes) (cond b (h ∷ loaded_headers hs) (loaded_headers hs)) ≡ cons_option (if b then Some (segment_at bytes h) else None) (filter_map (loaded_in bytes) hs)
      by true others = ap (λ (xs : List CoreSegment). segment_at bytes h ∷ xs) others
      by false others = others

  sorted : (hs : List ProgramHeader) → IsSortedByKey (λ (h : ProgramHeader). h.p_vaddr) nat_cmp hs → IsSortedByKey (λ (s : SegmentOfCode). s.start) nat_cmp (map of_code hs)
  unfolding of_code
  sorted hs is k d low inside =
      let long = length-map hs of_code in
      let next = get_or-map of_code hs (k + 1) (no_place 0) d (omega (arith, inside, long)) in
      let here = get_or-map of_code hs k (no_place 0) d (omega (arith, inside, long)) in
      rw (next, here) (is k (no_place 0) low (omega (arith, inside, long)))

  stable : (hs ps : List ProgramHeader) → IsStableByKey (λ (h : ProgramHeader). h.p_vaddr) nat_cmp hs ps → IsStableByKey (λ (s : SegmentOfCode). s.start) nat_cmp (map of_code hs) (map of_code ps)
  unfolding of_code no_place
  stable hs ps is x =
      let p : SegmentOfCode → Bool = λ y. ties (λ (a b : SegmentOfCode). is_lt (nat_cmp a.start b.start)) x y in
      filter_mapped p of_code ps ∙ (ap (map of_code) (is (no_place x.start)) ∙ sym (filter_mapped p of_code hs))

  pub sorted_places : (headers places : List ProgramHeader) → ArePlaces headers places → AreSortedByAddress (filter_map (loaded_in bytes) headers) (map (segment_at bytes) places)
  sorted_places headers places are = record {
    read = map of_code (loaded_headers headers);
    ordered = map of_code places;
    are = viewed (loaded_headers headers) ∙ are_loaded headers;
    by_start = sorted places are.by_start;
    stable = stable (loaded_headers headers) places are.stable;
    view = viewed places;
  }
