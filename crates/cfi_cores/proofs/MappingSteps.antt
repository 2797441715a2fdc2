-- The mapped files, entry by entry.
use Rattle.std.proofs.Common.{◌≡◌, ◌∙◌, ◌+◌, ◌/◌, ◌≤◌, ◌++◌, arith, ℕ, List, [], ◌∷◌, Option, Some, None, option_map, length, drop, refl, sym, ap, append_assoc, append-nil}
use Rattle.std.specs.Option.{option_and_then}
use Rattle.std.proofs.Math.Nat.{div-le_self}
use Rattle.std.proofs.lemmas.List.{drop_all}
use Rattle.std.proofs.lemmas.List.FromFn.{length-map-range_with_len}
use Rattle.cfi_elf.specs.Fields.{before_zero, entries, entry_at}
use Rattle.cfi_cores.specs.MappedFiles.{CoreMapping, mapping_by, mappings}

-- mappings before the others
abbrev pub behind_these : List CoreMapping → Option (List CoreMapping) → Option (List CoreMapping)
behind_these first others = option_map (λ found. first ++ found) others

pub none_first : (others : Option (List CoreMapping)) → behind_these [] others ≡ others
none_first None = refl
none_first (Some found) = refl

one_more : (first : List CoreMapping) (m : CoreMapping) (others : Option (List CoreMapping)) → behind_these (first ++ m ∷ []) others ≡ behind_these first (option_map (λ found. m ∷ found) others)
one_more first m None = refl
one_more first m (Some found) = ap {B = Option (List CoreMapping)} Some (append_assoc first (m ∷ []) found)

-- at the latest when there were as many as bytes
pub no_entries : (size : ℕ) (bytes : List ℕ) (index : ℕ) → length bytes ≤ index → drop index (entries size bytes) ≡ []
no_entries size bytes index up =
    let n : length (entries size bytes) ≡ length bytes / size = length-map-range_with_len (entry_at size bytes) 0 (length bytes / size) in
    let few = div-le_self (length bytes) size in
    drop_all index (entries size bytes) (omega (arith, n, few, up))

module _ (page_size : ℕ) (first : List CoreMapping) (all : List (List ℕ)) (names : List ℕ) (whole : Option (List CoreMapping))
    (so : behind_these first (mappings page_size all names) ≡ whole) where
  -- no entry is left
  pub no_entry : all ≡ [] → Some first ≡ whole
  no_entry none =
      ap {B = Option (List CoreMapping)} Some (sym (append-nil first))
      ∙ (ap (λ (xs : List (List ℕ)). behind_these first (mappings page_size xs names)) (sym none) ∙ so)

  module _ (fields : List ℕ) (others : List (List ℕ)) (is : all ≡ fields ∷ others) where
    abbrev with_name : Option (List ℕ) → Option (List CoreMapping)
    with_name found =
        option_and_then (λ name. option_map (λ found. mapping_by page_size fields name ∷ found) (mappings page_size others (drop (length name + 1) names))) found

    by_name : (found : Option (List ℕ)) → found ≡ before_zero names → behind_these first (with_name found) ≡ whole
    by_name found named =
        ap (λ (o : Option (List ℕ)). behind_these first (with_name o)) named
        ∙ (ap (λ (xs : List (List ℕ)). behind_these first (mappings page_size xs names)) (sym is) ∙ so)

    -- its name isn't
    pub no_name : None ≡ before_zero names → None ≡ whole
    no_name named = by_name None named

    -- it and its name are
    pub one_entry : (name : List ℕ) (next : List CoreMapping) (rest : List ℕ) → Some name ≡ before_zero names → next ≡ first ++ mapping_by page_size fields name ∷ [] → rest ≡ drop (length name + 1) names →
        behind_these next (mappings page_size others rest) ≡ whole
    one_entry name next rest named pushed passed =
        ap (λ (xs : List CoreMapping). behind_these xs (mappings page_size others rest)) pushed
        ∙ (ap (λ (ns : List ℕ). behind_these (first ++ mapping_by page_size fields name ∷ []) (mappings page_size others ns)) passed
        ∙ (one_more first (mapping_by page_size fields name) (mappings page_size others (drop (length name + 1) names)) ∙ by_name (Some name) named))
