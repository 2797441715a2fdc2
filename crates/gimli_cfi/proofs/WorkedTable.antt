-- The table of the three FDEs is faithful, by computation.
use Rattle.std.proofs.Common.{◌≡◌, ◌≢◌, ◌≤◌, ◌<◌, ◌+◌, ◌*◌, ℕ, zero, suc, true, false, List, [], ◌∷◌, Some, None, Result, Ok, negsuc, refl, sym, ◌∙◌, subst, arith, inl, inr, ⊎_elim}
use Rattle.std.specs.Prelude.{IsOk}
use Rattle.std.specs.List.{AllByRecursion}
use Rattle.cfi_read_core.specs.declared.common.Format.TheVariants.{Dwarf32}
use Rattle.cfi_read_core.specs.declared.error.Error.{Error}
use Rattle.cfi_entry.specs.Cies.{Cie}
use Rattle.cfi_entry.specs.Fdes.{Fde, Covers, end_of}
use Rattle.cfi_entry.specs.Entries.{entries}
use Rattle.cfi_unwind.specs.Scan.{fde_readings, IsAmong}
use Rattle.gimli_cfi.specs.EhFrameHdr.{start_of}
use Rattle.gimli_cfi.specs.FaithfulTables.{IsFaithful, IsRowOf, IsFdeIn}
use Rattle.gimli_cfi.specs.TableLookup.{ReachesAll}
use Rattle.gimli_cfi.proofs.Computing.{computing, three, three_header, three_rows}

-- ---- the FDEs

abbrev the_cie : Cie
the_cie = record {
  offset = 0;
  length = 20;
  format = Dwarf32;
  version = 1;
  augmentation = Some (record { has_augmentation_data = true; lsda_encoding = None; personality = None; address_encoding = Some 0x1b; is_signal_trampoline = false; uses_b_key = false });
  address_size = 8;
  code_alignment_factor = 1;
  data_alignment_factor = negsuc 7;
  return_address_register = record { 0 = 16 };
  initial_instructions = record { first = 17; last = 24 };
}

abbrev an_fde : ℕ → ℕ → ℕ → Fde
an_fde offset initial range = record {
  offset = offset;
  length = 16;
  cie = the_cie;
  initial = initial;
  range = range;
  lsda = None;
  instructions = record { first = offset + 17; last = offset + 20 };
}

-- the FDE of row i
abbrev nth : ℕ → Fde
nth zero = an_fde 24 0x1000 0x10
nth (suc zero) = an_fde 44 0x1010 0x10
nth (suc (suc i)) = an_fde 64 0x1020 0x20

the_readings : fde_readings three ≡ Ok (nth 0) ∷ Ok (nth 1) ∷ Ok (nth 2) ∷ []
unfolding computing
the_readings = refl

IsNth : Fde → Type 0
IsNth fde = (i : ℕ) × (i < 3) × (nth i ≡ fde)

nth_of : (fde : Fde) → IsFdeIn three fde → IsNth fde
unfolding IsNth
nth_of fde is =
    let among : IsAmong (Ok (nth 0) ∷ Ok (nth 1) ∷ Ok (nth 2) ∷ []) fde = subst (λ (rs : List (Result Fde Error)). IsAmong rs fde) the_readings is in
    ⊎_elim (λ e. (0, (omega arith), cc)) (⊎_elim (λ e. (1, (omega arith), cc)) (⊎_elim (λ e. (2, (omega arith), cc)) (λ none. absurd none))) among

of_nth : (i : ℕ) → i < 3 → IsFdeIn three (nth i)
unfolding computing
of_nth zero h = inl refl
of_nth (suc zero) h = inr (inl refl)
of_nth (suc (suc zero)) h = inr (inr (inl refl))
of_nth (suc (suc (suc i))) h = absurd (omega arith)

row_of : (i : ℕ) → i < 3 → IsRowOf three_header three_rows 0x2000 i (nth i)
unfolding computing
row_of zero h = record { start = refl; target = refl }
row_of (suc zero) h = record { start = refl; target = refl }
row_of (suc (suc zero)) h = record { start = refl; target = refl }
row_of (suc (suc (suc i))) h = absurd (omega arith)

-- ---- the conditions

initial_is : (i : ℕ) → i < 3 → (nth i).initial ≡ 0x1000 + 0x10 * i
initial_is zero h = refl
initial_is (suc zero) h = refl
initial_is (suc (suc zero)) h = refl
initial_is (suc (suc (suc i))) h = absurd (omega arith)

end_is : (i : ℕ) → i < 2 → end_of (nth i) ≡ 0x1010 + 0x10 * i
end_is zero h = refl
end_is (suc zero) h = refl
end_is (suc (suc i)) h = absurd (omega arith)

ok_same : (m n : ℕ) (r : Result ℕ Error) → r ≡ Ok m → r ≡ Ok n → m ≡ n
ok_same m n r e f = cc

increasing : (j k s t : ℕ) → j < k → k < 3 → start_of three_header three_rows j ≡ Ok s → start_of three_header three_rows k ≡ Ok t → s < t
increasing j k s t h inside at_j at_k =
    let s_is : (nth j).initial ≡ s = ok_same _ _ (start_of three_header three_rows j) (row_of j (omega arith)).start at_j in
    let t_is : (nth k).initial ≡ t = ok_same _ _ (start_of three_header three_rows k) (row_of k inside).start at_k in
    omega (arith, initial_is j (omega arith), initial_is k inside)

apart_by_row : (i j : ℕ) → i < 3 → j < 3 → nth i ≢ nth j → Covers (nth i) (nth j).initial → ⊥
apart_by_row zero zero hi hj differ covered = differ refl
apart_by_row zero (suc zero) hi hj differ covered = let over : 0x1010 < 0x1010 = covered.1 in omega arith
apart_by_row zero (suc (suc j)) hi hj differ covered = let over : 0x1020 < 0x1010 = covered.1 in omega arith
apart_by_row (suc zero) zero hi hj differ covered = let over : 0x1010 ≤ 0x1000 = covered.0 in omega arith
apart_by_row (suc zero) (suc zero) hi hj differ covered = differ refl
apart_by_row (suc zero) (suc (suc j)) hi hj differ covered = let over : 0x1020 < 0x1020 = covered.1 in omega arith
apart_by_row (suc (suc i)) zero hi hj differ covered = let over : 0x1020 ≤ 0x1000 = covered.0 in omega arith
apart_by_row (suc (suc i)) (suc zero) hi hj differ covered = let over : 0x1020 ≤ 0x1010 = covered.0 in omega arith
apart_by_row (suc (suc i)) (suc (suc j)) hi hj differ covered = differ refl

no_refusal : (entries three).refusal ≡ None
unfolding computing
no_refusal = refl

three_is_faithful : IsFaithful three_header three_rows 0x2000 three
unfolding IsNth
three_is_faithful = record {
  searchable = refl;
  only_fdes = λ k h. (nth k, of_nth k h, row_of k h);
  starts_increase = increasing;
  entries_end = no_refusal;
  fdes_read = subst (AllByRecursion IsOk) (sym the_readings) (refl, (refl, (refl, tt)));
  all_fdes = λ fde is.
      let n = nth_of fde is in
      (n.0, n.1, subst (λ (f : Fde). IsRowOf three_header three_rows 0x2000 n.0 f) n.2 (row_of n.0 n.1));
  no_overlap = λ fde other is_fde is_other differ covered.
      let m = nth_of fde is_fde in
      let n = nth_of other is_other in
      apart_by_row m.0 n.0 m.1 n.1 (λ same. differ (sym m.2 ∙ same ∙ n.2))
      (subst (λ (f : Fde). Covers (nth m.0) f.initial) (sym n.2) (subst (λ (f : Fde). Covers f other.initial) (sym m.2) covered));
}

reaches_all : ReachesAll three_header three
unfolding computing
reaches_all = omega arith
