-- Searches by halving, by computation: the row or the error, and how many starts are read.
use Rattle.std.proofs.Common.{◌≡◌, ◌-◌, ◌^◌, ℕ, zero, suc, List, [], ◌∷◌, Result, Ok, Err, refl}
use Rattle.cfi_read_core.specs.declared.error.Error.{Error}
use Rattle.cfi_read_core.specs.declared.error.Error.TheVariants.{NoUnwindInfoForAddress}
use Rattle.gimli_cfi.specs.Halving.{Search, search, search_in}

-- the starts in a list, and an error after the last
abbrev listed : List ℕ → ℕ → Result ℕ Error
listed [] i = Err NoUnwindInfoForAddress
listed (s ∷ starts) zero = Ok s
listed (s ∷ starts) (suc i) = listed starts i

abbrev row : ℕ → ℕ → Search
row k reads = record { found = Ok k; reads = reads }

abbrev no_start : ℕ → Search
no_start reads = record { found = Err NoUnwindInfoForAddress; reads = reads }

rising : (search (listed (10 ∷ 20 ∷ 30 ∷ [])) 3 5 ≡ row 0 1) × (search (listed (10 ∷ 20 ∷ 30 ∷ [])) 3 25 ≡ row 1 2) × (search (listed (10 ∷ 20 ∷ 30 ∷ [])) 3 30 ≡ row 2 2)
unfolding search_in
rising = (refl, refl, refl)

unsorted : (search (listed (30 ∷ 10 ∷ 20 ∷ [])) 3 15 ≡ row 1 2) × (search (listed (30 ∷ 10 ∷ 20 ∷ [])) 3 35 ≡ row 2 2)
unfolding search_in
unsorted = (refl, refl)

-- an equal start ends the search, though rows after it start there, too
repeated : (search (listed (5 ∷ 5 ∷ 5 ∷ 5 ∷ 5 ∷ [])) 5 4 ≡ row 0 2) × (search (listed (5 ∷ 5 ∷ 5 ∷ 5 ∷ 5 ∷ [])) 5 5 ≡ row 2 1) × (search (listed (5 ∷ 5 ∷ 5 ∷ 5 ∷ 5 ∷ [])) 5 6 ≡ row 4 3)
unfolding search_in
repeated = (refl, refl, refl)

between : search (listed (1 ∷ 3 ∷ 5 ∷ 7 ∷ 9 ∷ [])) 5 8 ≡ row 3 3
unfolding search_in
between = refl

-- one row is found without a read, and an error in the middle ends the search
few : (search (listed []) 1 5 ≡ row 0 0) × (search (listed (1 ∷ 3 ∷ 5 ∷ 7 ∷ 9 ∷ [])) 8 10 ≡ no_start 2)
unfolding search_in
few = (refl, refl)

-- as many rows as a count may have
most : search (λ i. Ok i) (2 ^ 64 - 1) 12345 ≡ row 12345 63
unfolding search_in
most = refl
