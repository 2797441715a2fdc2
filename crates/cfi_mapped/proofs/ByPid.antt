-- What is mapped in each process, after what is kept for one of them was changed.
use Rattle.std.proofs.Common.{◌≡◌, ℕ, ◌==◌, false, cond, List, [], Option, sym, ap, ◌∙◌, ⊎_elim, arith}
use Rattle.std.specs.Prelude.{unwrap_or}
use Rattle.std.specs.Ordering.{nat_cmp}
use Rattle.std.specs.BTreeMap.{BTreeMap, Updates, get, is_at}
use Rattle.std.proofs.lemmas.Bool.{cases_eq, cond-true, cond-false, eq-eqb, ne_eqb}
use Rattle.std.proofs.lemmas.Bool.Decides.{nat_tests}
use Rattle.cfi_mapped.specs.declared.mappings.MappedCode.{MappedCode}

other_pid : (pid q : ℕ) → (q ≡ pid → ⊥) → is_at (nat_cmp pid) q ≡ false
other_pid pid q other = grind (arith, nat_tests)

-- in the process of this pid what it was given, or nothing; in each other one what there was
updated : (old new : BTreeMap ℕ (List MappedCode)) (pid : ℕ) (w : Option (List MappedCode)) → Updates nat_cmp old new pid w →
    (q : ℕ) → unwrap_or (get nat_cmp new q) [] ≡ cond (q == pid) (unwrap_or w []) (unwrap_or (get nat_cmp old q) [])
updated old new pid w updates q = ⊎_elim
    (λ (same : q ≡ pid).
    ap (λ (k : ℕ). unwrap_or (get nat_cmp new k) []) same ∙ ap (λ (o : Option (List MappedCode)). unwrap_or o []) updates.1
    ∙ sym (cond-true (q == pid) (unwrap_or w []) (unwrap_or (get nat_cmp old q) []) (eq-eqb q pid same)))
    (λ (other : q ≡ pid → ⊥).
    ap (λ (o : Option (List MappedCode)). unwrap_or o []) (updates.2 q (other_pid pid q other))
    ∙ sym (cond-false (q == pid) (unwrap_or w []) (unwrap_or (get nat_cmp old q) []) (ne_eqb q pid other)))
    (cases_eq q pid)

-- the same for a value that says of the process what a function of the pid does
pub updated_by : (old new : BTreeMap ℕ (List MappedCode)) (pid : ℕ) (w : Option (List MappedCode)) (f : ℕ → List MappedCode) → Updates nat_cmp old new pid w → unwrap_or w [] ≡ f pid →
    (q : ℕ) → unwrap_or (get nat_cmp new q) [] ≡ cond (q == pid) (f q) (unwrap_or (get nat_cmp old q) [])
updated_by old new pid w f updates is q = ⊎_elim
    (λ (same : q ≡ pid).
    updated old new pid w updates q
    ∙ ap (λ (l : List MappedCode). cond (q == pid) l (unwrap_or (get nat_cmp old q) [])) (is ∙ ap f (sym same)))
    (λ (other : q ≡ pid → ⊥).
    let apart = ne_eqb q pid other in
    updated old new pid w updates q
    ∙ cond-false (q == pid) (unwrap_or w []) (unwrap_or (get nat_cmp old q) []) apart
    ∙ sym (cond-false (q == pid) (f q) (unwrap_or (get nat_cmp old q) []) apart))
    (cases_eq q pid)
