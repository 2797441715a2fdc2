-- The functions of folded stacks as objects, one after the other.
use Rattle.std.proofs.Common.{◌≡◌, ◌∙◌, ℕ, suc, ◌+◌, ◌<◌, ◌≤◌, List, [], ◌∷◌, ◌++◌, length, get_or, drop, drop-cons, map, ap, add-one, subst}
use Rattle.std.proofs.lemmas.List.{drop_all, get_or-map, length-map}
use Rattle.std.specs.List.{flat_map}
use Rattle.cfi_flame.specs.declared.functions.Function.{Function}
use Rattle.cfi_flame.specs.Functions.{FunctionRow, row_view}
use Rattle.cfi_text.specs.Texts.{Puts}
use Rattle.cfi_text.specs.declared.text.Text.{Text}
use Rattle.cfi_text.proofs.TextLemmas.{IsPut, put_more}
use Rattle.cfi_flame.specs.FunctionObjects.{function_object}

abbrev pub no_function : Function
no_function = record { name = record { ref_ptr = (0, 0); now = [] }; own = 0; total = 0 }

-- of these functions, from the one with this index on
abbrev pub objects_from : List Function → ℕ → List ℕ
objects_from rows k = flat_map function_object (drop k (map row_view rows))

next_row : (rows : List Function) (k : ℕ) (d : Function) → k < length rows → drop k (map row_view rows) ≡ row_view (get_or rows k d) ∷ drop (k + 1) (map row_view rows)
next_row rows k d h =
    let short : k < length (map row_view rows) = rw length-map h in
    rw (add-one) (drop-cons (map row_view rows) k (row_view d) short ∙ ap (λ (r : FunctionRow). r ∷ drop (suc k) (map row_view rows)) (get_or-map row_view rows k d (row_view d) h))

pub object_put : (x y z : Text) (rows : List Function) (k : ℕ) (d : Function) → k < length rows → IsPut x y (objects_from rows k) (objects_from rows 0) → Puts (function_object (row_view (get_or rows k d))) y z → IsPut x z (objects_from rows (k + 1)) (objects_from rows 0)
object_put x y z rows k d h given more =
    let next : IsPut x y (function_object (row_view (get_or rows k d)) ++ objects_from rows (k + 1)) (objects_from rows 0) =
    subst (λ (left : List ℕ). IsPut x y left (objects_from rows 0)) (ap (flat_map function_object) (next_row rows k d h)) given in
    put_more x y z (function_object (row_view (get_or rows k d))) (objects_from rows (k + 1)) (objects_from rows 0) next more

pub no_object : (rows : List Function) (k : ℕ) → length rows ≤ k → objects_from rows k ≡ []
no_object rows k h = ap (flat_map function_object) (drop_all k (map row_view rows) (rw length-map h))
