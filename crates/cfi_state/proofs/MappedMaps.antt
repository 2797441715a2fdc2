-- Maps whose values are mapped answer as before, by the mapped values.
use Rattle.std.proofs.Common.{◌≡◌, ℕ, Bool, true, false, cond, ◌&&◌, T, List, [], ◌∷◌, map, length, Option, Some, None, is_some, refl, sym, ap, subst, ◌∙◌}
use Rattle.std.specs.Option.{option_map}
use Rattle.std.specs.Ordering.{nat_cmp, eq_by_cmp, is_lt}
use Rattle.std.specs.Cmp.{nat_cmp_total}
use Rattle.std.specs.FinMap as map
use Rattle.std.specs.FinMap.{FinMap, find, is_sorted}
use Rattle.std.specs.FinMap.Entries.{below_all}
use Rattle.std.proofs.lemmas.List.{length-map}
use Rattle.cfi_state.specs.MappedStates.{map_values}

module _ {X Y : Type 0} (f : X → Y) where
  abbrev with_values : List (ℕ × X) → List (ℕ × Y)
  with_values es = map (λ e. (e.0, f e.1)) es

  option_map-cond : (b : Bool) (v : X) (o : Option X) → option_map f (cond b (Some v) o) ≡ cond b (Some (f v)) (option_map f o)
  option_map-cond true v o = refl
  option_map-cond false v o = refl

  find-with_values : (q : ℕ) (es : List (ℕ × X)) → find nat_cmp q (with_values es) ≡ option_map f (find nat_cmp q es)
  find-with_values q [] = refl
  find-with_values q (e ∷ es) = ap (cond (eq_by_cmp nat_cmp q e.0) (Some (f e.1))) (find-with_values q es) ∙ sym (option_map-cond (eq_by_cmp nat_cmp q e.0) e.1 (find nat_cmp q es))

  below-with_values : (k : ℕ) (es : List (ℕ × X)) → below_all nat_cmp k (with_values es) ≡ below_all nat_cmp k es
  below-with_values k [] = refl
  below-with_values k (e ∷ es) = ap (λ b. is_lt (nat_cmp k e.0) && b) (below-with_values k es)

  sorted-with_values : (es : List (ℕ × X)) → is_sorted nat_cmp (with_values es) ≡ is_sorted nat_cmp es
  sorted-with_values [] = refl
  sorted-with_values (e ∷ es) = λ i. below-with_values e.0 es i && sorted-with_values es i

  entries-map_values : (m : FinMap nat_cmp X) → map.entries (map_values f m) ≡ with_values (map.entries m)
  entries-map_values m = map.entries-from_sorted nat_cmp (with_values (map.entries m)) (subst T (sym (sorted-with_values (map.entries m))) (map.entries_sorted m))

  pub get-map_values : (m : FinMap nat_cmp X) (q : ℕ) → map.get (map_values f m) q ≡ option_map f (map.get m q)
  get-map_values m q = map.get-entries (map_values f m) q ∙ ap (find nat_cmp q) (entries-map_values m) ∙ find-with_values q (map.entries m) ∙ ap (option_map f) (sym (map.get-entries m q))

  pub len-map_values : (m : FinMap nat_cmp X) → map.len (map_values f m) ≡ map.len m
  len-map_values m = map.len-entries (map_values f m) ∙ ap length (entries-map_values m) ∙ length-map (map.entries m) (λ e. (e.0, f e.1)) ∙ sym (map.len-entries m)

  is_some-option_map : (o : Option X) → is_some (option_map f o) ≡ is_some o
  is_some-option_map None = refl
  is_some-option_map (Some v) = refl

  pub contains-map_values : (m : FinMap nat_cmp X) (q : ℕ) → map.contains_key (map_values f m) q ≡ map.contains_key m q
  contains-map_values m q = ap is_some (get-map_values m q) ∙ is_some-option_map (map.get m q)

  same : (m n : FinMap nat_cmp Y) → ((q : ℕ) → map.get m q ≡ map.get n q) → m ≡ n
  same m n = map.same_map nat_cmp_total map.nat_cmp-IsAntisymmetric m n

  pub insert-map_values : (m : FinMap nat_cmp X) (k : ℕ) (v : X) → map_values f (map.insert m k v) ≡ map.insert (map_values f m) k (f v)
  insert-map_values m k v = same _ _ (λ q.
      get-map_values (map.insert m k v) q
      ∙ ap (option_map f) (map.get-insert nat_cmp_total m k v q)
      ∙ option_map-cond (eq_by_cmp nat_cmp q k) v (map.get m q)
      ∙ ap (cond (eq_by_cmp nat_cmp q k) (Some (f v))) (sym (get-map_values m q))
      ∙ sym (map.get-insert nat_cmp_total (map_values f m) k (f v) q))

  option_map-removed : (b : Bool) (o : Option X) → option_map f (cond b None o) ≡ cond b None (option_map f o)
  option_map-removed true o = refl
  option_map-removed false o = refl

  pub remove-map_values : (m : FinMap nat_cmp X) (k : ℕ) → map_values f (map.remove m k) ≡ map.remove (map_values f m) k
  remove-map_values m k = same _ _ (λ q.
      get-map_values (map.remove m k) q
      ∙ ap (option_map f) (map.get-remove nat_cmp_total m k q)
      ∙ option_map-removed (eq_by_cmp nat_cmp q k) (map.get m q)
      ∙ ap (cond (eq_by_cmp nat_cmp q k) None) (sym (get-map_values m q))
      ∙ sym (map.get-remove nat_cmp_total (map_values f m) k q))

  pub empty-map_values : map_values f map.empty ≡ map.empty
  empty-map_values = same _ _ (λ q. get-map_values map.empty q ∙ ap (option_map f) (map.get-empty nat_cmp q) ∙ sym (map.get-empty nat_cmp q))
