-- Equality of rules, rows and contexts is an equivalence relation if that of offsets is.
use Rattle.std.proofs.Common.{◌≡◌, ℕ, Bool, true, false, ◌&&◌, ◌||◌, ◌==◌, Option, Some, None}
use Rattle.std.proofs.Common.{is_some, List, [], ◌∷◌, refl, sym, ap, ◌∙◌}
use Rattle.std.specs.Ordering.{nat_cmp, int_eq, eq_by_cmp}
use Rattle.std.specs.Option.{option_eq}
use Rattle.std.specs.List.{list_all, list_any}
use Rattle.std.specs.Cmp.{IsEquivalence, IsPartialEquivalence, Equal-is, first_so, second_so, equiv}
use Rattle.std.specs.Cmp.{and_equiv, on_equiv, nat_eq_equiv, int_eq_equiv, partial_equiv_from_equiv}
use Rattle.std.specs.Cmp.Lexicographic.{lists_equiv, options_equiv}
use Rattle.std.proofs.Math.Bool.{and_comm}
use Rattle.std.specs.FinMap.{FinMap, nat_cmp-IsAntisymmetric, get, keys, contains_key-keys}
use Rattle.cfi_read_core.specs.declared.instruction.UnwindExpression.{UnwindExpression}
use Rattle.cfi_state.specs.declared.table.rules.CfaRule.{CfaRule}
use Rattle.cfi_state.specs.declared.table.rules.CfaRule.TheVariants as cfa
use Rattle.cfi_state.specs.declared.table.rules.RegisterRule.{RegisterRule}
use Rattle.cfi_state.specs.declared.table.rules.RegisterRule.TheVariants as rule
use Rattle.cfi_state.specs.Row.{Row}
use Rattle.cfi_state.specs.UnwindContexts.{ContextState}
use Rattle.cfi_state.specs.Equality.{is_within, map_eq, expression_eq, cfa_eq, rule_eq, rules_eq}
use Rattle.cfi_state.specs.Equality.{row_eq, context_eq}

-- ---- maps

all_from_each :
    {A : Type 0} (t : A → Bool) → ((x : A) → t x ≡ true) → (xs : List A) → list_all t xs ≡ true
all_from_each t h [] = refl
all_from_each t h (x ∷ xs) = ap (λ b. b && list_all t xs) (h x) ∙ all_from_each t h xs

at_key :
    (t : ℕ → Bool) (r : ℕ) (ks : List ℕ) → list_any (eq_by_cmp nat_cmp r) ks ≡ true →
    list_all t ks ≡ true → t r ≡ true
at_key t r [] any all = cc
at_key t r (k ∷ ks) any all =
    elim (eq_by_cmp nat_cmp r k) as (λ b.
    eq_by_cmp nat_cmp r k ≡ b → (b || list_any (eq_by_cmp nat_cmp r) ks) ≡ true → t r ≡ true) [
      | true ↦ λ ties any.
          ap t (nat_cmp-IsAntisymmetric r k ((Equal-is _).0 ties))
          ∙ first_so (t k) (list_all t ks) all
      | false ↦ λ ties any. at_key t r ks any (second_so (t k) (list_all t ks) all)
    ] refl any

module _ {X : Type 0} (E : X → X → Bool) where
  both_some :
      (p q : Option X) → (is_some p ≡ true → option_eq E p q ≡ true) →
      (is_some q ≡ true → option_eq E q p ≡ true) → option_eq E p q ≡ true
  both_some None None f g = refl
  both_some None (Some y) f g = let no = g refl in cc
  both_some (Some x) q f g = f refl

  pub from_map_eq :
      (a b : FinMap nat_cmp X) → map_eq E a b ≡ true → (r : ℕ) →
      option_eq E (get a r) (get b r) ≡ true
  from_map_eq a b same r =
      both_some (get a r) (get b r)
      (λ has.
      at_key (λ q. option_eq E (get a q) (get b q)) r (keys a)
      (sym (contains_key-keys a r) ∙ has)
      (first_so (is_within E a b) (is_within E b a) same))
      (λ has.
      at_key (λ q. option_eq E (get b q) (get a q)) r (keys b)
      (sym (contains_key-keys b r) ∙ has)
      (second_so (is_within E a b) (is_within E b a) same))

  to_map_eq :
      (a b : FinMap nat_cmp X) → ((r : ℕ) → option_eq E (get a r) (get b r) ≡ true) →
      ((r : ℕ) → option_eq E (get b r) (get a r) ≡ true) → map_eq E a b ≡ true
  to_map_eq a b there back =
      λ i.
      all_from_each (λ q. option_eq E (get a q) (get b q)) there (keys a) i
      && all_from_each (λ q. option_eq E (get b q) (get a q)) back (keys b) i

  pub map_equiv : IsEquivalence E → IsEquivalence (map_eq E)
  map_equiv e =
      let o : IsEquivalence (option_eq E) = options_equiv e in
      let p : IsPartialEquivalence (option_eq E) = partial_equiv_from_equiv o in
      equiv
      (record {
        symm = λ a b. and_comm (is_within E a b) (is_within E b a);
        trans = λ a b c h k. to_map_eq a c
            (λ r. p.trans (get a r) (get b r) (get c r) (from_map_eq a b h r) (from_map_eq b c k r))
            (λ r. o.symm (get c r) (get a r)
            ∙ p.trans (get a r) (get b r) (get c r) (from_map_eq a b h r)
            (from_map_eq b c k r));
      })
      (λ a. to_map_eq a a (λ r. o.refl (get a r)) (λ r. o.refl (get a r)))

-- ---- rules, rows and contexts

module _ {T : Type 0} {eq : T → T → Bool} (e : IsEquivalence eq) where
  expression_equiv : IsEquivalence (expression_eq eq)
  expression_equiv =
      and_equiv (on_equiv (λ (x : UnwindExpression T). x.offset) e)
      (on_equiv (λ (x : UnwindExpression T). x.length) e)

  cfa_refl : (a : CfaRule T) → cfa_eq eq a a ≡ true
  cfa_refl (cfa.RegisterAndOffset r m) = λ i. nat_eq_equiv.refl r.0 i && int_eq_equiv.refl m i
  cfa_refl (cfa.Expression d) = expression_equiv.refl d

  cfa_symm : (a b : CfaRule T) → cfa_eq eq a b ≡ cfa_eq eq b a
  cfa_symm (cfa.RegisterAndOffset r m) (cfa.RegisterAndOffset s n) =
      λ i. nat_eq_equiv.symm r.0 s.0 i && int_eq_equiv.symm m n i
  cfa_symm (cfa.Expression d) (cfa.Expression e) = expression_equiv.symm d e
  cfa_symm _ _ = refl

  cfa_congr : (a b c : CfaRule T) → cfa_eq eq a b ≡ true → cfa_eq eq a c ≡ cfa_eq eq b c
  cfa_congr (cfa.RegisterAndOffset r m) (cfa.RegisterAndOffset s n) (cfa.RegisterAndOffset t k) h =
      λ i.
      nat_eq_equiv.congr r.0 s.0 t.0 (first_so (r.0 == s.0) (int_eq m n) h) i
      && int_eq_equiv.congr m n k (second_so (r.0 == s.0) (int_eq m n) h) i
  cfa_congr (cfa.RegisterAndOffset r m) (cfa.RegisterAndOffset s n) (cfa.Expression e) h = refl
  cfa_congr (cfa.Expression d) (cfa.Expression e) (cfa.Expression f) h =
      expression_equiv.congr d e f h
  cfa_congr (cfa.Expression d) (cfa.Expression e) (cfa.RegisterAndOffset t k) h = refl
  cfa_congr (cfa.RegisterAndOffset r m) (cfa.Expression e) c h = cc
  cfa_congr (cfa.Expression d) (cfa.RegisterAndOffset s n) c h = cc

  cfa_equiv : IsEquivalence (cfa_eq eq)
  cfa_equiv = record { refl = cfa_refl; symm = cfa_symm; congr = cfa_congr }

  rule_refl : (a : RegisterRule T) → rule_eq eq a a ≡ true
  rule_refl rule.Undefined = refl
  rule_refl rule.SameValue = refl
  rule_refl (rule.Offset x) = int_eq_equiv.refl x
  rule_refl (rule.ValOffset x) = int_eq_equiv.refl x
  rule_refl (rule.Register x) = nat_eq_equiv.refl x.0
  rule_refl (rule.Expression x) = expression_equiv.refl x
  rule_refl (rule.ValExpression x) = expression_equiv.refl x
  rule_refl rule.Architectural = refl
  rule_refl (rule.Constant x) = nat_eq_equiv.refl x

  pub rule_symm : (a b : RegisterRule T) → rule_eq eq a b ≡ rule_eq eq b a
  rule_symm rule.Undefined rule.Undefined = refl
  rule_symm rule.SameValue rule.SameValue = refl
  rule_symm rule.Architectural rule.Architectural = refl
  rule_symm (rule.Offset x) (rule.Offset y) = int_eq_equiv.symm x y
  rule_symm (rule.ValOffset x) (rule.ValOffset y) = int_eq_equiv.symm x y
  rule_symm (rule.Register x) (rule.Register y) = nat_eq_equiv.symm x.0 y.0
  rule_symm (rule.Expression x) (rule.Expression y) = expression_equiv.symm x y
  rule_symm (rule.ValExpression x) (rule.ValExpression y) = expression_equiv.symm x y
  rule_symm (rule.Constant x) (rule.Constant y) = nat_eq_equiv.symm x y
  rule_symm _ _ = refl

  rule_congr : (a b c : RegisterRule T) → rule_eq eq a b ≡ true → rule_eq eq a c ≡ rule_eq eq b c
  rule_congr rule.Undefined rule.Undefined c h = refl
  rule_congr rule.SameValue rule.SameValue c h = refl
  rule_congr (rule.Offset x) (rule.Offset y) (rule.Offset z) h = int_eq_equiv.congr x y z h
  rule_congr (rule.Offset x) (rule.Offset y) _ h = refl
  rule_congr (rule.ValOffset x) (rule.ValOffset y) (rule.ValOffset z) h = int_eq_equiv.congr x y z h
  rule_congr (rule.ValOffset x) (rule.ValOffset y) _ h = refl
  rule_congr (rule.Register x) (rule.Register y) (rule.Register z) h =
      nat_eq_equiv.congr x.0 y.0 z.0 h
  rule_congr (rule.Register x) (rule.Register y) _ h = refl
  rule_congr (rule.Expression x) (rule.Expression y) (rule.Expression z) h =
      expression_equiv.congr x y z h
  rule_congr (rule.Expression x) (rule.Expression y) _ h = refl
  rule_congr (rule.ValExpression x) (rule.ValExpression y) (rule.ValExpression z) h =
      expression_equiv.congr x y z h
  rule_congr (rule.ValExpression x) (rule.ValExpression y) _ h = refl
  rule_congr rule.Architectural rule.Architectural c h = refl
  rule_congr (rule.Constant x) (rule.Constant y) (rule.Constant z) h = nat_eq_equiv.congr x y z h
  rule_congr (rule.Constant x) (rule.Constant y) _ h = refl
  rule_congr _ _ c h = cc

  pub rules_equiv : IsEquivalence (rules_eq eq)
  rules_equiv =
      map_equiv (rule_eq eq) (record { refl = rule_refl; symm = rule_symm; congr = rule_congr })

  pub row_equiv : IsEquivalence (row_eq eq)
  row_equiv =
      and_equiv (on_equiv (λ (x : Row T). x.start_address) nat_eq_equiv)
      (and_equiv (on_equiv (λ (x : Row T). x.end_address) nat_eq_equiv)
      (and_equiv (on_equiv (λ (x : Row T). x.parts.args_size) nat_eq_equiv)
      (and_equiv (on_equiv (λ (x : Row T). x.parts.cfa) cfa_equiv)
      (on_equiv (λ (x : Row T). x.parts.rules) rules_equiv))))

  pub context_equiv : IsEquivalence (context_eq eq)
  context_equiv =
      and_equiv (on_equiv (λ (x : ContextState T). x.row) row_equiv)
      (and_equiv (on_equiv (λ (x : ContextState T). x.remembered) (lists_equiv row_equiv))
      (on_equiv (λ (x : ContextState T). x.initial_rules) (options_equiv rules_equiv)))
