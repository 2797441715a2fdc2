-- A struct of a pointer and of the heap that it is freed to, as the machine has it.
use Rattle.std.proofs.Common.{◌≡◌, ℕ, List, [], ◌∷◌, ◌++◌, true, refl, lit<, ◌∙◌}
use lib.Dec as dec
use mathlib.Core.Bool.{◌&&◌}
use seplogic.Ra.Ura.{Ura}
use mir.Syntax.{impl, ty_ptr, tnil, dnil}
use mir.Val.{Val, vptr, vstruct, vcons, vnil, of_list, has_ty, WT}
use types.Logic.{Logic}
use types.Kit.{Item, Goal, Seq, Step, step, ‵, ◌$◌, move, drop, fsplit, fjoin, fpick, fpack, feq_i, feq_l}
use denote.RattleType.{RattleType, Valss}
use denote.Builtin.{RawPtr}
use denote.RawPtr.{Ptr, null_ptr, ptr_val}
use denote.Steps.{nothing}
use denote.Param.{layout}
use denote.Struct.Struct.{Shape, Struct, within}
use Rattle.std.specs.contracts.alloc.Global.{the_row as heap_row}
use Rattle.std.proofs.alloc.Global.TheLaws as heap_laws
use Rattle.core.proofs.alloc.Calls.{Al, Fits, handle_tells}
use Rattle.std.specs.contracts.impls.GlobalAllocator.TheImpl as heap_impl
use Rattle.std_alloc.proofs.ResultValues.{and_tt}

abbrev pub heap : Al
heap = record { row = heap_row; laws = heap_laws.the_row_laws; g = heap_impl.ghosts; d = impl [] tnil dnil; drops = impl [] tnil dnil }

abbrev pub pair : Val → Val → Val
pair v w = vstruct (vcons v (vcons w vnil))

pub pair_typed : (b o : ℕ) (h : Val) → Fits heap h → dec.T (has_ty (layout heap_row) h && true) × WT (pair (vptr b o) h)
pair_typed b o h fits = (and_tt (has_ty (layout heap_row) h) fits.0, (tt, (fits.1, tt)))

pub null_typed : (h : Val) → Fits heap h → dec.T (has_ty ty_ptr (ptr_val null_ptr) && (has_ty (layout heap_row) h && true)) × WT (pair (ptr_val null_ptr) h)
null_typed h fits = (and_tt (has_ty (layout heap_row) h) fits.0, (record { fits = lit< tt }, (fits.1, tt)))

module _ (S : Shape) where
  abbrev pub PointerPair : RattleType
  PointerPair = Struct (record S { fields = RawPtr ∷ heap_row ∷ [] })

  module _ {M : Type 1} {𝓤 : Ura M} {𝓛 : Logic 𝓤} {K : Type 0} {Γ : List (Item 𝓤)} {G : Goal 𝓤 𝓛.H} where
    pub pair_out : K → (p : Ptr) (a : heap_row.Denot) (vs : List Val)
        → ((h : Val) → vs ≡ pair (ptr_val p) h ∷ [] → Fits heap h → Seq K 𝓛 (‵ (heap_row.own_val a (h ∷ [])) ∷ Γ) G)
        → Seq K 𝓛 (‵ (PointerPair.own_val (p, (a, tt)) vs) ∷ Γ) G
    pair_out t p a vs k =
        fpick t (λ parts. fsplit t $ feq_l t (λ whole. fsplit t $ feq_l t (λ pointer. fsplit t $ handle_tells heap t a parts.1.0 (λ h handle fits. move t (1 ∷ []) $ drop t $
        k h (whole ∙ λ i. vstruct (of_list (pointer i ++ (handle i ++ []))) ∷ []) fits))))

    pub pair_in : K → (p : Ptr) (a : heap_row.Denot) (h : Val) → Step K 𝓛 (‵ (PointerPair.own_val (p, (a, tt)) (pair (ptr_val p) h ∷ [])) ∷ Γ) G (‵ (heap_row.own_val a (h ∷ [])) ∷ Γ) G
    pair_in t p a h = step (λ s.
        nothing t $ move t (1 ∷ 0 ∷ []) $ fjoin t $ feq_i t (List Val) (ptr_val p ∷ []) (ptr_val p ∷ []) refl $ fjoin t $
        feq_i t (List Val) (pair (ptr_val p) h ∷ []) (pair (ptr_val p) h ∷ []) refl $ fjoin t $
        fpack t (Valss (RawPtr ∷ heap_row ∷ [])) (within (record S { fields = RawPtr ∷ heap_row ∷ [] }) (p, (a, tt)) (pair (ptr_val p) h ∷ [])) (ptr_val p ∷ [], (h ∷ [], tt)) $ s)
