-- `unseal` moves both fields, and says again which context is owned.
use Rattle.std.proofs.Common.{◌≡◌, List, [], ◌∷◌, ◌++◌, Bool, true, refl, ◌∙◌}
use mir.Raw.{raw as bare}
use mir.Val.{Val, vptr}
use base.Logic.{never, id⊢, fst∗, emp}
use base.Fml.{ftrue}
use prog.Wp.{WpFn}
use types.Logic.{sem}
use contract.Monad.{fact}
use contract.Running.{tables}
use types.Kit.{‵, raw, ◌⊛◌, prop, ◌$◌, ◌∵◌, !, qed, done, move, drop, use0, join, split, regoal, rewrite, fsplit, fjoin, fpick, suffices}
use types.Part.{whole, sub, agg}
use types.Run.{stop, fld, no_more, and_then, of_opd, returns, enter}
use types.ByLocal.{alloc_all, pass_all, free_all, look_at, get, get_in, sets}
use denote.RattleType.{owns}
use denote.Exit.{yes}
use denote.Memory.{lone}
use denote.RawPtr.{block_ptr, null_ptr, ptr_val, in_a_block}
use denote.Signature.{plain, types_at}
use denote.Steps.{heard, nothing}
use denote.Struct.Owning.{shape}
use denote.Triple.Walked.{Goes-dropped, Stays, stay_dropped, walk_of, ends_at}
use Rattle.std.proofs.raw_atomic.Walks.{proved_at}
use Rattle.std_alloc.specs.Box.Ownership.{box_owns}
use Rattle.cfi_c.specs.ContextRow.{heap_context_row}
use Rattle.cfi_c.specs.contracts.unboxed.Unboxed as unboxed
use Rattle.cfi_c.specs.contracts.held_context.HeldContext as held_context
use Rattle.cfi_c.specs.HeldContexts.{owned_context}
use Rattle.cfi_c.proofs.PointerPairs.{heap, pair, pair_typed, pair_out, pair_in}
use Rattle.cfi_c.specs.contracts.held_context.HeldContext.unseal as f
use Rattle.cfi_c.proofs.held_context.HeldContext.unseal.Statement.{statement}
use Rattle.cfi_c.proofs.held_context.HeldContext.unseal.Code as code

pub unseal_spec : {M : Type 1} → statement M
unseal_spec 𝓤 𝓛 𝓜 𝓡 wired =
    let En = f.ended in let c = f.clauses 𝓛 𝓜.mem 𝓡.returns in let 𝓣 = tables 𝓤 𝓛.H 𝓜 𝓡 𝓡.env in
    let From = plain (λ _. held_context.the_row) in let stays : Stays En.signature.params En.kept = (stay_dropped From yes, tt) in let W = walk_of 𝓛 En stays c in
    proved_at 𝓛 En stays c 𝓜 𝓡 (Goes-dropped 𝓛 0 From yes (λ κs x w. refl), tt) f.Key.name code.function (code.unfolded 𝓤 𝓛.H 𝓜 𝓡 wired) (λ y are.
    let entered = y.0.3.0 in let a = entered.alloc in
    qed 𝓛 ((‵ ftrue ⊛ ‵ (owns (types_at En.signature.params y.0.0) y.0.3 y.0.4)) ∷ raw (fact 𝓤 (entered.live ≡ true)) ∷ []) ∵
    split ! $ drop ! $ move ! (1 ∷ []) $ heard ! (entered.live ≡ true) (λ live. fsplit ! $ fsplit ! $ pair_out (shape held_context.the_type) ! entered.at a y.0.4.0 (λ h ws fits. move ! (1 ∷ []) $
    rewrite ! 0 (λ (l : Bool). ‵ (owned_context l a entered.at)) live refl $ fpick ! (λ x.
    -- [the context and the right to free it; the handle; nothing]
    in_a_block ! entered.at (λ p. box_owns (heap.g.dealloc_token a) heap_context_row p x) (fst∗ 𝓤 (never 𝓤) (sem 𝓛 (heap.g.dealloc_token a (bare (lone heap_context_row.mir)) null_ptr))) (λ b o place.
    let word : y.0.4.0 ≡ pair (vptr b o) h ∷ [] = ws ∙ λ i. pair (ptr_val (place i)) h ∷ [] in
    regoal ! (λ (us : List Val). prop (WpFn 𝓤 𝓛.H 𝓣.C 𝓣.Λ code.function us (W.post y))) (λ i. word i ++ []) refl $
    enter ! _ _ _ _ _ $ alloc_all ! (λ l. pass_all ! refl (pair_typed b o h fits, tt) $
    sets ! (of_opd ! (get_in ! (fld ! refl (stop !)) (sub ! 0 refl (whole !)))) refl (tt, tt) $
    sets ! (of_opd ! (get_in ! (fld ! refl (stop !)) (sub ! 1 refl (whole !)))) refl fits $
    sets ! (of_opd ! (get ! refl)) refl (tt, tt) $
    sets ! (agg ! (and_then ! (get ! refl) (and_then ! (get ! refl) (no_more !)))) refl (pair_typed b o h fits) $
    returns ! (look_at ! 0 refl) $ free_all ! refl $
    move ! (1 ∷ []) $ pair_in (shape (unboxed.the_type heap_context_row heap.row heap.g)) ! (block_ptr b o) a h $ fjoin ! $ move ! (1 ∷ []) $ drop ! $
    suffices ! _ (ends_at 𝓛 En stays c y (pair (vptr b o) h) (record { at = block_ptr b o; alloc = a; value = x }) (tt, tt) (tt, tt)) $
    use0 𝓛 (raw (emp 𝓤)) (id⊢ 𝓤 (emp 𝓤)) $ move ! (1 ∷ []) $
    nothing ! $ nothing ! $ fjoin ! $ join ! $ nothing ! $ join ! $ done !))))))
