-- `none` owns nothing.
use Rattle.std.proofs.Common.{List, [], ◌∷◌, ◌++◌, false, refl}
use mir.Val.{Val}
use base.Logic.{emp}
use base.Fml.{ftrue}
use prog.Wp.{WpFn}
use contract.Running.{tables}
use types.Kit.{‵, raw, ◌⊛◌, prop, ◌$◌, ◌∵◌, !, qed, done, move, drop, join, split, regoal, fsplit, fjoin, suffices}
use types.Part.{agg}
use types.Run.{no_more, and_then, lit, returns, enter}
use types.ByLocal.{alloc_all, pass_all, free_all, look_at, get, sets}
use denote.RattleType.{owns}
use denote.Exit.{yes}
use denote.RawPtr.{null_ptr, ptr_val}
use denote.Signature.{plain, types_at}
use denote.Steps.{nothing}
use denote.Struct.Owning.{shape}
use denote.Triple.Walked.{says, Goes-dropped, Stays, stay_dropped, walk_of, ends_at}
use Rattle.std.proofs.raw_atomic.Walks.{proved_at}
use Rattle.cfi_c.specs.contracts.held_context.HeldContext as held_context
use Rattle.core.proofs.alloc.Calls.{handle_tells}
use Rattle.cfi_c.proofs.PointerPairs.{heap, pair, null_typed, pair_in}
use Rattle.cfi_c.specs.contracts.held_context.HeldContext.none as f
use Rattle.cfi_c.proofs.held_context.HeldContext.none.Statement.{statement}
use Rattle.cfi_c.proofs.held_context.HeldContext.none.Code as code

pub none_spec : {M : Type 1} → statement M
none_spec 𝓤 𝓛 𝓜 𝓡 wired =
    let En = f.ended in let c = f.clauses 𝓛 𝓜.mem 𝓡.returns in let 𝓣 = tables 𝓤 𝓛.H 𝓜 𝓡 𝓡.env in
    let From = plain (λ _. heap.row) in let stays : Stays En.signature.params En.kept = (stay_dropped From yes, tt) in let W = walk_of 𝓛 En stays c in
    proved_at 𝓛 En stays c 𝓜 𝓡 (Goes-dropped 𝓛 0 From yes (λ κs x w. refl), tt) f.Key.name code.function (code.unfolded 𝓤 𝓛.H 𝓜 𝓡 wired) (λ y are.
    let a = y.0.3.0 in
    qed 𝓛 ((‵ ftrue ⊛ ‵ (owns (types_at En.signature.params y.0.0) y.0.3 y.0.4)) ∷ raw (emp 𝓤) ∷ []) ∵
    split ! $ drop ! $ fsplit ! $ handle_tells heap ! a y.0.4.0 (λ h ws fits.
    regoal ! (λ (us : List Val). prop (WpFn 𝓤 𝓛.H 𝓣.C 𝓣.Λ code.function us (W.post y))) (λ i. ws i ++ []) refl $
    enter ! _ _ _ _ _ $ alloc_all ! (λ l. pass_all ! refl (fits, tt) $
    sets ! (agg ! (and_then ! (lit ! tt) (and_then ! (get ! refl) (no_more !)))) refl (null_typed h fits) $
    returns ! (look_at ! 0 refl) $ free_all ! refl $
    pair_in (shape held_context.the_type) ! null_ptr a h $ fjoin ! $ move ! (1 ∷ []) $ drop ! $
    suffices ! _ (ends_at 𝓛 En stays c y (pair (ptr_val null_ptr) h) (record { at = null_ptr; alloc = a; live = false }) (tt, tt) (tt, tt)) $ says ! refl $
    nothing ! $ nothing ! $ fjoin ! $ join ! $ nothing ! $ join ! $ done !)))
