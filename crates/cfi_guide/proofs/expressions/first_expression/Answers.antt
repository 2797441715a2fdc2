use Rattle.std.proofs.Common.{◌≡◌, Result, Ok, Err, Some, ap, subst, ◌∙◌}
use Rattle.gimli_cfi.specs.Words.{Error, map_ok}
use Rattle.gimli_cfi.proofs.Callers.{found_in}
use Rattle.cfi_guide.proofs.expressions.first_expression.Goals as goal

not_refused : {X A : Type 0} (f : X → A) (r : Result X Error) (a : A) (e : Error) → map_ok f r ≡ Ok a → r ≡ Err e → ⊥
not_refused {A = A} f r a e there is = let wrong : ◌≡◌ {A = Result A Error} (Err e) (Ok a) = subst (λ x. map_ok f x ≡ Ok a) is there in absurd (cc)

-- the instruction's expression lies where the iterator reads, which is the section of the entry
pub unreachable-requires : goal.unreachable-requires
unreachable-requires g c =
    not_refused _ _ _ _
    (c.get.ensures.there (found_in g.R.Offset.ReaderOffset.number (g.Section._UnwindSectionPrivate.view c.args.section.now).position c.next.ensures.expressions c.instructions-instructions.ensures.within
    (c.in_ok-expression.was ∙ ap Ok (c.in-Some-DefCfaExpression.is ∙ ap Some c.in-Some-DefCfaExpression.field-0-is))))
    c.in_default-get.is
