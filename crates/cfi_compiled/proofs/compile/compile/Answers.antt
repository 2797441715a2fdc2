use Rattle.std.proofs.Common.{◌<◌, ℕ, List, map, Result, sym, ap, subst, ◌∙◌}
use Rattle.std.specs.List.{All}
use Rattle.cfi_read_core.specs.declared.error.Error.{Error}
use Rattle.cfi_entry.specs.Fdes.{Fde}
use Rattle.cfi_entry.specs.Sections.{section_of}
use Rattle.cfi_unwind.specs.FdeViews.{fde_view}
use Rattle.cfi_unwind.specs.Scan.{answer_by, fde_readings}
use Rattle.cfi_unwind.specs.declared.entry.fde.FdeFields.{FdeFields}
use Rattle.cfi_compiled.specs.declared.pieces.Piece.{Piece}
use Rattle.cfi_compiled.specs.CompiledTables.{TableContents, frame_at}
use Rattle.cfi_compiled.specs.FrameParts.{frame_of_fde}
use Rattle.cfi_compiled.specs.Pieces.{owner, spans_from}
use Rattle.cfi_compiled.proofs.Compiled.{covering_contain, chosen_is}
use Rattle.cfi_compiled.proofs.compile.compile.Goals as goal

pub resolve-requires : goal.resolve-requires
resolve-requires g c =
    let section = section_of (g.S._UnwindSectionPrivate.view c.args.section.now) c.args.bases.now in
    let view = fde_view g.R.Reader.position (λ (n : ℕ). n) in
    subst (λ (l : List Piece). All (λ (p : Piece). p.from < p.to) l)
    (sym
    (c.as_slice-2.ensures.value ∙ c.in_ok-spans.ensures
    ∙ ap (λ (l : List (FdeFields g.row.R.Denot ℕ)). spans_from 0 (map view l)) c.as_slice.ensures.value
    ∙ ap (λ (l : List Fde). spans_from 0 l) c.in_ok-found.ensures.fdes))
    (covering_contain (fde_readings section) 0)

pub walk_fdes-requires-clause-own : goal.walk_fdes-requires-clause-own
walk_fdes-requires-clause-own g c = rw c.as_slice-3.ensures.value c.in_ok-found.ensures.own

pub walk_fdes-requires-clause-cie : goal.walk_fdes-requires-clause-cie
walk_fdes-requires-clause-cie g c = rw c.as_slice-3.ensures.value c.in_ok-found.ensures.cie

pub walk_fdes-requires-clause-owner : goal.walk_fdes-requires-clause-owner
walk_fdes-requires-clause-owner g c a =
    let view = fde_view g.R.Reader.position (λ (n : ℕ). n) in
    ap (λ (l : List Piece). owner a l) c.as_slice-4.ensures.value
    ∙ c.in_ok-pieces.ensures.owner a
    ∙ ap (λ (l : List Piece). owner a l)
    (c.as_slice-2.ensures.value ∙ c.in_ok-spans.ensures
    ∙ ap (λ (l : List (FdeFields g.row.R.Denot ℕ)). spans_from 0 (map view l)) (c.as_slice.ensures.value ∙ sym c.as_slice-3.ensures.value))

pub returns : goal.returns
returns g c a =
    let section = section_of (g.S._UnwindSectionPrivate.view c.args.section.now) c.args.bases.now in
    let view = fde_view g.R.Reader.position (λ (n : ℕ). n) in
    let walked = rw c.as_slice-3.ensures.value at (c.in_ok-walk_fdes.ensures a) in
    ap (λ (f : TableContents). frame_at f a) c.in_ok-finish.ensures
    ∙ walked
    ∙ ap (λ (found : Result Fde Error). answer_by (frame_of_fde g.C.Rules.ArrayLike.limit g.C-Stack-ArrayLike.limit section a) found)
    (chosen_is section _ c.in_ok-found.found.outside c.in_ok-found.ensures.fdes c.in_ok-found.ensures.outside a)
