use Rattle.std.proofs.Common.{◌∙◌, Bool, ap, length, refl, sym, true}
use Rattle.std.proofs.lemmas.Bool.{le-ltb, lt-ltb}
use Rattle.cfi_cores.specs.Contents.{contents_view, cut_end, then_contents, contents_of_segment}
use Rattle.cfi_cores.proofs.Sequences.{nothing_more, one_read}
use Rattle.cfi_cores.proofs.contents.Contents.read_part.Goals as goal

pub returns-then-bytes-size : goal.returns-then-bytes-size
returns-then-bytes-size c =
    let old = contents_view c.args.self.now in
    let notes = contents_of_segment c.args.machine c.args.bytes.now in
    c.end.ensures
    ∙ (one_read old (contents_view c.read_segment.new.self) notes (cut_end true) (then_contents notes (cut_end true)) (then_contents old (then_contents notes (cut_end true))) c.in_ok-read_segment.ensures refl refl
    ∙ ap (λ (short : Bool). then_contents old (then_contents notes (cut_end short))) (sym (lt-ltb (length c.args.bytes.now) c.args.size c.if-bytes-size.true)))

pub returns-else-bytes-size : goal.returns-else-bytes-size
returns-else-bytes-size c =
    let old = contents_view c.args.self.now in
    let notes = contents_of_segment c.args.machine c.args.bytes.now in
    c.in_ok-read_segment.ensures
    ∙ (ap (then_contents old) (nothing_more notes)
    ∙ ap (λ (short : Bool). then_contents old (then_contents notes (cut_end short))) (sym (le-ltb (length c.args.bytes.now) c.args.size c.if-bytes-size.false)))
