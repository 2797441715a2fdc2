use Rattle.std.proofs.Common.{◌≡◌, ◌+◌, ℕ}
use Rattle.gimli_cfi.proofs.Halving.{IsOnTheWay}
use Rattle.gimli_cfi.proofs.hdr.starts.search_starts.Given as goal

abbrev pub invariant-loop-len : goal.invariant-loop-len
invariant-loop-len g l =
    let source = g.S.StartSource in
    record {
      made : ℕ;
      calls : source.calls l.source ≡ source.calls l.fn.source + made;
      way : IsOnTheWay (source.answer l.fn.source) l.count l.address l.first l.len made;
      answers : source.answer l.source ≡ source.answer l.fn.source;
    }

abbrev pub decreases-loop-len : goal.decreases-loop-len
decreases-loop-len g l = l.len
