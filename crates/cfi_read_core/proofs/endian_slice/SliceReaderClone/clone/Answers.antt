use Rattle.std.proofs.Common.{◌≡◌, ◌≤◌, length, refl}
use Rattle.std.proofs.Math.Bridge.{le_prop}
use Rattle.cfi_read_core.specs.declared.endian_slice.SliceReader.{SliceReader}
use Rattle.cfi_read_core.proofs.endian_slice.SliceReaderClone.clone.Goals as goal

-- readers with the same fields are the same, however their bounds are known
same_fields : {E O : Type 0} {a : _} {b : _} {c : _} {d : _} {e : _} (r : SliceReader E O a b c d e)
    (p : r.first ≤ r.last) (q : r.last ≤ length r.whole.now) (s : length r.whole.now ≤ a.GREATEST)
    → record { whole = r.whole; first = r.first; last = r.last; endian = r.endian; offset = r.offset; ordered = p; within = q; fits = s } ≡ r
same_fields r p q s = rw (le_prop p r.ordered, le_prop q r.within, le_prop s r.fits) refl

pub returns : goal.returns
returns g c = record { cases = same_fields c.args.self.now _ _ _ }
