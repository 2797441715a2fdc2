use Rattle.std.proofs.Common.{◌∙◌, ◌++◌, List, ℕ, ap}
use Rattle.cfi_object.specs.FileParts.{image_of}
use Rattle.cfi_object.proofs.ReadParts.{longer_read, longer_to}
use Rattle.cfi_object.proofs.file_parts.FileParts.with_longer.Goals as goal

pub returns-in-Ok-clause-read : goal.returns-in-Ok-clause-read
returns-in-Ok-clause-read g c =
    let first = c.args.self.first.items in
    let items = c.in-Ok.ensures.items ∙ ap (λ (l : List ℕ). first ++ l) c.as_slice.ensures.value in
    longer_read (g.I.FileInput.bytes c.args.input.now) (image_of c.args.self) c.args.end c.in_ok-bytes.bytes.items c.extend_from_slice.new.self.items items c.requires.free
    (rw (c.len-start.ensures, c.args.self.first.ok.0) at c.in_ok-bytes.ensures.read) c.requires.read

pub returns-in-Ok-clause-longer : goal.returns-in-Ok-clause-longer
returns-in-Ok-clause-longer g c =
    let first = c.args.self.first.items in
    let items = c.in-Ok.ensures.items ∙ ap (λ (l : List ℕ). first ++ l) c.as_slice.ensures.value in
    longer_to (g.I.FileInput.bytes c.args.input.now) (image_of c.args.self) c.args.end c.in_ok-bytes.bytes.items c.extend_from_slice.new.self.items items
    (rw (c.len-start.ensures, c.args.self.first.ok.0) at c.in_ok-bytes.ensures.read)
