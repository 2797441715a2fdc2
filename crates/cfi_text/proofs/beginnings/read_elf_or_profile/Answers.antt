use Rattle.std.proofs.Common.{rules, ◌≡◌, ◌∙◌, ◌++◌, ℕ, Bool, List, Option, Some, None, IfSome, ap, append_assoc, false, inl, inr, sym}
use Rattle.std.specs.Io.KnownBytes.{Consumes}
use Rattle.cfi_text.specs.Readings.{IsAppended}
use Rattle.cfi_text.specs.Beginnings.{IsReadAsEither, may_be_either}
use Rattle.cfi_text.proofs.beginnings.read_elf_or_profile.Goals as goal

-- the first bytes, where they are those of another format
first_read : (old new : Option (List ℕ)) (read : List ℕ) → Consumes old new read → may_be_either read ≡ false → IfSome old (IsReadAsEither read)
first_read None new read taken other = tt
first_read (Some all) None read taken other = absurd taken
first_read (Some all) (Some rest) read taken other = (rest, taken, inr other)

pub returns-then-not-may_be_either-clause-read : goal.returns-then-not-may_be_either-clause-read
returns-then-not-may_be_either-clause-read g c =
    let remaining = g.R.Read.remaining in
    let other : may_be_either c.loop.bytes.items ≡ false = search rules in
    first_read (remaining c.args.input.now) (remaining c.loop.input) c.loop.bytes.items c.loop.invariant other

-- all bytes, where there are no more
all_read :
    (old mid new : Option (List ℕ)) (before after : List ℕ) (more : Bool) → Consumes old mid before →
    IsAppended mid new before after more → more ≡ false → IfSome old (IsReadAsEither after)
all_read None mid new before after more first next none = tt
all_read (Some all) None new before after more first next none = absurd first
all_read (Some all) (Some rest) None before after more first (read, taken, is, end) none = absurd taken
all_read (Some all) (Some rest) (Some left) before after more first (read, taken, is, end) none = (
  left,
  first ∙ ap (λ (rest : List ℕ). before ++ rest) taken ∙ sym (append_assoc before read left)
      ∙ ap (λ (read : List ℕ). read ++ left) (sym is),
  inl (end none),
)

pub returns-then-not-branch-clause-read : goal.returns-then-not-branch-clause-read
returns-then-not-branch-clause-read g c =
    let remaining = g.R.Read.remaining in
    let none : c.in_ok-read_more.field-0 ≡ false = search rules in
    all_read (remaining c.args.input.now) (remaining c.loop.input) (remaining c.read_more.new.input) c.loop.bytes.items c.read_more.new.bytes.items c.in_ok-read_more.field-0 c.loop.invariant c.in_ok-read_more.ensures.read none
