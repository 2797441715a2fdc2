-- What notes say, one after the other.
use Rattle.std.proofs.Common.{◌≡◌, ◌∙◌, ℕ, List, [], ◌∷◌, Option, Some, None, Ok, Err, refl, sym, ap, append_assoc, append-nil}
use Rattle.cfi_elf.specs.declared.error.ElfError.{ElfError}
use Rattle.cfi_elf.specs.Notes.{Note, Notes, note_items}
use Rattle.cfi_elf.specs.Options.{or_else}
use Rattle.cfi_elf.proofs.NoteSteps.{error_is, first_is, none_are}
use Rattle.cfi_processes.specs.declared.registers.SampleMachine.{SampleMachine}
use Rattle.cfi_cores.specs.declared.error.CoreError.{CoreError}
use Rattle.cfi_cores.specs.declared.error.CoreError.TheVariants.{NoteCut}
use Rattle.cfi_cores.specs.Contents.{Contents, ended_by, then_contents, no_contents, contents_of_all, contents_of_note}
use Rattle.cfi_cores.specs.CoreThreads.{CoreThread}
use Rattle.cfi_cores.specs.MappedFiles.{CoreMapping}

-- ---- laws

abbrev with_error : Contents → Option CoreError → Contents
with_error a error = record a { error = error }

or_else_assoc : {A : Type 0} (x y z : Option A) → or_else (or_else x y) z ≡ or_else x (or_else y z)
or_else_assoc (Some a) y z = refl
or_else_assoc None y z = refl

or_else_none : {A : Type 0} (x : Option A) → or_else x None ≡ x
or_else_none (Some a) = refl
or_else_none None = refl

-- of the same parts
same : (threads ts : List CoreThread) (mapped ms : Option (List CoreMapping)) (vector vs signal ss name ns : Option (List ℕ)) (error : Option CoreError)
    → threads ≡ ts → mapped ≡ ms → vector ≡ vs → signal ≡ ss → name ≡ ns
    → ◌≡◌ {A = Contents} (record { threads = threads; mapped = mapped; vector = vector; siginfo = signal; name = name; error = error }) (record { threads = ts; mapped = ms; vector = vs; siginfo = ss; name = ns; error = error })
same threads ts mapped ms vector vs signal ss name ns error a b c d e =
    ap (λ (x : List CoreThread). record { threads = x; mapped = mapped; vector = vector; siginfo = signal; name = name; error = error }) a
    ∙ (ap (λ (x : Option (List CoreMapping)). record { threads = ts; mapped = x; vector = vector; siginfo = signal; name = name; error = error }) b
    ∙ (ap (λ (x : Option (List ℕ)). record { threads = ts; mapped = ms; vector = x; siginfo = signal; name = name; error = error }) c
    ∙ (ap (λ (x : Option (List ℕ)). record { threads = ts; mapped = ms; vector = vs; siginfo = x; name = name; error = error }) d
    ∙ ap (λ (x : Option (List ℕ)). record { threads = ts; mapped = ms; vector = vs; siginfo = ss; name = x; error = error }) e)))

assoc : (a b c : Contents) → then_contents (then_contents a b) c ≡ then_contents a (then_contents b c)
assoc a b c = by a.error b.error
  where
    by : (x y : Option CoreError) → then_contents (then_contents (with_error a x) (with_error b y)) c ≡ then_contents (with_error a x) (then_contents (with_error b y) c)
    by (Some e) y = refl
    by None (Some e) = refl
    by None None =
        same _ _ _ _ _ _ _ _ _ _ c.error (append_assoc a.threads b.threads c.threads) (or_else_assoc a.mapped b.mapped c.mapped)
        (or_else_assoc a.vector b.vector c.vector) (or_else_assoc a.siginfo b.siginfo c.siginfo) (or_else_assoc a.name b.name c.name)

pub nothing_more : (a : Contents) → a ≡ then_contents a no_contents
nothing_more a = by a.error
  where
    by : (x : Option CoreError) → with_error a x ≡ then_contents (with_error a x) no_contents
    by (Some e) = refl
    by None = sym (same _ _ _ _ _ _ _ _ _ _ None (append-nil a.threads) (or_else_none a.mapped) (or_else_none a.vector) (or_else_none a.siginfo) (or_else_none a.name))

-- ---- loops over them

pub one_read : (old new one rest all whole : Contents) → new ≡ then_contents old one → all ≡ then_contents one rest → then_contents old all ≡ whole → then_contents new rest ≡ whole
one_read old new one rest all whole is split before =
    ap (λ (a : Contents). then_contents a rest) is ∙ (assoc old one rest ∙ (ap (then_contents old) (sym split) ∙ before))

pub all_read : (old all whole : Contents) → all ≡ no_contents → then_contents old all ≡ whole → old ≡ whole
all_read old all whole none before = nothing_more old ∙ (ap (then_contents old) (sym none) ∙ before)

module _ (machine : SampleMachine) where
  pub note_first : (old new : Notes) (note : Note) → note_items old ≡ Ok note ∷ note_items new → contents_of_all machine old ≡ then_contents (contents_of_note machine note) (contents_of_all machine new)
  note_first old new note e = ap (contents_of_all machine) (first_is old new note e)

  pub cut_first : (old new : Notes) (error : ElfError) → note_items old ≡ Err error ∷ note_items new → contents_of_all machine old ≡ then_contents (ended_by NoteCut) (contents_of_all machine new)
  cut_first old new error e = ap (contents_of_all machine) (error_is old new error e)

  pub no_note : (old : Notes) → note_items old ≡ [] → contents_of_all machine old ≡ no_contents
  no_note old e = ap (contents_of_all machine) (none_are old e)
