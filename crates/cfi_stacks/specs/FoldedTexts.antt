-- The folded stack of a sample: the thread, and the functions from the outermost one in, between
-- semicolons.
--     site_name site      the name of a frame's function, or that of its file in brackets
--     folded_text stack      the stack of a sample
use Rattle.std.specs.Prelude.{ℕ, List, [], ◌∷◌, ◌++◌, Option, Some, None, codes, drop}
use Rattle.cfi_text.specs.Escapes.{escaped}
use Rattle.cfi_text.specs.declared.escapes.Escaping.TheVariants.{Folded}
use Rattle.cfi_flame.specs.FoldedStacks.{last_part}
use Rattle.cfi_elf.specs.FunctionPlaces.{Place}
use Rattle.cfi_processes.specs.Frames.{Frame}
use Rattle.cfi_processes.specs.Sites.{Site}
use Rattle.cfi_stacks.specs.SampleHeads.{thread_name_text}
use Rattle.cfi_stacks.specs.SampleOutputs.{Stack}

-- ---- names

-- with underscores (95) for spaces; where none is known, as in the line before the frames of a
-- sample
abbrev pub thread_name : ℕ → Option (List ℕ) → List ℕ
thread_name tid (Some name) = escaped (Folded 95) name
thread_name tid None = thread_name_text tid None

-- after the last slash
abbrev pub base_name : List ℕ → List ℕ
base_name path = drop (last_part 47 path) path

-- a space (32) stays
abbrev pub file_name : Option (List ℕ) → List ℕ
file_name None = codes "[unknown]"
file_name (Some path) = codes "[" ++ (escaped (Folded 32) (base_name path) ++ codes "]")

abbrev pub name_at : Option Place → Option (List ℕ) → List ℕ
name_at None file = file_name file
name_at (Some place) file = escaped (Folded 32) place.name

abbrev pub site_name : Site → List ℕ
site_name site = name_at site.function site.file

-- ---- a stack

-- the first of the frames is the innermost, and comes last
abbrev pub names_text : List Frame → List ℕ
names_text [] = []
names_text (frame ∷ frames) = names_text frames ++ (codes ";" ++ site_name frame.site)

-- as far as it was found
abbrev pub folded_text : Stack → List ℕ
folded_text stack = thread_name stack.sample.tid stack.name ++ names_text stack.frames
