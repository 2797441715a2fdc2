-- Mappings and histories, worked out from the definitions alone.
use Rattle.std.proofs.Common.{◌≡◌, ℕ, ◌-◌, ◌^◌, List, [], ◌∷◌, Option, Some, None, codes, true, false, refl}
use Rattle.cfi_mapped.specs.declared.mappings.MappedCode.{MappedCode}
use Rattle.cfi_mapped.specs.Mappings.{MappedPlace, mapped_over, place_at_address}
use Rattle.cfi_perf.specs.Events.{ForkEvent, ProgramEvent}
use Rattle.cfi_mapped.specs.Histories.{Change, mapped, executed, forked, places_after}
use Rattle.cfi_mapped.specs.ThreadNames.{names_after}
use Rattle.cfi_mapped.specs.FileBuilds.{is_build}
use Rattle.cfi_mapped.specs.Wanted.{is_same}

abbrev code : ℕ → ℕ → ℕ → ℕ → MappedCode
code start end offset file = record { start = start; end = end; offset = offset; object = Some file }

abbrev byte : ℕ → ℕ → Option MappedPlace
byte file offset = Some (record { object = Some file; offset = offset })

-- ---- a new mapping

-- in the middle of another one
inside : mapped_over (code 0x2000 0x3000 0x800 2) (code 0x1000 0x5000 0x10000 1 ∷ []) ≡ code 0x1000 0x2000 0x10000 1 ∷ code 0x2000 0x3000 0x800 2 ∷ code 0x3000 0x5000 0x12000 1 ∷ []
inside = refl

-- over the end of one, all of the next, and the beginning of a third
across : mapped_over (code 0x2000 0x7000 0 4) (code 0x1000 0x3000 0 1 ∷ code 0x3000 0x4000 0 2 ∷ code 0x6000 0x8000 0x5000 3 ∷ [])
    ≡ code 0x1000 0x2000 0 1 ∷ code 0x2000 0x7000 0 4 ∷ code 0x7000 0x8000 0x6000 3 ∷ []
across = refl

-- one that begins where another ends covers nothing of it
beside : mapped_over (code 0x2000 0x3000 0 2) (code 0x1000 0x2000 0 1 ∷ code 0x3000 0x4000 0 3 ∷ []) ≡ code 0x1000 0x2000 0 1 ∷ code 0x2000 0x3000 0 2 ∷ code 0x3000 0x4000 0 3 ∷ []
beside = refl

same_place : mapped_over (code 0x1000 0x2000 0 2) (code 0x1000 0x2000 0 1 ∷ []) ≡ code 0x1000 0x2000 0 2 ∷ []
same_place = refl

first_of_all : mapped_over (code 0x1000 0x2000 0 2) (code 0x3000 0x4000 0 1 ∷ []) ≡ code 0x1000 0x2000 0 2 ∷ code 0x3000 0x4000 0 1 ∷ []
first_of_all = refl

no_bytes : mapped_over (code 0x1800 0x1800 0 2) (code 0x1000 0x2000 0 1 ∷ []) ≡ code 0x1000 0x2000 0 1 ∷ []
no_bytes = refl

backwards : mapped_over (code 0x1900 0x1800 0 2) (code 0x1000 0x2000 0 1 ∷ []) ≡ code 0x1000 0x2000 0 1 ∷ []
backwards = refl

-- places in a file are counted modulo 2 ^ 64
around : mapped_over (code 0x1000 0x3000 0 2) (code 0x1000 0x4000 (2 ^ 64 - 0x1000) 1 ∷ []) ≡ code 0x1000 0x3000 0 2 ∷ code 0x3000 0x4000 0x1000 1 ∷ []
around = refl

-- ---- places

abbrev two : List MappedCode
two = code 0x1000 0x2000 0x400 1 ∷ code 0x2000 0x3000 0 2 ∷ []

first_byte : place_at_address two 0x1000 ≡ byte 1 0x400
first_byte = refl

last_byte : place_at_address two 0x1fff ≡ byte 1 0x13ff
last_byte = refl

-- the end of a mapping is not in it
at_end : place_at_address two 0x2000 ≡ byte 2 0
at_end = refl

nowhere : place_at_address two 0x3000 ≡ None
nowhere = refl

-- ---- histories: a shell 10 makes a process 11, which runs ls; the shell itself maps a library later on

abbrev shell_starts : List Change
shell_starts = executed 10 ∷ mapped 10 (code 0x1000 0x5000 0 1) ∷ []

abbrev child_made : List Change
child_made = executed 10 ∷ mapped 10 (code 0x1000 0x5000 0 1) ∷ forked 11 10 ∷ mapped 10 (code 0x4000 0x6000 0 3) ∷ []

abbrev child_runs : List Change
child_runs = executed 10 ∷ mapped 10 (code 0x1000 0x5000 0 1) ∷ forked 11 10 ∷ mapped 10 (code 0x4000 0x6000 0 3) ∷ executed 11 ∷ mapped 11 (code 0x2000 0x3000 0x100 2) ∷ []

in_shell : places_after shell_starts 10 0x4800 ≡ byte 1 0x3800
in_shell = refl

no_child_yet : places_after shell_starts 11 0x4800 ≡ None
no_child_yet = refl

-- the child has what the shell had then, and not what the shell maps afterwards
in_child : places_after child_made 11 0x4800 ≡ byte 1 0x3800
in_child = refl

mapped_later : places_after child_made 10 0x4800 ≡ byte 3 0x800
mapped_later = refl

below_it : places_after child_made 10 0x3fff ≡ byte 1 0x2fff
below_it = refl

-- nothing of the shell is left in the child once it runs ls
after_exec : places_after child_runs 11 0x4800 ≡ None
after_exec = refl

in_ls : places_after child_runs 11 0x2010 ≡ byte 2 0x110
in_ls = refl

shell_goes_on : places_after child_runs 10 0x1000 ≡ byte 1 0
shell_goes_on = refl

-- a thread changes nothing
thread : places_after (mapped 10 (code 0x1000 0x5000 0 1) ∷ forked 10 10 ∷ []) 10 0x1000 ≡ byte 1 0
thread = refl

-- a pid that is used again has what its new parent has
used_again : places_after (mapped 11 (code 0x1000 0x5000 0 1) ∷ forked 11 10 ∷ []) 11 0x1000 ≡ None
used_again = refl

-- ---- names of threads: a program begins, makes a thread, and this gives itself a name (perf record of a program of two threads)

abbrev begun : ℕ → Option (List ℕ)
begun = names_after (ProgramEvent (record { pid = 17261; tid = 17261; name = codes "verylongprogram"; is_exec = true })) (λ tid. None)

abbrev with_thread : ℕ → Option (List ℕ)
with_thread = names_after (ForkEvent (record { pid = 17261; parent = 17261; tid = 17263; parent_tid = 17261 })) begun

abbrev renamed : ℕ → Option (List ℕ)
renamed = names_after (ProgramEvent (record { pid = 17261; tid = 17263; name = codes "worker two"; is_exec = false })) with_thread

name_of_its_maker : with_thread 17263 ≡ Some (codes "verylongprogram")
name_of_its_maker = refl

its_own_name : renamed 17263 ≡ Some (codes "worker two")
its_own_name = refl

name_of_the_other : renamed 17261 ≡ Some (codes "verylongprogram")
name_of_the_other = refl

nameless : renamed 17262 ≡ None
nameless = refl

-- ---- builds

same_build : is_build (1 ∷ 2 ∷ []) (1 ∷ 2 ∷ []) ≡ true
same_build = refl

-- perf once kept 20 bytes of each
zeros_behind : is_build (1 ∷ 2 ∷ 0 ∷ 0 ∷ []) (1 ∷ 2 ∷ []) ≡ true
zeros_behind = refl

bytes_behind : is_build (1 ∷ 2 ∷ 3 ∷ []) (1 ∷ 2 ∷ []) ≡ false
bytes_behind = refl

longer_note : is_build (1 ∷ 0 ∷ []) (1 ∷ 0 ∷ 0 ∷ []) ≡ false
longer_note = refl

-- a mapping whose build isn't known is of the file for which none is known
unknown_build : is_same (record { name = codes "/a"; build_id = None; process = None }) (record { name = codes "/a"; build_id = Some (1 ∷ []); process = None }) ≡ false
unknown_build = refl
