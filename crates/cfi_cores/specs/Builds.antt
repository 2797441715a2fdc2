-- The builds of files, as their images in memory have them (NT_GNU_BUILD_ID of the note "GNU").
--     mapped_image segments mapped name      the bytes that the core has of a file from its first
--         byte on, as it was mapped
--     build_of segments mapped name      the identification of the file's build, as they have it
use Rattle.std.specs.Prelude.{ℕ, ◌&&◌, List, find, Option, option_map, ◌==◌}
use Rattle.std.specs.Option.{option_and_then}
use Rattle.std.specs.Str.{bytes_eq}
use Rattle.cfi_mapped.specs.FileBuilds.{id_of}
use Rattle.cfi_cores.specs.CoreSegments.{CoreSegment, bytes_at}
use Rattle.cfi_cores.specs.MappedFiles.{CoreMapping}

-- where the file's first byte is mapped first
abbrev pub mapped_start : List CoreMapping → List ℕ → Option ℕ
mapped_start mapped name =
    option_map (λ m. m.start) (find (λ m. (m.offset == 0) && bytes_eq m.name name) mapped)

abbrev pub mapped_image : List CoreSegment → List CoreMapping → List ℕ → Option (List ℕ)
mapped_image segments mapped name = option_and_then (bytes_at segments) (mapped_start mapped name)

-- an image that ends early, as after its first page, is read as the beginning of a file
abbrev pub build_of : List CoreSegment → List CoreMapping → List ℕ → Option (List ℕ)
build_of segments mapped name = option_and_then id_of (mapped_image segments mapped name)
