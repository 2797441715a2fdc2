-- Which threads of a core file are printed.
--     asked_threads listing threads      those
--     lacks_thread listing core      whether one is asked for that isn't there
use Rattle.std.specs.Prelude.{◌==◌, ◌&&◌, Bool, true, List, not}
use Rattle.std.specs.List.{filter, list_any}
use Rattle.std.specs.Option.{is_none, is_some, option_map_or}
use Rattle.cfi_cores.specs.CoreFiles.{Core}
use Rattle.cfi_cores.specs.CoreThreads.{CoreThread}
use Rattle.cfi_core_stacks.specs.declared.listing.ThreadListing.{ThreadListing}

abbrev pub is_asked_thread : ThreadListing → CoreThread → Bool
is_asked_thread listing thread = option_map_or (λ tid. thread.tid == tid) listing.thread true

abbrev pub asked_threads : ThreadListing → List CoreThread → List CoreThread
asked_threads listing threads = filter (is_asked_thread listing) threads

-- all notes were read, and none is of a thread that is printed
abbrev pub lacks_any : ThreadListing → Core → Bool
lacks_any listing core =
    is_none core.error && not (list_any (is_asked_thread listing) core.threads)

abbrev pub lacks_thread : ThreadListing → Core → Bool
lacks_thread listing core = is_some listing.thread && lacks_any listing core
