-- What is found of a file's code, of its functions and of what is told as text by its parts is what is found by all bytes.
use Rattle.std.proofs.Common.{◌≡◌, ◌∙◌, ℕ, Bool, true, false, List, [], Option, Some, None, Result, refl, sym, ap, option_map}
use Rattle.std.specs.Prelude.{◌||◌, if◌then◌else◌}
use Rattle.std.specs.Option.{is_some, option_and_then, option_or}
use Rattle.std.specs.Result.{result_ok}
use Rattle.cfi_elf.specs.declared.error.ElfError.{ElfError}
use Rattle.cfi_elf.specs.ElfFiles.{File, elf_file_of}
use Rattle.cfi_elf.specs.FunctionNames.{function_place}
use Rattle.cfi_elf.specs.Images.{Image, IsImageOf, IsRead, whole}
use Rattle.cfi_elf.specs.BuildIds.{build_id}
use Rattle.cfi_elf.specs.Options.{or_this}
use Rattle.cfi_elf.specs.Results.{and_then}
use Rattle.cfi_elf.specs.SegmentLists.{segments}
use Rattle.cfi_elf.specs.Segments.{address_of_offset, wanted_segment}
use Rattle.cfi_elf.specs.SegmentLists.{program_table}
use Rattle.cfi_elf.specs.SymbolTables.{symbol_table}
use Rattle.cfi_elf.proofs.Images.{in_whole, same_address_of_offset, same_function_place}
use Rattle.cfi_elf.proofs.SameResults.{ok_read, then_read}
use Rattle.cfi_object.specs.CallFrames.{given_section}
use Rattle.cfi_object.proofs.SameFrames.{same_debug, same_eh_frame}
use Rattle.cfi_object.specs.NeededParts.{HasAll}
use Rattle.gimli_cfi.specs.SectionSources.{GivenSection}
use Rattle.cfi_mapped.specs.declared.code_parts.CodeParts.{CodeParts}
use Rattle.cfi_mapped.specs.CodeParts.{ArePartsOfBytes, beginning_in, image_in, is_told, is_whole}
use Rattle.cfi_mapped.specs.Enough.{needed_of_code}
use Rattle.cfi_processes.specs.FileFunctions.{with_symbols}
use Rattle.cfi_processes.specs.FileFunctions.{symbol_file}
use Rattle.cfi_processes.specs.Objects.{debug_in, if_bytes, object_with, with_either}
use Rattle.cfi_processes.specs.Objects.{code_addresses, with_call_frames}
use Rattle.gimli_cfi.specs.declared.source.SectionKind.TheVariants as given
use Rattle.cfi_processes.specs.ProfileFiles.{functions_if, kernel_text_of, kernel_text, code_map_of, object_if}
use Rattle.cfi_mapped.specs.FileBuilds.{there}
use Rattle.cfi_mapped.specs.KernelSymbols.{is_kernel_name}
use Rattle.cfi_mapped.proofs.CodeImages.{AreSame, code_found, rest_of, whole_first, either}

-- ---- by parts and by all bytes

then_first : {A B : Type 0} (r : Result A ElfError) (next : A → Result B ElfError) → IsRead (and_then r next) → IsRead r
then_first {A = A} r next read offset size is = read offset size (ap (λ (r : Result A ElfError). and_then r next) is)

module _ {bytes : List ℕ} (file : File) (of : IsImageOf file.image bytes) where
  abbrev all : File
  all = in_whole bytes file

  -- the note of the build needs the program headers
  table_read : IsRead (build_id file) → IsRead (program_table file)
  unfolding build_id segments
  table_read read = then_first (program_table file) _ (then_first (segments file) _ read)

  address_read : IsRead (build_id file) → (offset : ℕ) → IsRead (address_of_offset file offset)
  unfolding address_of_offset wanted_segment
  address_read read offset = then_read _ _ (then_read _ _ (table_read read) (λ table. ok_read _)) (λ found. ok_read _)

  same_addresses : IsRead (build_id file) → code_addresses file ≡ code_addresses all
  same_addresses read = λ i offset. there ((same_address_of_offset file of offset).same (address_read read offset) i)

  same_places : IsRead (symbol_table file) → function_place file ≡ function_place all
  same_places read = λ i address. same_function_place file of read address i

-- ---- .debug_frame

module _ (bytes : List ℕ) where
  own_debug : (file : File) → IsImageOf file.image bytes → HasAll needed_of_code file → debug_in file ≡ debug_in (in_whole bytes file)
  own_debug file of needed = ap (λ (found : Result (Option GivenSection) ElfError). option_and_then if_bytes (there found)) ((same_debug file bytes of).same needed.frames.debug_frame)

  same_debug_in : (a b : Option File) → AreSame bytes a b → option_and_then debug_in a ≡ option_and_then debug_in b
  same_debug_in None b same = ap (option_and_then debug_in) (sym same)
  same_debug_in (Some file) b (same, of, needed) = own_debug file of needed ∙ ap (option_and_then debug_in) (sym same)

-- ---- with a debug file

abbrev debug_frames : Option Image → Option GivenSection
debug_frames debug = option_and_then (λ image. option_and_then debug_in (result_ok (elf_file_of image))) debug

same_debug_frames : (debug : Option CodeParts) (bytes : Option (List ℕ)) → ArePartsOfBytes debug bytes → debug_frames (image_in debug) ≡ debug_frames (option_map whole bytes)
same_debug_frames None bytes is = ap (λ (bytes : Option (List ℕ)). debug_frames (option_map whole bytes)) (sym is)
same_debug_frames (Some code) None is = absurd is
same_debug_frames (Some code) (Some bytes) is = same_debug_in bytes _ _ (code_found code bytes is)

either_same : (file : File) (bytes : List ℕ) → code_addresses file ≡ code_addresses (in_whole bytes file) → (frames debug : Option GivenSection) → with_either file frames debug ≡ with_either (in_whole bytes file) frames debug
either_same file bytes same (Some frames) debug = λ i. Some (record (object_with file frames debug) { addresses = same i })
either_same file bytes same None None = refl
either_same file bytes same None (Some frames) = λ i. Some (record (object_with file (given_section file given.EhFrame []) (Some frames)) { addresses = same i })

module _ (debug : Option CodeParts) (all_debug : Option (List ℕ)) (debug_is : ArePartsOfBytes debug all_debug) where
  frames_same : (file : File) (bytes : List ℕ) → IsImageOf file.image bytes → HasAll needed_of_code file → with_call_frames (image_in debug) file ≡ with_call_frames (option_map whole all_debug) (in_whole bytes file)
  frames_same file bytes of needed =
      let eh = (same_eh_frame file bytes of).same needed.frames.eh_frame in
      let own = own_debug bytes file of needed in
      let others = same_debug_frames debug all_debug debug_is in
      (λ i. with_either file (there (eh i)) (option_or (own i) (others i)))
      ∙ either_same file bytes (same_addresses file of (needed.build.id refl)) _ _

  object_found : (bytes : List ℕ) (a b : Option File) → AreSame bytes a b → option_and_then (with_call_frames (image_in debug)) a ≡ option_and_then (with_call_frames (option_map whole all_debug)) b
  object_found bytes None b same = ap (option_and_then (with_call_frames (option_map whole all_debug))) (sym same)
  object_found bytes (Some file) b (same, of, needed) = frames_same file bytes of needed ∙ ap (option_and_then (with_call_frames (option_map whole all_debug))) (sym same)

  pub same_object : (code : Option CodeParts) (bytes : Option (List ℕ)) → ArePartsOfBytes code bytes → object_if (image_in code) (image_in debug) ≡ object_if (option_map whole bytes) (option_map whole all_debug)
  same_object None bytes is = ap (λ (bytes : Option (List ℕ)). object_if (option_map whole bytes) (option_map whole all_debug)) (sym is)
  same_object (Some code) None is = absurd is
  same_object (Some code) (Some bytes) is = object_found bytes _ _ (code_found code bytes is)

  -- ---- functions

  abbrev other_file : Option Image → Option File
  other_file debug = option_and_then (λ image. result_ok (elf_file_of image)) debug

  other_places : (file : File) (bytes : List ℕ) → IsImageOf file.image bytes → HasAll needed_of_code file → (b : List ℕ) (x y : Option File) → AreSame b x y → function_place (or_this file x) ≡ function_place (or_this (in_whole bytes file) y)
  other_places file bytes of needed b None y same = same_places file of (needed.symbols refl) ∙ ap (λ (y : Option File). function_place (or_this (in_whole bytes file) y)) (sym same)
  other_places file bytes of needed b (Some other) y (same, other_of, other_needed) =
      same_places other other_of (other_needed.symbols refl) ∙ ap (λ (y : Option File). function_place (or_this (in_whole bytes file) y)) (sym same)

  places_same : (debug : Option CodeParts) (all_debug : Option (List ℕ)) → ArePartsOfBytes debug all_debug → (file : File) (bytes : List ℕ) → IsImageOf file.image bytes → HasAll needed_of_code file →
      function_place (symbol_file file (image_in debug)) ≡ function_place (symbol_file (in_whole bytes file) (option_map whole all_debug))
  places_same None other is file bytes of needed =
      same_places file of (needed.symbols refl) ∙ ap (λ (all : Option (List ℕ)). function_place (symbol_file (in_whole bytes file) (option_map whole all))) (sym is)
  places_same (Some code) None is file bytes of needed = absurd is
  places_same (Some code) (Some debug_bytes) is file bytes of needed = other_places file bytes of needed debug_bytes _ _ (code_found code debug_bytes is)

  symbols_same : (file : File) (bytes : List ℕ) → IsImageOf file.image bytes → HasAll needed_of_code file → with_symbols (image_in debug) file ≡ with_symbols (option_map whole all_debug) (in_whole bytes file)
  symbols_same file bytes of needed =
      let addresses = same_addresses file of (needed.build.id refl) in
      let places = places_same debug all_debug debug_is file bytes of needed in
      λ i. record { addresses = addresses i; places = places i }

  functions_found : (bytes : List ℕ) (a b : Option File) → AreSame bytes a b → option_map (with_symbols (image_in debug)) a ≡ option_map (with_symbols (option_map whole all_debug)) b
  functions_found bytes None b same = ap (option_map (with_symbols (option_map whole all_debug))) (sym same)
  functions_found bytes (Some file) b (same, of, needed) =
      ap Some (symbols_same file bytes of needed) ∙ ap (option_map (with_symbols (option_map whole all_debug))) (sym same)

  all_functions : (code : Option CodeParts) (bytes : Option (List ℕ)) → ArePartsOfBytes code bytes → functions_if true (image_in code) (image_in debug) ≡ functions_if true (option_map whole bytes) (option_map whole all_debug)
  all_functions None bytes is = ap (λ (bytes : Option (List ℕ)). functions_if true (option_map whole bytes) (option_map whole all_debug)) (sym is)
  all_functions (Some code) None is = absurd is
  all_functions (Some code) (Some bytes) is = functions_found bytes _ _ (code_found code bytes is)

  pub same_functions : (named : Bool) (code : Option CodeParts) (bytes : Option (List ℕ)) → ArePartsOfBytes code bytes → functions_if named (image_in code) (image_in debug) ≡ functions_if named (option_map whole bytes) (option_map whole all_debug)
  same_functions false code bytes is = refl
  same_functions true code bytes is = all_functions code bytes is

-- ---- texts

-- what the kernel tells
pub kernel_told : {A : Type 0} (name : List ℕ) (map_name : Option A) (code : Option CodeParts) (bytes : Option (List ℕ)) → ArePartsOfBytes code bytes → is_told name map_name code ≡ true → kernel_text_of name (beginning_in code) ≡ kernel_text_of name bytes
kernel_told name map_name code bytes of told = by (is_kernel_name name) refl
  where
    by : (b : Bool) → is_kernel_name name ≡ b → (if b then option_map (kernel_text name) (beginning_in code) else None) ≡ (if b then option_map (kernel_text name) bytes else None)
    by true is = ap (option_map (kernel_text name)) (whole_first code bytes of (rest_of (is_kernel_name name || is_some map_name) (is_whole code) (ap (λ (b : Bool). b || is_some map_name) is) told))
    by false is = refl

-- what a process tells
pub map_told : {A : Type 0} (f : A → List ℕ) (name : List ℕ) (map_name : Option A) (code : Option CodeParts) (bytes : Option (List ℕ)) → ArePartsOfBytes code bytes → is_told name map_name code ≡ true
    → code_map_of (beginning_in code) (option_map f map_name) ≡ code_map_of bytes (option_map f map_name)
map_told f name None code bytes of told = refl
map_told f name (Some m) code bytes of told =
    ap (λ (text : Option (List ℕ)). code_map_of text (Some (f m))) (whole_first code bytes of (rest_of (is_kernel_name name || true) (is_whole code) (either (is_kernel_name name) true refl) told))
