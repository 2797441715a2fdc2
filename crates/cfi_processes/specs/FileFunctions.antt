-- The functions of a file: by the symbols of its debug file, if it has one, or else by its own.
--     Functions, functions_view      the addresses of the bytes of a file, and the functions that
--         have them; those of the code
--     functions_by_symbols image debug      those of a file of which these parts were read, and of
--         its debug file
--     mapped_function mapped a functions      the function that has an address, where the file is
--         mapped
use Rattle.std.specs.Prelude.{ℕ, Option, option_map}
use Rattle.std.specs.Option.{option_and_then}
use Rattle.std.specs.Result.{result_ok}
use Rattle.cfi_elf.specs.ElfFiles.{File, elf_file_of, file_view}
use Rattle.cfi_elf.specs.FunctionNames.{function_place}
use Rattle.cfi_elf.specs.FunctionNames.{place_by_names}
use Rattle.cfi_elf.specs.FunctionPlaces.{Place as FunctionPlace}
use Rattle.cfi_elf.specs.Images.{Image}
use Rattle.cfi_elf.specs.Options.{or_this}
use Rattle.cfi_elf.specs.Modular.{minus}
use Rattle.cfi_processes.specs.declared.file_functions.FileFunctions.{FileFunctions}
use Rattle.cfi_mapped.specs.declared.mappings.MappedCode.{MappedCode}
use Rattle.cfi_processes.specs.Objects.{bias_by, code_addresses}

pub record Functions : Type 0 where
  pub addresses : ℕ → Option ℕ  -- of the byte of code at an offset
  pub places : ℕ → Option FunctionPlace  -- of an address

abbrev pub functions_view : FileFunctions → Functions
functions_view functions = record {
  addresses = code_addresses (file_view functions.file);
  places = place_by_names functions.functions;
}

-- the debug file, if it is an ELF file
abbrev pub symbol_file : File → Option Image → File
symbol_file file debug =
    or_this file (option_and_then (λ image. result_ok (elf_file_of image)) debug)

abbrev pub with_symbols : Option Image → File → Functions
with_symbols debug file = record {
  addresses = code_addresses file;
  places = function_place (symbol_file file debug);
}

-- none where it is no ELF file
abbrev pub functions_by_symbols : Image → Option Image → Option Functions
functions_by_symbols image debug = option_map (with_symbols debug) (result_ok (elf_file_of image))

-- both files have the same addresses: those of the process less the bias
abbrev pub mapped_function : MappedCode → ℕ → Functions → Option FunctionPlace
mapped_function mapped a functions =
    option_and_then (λ bias. functions.places (minus a bias)) (bias_by functions.addresses mapped)
