use Rattle.std.proofs.Common.{◌∙◌, refl, string_bytes, sym}
use Rattle.cfi_mapped.specs.CodeMaps.{map_name}
use Rattle.cfi_mapped.specs.Wanted.{is_text}
use Rattle.cfi_mapped.proofs.CodeImages.{either}
use Rattle.cfi_mapped.proofs.ReadFiles.{told_read}
use Rattle.cfi_mapped.proofs.read_files.read_file.Goals as goal

pub invariant_of-result : goal.invariant_of-result
invariant_of-result g c =
    let file = c.args.file.now in
    let told = is_text file.name.now file.process in
    record {
      told = told_read string_bytes map_name file.name.now c.in_ok-map_name.map_name file.process c.in_ok-code.code c.in_ok-map_name.ensures
          (λ is. c.in_ok-code.ensures.whole (c.reads_all.ensures ∙ either c.args.whole told is));
    }

pub returns-clause-opened : goal.returns-clause-opened
returns-clause-opened g c =
    let (bytes, contents, of) = c.in_ok-code.ensures.contents in
    let (debug, debug_of, debug_is) = c.in_ok-debug.ensures bytes of in (
      bytes,
      debug,
      contents,
      debug_of,
      record {
        name_is = refl;
        build_id_is = refl;
        bytes_are = of;
        debug_is = debug_is;
        process_is = refl;
        map_name_is = sym c.in_ok-map_name.ensures;
      },
    )
