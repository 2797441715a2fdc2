use Rattle.std.proofs.Common.{◌≡◌, ◌∙◌, Bool, Bor, List, ℕ, None, Option, ap, option_map, string_bytes, subst, sym}
use Rattle.std.specs.Prelude.{if◌then◌else◌}
use Rattle.cfi_mapped.specs.CodeParts.{ArePartsOfBytes}
use Rattle.cfi_processes.specs.KnownFiles.{code_view}
use Rattle.cfi_processes.specs.Objects.{Object}
use Rattle.cfi_processes.specs.ProfileFiles.{IsCodeOf, functions_if, kernel_text_of, code_map_of, object_if}
use Rattle.cfi_mapped.specs.Wanted.{as_code, is_text}
use Rattle.cfi_mapped.proofs.CodeImages.{code_kept}
use Rattle.cfi_processes.proofs.ProfileImages.{kernel_told, map_told, same_functions, same_object}
use Rattle.cfi_processes.proofs.profile_files.profile_file.Goals as goal

pub returns : goal.returns
returns c = λ one is.
    let opened = c.args.opened.now in
    let image = c.image-image.ensures in
    let code = as_code opened.name.now opened.process opened.code in
    let bytes = as_code one.name one.process one.bytes in
    let text : is_text opened.name.now opened.process ≡ is_text one.name one.process = λ i. is_text (sym is.name_is i) (sym is.process_is i) in
    let kept : ArePartsOfBytes code bytes = subst (λ (text : Bool). ArePartsOfBytes code (if text then None else one.bytes)) text (code_kept (is_text opened.name.now opened.process) opened.code one.bytes is.bytes_are) in
    let debug = c.debug_image-debug.ensures in
    let functions = c.in_ok-functions.ensures ∙ ((λ i. functions_if c.args.named (image i) (debug i)) ∙ same_functions opened.debug one.debug is.debug_is c.args.named code bytes kept) in
    let object = (λ i. object_if (image i) (debug i)) ∙ same_object opened.debug one.debug is.debug_is code bytes kept in
    let kernel = c.in_ok-kernel.ensures ∙ (kernel_told opened.name.now opened.map_name opened.code one.bytes is.bytes_are opened.told ∙ ap (λ (name : List ℕ). kernel_text_of name one.bytes) (sym is.name_is)) in
    let code_map = c.in_ok-code_map.ensures ∙ (map_told string_bytes opened.name.now opened.map_name opened.code one.bytes is.bytes_are opened.told ∙ ap (code_map_of one.bytes) (sym is.map_name_is)) in (
      ap (λ (name : Bor (List ℕ)). name.now) c.new.ensures ∙ sym is.name_is,
      sym is.build_id_is,
      functions,
      kernel,
      sym is.process_is,
      code_map,
      subst (λ (o : Option Object). IsCodeOf o (option_map code_view c.in_ok-code.code)) object c.in_ok-code.ensures,
    )
