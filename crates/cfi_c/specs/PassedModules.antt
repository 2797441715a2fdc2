-- The modules that C passes.
--     passed_module_at modules a      the first module whose code the address is in
--     is_debug_frame module      whether its section is .debug_frame
--     sized size bases      the bases, with the size of an address that the stack has
--     passed_section_in size module      its section, with that size
use Rattle.std.specs.Prelude.{ℕ, Bool, ◌&&◌, List, is_none, Option}
use Rattle.cfi_entry.specs.Sections.{Section}
use Rattle.cfi_step.specs.CodeRanges as ranges
use Rattle.cfi_step.specs.CodeRanges.{first_with_code}
use Rattle.cfi_c.specs.declared.section.CfiBases.{CfiBases}
use Rattle.cfi_c.specs.declared.module.CfiModule.{CfiModule}
use Rattle.cfi_c.specs.PassedSections.{header_in, section_beside}

abbrev pub code_start : CfiModule → ℕ
code_start loaded = loaded.start

abbrev pub code_end : CfiModule → ℕ
code_end loaded = loaded.end

abbrev pub has_code : CfiModule → ℕ → Bool
has_code = ranges.has_code code_start code_end

abbrev pub passed_module_at : List CfiModule → ℕ → Option CfiModule
passed_module_at = first_with_code code_start code_end

-- it says so, and has no header
abbrev pub is_debug_frame : CfiModule → Bool
is_debug_frame loaded = loaded.bases.debug_frame && is_none (header_in loaded.header.now)

abbrev pub sized : ℕ → CfiBases → CfiBases
sized size bases = record bases { address_size = size }

abbrev pub passed_section_in : ℕ → CfiModule → Section
passed_section_in size loaded =
    section_beside (header_in loaded.header.now) (sized size loaded.bases) loaded.section.now
