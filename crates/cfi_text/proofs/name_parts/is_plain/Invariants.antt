use Rattle.std.proofs.Common.{◌≡◌, ◌&&◌, drop}
use Rattle.std.specs.List.{list_all}
use Rattle.cfi_text.specs.Names.{is_printable_ascii}
use Rattle.cfi_text.proofs.name_parts.is_plain.Given as goal

abbrev pub invariant-loop-byte : goal.invariant-loop-byte
invariant-loop-byte l = (l.is_plain && list_all is_printable_ascii (drop l.byte-index l.name)) ≡ list_all is_printable_ascii l.name
