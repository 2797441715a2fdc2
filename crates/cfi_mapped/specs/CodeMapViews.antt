-- What a `CodeMap` of the code is.
use Rattle.cfi_mapped.specs.declared.code_map.CodeMap.{CodeMap}
use Rattle.cfi_mapped.specs.CodeMaps.{CodeMapText}

abbrev pub code_map_view : CodeMap → CodeMapText
code_map_view map = record { name = map.name.bytes.now; text = map.text.now }
