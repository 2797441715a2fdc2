-- The lines of the program for one section that say that its words or its input are wrong.
use Rattle.std.specs.Prelude.{codes}
use Rattle.cfi_text.specs.Lines.{Line, line}

abbrev pub wrong_words : Line
wrong_words = line (codes "wrong words") 2

abbrev pub wrong_hexadecimal : Line
wrong_hexadecimal = line (codes "wrong hexadecimal") 2

abbrev pub wrong_input : Line
wrong_input = line (codes "wrong input") 2
