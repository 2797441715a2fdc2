-- How answers are worded: by a style, and of the section that has their expressions.
--     worded style size section      in words, where an address of the section has this size
--     of_section style section      the same for a section as its entries are read
use Rattle.std.specs.Prelude.{ℕ, List}
use Rattle.cfi_read_core.specs.declared.instruction.UnwindExpression.{UnwindExpression}
use Rattle.cfi_read_core.specs.ReadFunctions.{Position}
use Rattle.cfi_entry.specs.Sections.{Section, position_of}
use Rattle.cfi_text.specs.declared.register_names.RegisterNames.{RegisterNames}
use Rattle.cfi_row_text.specs.ExpressionWords.{hexadecimal_of, in_words}
use Rattle.cfi_text.specs.declared.style.Format.{Format}
use Rattle.cfi_text.specs.declared.style.Format.TheVariants.{Text}
use Rattle.cfi_row_text.specs.declared.style.Style.{Style}

pub record Wording : Type 0 where
  pub names : RegisterNames
  pub format : Format
  pub words : UnwindExpression ℕ → List ℕ  -- an expression in words
  pub bytes : UnwindExpression ℕ → List ℕ  -- its bytes in hexadecimal

abbrev pub worded : Style → ℕ → Position → Wording
worded style size section = record {
  names = style.names;
  format = style.format;
  words = in_words style.names size section;
  bytes = hexadecimal_of section;
}

abbrev pub of_section : Style → Section → Wording
of_section style section = worded style section.address_size (position_of section)

-- lines of text with these names
abbrev pub text_style : RegisterNames → Style
text_style names = record { names = names; format = Text }
