pub mod NameLemmas
pub mod TextLemmas
mod WorkedNames
pub mod DigitLemmas
mod Printed
pub mod WrittenLemmas
pub mod PartsWritten
pub mod RefusedLines
mod JsonPrinted
mod RegistersNamed
