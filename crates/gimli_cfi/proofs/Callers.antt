-- Lemmas that the proofs of a crate over this library cite, so that it needs no other crate for them.
pub use Rattle.cfi_parts.proofs.ExpressionPlaces.{found_in}
pub use Rattle.cfi_unwind.proofs.Answered.{answered_by, chosen_by, ok_answered_by, read_by}
