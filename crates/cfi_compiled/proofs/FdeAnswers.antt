-- The answer of an FDE for an address is that of the rows that are to come of its table.
use Rattle.std.proofs.Common.{◌≡◌, ℕ, Bool, false, cond, List, [], Option, Result, Ok, Err, sym, ap, subst, ◌≤◌, ◌∙◌}
use Rattle.cfi_read_core.specs.ReadFunctions.{Readings}
use Rattle.cfi_read_core.specs.declared.error.Error.{Error}
use Rattle.cfi_read_core.specs.declared.error.Error.TheVariants.{OutOfMemory}
use Rattle.cfi_parts.specs.Instructions.{Instruction}
use Rattle.cfi_state.specs.MachineSettings.{Setting}
use Rattle.cfi_state.specs.Machine.{State}
use Rattle.cfi_state.specs.Row.{Row}
use Rattle.cfi_state.specs.Allocation.{may_allocate}
use Rattle.cfi_state.specs.Program.{in_fde}
use Rattle.cfi_state.specs.FdeAnswers.{AreConsecutive, answer_at, answers, cie_refusal, rows_of, run_answers}
use Rattle.cfi_state.specs.Cases.{on_option}
use Rattle.cfi_state.specs.UnwindTableStates.{TableState, run_answers_to_come}
use Rattle.cfi_state.proofs.IsStateAfter.{accepted_value, refused_error, run_law}
use Rattle.cfi_entry.specs.EntryInstructions.{cie_instructions, fde_instructions}
use Rattle.cfi_entry.specs.Fdes.{Fde, end_of}
use Rattle.cfi_entry.specs.Sections.{Section}
use Rattle.cfi_unwind.specs.AddressRow.{row_of_fde, setting}
use Rattle.cfi_unwind.specs.UnwindTableCalls.{AcceptsCieProgram}
use Rattle.cfi_compiled.specs.FrameParts.{facts_of, frame_of_fde, frame_of_row}
use Rattle.cfi_compiled.specs.declared.facts.CieFacts.{CieFacts}
use Rattle.cfi_compiled.proofs.KeptCies.{kept_cie_is}

module _ (rule_limit stack_limit : Option ℕ) (copies_free : Bool) (section : Section) (fde : Fde) where
  abbrev s : Setting
  s = setting rule_limit stack_limit fde

  abbrev cie : Readings Instruction
  cie = cie_instructions section fde.cie

  abbrev program : Readings Instruction
  program = fde_instructions section fde

  pub by_rows : (t : Setting) (p : TableState (State ℕ) ℕ) → t ≡ s → AcceptsCieProgram s copies_free cie (Ok p.so_far) → p.left ≡ program → p.has_ended ≡ false
      → (a : ℕ) → answer_at a (run_answers_to_come t p) ≡ row_of_fde rule_limit stack_limit section a fde
  by_rows t p same (all, keeps, stands) left runs a =
      let accepted = accepted_value (cie_refusal s cie) cie.values all (kept_cie_is (may_allocate s copies_free) s cie (Ok all) keeps (λ is. cc)) in
      ap (λ (x : Setting). answer_at a (run_answers_to_come x p)) same
      ∙ ap (λ b. answer_at a (cond b [] (run_answers s p.so_far p.left))) runs
      ∙ ap (λ (l : Readings Instruction). answer_at a (run_answers s p.so_far l)) left
      ∙ ap (λ (x : State ℕ). answer_at a (run_answers s x program)) stands.1
      ∙ ap (answer_at a) (run_law s program.values program.refusal (in_fde all []) stands.0)
      ∙ ap (λ (l : List Instruction). answer_at a (answers s (in_fde l []) program)) accepted.1
      ∙ sym (ap (on_option (answer_at a (answers s (in_fde cie.values []) program)) (λ e. Err e)) accepted.0)

  pub same_frame : (facts : CieFacts) (answer : Result (Row ℕ) Error) (a : ℕ) → facts ≡ facts_of fde → answer ≡ row_of_fde rule_limit stack_limit section a fde → frame_of_row facts answer ≡ frame_of_fde rule_limit stack_limit section a fde
  same_frame facts answer a says is = ap (λ (f : CieFacts). frame_of_row f answer) says ∙ ap (frame_of_row (facts_of fde)) is

  pub by_refusal : (e : Error) → (e ≡ OutOfMemory → ⊥) → AcceptsCieProgram s copies_free cie (Err e) → (a : ℕ) → row_of_fde rule_limit stack_limit section a fde ≡ Err e
  by_refusal e other keeps a =
      ap (on_option (answer_at a (answers s (in_fde cie.values []) program)) (λ d. Err d))
      (refused_error (cie_refusal s cie) cie.values e (kept_cie_is (may_allocate s copies_free) s cie (Err e) keeps (λ is. other (let same : ◌≡◌ {A = Result (List Instruction) Error} (Err e) (Err OutOfMemory) = is in cc))))

  pub consecutive_at : (t : Setting) (p : TableState (State ℕ) ℕ) → t ≡ s → AreConsecutive s.initial_address (rows_of (run_answers_to_come s p)) s.end_address
      → AreConsecutive t.initial_address (rows_of (run_answers_to_come t p)) t.end_address
  consecutive_at t p same follow = subst (λ (x : Setting). AreConsecutive x.initial_address (rows_of (run_answers_to_come x p)) x.end_address) (sym same) follow

  pub start_at : (t : Setting) → t ≡ s → (a : ℕ) → fde.initial ≤ a → t.initial_address ≤ a
  start_at t same a le = subst (λ (x : Setting). x.initial_address ≤ a) (sym same) le

  pub last_at : (t : Setting) → t ≡ s → (a : ℕ) → a ≤ end_of fde → a ≤ t.end_address
  last_at t same a le = subst (λ (x : Setting). a ≤ x.end_address) (sym same) le
