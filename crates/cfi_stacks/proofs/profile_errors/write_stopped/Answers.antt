use Rattle.std.proofs.Common.{refl}
use Rattle.cfi_stacks.proofs.profile_errors.write_stopped.Goals as goal

pub returns-in-Records : goal.returns-in-Records
returns-in-Records g c = rw c.in-Records.is c.write_perf_refusal.ensures

pub returns-in-Profile : goal.returns-in-Profile
returns-in-Profile g c = rw c.in-Profile.is c.write_perf_refusal-in-Profile.ensures

pub returns-in-UnknownMachine : goal.returns-in-UnknownMachine
returns-in-UnknownMachine g c = rw c.in-UnknownMachine.is c.write_unknown_machine.ensures

pub returns-in-Input : goal.returns-in-Input
returns-in-Input g c = rw c.in-Input.is c.write_input_refusal.ensures

pub returns-in-Visitor : goal.returns-in-Visitor
returns-in-Visitor g c = rw c.in-Visitor.is (refl, refl)
