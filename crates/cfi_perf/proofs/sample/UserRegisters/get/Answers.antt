use Rattle.std.proofs.Common.{◌≡◌, ◌<◌, ◌^◌, ℕ, Option, None, rules}
use Rattle.cfi_perf.specs.Samples.{sampled_register, registers_view}
use Rattle.cfi_perf.proofs.Registers.{none_there, there_as}
use Rattle.cfi_perf.proofs.sample.UserRegisters.get.Goals as goal

pub returns-then-number-ge64-clause-value : goal.returns-then-number-ge64-clause-value
returns-then-number-ge64-clause-value c =
    let bound : c.args.self.now.mask < 2 ^ 64 = search rules in none_there (registers_view c.args.self.now) c.args.number bound c.if-number-ge64.true

pub returns-then-number-ge64-clause-there : goal.returns-then-number-ge64-clause-there
returns-then-number-ge64-clause-there c =
    let bound : c.args.self.now.mask < 2 ^ 64 = search rules in
    there_as (registers_view c.args.self.now) c.args.number None c.args.self.now.whole (none_there (registers_view c.args.self.now) c.args.number bound c.if-number-ge64.true)

pub returns-in-Err-clause-there : goal.returns-in-Err-clause-there
returns-in-Err-clause-there c =
    let none : ◌≡◌ {A = Option ℕ} None (sampled_register (registers_view c.args.self.now) c.args.number) = search rules in
    there_as (registers_view c.args.self.now) c.args.number None c.args.self.now.whole none
