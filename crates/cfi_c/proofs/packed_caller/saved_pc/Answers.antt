use Rattle.std.proofs.Common.{◌<◌, ◌^◌, ◌∙◌, rules, sym}
use Rattle.cfi_c.proofs.PackedReads.{saved_none, saved_some}
use Rattle.cfi_c.proofs.packed_caller.saved_pc.Goals as goal

pub returns-in-Some : goal.returns-in-Some
returns-in-Some c =
    let small : c.in-Some.pc < 2 ^ 64 = search rules in
    saved_some c.args.memory.now c.args.address c.args.signature c.requires.size c.in-Some.pc small (sym c.read.ensures ∙ c.in-Some.is)

pub returns-in-None : goal.returns-in-None
returns-in-None c = saved_none c.args.memory.now c.args.address c.args.signature c.requires.size (sym c.read.ensures ∙ c.in-None.is)
