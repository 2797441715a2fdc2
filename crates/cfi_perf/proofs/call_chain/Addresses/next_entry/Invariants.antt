use Rattle.std.proofs.Common.{◌≡◌}
use Rattle.cfi_perf.specs.CallChains.{chain_left}
use Rattle.cfi_perf.proofs.call_chain.Addresses.next_entry.Given as goal

-- what is left of the entries has all addresses
abbrev pub invariant-loop-self : goal.invariant-loop-self
invariant-loop-self l = (chain_left l.self ≡ chain_left l.fn.self) × (l.self.first ≡ l.fn.self.first)

abbrev pub decreases-loop-self : goal.decreases-loop-self
decreases-loop-self l = l.self.left
