use Rattle.std.proofs.Common.{Bor, List, ℕ, ap, option_map}
use Rattle.cfi_mapped.proofs.ReadFiles.{debug_gone, debug_some}
use Rattle.cfi_mapped.proofs.read_files.read_debug_of.Goals as goal

pub returns-in-Some : goal.returns-in-Some
returns-in-Some g c =
    debug_some (g.O.Opener.may_open c.args.opener.now) g.O.File.Read.remaining (option_map (λ (build : Bor (List ℕ)). build.now) c.args.build) c.in-Some.build.now (ap (option_map (λ (build : Bor (List ℕ)). build.now)) c.in-Some.is) c.open_debug.result c.open_debug.ensures c.read_build.result c.read_build.ensures.contents

pub returns-in-None : goal.returns-in-None
returns-in-None g c = debug_gone (g.O.Opener.may_open c.args.opener.now) g.O.File.Read.remaining (option_map (λ (build : Bor (List ℕ)). build.now) c.args.build) (ap (option_map (λ (build : Bor (List ℕ)). build.now)) c.in-None.is)
