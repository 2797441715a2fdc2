use Rattle.std.proofs.Common.{subst, sym}
use Rattle.std.proofs.lemmas.Result.{on_ok_weaker}
use Rattle.cfi_mapped.specs.Mappings.{IsMappedOver}
use Rattle.cfi_mapped.proofs.MappedOver.{is_mapped_over}
use Rattle.cfi_mapped.proofs.mappings.Mappings.map.Goals as goal

pub returns-then-has_bytes-clause-places : goal.returns-then-has_bytes-clause-places
returns-then-has_bytes-clause-places c =
    on_ok_weaker c.put.result (λ put. subst (IsMappedOver c.args.new c.args.self.now) (sym put) (is_mapped_over c.args.new c.args.self.now)) c.put.ensures.list
