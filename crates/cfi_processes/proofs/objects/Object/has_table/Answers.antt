use Rattle.std.proofs.Common.{◌≡◌, Bool, true, false, Option, Some, None, not, option_map, refl}
use Rattle.std.specs.Option.{is_some}
use Rattle.cfi_processes.proofs.objects.Object.has_table.Goals as goal

none_given : {A B : Type 0} (f : A → B) (o : Option A) (b : Bool) → is_some o ≡ not b → b ≡ not (is_some (option_map f o))
none_given f None true is = refl
none_given f None false is = absurd (cc)
none_given f (Some x) true is = absurd (cc)
none_given f (Some x) false is = refl

pub returns : goal.returns
returns c = none_given _ c.args.self.now.header c.is_none.result c.is_none.ensures
