use Rattle.std.proofs.Common.{◌≡◌, ◌-◌, Some, arith, length, min, refl}
use Rattle.cfi_perf.specs.Events.{record_view}
use Rattle.cfi_perf.specs.Windows.{IsWindow, record_bytes_left}
use Rattle.cfi_stacks.specs.declared.profile_index.ProfileIndex.{ProfileIndex}
use Rattle.cfi_stacks.proofs.FoundLemmas.{all_found, alone_of, next_found, none_of, others_of, walk_of, within_of}
use Rattle.cfi_stacks.proofs.profile_index.ProfileIndex.take_next.Goals as goal

pub returns-in-Ok-clause-next : goal.returns-in-Ok-clause-next
returns-in-Ok-clause-next c known pieces has found within =
    let old = c.args.self.now in
    let walk = c.args.walk.now in
    let walk' = c.next.new.self in
    let window = c.args.window.now in
    let item = c.in-Ok-Some.item in
    let told = c.in-Ok-Some.ensures in
    let is = c.in-Ok-Some.field-0-is in
    let (others, all, behind) = others_of old walk pieces window known has found within in
    let of : IsWindow window others (record_bytes_left walk) = record { all = all; enough = c.requires } in
    let size : c.min-size.result ≡ min (record_bytes_left walk - record_bytes_left walk') (length window) = omega (arith, c.min-size.ensures, c.saturating_sub.ensures, c.left-left.ensures, c.left.ensures) in
    next_found known old c.add.new.self walk walk' pieces window others (record_view item) c.passed-offset.result c.min-size.result c.passed-offset.ensures size all told.fewer found (within_of _ item is _ _ told.within)
    (alone_of _ item is walk _ (told.alone others of)) behind c.in-Ok.ensures.walk c.in-Ok.ensures.places c.in-Ok.ensures.kept c.in-Ok.ensures.kernel c.in-Ok.ensures.error c.in-Ok.ensures.tally c.in-Ok.ensures.indexed
    (walk_of _ item is walk walk' told.walk) told.same

pub returns-in-Ok-None-clause-next : goal.returns-in-Ok-None-clause-next
returns-in-Ok-None-clause-next c known pieces has found within =
    let old = c.args.self.now in
    let walk = c.args.walk.now in
    let window = c.args.window.now in
    let (others, all, behind) = others_of old walk pieces window known has found within in
    let of : IsWindow window others (record_bytes_left walk) = record { all = all; enough = c.requires } in
    all_found known old old walk c.next.new.self pieces window others found all behind refl refl refl refl (none_of _ _ _ old.error c.in-Ok-None.field-0-is found.no_error (c.in-Ok-None.ensures.met others of))

pub returns-in-Err-clause-next : goal.returns-in-Err-clause-next
returns-in-Err-clause-next c known pieces has found within =
    let old = c.args.self.now in
    let walk = c.args.walk.now in
    let window = c.args.window.now in
    let (others, all, behind) = others_of old walk pieces window known has found within in
    let of : IsWindow window others (record_bytes_left walk) = record { all = all; enough = c.requires } in
    let new : ProfileIndex = record { walk = old.walk; records = old.records; kernel = old.kernel; error = Some c.in-Err.error; tally = old.tally } in
    all_found known old new walk c.next.new.self pieces window others found all behind refl refl refl refl (c.in-Err.ensures.met others of).0
