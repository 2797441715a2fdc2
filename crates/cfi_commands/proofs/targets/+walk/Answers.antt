use Rattle.std.proofs.Common.{◌≡◌, ◌-◌, [], ◌∷◌, ℕ, List, Bor, Some, None, arith, map, refl, string_bytes, subst, sym, take, rules}
use Rattle.std.proofs.lemmas.List.{take_all}
use Rattle.std.proofs.lemmas.Result.{on_ok_weaker}
use Rattle.clap.specs.Words.{Text}
use Rattle.cfi_commands.specs.Targets.{AreOfNames, AreIn, AreOfEntry, IsEntry, tree_entry_view, found, target_view, unread}
use Rattle.cfi_commands.specs.Trees.{tree_of}
use Rattle.cfi_commands.proofs.NameLemmas.{text_of}
use Rattle.cfi_commands.proofs.TargetLemmas.{adds_one, listed_folder, next_name, too_deep}
use Rattle.cfi_commands.proofs.targets.+walk.Goals as goal

pub push_entry-returns-in-One : goal.push_entry-returns-in-One
push_entry-returns-in-One g t c =
    let tree = tree_of (g.S.System.may_be c.args.system.now) (g.S.System.may_list c.args.system.now) in
    let target = c.in-One.target in
    let same : AreOfEntry (AreIn tree c.args.depth) (tree_entry_view c.args.entry) (target_view target ∷ []) = subst (λ e. AreOfEntry (AreIn tree c.args.depth) (tree_entry_view e) (target_view target ∷ [])) (sym c.in-One.is) refl in
    on_ok_weaker c.push.result (adds_one target (AreOfEntry (AreIn tree c.args.depth) (tree_entry_view c.args.entry)) c.args.targets.now.items c.push.new.targets.items same) c.push.ensures

pub push_folder-returns-then-depth-eq0 : goal.push_folder-returns-then-depth-eq0
push_folder-returns-then-depth-eq0 g t c =
    let tree = tree_of (g.S.System.may_be c.args.system.now) (g.S.System.may_list c.args.system.now) in
    let path : string_bytes c.in_ok-path.path ≡ c.args.folder.now = c.in_ok-path.ensures.ok in
    let deep : AreIn tree c.args.depth c.args.folder.now (found (string_bytes c.in_ok-path.path) ∷ []) =
    subst (λ (p : Text). AreIn tree c.args.depth c.args.folder.now (found p ∷ [])) (sym path) (too_deep tree c.args.depth c.args.folder.now (omega (arith, c.if-depth-eq0.true))) in
    on_ok_weaker c.push.result (adds_one _ (AreIn tree c.args.depth c.args.folder.now) c.args.targets.now.items c.push.new.targets.items deep) c.push.ensures

pub push_folder-returns-in_default : goal.push_folder-returns-in_default
push_folder-returns-in_default g t c =
    let tree = tree_of (g.S.System.may_be c.args.system.now) (g.S.System.may_list c.args.system.now) in
    let none : tree.MayList c.args.folder.now None = search rules in
    let unreadable : AreIn tree c.args.depth c.args.folder.now (unread ∷ []) =
    listed_folder tree c.args.depth c.args.folder.now None (unread ∷ []) (omega (arith, c.if-depth-eq0.false)) none refl in
    on_ok_weaker c.push-in_default.result (adds_one _ (AreIn tree c.args.depth c.args.folder.now) c.args.targets.now.items c.push-in_default.new.targets.items unreadable) c.push-in_default.ensures

pub push_folder-loop-name-preserved : goal.push_folder-loop-name-preserved
push_folder-loop-name-preserved g t c =
    let tree = tree_of (g.S.System.may_be c.args.system.now) (g.S.System.may_list c.args.system.now) in
    next_name (IsEntry tree c.args.folder.now) (AreIn tree (c.args.depth - 1)) c.as_slice-name-items.result.now c.loop-name.name-index (tree_entry_view c.in_ok-entry.entry) c.args.targets.now.items c.loop-name.targets.items
    c.push_entry.new.targets.items c.loop-name-test.true c.loop-name.invariant c.in_ok-entry.ensures c.in_ok-push_entry.ensures

pub push_folder-returns : goal.push_folder-returns
push_folder-returns g t c =
    let tree = tree_of (g.S.System.may_be c.args.system.now) (g.S.System.may_list c.args.system.now) in
    let names = c.as_slice-name-items.result.now in
    let all : take c.loop-name.name-index names ≡ names = take_all c.loop-name.name-index names (omega (arith, c.loop-name-test.false)) in
    let (more, each, are) = c.loop-name.invariant in (
      more,
      listed_folder tree c.args.depth c.args.folder.now (Some c.in-Some.list.items) more (omega (arith, c.if-depth-eq0.false)) c.in-Some.ensures (
        map text_of names,
        search rules,
        subst (λ (front : List (Bor (List ℕ))). AreOfNames (IsEntry tree c.args.folder.now) (AreIn tree (c.args.depth - 1)) (map text_of front) more) all each,
      ),
      are,
    )
