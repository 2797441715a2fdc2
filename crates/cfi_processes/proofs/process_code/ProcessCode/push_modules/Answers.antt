use Rattle.std.proofs.Common.{◌∙◌, ap, map, sym, subst}
use Rattle.cfi_processes.specs.FileModules.{AreModulesOfFiles}
use Rattle.cfi_processes.specs.KnownFiles.{known_view}
use Rattle.cfi_processes.proofs.ModuleLemmas.{module_appended, no_module, one_more_module}
use Rattle.cfi_processes.proofs.process_code.ProcessCode.push_modules.Goals.{in-Some+in_ok-push, in_default}
use Rattle.cfi_processes.proofs.process_code.ProcessCode.push_modules.Goals as goal

pub returns-in_err-push-clause-files : goal.returns-in_err-push-clause-files
returns-in_err-push-clause-files c = λ are. subst (AreModulesOfFiles c.args.self.now.files.now) (sym c.in_err-push.ensures.items) (c.loop-mapped.invariant.1 are)

pub loop-mapped-preserved : goal.loop-mapped-preserved
loop-mapped-preserved c =
    let files = c.args.self.now.files.now in
    let before = c.loop-mapped.modules.items in
    let after = c.match-module_at.modules.items in
    elim c.match-module_at.branch [
      | in-Some+in_ok-push w ↦
          let appended = ap (λ list. list.items) w.modules-is ∙ w.in_ok-push.ensures.items in (
            module_appended (map known_view files) c.args.self.now.mappings.now c.loop-mapped.mapped-index _ c.loop-mapped-test.true before after _ w.in-Some.module c.module_at.result appended w.in-Some.is
                c.module_at.ensures.module c.loop-mapped.invariant.0,
            λ are. one_more_module files before after w.in-Some.module c.module_at.result appended w.in-Some.is c.module_at.ensures.file (c.loop-mapped.invariant.1 are),
          )
      | in_default w ↦
          let same = ap (λ list. list.items) w.modules-is in (
            no_module (map known_view files) c.args.self.now.mappings.now c.loop-mapped.mapped-index _ c.loop-mapped-test.true before after _ c.module_at.result same w.in_default.is
                c.module_at.ensures.module c.loop-mapped.invariant.0,
            λ are. subst (AreModulesOfFiles files) (sym same) (c.loop-mapped.invariant.1 are),
          )
    ]
