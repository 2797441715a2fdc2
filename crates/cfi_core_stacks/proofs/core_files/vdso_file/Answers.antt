use Rattle.std.proofs.Common.{refl, sym}
use Rattle.cfi_cores.specs.CoreFiles.{core_view}
use Rattle.cfi_core_stacks.proofs.VdsoFiles.{is_all, is_of, vdso_held}
use Rattle.cfi_core_stacks.proofs.core_files.vdso_file.Goals as goal

pub returns-clause-vdso : goal.returns-clause-vdso
returns-clause-vdso c =
    let found = rw (c.as_slice-segments.ensures.value, c.as_slice-mapped.ensures.value, c.vdso_name-name.ensures) at c.in-Some.ensures in
    let build = rw (c.as_slice-segments.ensures.value, c.as_slice-mapped.ensures.value, c.vdso_name-name.ensures) at c.build_of.ensures in
    vdso_held (core_view c.args.core.now) _ c.in-Some.image.now (sym found) c.vdso_name-name.ensures build (is_of c.whole.result _ c.in-Some.image.now c.whole.ensures (c.in_ok-to_vec.ensures.items_if_clones_equal (λ x y same. same))) refl refl refl

pub returns-clause-whole : goal.returns-clause-whole
returns-clause-whole c = is_all c.whole.result _ c.whole.ensures
