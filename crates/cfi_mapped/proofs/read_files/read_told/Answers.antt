use Rattle.cfi_mapped.proofs.ReadFiles.{told_kernel, told_none, told_process}
use Rattle.cfi_mapped.proofs.read_files.read_told.Goals as goal

pub returns-then-is_kernel-clause-contents : goal.returns-then-is_kernel-clause-contents
returns-then-is_kernel-clause-contents g c =
    told_kernel (g.O.Opener.may_open c.args.opener.now) g.O.File.Read.remaining c.args.is_kernel c.args.process c.if-is_kernel.true c.open_kernel_symbols.result c.open_kernel_symbols.ensures c.read_text.result c.read_text.ensures.contents

pub returns-in-Some-clause-contents : goal.returns-in-Some-clause-contents
returns-in-Some-clause-contents g c =
    told_process (g.O.Opener.may_open c.args.opener.now) g.O.File.Read.remaining c.args.is_kernel c.args.process c.in-Some.process c.if-is_kernel.false c.in-Some.is c.open_code_map.result c.open_code_map.ensures c.read_text-in-Some.result c.read_text-in-Some.ensures.contents

pub returns-in-None-clause-contents : goal.returns-in-None-clause-contents
returns-in-None-clause-contents g c = told_none (g.O.Opener.may_open c.args.opener.now) g.O.File.Read.remaining c.args.is_kernel c.args.process c.if-is_kernel.false c.in-None.is
