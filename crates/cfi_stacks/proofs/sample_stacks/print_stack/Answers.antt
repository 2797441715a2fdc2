use Rattle.cfi_frames.proofs.SaidLemmas.{text_written}
use Rattle.cfi_stacks.specs.SampleOutputs.{sample_object, stack_view}
use Rattle.cfi_stacks.proofs.ShowLemmas.{stack_begun, stack_shown}
use Rattle.cfi_stacks.proofs.sample_stacks.print_stack.Goals as goal

pub returns-clause-printed : goal.returns-clause-printed
returns-clause-printed g c =
    let object = sample_object c.args.style.raw (stack_view c.args.stack.now) in
    stack_shown _ _ object c.args.style.format c.write_to.result
    (text_written _ _ c.clear.new.self c.put_stack.new.text object c.clear.ensures.empty c.args.style.format c.write_to.result c.put_stack.ensures c.write_to.ensures.whole c.write_to.ensures.unwritten c.write_to.ensures.written)

pub returns-clause-refused : goal.returns-clause-refused
returns-clause-refused g c =
    let object = sample_object c.args.style.raw (stack_view c.args.stack.now) in
    stack_begun _ _ object c.args.style.format c.write_to.result
    (text_written _ _ c.clear.new.self c.put_stack.new.text object c.clear.ensures.empty c.args.style.format c.write_to.result c.put_stack.ensures c.write_to.ensures.whole c.write_to.ensures.unwritten c.write_to.ensures.written)
