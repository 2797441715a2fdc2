use Rattle.cfi_frames.proofs.SaidLemmas.{text_written}
use Rattle.cfi_core_stacks.specs.ThreadOutputs.{stack_view, thread_object}
use Rattle.cfi_core_stacks.proofs.core_text.print_stack.Goals as goal

pub returns : goal.returns
returns g c =
    text_written _ _ c.new-text.result c.put_stack.new.text (thread_object c.args.listing.raw (stack_view c.args.stack.now)) c.new-text.ensures.empty c.args.listing.format c.write_to.result c.put_stack.ensures c.write_to.ensures.whole c.write_to.ensures.unwritten c.write_to.ensures.written
