use Rattle.gx_processor.proofs.KnownTypes.{named_queries_are_judged_by_inclusion}
use Rattle.gx_processor.proofs.laws.named_queries_are_judged_by_inclusion.Goals as goal

pub returns : goal.returns
returns c = named_queries_are_judged_by_inclusion
