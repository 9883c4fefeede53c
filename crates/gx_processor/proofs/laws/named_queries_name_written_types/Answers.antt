use Rattle.gx_processor.proofs.KnownTypes.{named_queries_name_written_types}
use Rattle.gx_processor.proofs.laws.named_queries_name_written_types.Goals as goal

pub returns : goal.returns
returns c = named_queries_name_written_types
