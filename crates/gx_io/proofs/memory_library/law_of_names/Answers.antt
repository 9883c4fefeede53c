use Rattle.gx_io.proofs.FilesLemmas.{file_of-with_file, file_of-with_other}
use Rattle.gx_io.proofs.memory_library.law_of_names.Goals as goal

pub returns : goal.returns
returns c = record { set = file_of-with_file; others = file_of-with_other }
