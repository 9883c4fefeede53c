use Rattle.gx_serial.specs.Binding.{outermost_scope}
use Rattle.gx_serial.proofs.ReadingLemmas.{tree_reads}
use Rattle.gx_serial.proofs.DeclarationLemmas.{tree_is_sound}
use Rattle.gx_serial.proofs.laws.written_names_read_back.Goals as goal

pub returns-clause-names : goal.returns-clause-names
returns-clause-names c = tree_reads outermost_scope

pub returns-clause-declarations : goal.returns-clause-declarations
returns-clause-declarations c = tree_is_sound outermost_scope
