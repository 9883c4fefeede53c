use Rattle.gx_include.proofs.WellFormed as well_formed
use Rattle.gx_include.proofs.laws.no_excludes_inclusion.Goals as goal

pub returns : goal.returns
returns c = well_formed.no_excludes_inclusion
