use Rattle.gx_schema.proofs.Imports as imports
use Rattle.gx_schema.proofs.laws.imports_are_one.Goals as goal

pub returns : goal.returns
returns c = imports.imports_are_one c.judgements_are_one.ensures
