use Rattle.gx_schema.proofs.NumberedFiles.{is_broken_in_a_file}
use Rattle.gx_schema.proofs.laws.a_rule_is_broken_in_a_file.Goals as goal

pub returns : goal.returns
returns c = is_broken_in_a_file
