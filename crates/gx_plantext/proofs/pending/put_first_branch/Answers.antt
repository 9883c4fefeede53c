use Rattle.std.proofs.lemmas.List.{nil_from_length}
use Rattle.gx_plantext.proofs.PartLemmas.{fields_joined}
use Rattle.gx_plantext.proofs.pending.put_first_branch.Goals as goal

pub returns-in_default : goal.returns-in_default
returns-in_default c = rw (nil_from_length c.args.cases.now c.in_default.ensures.cases, fields_joined c.args.branches.now) c.put_default.ensures
