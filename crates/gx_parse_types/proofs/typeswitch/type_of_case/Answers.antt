use Rattle.gx_parse_types.proofs.typeswitch.type_of_case.Goals as goal

pub returns-in_default : goal.returns-in_default
returns-in_default c = λ n. let done = rw c.in_default.is at (c.sequence_type.ensures n) in done.1 _

pub returns : goal.returns
returns c = λ n. c.in-Some.ensures n
