use Rattle.gx_include_takes.proofs.automaton.Automaton.next.Goals as goal

pub returns-in-Some-clause-within : goal.returns-in-Some-clause-within
returns-in-Some-clause-within c = (c.in-Some.ensures c.args.schemas.now c.args.t.now c.requires.kept).0
