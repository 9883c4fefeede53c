use Rattle.gx_machine.proofs.evaluator.joined_value.Given as goal

abbrev pub ghosts-counted_value : goal.ghosts-counted_value
ghosts-counted_value a = record { name = a.steps.name; parts = a.steps.parts }
