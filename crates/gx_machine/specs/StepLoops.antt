-- What a loop of steps comes to.
use Rattle.gx_core.specs.Meaning.{Context, Denotation}
use Rattle.gx_joins.specs.JoinedMeaning.{joined_meaning as joined}
use Rattle.gx_core.specs.PathLaws.{loop_of_steps}
use Rattle.gx_machine.specs.declared.paths.StepLoop.{StepLoop}

abbrev pub steps_meaning : Context → StepLoop → Denotation
steps_meaning k steps = loop_of_steps k steps.binder.now steps.axis steps.test.now (joined k steps.source.now)
