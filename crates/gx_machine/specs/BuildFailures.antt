-- What the refusal of a constructor is to an evaluation.
use Rattle.gx_base.specs.declared.code.Code.TheVariants.{XQDY0025, GLXD0003}
use Rattle.gx_build.specs.declared.error.BuildError.{BuildError}
use Rattle.gx_build.specs.declared.error.BuildError.TheVariants as errors
use Rattle.gx_machine.specs.declared.failure.Failure.{Failure}
use Rattle.gx_machine.specs.declared.failure.Failure.TheVariants.{Raised, Wrong, Memory}

abbrev pub failure_of : BuildError → Failure
failure_of errors.DuplicateAttribute = Raised XQDY0025
failure_of errors.TooDeep = Raised GLXD0003
failure_of errors.WrongContent = Wrong
failure_of errors.Memory = Memory
