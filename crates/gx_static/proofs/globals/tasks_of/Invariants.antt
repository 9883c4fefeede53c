use Rattle.std.proofs.Common.{◌≡◌, [], ◌∷◌, vec_len}
use Rattle.gx_static.specs.declared.typing.Task.TheVariants.{Infer}
use Rattle.gx_static.specs.Typing.{tasks_of}
use Rattle.gx_static.proofs.globals.tasks_of.Given as goal

-- the tasks of the declarations that are left lie over those that are put down
abbrev pub invariant-loop-declaration : goal.invariant-loop-declaration
invariant-loop-declaration l = tasks_of l.declarations.items l.tasks ≡ tasks_of l.fn.core.declarations (Infer l.fn.core.body ∷ [])

abbrev pub decreases-loop-declaration : goal.decreases-loop-declaration
decreases-loop-declaration l = vec_len l.declarations
