use Rattle.std.proofs.Common.{List, sym, ◌∙◌, ap}
use Rattle.gx_core.specs.Queries.{CoreDeclaration}
use Rattle.gx_static.specs.declared.typing.Task.{Task}
use Rattle.gx_static.specs.Typing.{tasks_of}
use Rattle.gx_static.proofs.Declaring.{tasks_joined}
use Rattle.gx_static.proofs.globals.tasks_of.Goals as goal

pub loop-declaration-preserved : goal.loop-declaration-preserved
loop-declaration-preserved c =
    let left : List CoreDeclaration = c.pop.new.self.items in
    let before : List Task = c.loop-declaration.tasks in
    ap (λ (tasks : List Task). tasks_of left tasks) c.in_ok-put_down.ensures
    ∙ sym (tasks_joined left c.in-Some.declaration before)
    ∙ ap (λ (ds : List CoreDeclaration). tasks_of ds before) (sym c.in-Some.ensures.items)
    ∙ c.loop-declaration.invariant
