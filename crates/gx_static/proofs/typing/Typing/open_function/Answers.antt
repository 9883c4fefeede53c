use Rattle.gx_static.proofs.Declaring.{function_opens}
use Rattle.gx_static.proofs.typing.Typing.open_function.Goals as goal

pub returns : goal.returns
returns c = λ schemas.
    rw (c.in_ok-push-2.ensures.ok, c.in_ok-push.ensures.ok, c.in_ok-bind_parameters.ensures, c.as_slice.ensures)
    (function_opens schemas c.args.function c.args.self.now.tasks c.args.self.now.parts c.args.self.now.scope c.args.self.now.declared.items)
