use Rattle.std.proofs.Common.{◌≡◌, ◌∷◌, List, length, vec_len}
use Rattle.gx_types.specs.SchemaSet.{SchemaSet}
use Rattle.gx_core.specs.Soundness.{TypedExpression}
use Rattle.gx_static.specs.declared.typing.Task.TheVariants.{FinishCall}
use Rattle.gx_static.specs.Typing.{continued, typed_in_order}
use Rattle.gx_static.proofs.typing.Typing.open_call.Given as goal

-- typing the arguments that are left, and then what is put down, comes to typing all arguments
abbrev pub invariant-loop-argument : goal.invariant-loop-argument
invariant-loop-argument l = record {
  same : (schemas : SchemaSet) (there : List TypedExpression)
      → typed_in_order schemas l.arguments.items l.fn.self.scope (λ parts. continued schemas l.self.tasks parts l.fn.self.scope l.fn.self.declared.items) there
      ≡ typed_in_order schemas l.fn.arguments.items l.fn.self.scope
      (λ parts. continued schemas (FinishCall l.fn.place l.fn.outer l.fn.function (length l.fn.arguments.items) ∷ l.fn.self.tasks) parts l.fn.self.scope l.fn.self.declared.items) there;
  same_parts : l.self.parts ≡ l.fn.self.parts;
  same_scope : l.self.scope ≡ l.fn.self.scope;
  same_declared : l.self.declared.items ≡ l.fn.self.declared.items;
}

abbrev pub decreases-loop-argument : goal.decreases-loop-argument
decreases-loop-argument l = vec_len l.arguments
