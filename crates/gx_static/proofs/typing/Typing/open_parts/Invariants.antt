use Rattle.std.proofs.Common.{◌≡◌, ◌∷◌, List, vec_len}
use Rattle.gx_types.specs.SchemaSet.{SchemaSet}
use Rattle.gx_core.specs.Soundness.{TypedExpression}
use Rattle.gx_static.specs.declared.typing.Task.TheVariants.{Finish}
use Rattle.gx_static.specs.Typing.{continued, typed_in_order}
use Rattle.gx_static.proofs.typing.Typing.open_parts.Given as goal

-- typing the arguments that are left, and then what is put down, comes to typing all arguments
abbrev pub invariant-loop-part : goal.invariant-loop-part
invariant-loop-part l = record {
  same : (schemas : SchemaSet) (there : List TypedExpression)
      → typed_in_order schemas l.parts.items l.fn.self.scope (λ parts. continued schemas l.self.tasks parts l.fn.self.scope l.fn.self.declared.items) there
      ≡ typed_in_order schemas l.fn.parts.items l.fn.self.scope
      (λ parts. continued schemas (Finish l.fn.place l.fn.outer l.fn.operator ∷ l.fn.self.tasks) parts l.fn.self.scope l.fn.self.declared.items) there;
  same_parts : l.self.parts ≡ l.fn.self.parts;
  same_scope : l.self.scope ≡ l.fn.self.scope;
  same_declared : l.self.declared.items ≡ l.fn.self.declared.items;
}

abbrev pub decreases-loop-part : goal.decreases-loop-part
decreases-loop-part l = vec_len l.parts
