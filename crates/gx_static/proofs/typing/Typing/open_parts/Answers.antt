use Rattle.std.proofs.Common.{◌≡◌, ◌++◌, ◌∷◌, [], ℕ, ◌-◌, List, take, ◌∙◌, sym, ap}
use Rattle.gx_core.specs.Expression.{CoreExpression}
use Rattle.gx_core.specs.Bindings.{Types}
use Rattle.gx_core.specs.Soundness.{TypedExpression}
use Rattle.gx_core.specs.Queries.{TypedDeclaration}
use Rattle.gx_static.specs.declared.typing.Task.{Task}
use Rattle.gx_static.specs.declared.typing.Task.TheVariants.{Finish}
use Rattle.gx_static.specs.Typing.{continued, typed_in_order}
use Rattle.gx_static.proofs.Continuing.{last_typed}
use Rattle.gx_static.proofs.typing.Typing.open_parts.Goals as goal

pub loop-part-preserved : goal.loop-part-preserved
loop-part-preserved c =
    let types : Types = c.args.self.now.scope in
    let declared : List TypedDeclaration = c.args.self.now.declared.items in
    let before : List Task = c.loop-part.self.tasks in
    let all : c.loop-part.parts.items ≡ c.pop.new.self.items ++ (c.in-Some.part ∷ []) = c.in-Some.ensures.items in
    record {
      same = λ schemas there.
          ap (λ (tasks : List Task). typed_in_order schemas c.pop.new.self.items types (λ parts. continued schemas tasks parts types declared) there) c.in_ok-push-2.ensures.ok
          ∙ sym (last_typed schemas c.pop.new.self.items c.in-Some.part types (λ parts. continued schemas before parts types declared) there)
          ∙ ap (λ (es : List CoreExpression). typed_in_order schemas es types (λ parts. continued schemas before parts types declared) there) (sym all)
          ∙ c.loop-part.invariant.same schemas there;
      same_parts = c.loop-part.invariant.same_parts;
      same_scope = c.loop-part.invariant.same_scope;
      same_declared = c.loop-part.invariant.same_declared;
    }

pub returns : goal.returns
returns c = λ schemas.
    let types : Types = c.args.self.now.scope in
    let declared : List TypedDeclaration = c.args.self.now.declared.items in
    let none : c.loop-part.parts.items ≡ [] =
    c.in_default.ensures.items
    ∙ ap (λ (es : List CoreExpression). es ++ []) (c.in_default.ensures.rest ∙ ap (λ (n : ℕ). take (n - 1) c.loop-part.parts.items) c.in_default.ensures.cases.0) in
    ap (λ (ds : List TypedDeclaration). continued schemas c.loop-part.self.tasks c.loop-part.self.parts c.loop-part.self.scope ds) c.loop-part.invariant.same_declared
    ∙ ap (λ (scope : Types). continued schemas c.loop-part.self.tasks c.loop-part.self.parts scope declared) c.loop-part.invariant.same_scope
    ∙ ap (λ (es : List CoreExpression). typed_in_order schemas es types (λ parts. continued schemas c.loop-part.self.tasks parts types declared) c.loop-part.self.parts) (sym none)
    ∙ c.loop-part.invariant.same schemas c.loop-part.self.parts
    ∙ ap (λ (parts : List TypedExpression). typed_in_order schemas c.args.parts.items types (λ parts. continued schemas (Finish c.args.place c.args.outer c.args.operator ∷ c.args.self.now.tasks) parts types declared) parts) c.loop-part.invariant.same_parts
