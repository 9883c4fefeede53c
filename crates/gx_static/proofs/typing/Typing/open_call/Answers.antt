use Rattle.std.proofs.Common.{◌≡◌, ◌++◌, ◌∷◌, [], ℕ, ◌-◌, List, length, take, ◌∙◌, sym, ap}
use Rattle.gx_core.specs.Expression.{CoreExpression}
use Rattle.gx_core.specs.Bindings.{Types}
use Rattle.gx_core.specs.Soundness.{TypedExpression}
use Rattle.gx_core.specs.Queries.{TypedDeclaration}
use Rattle.gx_static.specs.declared.typing.Task.{Task}
use Rattle.gx_static.specs.declared.typing.Task.TheVariants.{FinishCall}
use Rattle.gx_static.specs.Typing.{continued, typed_in_order}
use Rattle.gx_static.proofs.Continuing.{last_typed}
use Rattle.gx_static.proofs.typing.Typing.open_call.Goals as goal

pub loop-argument-preserved : goal.loop-argument-preserved
loop-argument-preserved c =
    let types : Types = c.args.self.now.scope in
    let declared : List TypedDeclaration = c.args.self.now.declared.items in
    let before : List Task = c.loop-argument.self.tasks in
    let all : c.loop-argument.arguments.items ≡ c.pop.new.self.items ++ (c.in-Some.argument ∷ []) = c.in-Some.ensures.items in
    record {
      same = λ schemas there.
          ap (λ (tasks : List Task). typed_in_order schemas c.pop.new.self.items types (λ parts. continued schemas tasks parts types declared) there) c.in_ok-push-2.ensures.ok
          ∙ sym (last_typed schemas c.pop.new.self.items c.in-Some.argument types (λ parts. continued schemas before parts types declared) there)
          ∙ ap (λ (es : List CoreExpression). typed_in_order schemas es types (λ parts. continued schemas before parts types declared) there) (sym all)
          ∙ c.loop-argument.invariant.same schemas there;
      same_parts = c.loop-argument.invariant.same_parts;
      same_scope = c.loop-argument.invariant.same_scope;
      same_declared = c.loop-argument.invariant.same_declared;
    }

pub returns : goal.returns
returns c = λ schemas.
    let types : Types = c.args.self.now.scope in
    let declared : List TypedDeclaration = c.args.self.now.declared.items in
    let none : c.loop-argument.arguments.items ≡ [] =
    c.in_default.ensures.items
    ∙ ap (λ (es : List CoreExpression). es ++ []) (c.in_default.ensures.rest ∙ ap (λ (n : ℕ). take (n - 1) c.loop-argument.arguments.items) c.in_default.ensures.cases.0) in
    ap (λ (ds : List TypedDeclaration). continued schemas c.loop-argument.self.tasks c.loop-argument.self.parts c.loop-argument.self.scope ds) c.loop-argument.invariant.same_declared
    ∙ ap (λ (scope : Types). continued schemas c.loop-argument.self.tasks c.loop-argument.self.parts scope declared) c.loop-argument.invariant.same_scope
    ∙ ap (λ (es : List CoreExpression). typed_in_order schemas es types (λ parts. continued schemas c.loop-argument.self.tasks parts types declared) c.loop-argument.self.parts) (sym none)
    ∙ c.loop-argument.invariant.same schemas c.loop-argument.self.parts
    ∙ ap (λ (parts : List TypedExpression). typed_in_order schemas c.args.arguments.items types (λ parts. continued schemas (FinishCall c.args.place c.args.outer c.args.function (length c.args.arguments.items) ∷ c.args.self.now.tasks) parts types declared) parts) c.loop-argument.invariant.same_parts
