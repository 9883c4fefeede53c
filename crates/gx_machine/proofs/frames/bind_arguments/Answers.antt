use Rattle.std.proofs.Common.{◌≡◌, ◌++◌, ◌∷◌, [], ℕ, List, length, take, ap, sym, ◌∙◌, arith, length-append}
use Rattle.std.proofs.lemmas.List.{map-append, take-map, length-map, length-take}
use Rattle.gx_model.specs.Item.{Items}
use Rattle.gx_core.specs.declared.expression.Binder.{Binder}
use Rattle.gx_core.specs.Functions.{arguments_bound}
use Rattle.gx_core.specs.Meaning.{Bindings}
use Rattle.gx_machine.specs.declared.bound.Bound.{Bound}
use Rattle.gx_machine.specs.BoundItems.{bound_items, bounds_in, items_of}
use Rattle.gx_machine.proofs.CallFrames.{bound_alike, last_bound}
use Rattle.gx_machine.proofs.frames.bind_arguments.Goals as goal

pub loop-parameter-init : goal.loop-parameter-init
loop-parameter-init c =
    let parameters : List Binder = c.args.parameters.now in
    let kept : List Bound = c.truncate.new.self.items in
    let shorter : length kept ≡ length (take (length parameters) c.args.arguments.items) = ap length c.truncate.ensures.items in
    record {
      counted = omega (arith, shorter, c.len.ensures, length-take (length parameters) c.args.arguments.items, length-take c.len.result parameters);
      bound = λ later.
          let values : List Items = bounds_in later c.args.arguments.items in
          let few : bounds_in later kept ≡ take (length parameters) values =
          ap (bounds_in later) c.truncate.ensures.items ∙ sym (take-map (bound_items later) (length parameters) c.args.arguments.items) in
          let count : c.len.result ≡ length (take (length parameters) values) =
          omega (arith, c.len.ensures, sym (length-map kept (bound_items later)), ap length few) in
          (λ i. arguments_bound (take (count i) parameters) (few i) ++ items_of later c.args.scope.now)
          ∙ ap (λ (bs : Bindings). bs ++ items_of later c.args.scope.now) (bound_alike parameters values);
    }

pub loop-parameter-preserved : goal.loop-parameter-preserved
loop-parameter-preserved c =
    let front : List Binder = c.in-Some.front.now in
    let p : Binder = c.in-Some.parameter.now in
    let left : List Bound = c.pop.new.self.items in
    let counted : length front ≡ length left =
    omega (arith, c.loop-parameter.invariant.counted, ap length c.in-Some.ensures.cases.0, ap length c.in-Some-pop.ensures.items, length-append front (p ∷ []), length-append left (c.in-Some-pop.argument ∷ [])) in
    record {
      counted = counted;
      bound = λ later.
          let argument : Items = bound_items later c.in-Some-pop.argument in
          let bindings : Bindings = items_of later c.loop-parameter.scope in
          let pairs : length front ≡ length (bounds_in later left) = omega (arith, counted, length-map left (bound_items later)) in
          ap (λ (bs : List (ℕ × Bound)). arguments_bound front (bounds_in later left) ++ items_of later bs) c.in_ok-bind.ensures
          ∙ last_bound front (bounds_in later left) p argument bindings pairs
          ∙ ap (λ (ps : List Binder). arguments_bound ps (bounds_in later left ++ argument ∷ []) ++ bindings) (sym c.in-Some.ensures.cases.0)
          ∙ ap (λ (vs : List Items). arguments_bound c.loop-parameter.rest.now vs ++ bindings) (sym (map-append (bound_items later) left (c.in-Some-pop.argument ∷ [])))
          ∙ ap (λ (xs : List Bound). arguments_bound c.loop-parameter.rest.now (bounds_in later xs) ++ bindings) (sym c.in-Some-pop.ensures.items)
          ∙ c.loop-parameter.invariant.bound later;
    }
