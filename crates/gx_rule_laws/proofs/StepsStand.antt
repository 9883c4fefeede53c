-- The nodes of a step have shapes, and a step from the node of a variable stands in the plan where another one does.
use Rattle.std.proofs.Common.{◌≡◌, ℕ, Bool, true, false, ◌||◌, List, [], ◌∷◌, map, filter, Option, None, Some, is_some, refl, sym, ◌∙◌, ap, subst, if◌then◌else◌}
use Rattle.std.specs.Option.{option_map}
use Rattle.std.proofs.lemmas.Bool.{and_parts}
use Rattle.gx_base.specs.declared.code.Code.TheVariants.{XPTY0020}
use Rattle.gx_types.specs.declared.shape.Shape.{Shape}
use Rattle.gx_types.specs.declared.step.Axis.{Axis}
use Rattle.gx_types.specs.declared.step.Test.{Test}
use Rattle.gx_types.specs.SchemaSet.{SchemaSet}
use Rattle.gx_types.specs.SchemaInvariant.{IsSchemaSet}
use Rattle.gx_types.specs.SequenceType.{SequenceType, star}
use Rattle.gx_include.specs.Decision.{is_included}
use Rattle.gx_tree.specs.PlainTree.{PlainTree}
use Rattle.gx_steptype.specs.StepType.{any_item, node_type, step_type}
use Rattle.gx_steptype.proofs.StepTypes.{steps_keep_their_types}
use Rattle.gx_model.specs.Axes.{on_axis}
use Rattle.gx_model.specs.Belongs.{shape_of, HaveShapes, Belongs}
use Rattle.gx_model.specs.DocumentOrder.{same_node}
use Rattle.gx_model.specs.Forest.{Forest, PlainNode, node_in}
use Rattle.gx_model.specs.Honest.{IsHonest}
use Rattle.gx_model.specs.Item.{Items, atom, node}
use Rattle.gx_model.specs.OrderLaws.{Every}
use Rattle.gx_model.proofs.OrderLemmas.{node_itself}
use Rattle.gx_model.proofs.Ordering.{is_in, in_filtered, kept_in_order}
use Rattle.gx_model.proofs.PublicLaws.{growth_is_an_order}
use Rattle.gx_core.specs.declared.operator.Operator.TheVariants as operators
use Rattle.gx_core.specs.Bindings.{Types, look_up}
use Rattle.gx_core.specs.Outcome.{given}
use Rattle.gx_core.specs.Paths.{stepped}
use Rattle.gx_core.specs.Soundness.{Setting, Keeps, Situation}
use Rattle.gx_static.specs.Rule.{has_type, has_none, rule}
use Rattle.gx_rules.specs.Rules.{kind_ruled, step_kinds}
use Rattle.gx_rule_laws.proofs.InOrder.{AreThere}
use Rattle.gx_rule_laws.proofs.FlatValues.{axis_in_order, axis_ascends}
use Rattle.gx_rule_laws.proofs.AnyItems.{all_take}

-- ---- the nodes of a step have shapes

or_right : (a b : Bool) → b ≡ true → (a || b) ≡ true
or_right true b e = refl
or_right false b e = e

all_among : (xs ys : List PlainNode) → ((n : PlainNode) → is_in n xs ≡ true → is_in n ys ≡ true) → Every (λ n. is_in n ys ≡ true) xs
all_among [] ys h = tt
all_among (x ∷ xs) ys h = (
  h x (ap (λ (b : Bool). b || is_in x xs) (node_itself x)),
  all_among xs ys (λ n e. h n (or_right (same_node n x) (is_in n xs) e)),
)

every_where : (P Q : PlainNode → Type 0) (xs : List PlainNode) → ((n : PlainNode) → P n → Q n) → Every P xs → Every Q xs
every_where P Q [] f h = tt
every_where P Q (x ∷ xs) f h = (f x h.0, every_where P Q xs f h.1)

axis_is_there : (s : SchemaSet) (forest : Forest) (axis : Axis) (asks : Test) (from : PlainNode) → AreThere forest (on_axis s forest from axis asks)
axis_is_there s forest axis asks from =
    let nodes : List PlainNode = on_axis s forest from axis asks in
    let kept : filter (λ n. is_some (node_in forest n)) nodes ≡ nodes =
    kept_in_order forest nodes nodes (axis_ascends s forest axis asks from) (λ n. refl) ∙ axis_in_order s forest axis asks from in
    every_where (λ n. is_in n nodes ≡ true) (λ n. is_some (node_in forest n) ≡ true) nodes
    (λ n e. (and_parts (is_some (node_in forest n)) (is_in n nodes)
    (sym (in_filtered (λ m. is_some (node_in forest m)) n nodes) ∙ ap (is_in n) kept ∙ e)).0)
    (all_among nodes nodes (λ n e. e))

shape_found : (found : Option PlainTree) → is_some found ≡ true → (shape : Shape) × (option_map shape_of found ≡ Some shape)
shape_found None e = absurd (cc)
shape_found (Some t) e = (shape_of t, refl)

have_shapes_there : (s : SchemaSet) (forest : Forest) (nodes : List PlainNode) → AreThere forest nodes → (seen : List Shape) × HaveShapes s forest (map node nodes) seen
have_shapes_there s forest [] h = ([], tt)
have_shapes_there s forest (n ∷ nodes) h =
    let shape = shape_found (node_in forest n) h.0 in
    let rest = have_shapes_there s forest nodes h.1 in
    (shape.0 ∷ rest.0, (shape.1, tt, rest.1))

step_of_any_items : (s : SchemaSet) → IsSchemaSet s → (forest : Forest) (axis : Axis) (asks : Test) (from : PlainNode) → IsHonest s forest
    → Belongs s forest (map node (on_axis s forest from axis asks)) (star any_item)
step_of_any_items s is forest axis asks from honest =
    let nodes : List PlainNode = on_axis s forest from axis asks in
    let shown = have_shapes_there s forest nodes (axis_is_there s forest axis asks from) in
    record { seen = shown.0; shaped = shown.1; taken = all_take s is forest (map node nodes) shown.0 honest shown.1 }

-- ---- a step from the node of a variable

-- it has the type that its rule gives for the type of the variable
node_step_belongs : (s : SchemaSet) → IsSchemaSet s → (forest : Forest) (axis : Axis) (asks : Test) (number : ℕ) (from : PlainNode) (found : Option SequenceType) → IsHonest s forest
    → ((t : SequenceType) → found ≡ Some t → Belongs s forest (node from ∷ []) t)
    → Belongs s forest (map node (on_axis s forest from axis asks)) (kind_ruled (rule s (operators.Step axis asks number) (step_kinds found)))
node_step_belongs s is forest axis asks number from None honest h = step_of_any_items s is forest axis asks from honest
node_step_belongs s is forest axis asks number from (Some t) honest h = by_test (is_included s t node_type)
  where
    by_test : (b : Bool)
        → Belongs s forest (map node (on_axis s forest from axis asks)) (kind_ruled (if b then has_type (step_type s axis asks t) else has_none XPTY0020 None))
    by_test true = steps_keep_their_types s forest from axis asks t is honest (h t refl)
    by_test false = step_of_any_items s is forest axis asks from honest

-- where another step from the variable is no type error
pub other_step_keeps : (setting : Setting) → IsSchemaSet setting.schemas → (types : Types) (situation : Situation setting types) (first axis : Axis) (passes asks : Test) (number : ℕ)
    (found : Option SequenceType) (t : SequenceType) → ((u : SequenceType) → found ≡ Some u → look_up types number ≡ Some u)
    → Keeps setting situation.forest t (given (look_up situation.bindings number) (λ value. stepped setting.schemas first passes value situation.forest))
    → Keeps setting situation.forest (kind_ruled (rule setting.schemas (operators.Step axis asks number) (step_kinds found)))
    (given (look_up situation.bindings number) (λ value. stepped setting.schemas axis asks value situation.forest))
other_step_keeps setting is types situation first axis passes asks number found t carried keeps = by_value (look_up situation.bindings number) refl keeps
  where
    value_so : (xs ys : Items) → Some xs ≡ Some ys → xs ≡ ys
    value_so xs ys e = cc

    by_value : (value : Option Items) → look_up situation.bindings number ≡ value
        → Keeps setting situation.forest t (given value (λ xs. stepped setting.schemas first passes xs situation.forest))
        → Keeps setting situation.forest (kind_ruled (rule setting.schemas (operators.Step axis asks number) (step_kinds found)))
        (given value (λ xs. stepped setting.schemas axis asks xs situation.forest))
    by_value None e h = absurd h
    by_value (Some []) e h = absurd h
    by_value (Some (atom a ∷ [])) e h = absurd h
    by_value (Some (atom a ∷ y ∷ xs)) e h = absurd h
    by_value (Some (node from ∷ y ∷ xs)) e h = absurd h
    by_value (Some (node from ∷ [])) e h = record {
      grown = growth_is_an_order.reflexive situation.forest;
      honest = situation.honest;
      fact = node_step_belongs setting.schemas is situation.forest axis asks number from found situation.honest
          (λ u is_found. let bound = situation.fits number u (carried u is_found) in
          subst (λ (xs : Items). Belongs setting.schemas situation.forest xs u) (value_so bound.value (node from ∷ []) (sym bound.bound ∙ e)) bound.belongs);
    }
