-- Steps and the operands of paths keep their types.
use Rattle.std.proofs.Common.{◌≡◌, ℕ, Bool, true, false, ◌&&◌, List, [], ◌∷◌, map, Option, None, Some, refl, sym, ◌∙◌, ap, subst, if◌then◌else◌}
use Rattle.std.specs.Prelude.{not}
use Rattle.std.specs.List.{list_all}
use Rattle.gx_base.specs.declared.code.Code.TheVariants.{XPST0005}
use Rattle.gx_types.specs.declared.step.Axis.{Axis}
use Rattle.gx_types.specs.declared.step.Test.{Test}
use Rattle.gx_types.specs.SchemaSet.{SchemaSet}
use Rattle.gx_types.specs.SchemaInvariant.{IsSchemaSet}
use Rattle.gx_types.specs.Derivation.{bases_of}
use Rattle.gx_types.specs.Grounded.{Grounded}
use Rattle.gx_types.specs.SequenceType.{SequenceType, never, nothing}
use Rattle.gx_types.specs.SameType.{same_type}
use Rattle.gx_model.specs.Forest.{Forest, PlainNode}
use Rattle.gx_model.specs.Honest.{IsHonest}
use Rattle.gx_model.specs.Item.{Item, node, Items}
use Rattle.gx_model.specs.Belongs.{Belongs}
use Rattle.gx_model.specs.Axes.{on_axis}
use Rattle.gx_include.specs.Decision.{is_included}
use Rattle.gx_steptype.specs.StepType.{node_type, step_type}
use Rattle.gx_steptype.proofs.StepTypes.{steps_keep_their_types}
use Rattle.gx_core.specs.Expression.{no_parts, a_part}
use Rattle.gx_core.specs.Bindings.{look_up, Types}
use Rattle.gx_core.specs.Outcome.{gives, wrong, given}
use Rattle.gx_core.specs.Paths.{stepped, is_node}
use Rattle.gx_core.specs.declared.signature.FunctionSignature.{FunctionSignature}
use Rattle.gx_core.specs.Meaning.{CallOutcomes}
use Rattle.gx_core.specs.Soundness.{typed_setting, calling_setting, IsOfType, Situation, Keeps}
use Rattle.gx_static.specs.Rule.{Ruling, has_type, has_none, nodes_type, step_rule, reaching, step_ruling}
use Rattle.gx_static.specs.Laws.{StepKeepsType, NodesKeepType, NoContextKeepsType}
use Rattle.gx_static.proofs.ItemLemmas.{EachItem, IsNode, items_are_nodes, the_item, one_item}
use Rattle.gx_static.proofs.HonestValues.{included_belongs}
use Rattle.gx_static.proofs.Keeping.{tested, value_keeps, keeps_with_calls}

-- ---- operands of nodes

pub nodes_in_type : (s : SchemaSet) (forest : Forest) (xs : Items) (t : SequenceType) → Grounded (bases_of s) → IsHonest s forest → is_included s t nodes_type ≡ true → Belongs s forest xs t → EachItem IsNode xs
nodes_in_type s forest xs t g honest e b = items_are_nodes s forest xs nodes_type refl (included_belongs s forest xs t nodes_type g honest e b)

pub all_are_nodes : (xs : Items) → EachItem IsNode xs → list_all is_node xs ≡ true
all_are_nodes [] h = refl
all_are_nodes (x ∷ xs) h = subst (λ (y : Item). (is_node y && list_all is_node xs) ≡ true) (sym h.0.1) (all_are_nodes xs h.1)

pub nodes_keep : NodesKeepType
nodes_keep s g (a ∷ []) t forest (xs ∷ []) e honest h =
    let r = tested (is_included s a nodes_type) a t _ _ e in
    subst (λ (b : Bool). Keeps (typed_setting s) forest t (if b then gives xs forest else wrong)) (sym (all_are_nodes xs (nodes_in_type s forest xs a g honest r.0 h.0)))
    (value_keeps s a t forest xs r.1 honest h.0)
nodes_keep s g (a ∷ []) t forest [] e honest h = absurd h
nodes_keep s g (a ∷ []) t forest (xs ∷ ys ∷ values) e honest h = absurd h.1
nodes_keep s g [] t forest values e honest h = absurd (cc)
nodes_keep s g (a ∷ b ∷ ps) t forest values e honest h = absurd (cc)

-- ---- steps

-- a step has the type that it has without a look at what it gives
reached : (context : SequenceType) (r : Ruling) (t : SequenceType) → reaching context r ≡ has_type t → r ≡ has_type t
reached context (has_type given) t e =
    elim (same_type nothing given && not (same_type never context)) as (λ (b : Bool). (if b then has_none XPST0005 None else has_type given) ≡ has_type t → has_type given ≡ has_type t) [
      | true ↦ λ f. absurd (cc)
      | false ↦ λ f. f
    ] e
reached context (has_none code part) t e = absurd (cc)

-- what a rule of a step says of its context
record IsStepFrom (s : SchemaSet) (axis : Axis) (asks : Test) (context t : SequenceType) : Type 0 where
  included : is_included s context node_type ≡ true
  type : step_type s axis asks context ≡ t

step_so : (s : SchemaSet) (axis : Axis) (asks : Test) (context t : SequenceType) → step_rule s axis asks context ≡ has_type t → IsStepFrom s axis asks context t
step_so s axis asks context t e = let r = tested (is_included s context node_type) (step_type s axis asks context) t _ _ e in record { included = r.0; type = r.1 }

-- the value of a context is one node
one_node : (s : SchemaSet) (forest : Forest) (xs : Items) (t : SequenceType) → Grounded (bases_of s) → IsHonest s forest → is_included s t node_type ≡ true → Belongs s forest xs t → (place : PlainNode) × (xs ≡ node place ∷ [])
one_node s forest xs t g honest e b =
    let c = included_belongs s forest xs t node_type g honest e b in
    let x = one_item s forest node_type xs refl refl c in
    let n = the_item IsNode xs x.0 x.1 (items_are_nodes s forest xs node_type refl c) in
    (n.0, x.1 ∙ ap (λ (y : Item). y ∷ []) n.1)

stepped_keeps : (s : SchemaSet) (forest : Forest) (axis : Axis) (asks : Test) (xs : Items) (context t : SequenceType) → IsSchemaSet s → IsHonest s forest → IsStepFrom s axis asks context t → Belongs s forest xs context
    → Keeps (typed_setting s) forest t (stepped s axis asks xs forest)
stepped_keeps s forest axis asks xs context t is honest r b =
    let n = one_node s forest xs context is.grounded honest r.included b in
    subst (λ (ys : Items). Keeps (typed_setting s) forest t (stepped s axis asks ys forest)) (sym n.1)
    (value_keeps s (step_type s axis asks context) t forest (map node (on_axis s forest n.0 axis asks)) r.type honest
    (steps_keep_their_types s forest n.0 axis asks context is honest (subst (λ (ys : Items). Belongs s forest ys context) n.1 b)))

bound_step_keeps : (s : SchemaSet) (known : List FunctionSignature) (calls : CallOutcomes) (axis : Axis) (asks : Test) (number : ℕ) (types : Types) (situation : Situation (calling_setting s known calls) types) (t : SequenceType) (found : Option SequenceType) → IsSchemaSet s
    → look_up types number ≡ found → step_ruling s axis asks number found ≡ has_type t
    → Keeps (calling_setting s known calls) situation.forest t (given (look_up situation.bindings number) (λ value. stepped s axis asks value situation.forest))
bound_step_keeps s known calls axis asks number types situation t None is found e = absurd (cc)
bound_step_keeps s known calls axis asks number types situation t (Some u) is found e =
    let b = situation.fits number u found in
    subst (λ (o : Option Items). Keeps (calling_setting s known calls) situation.forest t (given o (λ value. stepped s axis asks value situation.forest))) (sym b.bound)
    (keeps_with_calls s known calls situation.forest (IsOfType s t) (stepped s axis asks b.value situation.forest)
    (stepped_keeps s situation.forest axis asks b.value u t is situation.honest (step_so s axis asks u t (reached u (step_rule s axis asks u) t e)) b.belongs))

pub step_keeps : StepKeepsType
step_keeps s axis asks number is known calls no_parts types place outer t e known_call h situation = bound_step_keeps s known calls axis asks number types situation t (look_up types number) is refl e
step_keeps s axis asks number is known calls (a_part first others) types place outer t e known_call h situation = absurd (cc)

-- ---- no context

pub no_context_keeps : NoContextKeepsType
no_context_keeps s [] t forest values e honest h = absurd (cc)
no_context_keeps s (a ∷ ps) t forest values e honest h = absurd (cc)
