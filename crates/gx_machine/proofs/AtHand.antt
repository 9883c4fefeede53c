-- Operands at hand: typed values of nodes, and paths of one step.
use Rattle.std.proofs.Common.{◌≡◌, ℕ, List, [], ◌∷◌, map, Option, None, Some, IfSome, Result, Ok, Err, IfOk, refl, sym, subst, ◌∙◌, ap}
use Rattle.gx_base.specs.declared.type_name.TypeName.{TypeName}
use Rattle.gx_types.specs.SchemaSet.{SchemaSet}
use Rattle.gx_types.specs.declared.step.Axis.{Axis}
use Rattle.gx_types.specs.declared.step.Test.{Test}
use Rattle.gx_tree.specs.PlainTree.{PlainTree, document, element, attribute, text}
use Rattle.gx_tree.specs.StringValue.{string_value}
use Rattle.gx_model.specs.Axes.{on_axis}
use Rattle.gx_model.specs.Atomization.{atomized}
use Rattle.gx_model.specs.Forest.{Forest, PlainNode, then_found}
use Rattle.gx_model.specs.Item.{Items, node, atom}
use Rattle.gx_model.specs.TypedValue.{untyped_value, value_at_type, typed_value_of, found_string_value}
use Rattle.gx_store.specs.Stored.{kind_of}
use Rattle.gx_core.specs.declared.expression.Binder.{Binder}
use Rattle.gx_core.specs.declared.operator.Operator.TheVariants as operators
use Rattle.gx_base.specs.declared.place.Place.{Place}
use Rattle.gx_core.specs.Expression.{At, no_parts, one_part, two_parts}
use Rattle.gx_plan.specs.declared.plan.Carried.{Carried}
use Rattle.gx_plan.specs.Plan.{PlanExpression}
use Rattle.gx_machine.specs.StepPaths.{IsStepFrom}
use Rattle.gx_core.specs.Bindings.{look_up}
use Rattle.gx_core.specs.Outcome.{Outcome, gives, after, given}
use Rattle.gx_core.specs.Meaning.{Context, Bindings, Denotation, acts, denoted}
use Rattle.gx_core.specs.Paths.{stepped}
use Rattle.gx_core.specs.PathLaws.{stepped_from_each, loop_of_steps, ordered, only_nodes}
use Rattle.gx_core.proofs.StepLoops.{loops_of_steps}
use Rattle.gx_core.proofs.StepsInOrder.{steps_are_in_order}
use Rattle.gx_machine.specs.OneItem.{only_node}

pub if_some : {A : Type 0} {P Q : A → Type 0} (o : Option A) → IfSome o P → ((x : A) → P x → Q x) → IfSome o Q
if_some None h f = tt
if_some (Some x) h f = f x h

pub if_both : {A : Type 0} {P Q R : A → Type 0} (o : Option A) → IfSome o P → IfSome o Q → ((x : A) → P x → Q x → R x) → IfSome o R
if_both None h g f = tt
if_both (Some x) h g f = f x h g

pub if_found : {A E : Type 0} {P Q : A → Type 0} (r : Result (Option A) E) → IfOk r (λ o. IfSome o P) → ((x : A) → P x → Q x) → IfOk r (λ o. IfSome o Q)
if_found (Ok o) h f = if_some o h f
if_found (Err e) h f = tt

-- ---- typed values

pub node_is_typed : (k : Context) (forest : Forest) (operand : Denotation) (xs typed : Items) (place : PlainNode) (bindings : Bindings) → operand bindings forest ≡ gives xs forest → only_node xs ≡ Some place
    → atomized k.schemas forest (node place ∷ []) ≡ Some typed → denoted k operators.DataOf (operand ∷ []) bindings forest ≡ gives typed forest
node_is_typed k forest operand xs typed place bindings e h t =
    ap (λ (o : Outcome Items). after (after o (λ x f. gives (x ∷ []) f)) (acts k operators.DataOf)) (e ∙ ap (λ (v : Items). gives v forest) (alone xs h))
    ∙ ap (λ (o : Option Items). given o (λ ys. gives ys forest)) t
  where
    alone : (ys : Items) → only_node ys ≡ Some place → ys ≡ node place ∷ []
    alone [] p = absurd (cc)
    alone (node q ∷ []) p = let same : q ≡ place = cc in ap (λ (r : PlainNode). node r ∷ []) same
    alone (atom a ∷ []) p = absurd (cc)
    alone (node q ∷ y ∷ ys) p = absurd (cc)
    alone (atom a ∷ y ∷ ys) p = absurd (cc)

-- the typed value of a node whose type gives its string value
pub untyped_is : (schemas : SchemaSet) (found : Option PlainTree) (kind : TypeName) → then_found found kind_of ≡ Some kind → ((string : List ℕ) → value_at_type schemas kind string ≡ untyped_value string)
    → then_found found (typed_value_of schemas) ≡ untyped_value (found_string_value found)
untyped_is schemas None kind e h = absurd (cc)
untyped_is schemas (Some (document ts)) kind e h = refl
untyped_is schemas (Some (element name own attributes ts)) kind e h =
    let same : own ≡ kind = cc in ap (λ (t : TypeName). value_at_type schemas t (string_value (element name own attributes ts))) same ∙ h (string_value (element name own attributes ts))
untyped_is schemas (Some (attribute a)) kind e h = let same : a.kind ≡ kind = cc in ap (λ (t : TypeName). value_at_type schemas t a.value) same ∙ h a.value
untyped_is schemas (Some (text t)) kind e h = refl

-- ---- paths of one step

-- the nodes of a variable, and a path of a step from them: a loop whose body is a step from its own variable where `from` is that
abbrev nodes_of : Context → (number : ℕ) → Denotation
nodes_of k number = only_nodes k (denoted k (operators.Var number) [])

abbrev path_of : Context → Binder → (number : ℕ) → Axis → Test → (from : ℕ) → Denotation
path_of k binder number axis asks from = ordered k (denoted k (operators.For binder 0) (nodes_of k number ∷ denoted k (operators.Step axis asks from) [] ∷ []))

-- what such a loop comes to from one node
steps_of_node : (k : Context) (binder : Binder) (number : ℕ) (axis : Axis) (asks : Test) (place : PlainNode) (bindings : Bindings) (forest : Forest) → look_up bindings number ≡ Some (node place ∷ [])
    → loop_of_steps k binder axis asks (nodes_of k number) bindings forest ≡ gives (map node (on_axis k.schemas forest place axis asks)) forest
steps_of_node k binder number axis asks place bindings forest e =
    loops_of_steps k binder axis asks (nodes_of k number) bindings forest
    ∙ ap (λ (o : Option Items). after (after (after (given o (λ v. gives v forest)) (λ x f. gives (x ∷ []) f)) (acts k operators.Nodes)) (λ items left. stepped_from_each k.schemas axis asks [] items left)) e

pub steps_from : (binder : Binder) (number : ℕ) (axis : Axis) (asks : Test) (from : ℕ) → from ≡ binder.variable → (k : Context) (bindings : Bindings) (forest : Forest) (found : Items)
    → given (look_up bindings number) (λ xs. stepped k.schemas axis asks xs forest) ≡ gives found forest → path_of k binder number axis asks from bindings forest ≡ gives found forest
steps_from binder number axis asks from h k bindings forest found e = by_value (look_up bindings number) refl e
  where
    from_node : (place : PlainNode) → look_up bindings number ≡ Some (node place ∷ []) → map node (on_axis k.schemas forest place axis asks) ≡ found → path_of k binder number axis asks from bindings forest ≡ gives found forest
    from_node place l same =
        let stepped_so : gives (map node (on_axis k.schemas forest place axis asks)) forest ≡ gives found forest = ap (λ (v : Items). gives v forest) same in
        ap (λ (n : ℕ). path_of k binder number axis asks n bindings forest) h
        ∙ ap (λ (o : Outcome Items). after (after o (λ x f. gives (x ∷ []) f)) (acts k operators.Order)) (steps_of_node k binder number axis asks place bindings forest l ∙ stepped_so)
        ∙ steps_are_in_order k.schemas axis asks (node place ∷ []) found forest forest stepped_so

    by_value : (o : Option Items) → look_up bindings number ≡ o → given o (λ (xs : Items). stepped k.schemas axis asks xs forest) ≡ gives found forest → path_of k binder number axis asks from bindings forest ≡ gives found forest
    by_value None l g = absurd (cc)
    by_value (Some []) l g = absurd (cc)
    by_value (Some (atom a ∷ [])) l g = absurd (cc)
    by_value (Some (node place ∷ [])) l g = let same : map node (on_axis k.schemas forest place axis asks) ≡ found = cc in from_node place l same
    by_value (Some (atom a ∷ y ∷ ys)) l g = absurd (cc)
    by_value (Some (node place ∷ y ∷ ys)) l g = absurd (cc)

-- such a path as an expression
pub path_is : (binder : Binder) (number : ℕ) (axis : Axis) (asks : Test) (from position : ℕ) (source operand step : PlanExpression) (place outer source_place source_outer operand_place operand_outer step_place step_outer : Place)
    (carried source_carried operand_carried step_carried : Carried) → position ≡ 0 → from ≡ binder.variable
    → source ≡ At source_place source_outer source_carried operators.Nodes (one_part operand) → operand ≡ At operand_place operand_outer operand_carried (operators.Var number) no_parts
    → step ≡ At step_place step_outer step_carried (operators.Step axis asks from) no_parts
    → IsStepFrom number axis asks (At place outer carried (operators.For binder position) (two_parts source step))
path_is binder number axis asks from position source operand step place outer source_place source_outer operand_place operand_outer step_place step_outer carried source_carried operand_carried step_carried p f s o t =
    subst (λ (n : ℕ). IsStepFrom number axis asks (At place outer carried (operators.For binder n) (two_parts source step))) (sym p)
    (subst (λ (e : PlanExpression). IsStepFrom number axis asks (At place outer carried (operators.For binder 0) (two_parts e step))) (sym s)
    (subst (λ (e : PlanExpression). IsStepFrom number axis asks (At place outer carried (operators.For binder 0) (two_parts (At source_place source_outer source_carried operators.Nodes (one_part e)) step))) (sym o)
    (subst (λ (e : PlanExpression). IsStepFrom number axis asks
    (At place outer carried (operators.For binder 0) (two_parts (At source_place source_outer source_carried operators.Nodes (one_part (At operand_place operand_outer operand_carried (operators.Var number) no_parts))) e))) (sym t)
    (λ k bindings forest found e. steps_from binder number axis asks from f k bindings forest found e))))
