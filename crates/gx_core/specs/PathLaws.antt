-- Loops over steps, and what two of them come to together (XQuery 1.0, section 3.2).
use Rattle.std.specs.Prelude.{◌≡◌, [], ◌∷◌}
use Rattle.gx_types.specs.declared.step.Axis.{Axis}
use Rattle.gx_types.specs.declared.step.Axis.TheVariants as axes
use Rattle.gx_types.specs.declared.step.Test.{Test}
use Rattle.gx_types.specs.declared.step.Test.TheVariants as tests
use Rattle.gx_types.specs.SchemaSet.{SchemaSet}
use Rattle.gx_model.specs.Forest.{Forest}
use Rattle.gx_model.specs.Item.{Items}
use Rattle.gx_core.specs.declared.expression.Binder.{Binder}
use Rattle.gx_core.specs.declared.operator.Operator.TheVariants as operators
use Rattle.gx_core.specs.Outcome.{Outcome, gives, after}
use Rattle.gx_core.specs.Paths.{put_in_order, stepped}
use Rattle.gx_core.specs.Meaning.{Context, Bindings, Denotation, for_each, denoted}

-- a step from each item, behind what there is so far
abbrev pub stepped_from_each : SchemaSet → Axis → Test → (done : Items) → Items → Forest → Outcome Items
stepped_from_each schemas axis asks done items forest =
    for_each (λ number x now. stepped schemas axis asks (x ∷ []) now) 1 done items forest

-- a loop whose body is a step from the item of the loop
abbrev pub loop_of_steps : Context → Binder → Axis → Test → (source : Denotation) → Denotation
loop_of_steps context binder axis asks source =
    denoted context (operators.For binder 0) (source ∷ denoted context (operators.Step axis asks binder.variable) [] ∷ [])

-- one operand in document order, and one of nodes alone
abbrev pub ordered : Context → Denotation → Denotation
ordered context operand = denoted context operators.Order (operand ∷ [])

abbrev pub only_nodes : Context → Denotation → Denotation
only_nodes context operand = denoted context operators.Nodes (operand ∷ [])

-- a step gives nodes in document order
abbrev pub StepsAreInOrder : Type 0
StepsAreInOrder =
    (schemas : SchemaSet) (axis : Axis) (asks : Test) (from found : Items) (forest now : Forest)
    → stepped schemas axis asks from forest ≡ gives found now
    → put_in_order found now ≡ gives found now

-- such a loop is a step from each item of its source
abbrev pub LoopsOfStepsAreSteps : Type 0
LoopsOfStepsAreSteps =
    (context : Context) (binder : Binder) (axis : Axis) (asks : Test) (source : Denotation) (bindings : Bindings) (forest : Forest)
    → loop_of_steps context binder axis asks source bindings forest ≡ after (source bindings forest)
    (λ items left. stepped_from_each context.schemas axis asks [] items left)

-- in document order, the children of all nodes and their descendants are the descendants: these may come as the steps give them, in
-- document order, or as nodes alone in document order, as `//` has them
pub record SlashesAreDescendants : Type 0 where
  pub together : (context : Context) (outer inner : Binder) (asks : Test) (source : Denotation) (bindings : Bindings) (forest : Forest)
      → ordered context (loop_of_steps context outer axes.Child asks (loop_of_steps context inner axes.DescendantOrSelf tests.Node source))
      bindings forest
      ≡ ordered context (loop_of_steps context inner axes.Descendant asks source) bindings forest
  pub in_order : (context : Context) (outer inner : Binder) (asks : Test) (source : Denotation) (bindings : Bindings) (forest : Forest)
      → ordered context (loop_of_steps context outer axes.Child asks
      (ordered context (loop_of_steps context inner axes.DescendantOrSelf tests.Node source))) bindings forest
      ≡ ordered context (loop_of_steps context inner axes.Descendant asks source) bindings forest
  pub nodes_in_order :
      (context : Context) (outer inner : Binder) (asks : Test) (source : Denotation) (bindings : Bindings) (forest : Forest)
      → ordered context (loop_of_steps context outer axes.Child asks
      (only_nodes context (ordered context (loop_of_steps context inner axes.DescendantOrSelf tests.Node source)))) bindings forest
      ≡ ordered context (loop_of_steps context inner axes.Descendant asks source) bindings forest
