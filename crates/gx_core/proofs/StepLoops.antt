-- Loops over steps, and what two of them come to together.
use Rattle.std.proofs.Common.{◌≡◌, ℕ, suc, Bool, true, false, List, [], ◌∷◌, ◌++◌, map, append_assoc}
use Rattle.std.proofs.Common.{Some, refl, sym, ◌∙◌, ap, eq-eqb, if◌then◌else◌}
use Rattle.std.specs.List.{list_all, list_any}
use Rattle.gx_base.specs.declared.code.Code.{Code}
use Rattle.std.proofs.lemmas.List.{append-nil, map-append}
use Rattle.gx_types.specs.declared.step.Axis.{Axis}
use Rattle.gx_types.specs.declared.step.Axis.TheVariants as axes
use Rattle.gx_types.specs.declared.step.Test.{Test}
use Rattle.gx_types.specs.declared.step.Test.TheVariants as tests
use Rattle.gx_types.specs.SchemaSet.{SchemaSet}
use Rattle.gx_model.specs.Forest.{Forest, PlainNode}
use Rattle.gx_model.specs.Item.{Item, atom, node, Items}
use Rattle.gx_model.specs.Axes.{on_axis}
use Rattle.gx_model.specs.DocumentOrder.{in_document_order}
use Rattle.gx_model.specs.PathLaws.{on_axis_from_each, with_descendants}
use Rattle.gx_model.proofs.DescendantLemmas.{children_below_are_descendants}
use Rattle.gx_core.specs.declared.expression.Binder.{Binder}
use Rattle.gx_core.specs.declared.operator.Operator.TheVariants as operators
use Rattle.gx_core.specs.Outcome.{Outcome, gives, raises, wrong, after, given}
use Rattle.gx_core.specs.Bindings.{look_up}
use Rattle.gx_core.specs.Paths.{is_node, places_of, stepped, nodes_alone, put_in_order}
use Rattle.gx_core.specs.Meaning.{Context, Bindings, Denotation, acts, for_each, item_bound, denoted}
use Rattle.gx_core.specs.PathLaws.{stepped_from_each, loop_of_steps, ordered, only_nodes, LoopsOfStepsAreSteps, SlashesAreDescendants}

-- ---- a loop over steps

own_item : (context : Context) (axis : Axis) (asks : Test) (variable number : ℕ) (x : Item) (bindings : Bindings) (forest : Forest)
    → denoted context (operators.Step axis asks variable) [] (item_bound variable 0 number x ++ bindings) forest
    ≡ stepped context.schemas axis asks (x ∷ []) forest
own_item context axis asks variable number x bindings forest =
    ap (λ (same : Bool). given (if same then Some (x ∷ []) else look_up bindings variable)
    (λ value. stepped context.schemas axis asks value forest)) (eq-eqb variable variable refl)

pub loops_of_steps : LoopsOfStepsAreSteps
loops_of_steps context binder axis asks source bindings forest =
    λ i. after (source bindings forest)
    (λ xs left. for_each (λ number x now. own_item context axis asks binder.variable number x bindings now i) 1 [] xs left)

-- ---- steps from nodes, and from other items

steps_of_nodes : (schemas : SchemaSet) (axis : Axis) (asks : Test) (number : ℕ) (done : Items) (places : List PlainNode) (forest : Forest)
    → for_each (λ n x now. stepped schemas axis asks (x ∷ []) now) number done (map node places) forest ≡ gives
    (done ++ map node (on_axis_from_each schemas forest axis asks places)) forest
steps_of_nodes schemas axis asks number done [] forest = ap (λ (v : Items). gives v forest) (sym (append-nil done))
steps_of_nodes schemas axis asks number done (place ∷ places) forest =
    let first : List PlainNode = on_axis schemas forest place axis asks in
    let others : List PlainNode = on_axis_from_each schemas forest axis asks places in
    steps_of_nodes schemas axis asks (suc number) (done ++ map node first) places forest
    ∙ ap (λ (v : Items). gives v forest) (append_assoc done (map node first) (map node others)
    ∙ ap (λ (v : Items). done ++ v) (sym (map-append node first others)))

steps_go_wrong : (schemas : SchemaSet) (axis : Axis) (asks : Test) (number : ℕ) (done xs : Items) (forest : Forest)
    → list_all is_node xs ≡ false
    → for_each (λ n x now. stepped schemas axis asks (x ∷ []) now) number done xs forest ≡ wrong
steps_go_wrong schemas axis asks number done [] forest e = absurd (cc)
steps_go_wrong schemas axis asks number done (atom value ∷ xs) forest e = refl
steps_go_wrong schemas axis asks number done (node place ∷ xs) forest e =
    steps_go_wrong schemas axis asks (suc number) (done ++ map node (on_axis schemas forest place axis asks)) xs forest e

nodes_are : (xs : Items) → list_all is_node xs ≡ true → xs ≡ map node (places_of xs)
nodes_are [] e = refl
nodes_are (atom value ∷ xs) e = absurd (cc)
nodes_are (node place ∷ xs) e = ap (λ (v : Items). node place ∷ v) (nodes_are xs e)

all_nodes : (places : List PlainNode) → list_all is_node (map node places) ≡ true
all_nodes [] = refl
all_nodes (place ∷ places) = all_nodes places

places_are : (places : List PlainNode) → places_of (map node places) ≡ places
places_are [] = refl
places_are (place ∷ places) = ap (λ (v : List PlainNode). place ∷ v) (places_are places)

pub order_of_nodes : (places : List PlainNode) (forest : Forest)
    → put_in_order (map node places) forest ≡ gives (map node (in_document_order forest places)) forest
order_of_nodes places forest =
    ap (λ (b : Bool). if b then gives (map node (in_document_order forest (places_of (map node places)))) forest
    else (if list_any is_node (map node places) then wrong else gives (map node places) forest)) (all_nodes places)
    ∙ ap (λ (v : List PlainNode). gives (map node (in_document_order forest v)) forest) (places_are places)

-- ---- outcomes

abbrev steps_of : SchemaSet → Axis → Test → Outcome Items → Outcome Items
steps_of schemas axis asks outcome = after outcome (λ items left. stepped_from_each schemas axis asks [] items left)

abbrev order_of : Outcome Items → Outcome Items
order_of outcome = after outcome put_in_order

abbrev nodes_of : Outcome Items → Outcome Items
nodes_of outcome = after outcome nodes_alone

given_nodes : (schemas : SchemaSet) (axis : Axis) (asks : Test) (places : List PlainNode) (forest : Forest)
    → steps_of schemas axis asks (gives (map node places) forest) ≡ gives
    (map node (on_axis_from_each schemas forest axis asks places)) forest
given_nodes schemas axis asks places forest = steps_of_nodes schemas axis asks 1 [] places forest

given_others : (schemas : SchemaSet) (axis : Axis) (asks : Test) (xs : Items) (forest : Forest) → list_all is_node xs ≡ false
    → steps_of schemas axis asks (gives xs forest) ≡ wrong
given_others schemas axis asks xs forest e = steps_go_wrong schemas axis asks 1 [] xs forest e

still_nodes : (places : List PlainNode) (forest : Forest) → nodes_alone (map node places) forest ≡ gives (map node places) forest
still_nodes places forest = ap (λ (b : Bool). if b then gives (map node places) forest else wrong) (all_nodes places)

-- steps from nodes, in document order
steps_in_order : (schemas : SchemaSet) (axis : Axis) (asks : Test) (places : List PlainNode) (forest : Forest)
    → order_of (steps_of schemas axis asks (gives (map node places) forest)) ≡ gives
    (map node (in_document_order forest (on_axis_from_each schemas forest axis asks places))) forest
steps_in_order schemas axis asks places forest =
    ap order_of (given_nodes schemas axis asks places forest) ∙ order_of_nodes (on_axis_from_each schemas forest axis asks places) forest

-- two outcomes that are made of one, where they are the same for nodes, and for items that are not all nodes
abbrev SameForNodes : (one other : Outcome Items → Outcome Items) → Type 0
SameForNodes one other =
    (places : List PlainNode) (forest : Forest) → one (gives (map node places) forest) ≡ other (gives (map node places) forest)

abbrev SameForOthers : (one other : Outcome Items → Outcome Items) → Type 0
SameForOthers one other = (xs : Items) (forest : Forest) → list_all is_node xs ≡ false → one (gives xs forest) ≡ other (gives xs forest)

same_for_items : (one other : Outcome Items → Outcome Items) → SameForNodes one other → SameForOthers one other
    → (xs : Items) (forest : Forest) (b : Bool) → list_all is_node xs ≡ b → one (gives xs forest) ≡ other (gives xs forest)
same_for_items one other nodes others xs forest true e =
    let same : xs ≡ map node (places_of xs) = nodes_are xs e in
    ap (λ (v : Items). one (gives v forest)) same ∙ nodes (places_of xs) forest ∙ ap (λ (v : Items). other (gives v forest)) (sym same)
same_for_items one other nodes others xs forest false e = others xs forest e

same_for_all : (one other : Outcome Items → Outcome Items) → SameForNodes one other → SameForOthers one other
    → ((code : Code) → one (raises code) ≡ other (raises code)) → one wrong ≡ other wrong
    → (outcome : Outcome Items) → one outcome ≡ other outcome
same_for_all one other nodes others raised went_wrong (gives xs forest) =
    same_for_items one other nodes others xs forest (list_all is_node xs) refl
same_for_all one other nodes others raised went_wrong (raises code) = raised code
same_for_all one other nodes others raised went_wrong wrong = went_wrong

-- all nodes and their descendants, and the descendants in document order
abbrev below : SchemaSet → Outcome Items → Outcome Items
below schemas outcome = steps_of schemas axes.DescendantOrSelf tests.Node outcome

abbrev descendants : SchemaSet → Test → Outcome Items → Outcome Items
descendants schemas asks outcome = order_of (steps_of schemas axes.Descendant asks outcome)

abbrev children_of : SchemaSet → Test → Outcome Items → Outcome Items
children_of schemas asks outcome = order_of (steps_of schemas axes.Child asks outcome)

together : (schemas : SchemaSet) (asks : Test) (outcome : Outcome Items)
    → children_of schemas asks (below schemas outcome) ≡ descendants schemas asks outcome
together schemas asks outcome =
    same_for_all (λ o. children_of schemas asks (below schemas o)) (descendants schemas asks)
    (λ places forest.
    ap (children_of schemas asks) (given_nodes schemas axes.DescendantOrSelf tests.Node places forest)
    ∙ steps_in_order schemas axes.Child asks (with_descendants schemas forest places) forest
    ∙ ap (λ (v : List PlainNode). gives (map node v) forest) (children_below_are_descendants.together schemas forest asks places)
    ∙ sym (steps_in_order schemas axes.Descendant asks places forest))
    (λ xs forest e.
    ap (children_of schemas asks) (given_others schemas axes.DescendantOrSelf tests.Node xs forest e)
    ∙ sym (ap order_of (given_others schemas axes.Descendant asks xs forest e)))
    (λ code. refl) refl outcome

in_order : (schemas : SchemaSet) (asks : Test) (outcome : Outcome Items)
    → children_of schemas asks (order_of (below schemas outcome)) ≡ descendants schemas asks outcome
in_order schemas asks outcome =
    same_for_all (λ o. children_of schemas asks (order_of (below schemas o))) (descendants schemas asks)
    (λ places forest.
    ap (children_of schemas asks) (steps_in_order schemas axes.DescendantOrSelf tests.Node places forest)
    ∙ steps_in_order schemas axes.Child asks (in_document_order forest (with_descendants schemas forest places)) forest
    ∙ ap (λ (v : List PlainNode). gives (map node v) forest) (children_below_are_descendants.ordered schemas forest asks places)
    ∙ sym (steps_in_order schemas axes.Descendant asks places forest))
    (λ xs forest e.
    ap (λ (o : Outcome Items). children_of schemas asks (order_of o)) (given_others schemas axes.DescendantOrSelf tests.Node xs forest e)
    ∙ sym (ap order_of (given_others schemas axes.Descendant asks xs forest e)))
    (λ code. refl) refl outcome

-- a test that all items are nodes says nothing in front of steps
nodes_first : (schemas : SchemaSet) (axis : Axis) (asks : Test) (outcome : Outcome Items)
    → steps_of schemas axis asks (nodes_of outcome) ≡ steps_of schemas axis asks outcome
nodes_first schemas axis asks outcome =
    same_for_all (λ o. steps_of schemas axis asks (nodes_of o)) (steps_of schemas axis asks)
    (λ places forest. ap (steps_of schemas axis asks) (still_nodes places forest))
    (λ xs forest e.
    ap (λ (b : Bool). steps_of schemas axis asks (if b then gives xs forest else wrong)) e
    ∙ sym (given_others schemas axis asks xs forest e))
    (λ code. refl) refl outcome

-- ---- expressions

ordered_is : (context : Context) (operand : Denotation) (bindings : Bindings) (forest : Forest)
    → ordered context operand bindings forest ≡ order_of (operand bindings forest)
ordered_is context operand bindings forest = by_outcome (operand bindings forest)
  where
    by_outcome : (o : Outcome Items) → after (after o (λ xs left. gives (xs ∷ []) left)) (acts context operators.Order) ≡ order_of o
    by_outcome (gives xs left) = refl
    by_outcome (raises code) = refl
    by_outcome wrong = refl

only_nodes_is : (context : Context) (operand : Denotation) (bindings : Bindings) (forest : Forest)
    → only_nodes context operand bindings forest ≡ nodes_of (operand bindings forest)
only_nodes_is context operand bindings forest = by_outcome (operand bindings forest)
  where
    by_outcome : (o : Outcome Items) → after (after o (λ xs left. gives (xs ∷ []) left)) (acts context operators.Nodes) ≡ nodes_of o
    by_outcome (gives xs left) = refl
    by_outcome (raises code) = refl
    by_outcome wrong = refl

loop_in_order : (context : Context) (binder : Binder) (axis : Axis) (asks : Test) (source : Denotation) (bindings : Bindings)
    (forest : Forest)
    → ordered context (loop_of_steps context binder axis asks source) bindings forest ≡ order_of
    (steps_of context.schemas axis asks (source bindings forest))
loop_in_order context binder axis asks source bindings forest =
    ordered_is context (loop_of_steps context binder axis asks source) bindings forest
    ∙ ap order_of (loops_of_steps context binder axis asks source bindings forest)

pub slashes_are_descendants : SlashesAreDescendants
slashes_are_descendants = record {
  together = λ context outer inner asks source bindings forest.
      loop_in_order context outer axes.Child asks (loop_of_steps context inner axes.DescendantOrSelf tests.Node source) bindings forest
      ∙ ap (children_of context.schemas asks) (loops_of_steps context inner axes.DescendantOrSelf tests.Node source bindings forest)
      ∙ together context.schemas asks (source bindings forest)
      ∙ sym (loop_in_order context inner axes.Descendant asks source bindings forest);
  in_order = λ context outer inner asks source bindings forest.
      loop_in_order context outer axes.Child asks
      (ordered context (loop_of_steps context inner axes.DescendantOrSelf tests.Node source)) bindings forest
      ∙ ap (children_of context.schemas asks) (loop_in_order context inner axes.DescendantOrSelf tests.Node source bindings forest)
      ∙ in_order context.schemas asks (source bindings forest)
      ∙ sym (loop_in_order context inner axes.Descendant asks source bindings forest);
  nodes_in_order = λ context outer inner asks source bindings forest.
      loop_in_order context outer axes.Child asks
      (only_nodes context (ordered context (loop_of_steps context inner axes.DescendantOrSelf tests.Node source))) bindings forest
      ∙ ap (children_of context.schemas asks)
      (only_nodes_is context (ordered context (loop_of_steps context inner axes.DescendantOrSelf tests.Node source)) bindings forest
      ∙ ap nodes_of (loop_in_order context inner axes.DescendantOrSelf tests.Node source bindings forest))
      ∙ ap order_of (nodes_first context.schemas axes.Child asks (order_of (below context.schemas (source bindings forest))))
      ∙ in_order context.schemas asks (source bindings forest)
      ∙ sym (loop_in_order context inner axes.Descendant asks source bindings forest);
}
