-- Steps from each of many items, and loops that stand for them.
use Rattle.std.proofs.Common.{◌≡◌, ℕ, suc, ◌<◌, ◌≤◌, List, [], ◌∷◌, ◌++◌, length, map, take, drop, append_assoc, append-nil, refl, sym, ◌∙◌, ap, arith}
use Rattle.std.proofs.lemmas.List.{map-append}
use Rattle.std.proofs.Math.Seq.{take-append_seam, drop-append_seam}
use Rattle.gx_types.specs.declared.step.Axis.{Axis}
use Rattle.gx_types.specs.declared.step.Axis.TheVariants as axes
use Rattle.gx_types.specs.declared.step.Test.{Test}
use Rattle.gx_types.specs.declared.step.Test.TheVariants as tests
use Rattle.gx_types.specs.SchemaSet.{SchemaSet}
use Rattle.gx_model.specs.Forest.{Forest}
use Rattle.gx_model.specs.Item.{Item, node, Items}
use Rattle.gx_core.specs.declared.expression.Binder.{Binder}
use Rattle.gx_core.specs.Outcome.{Outcome, gives, raises, wrong, after}
use Rattle.gx_core.specs.Paths.{stepped}
use Rattle.gx_core.specs.Meaning.{Context, Bindings, Denotation, for_each}
use Rattle.gx_core.specs.PathLaws.{stepped_from_each, loop_of_steps, ordered, only_nodes}
use Rattle.gx_core.proofs.StepLoops.{loops_of_steps, slashes_are_descendants}
use Rattle.gx_nodes.specs.Entries.{place_of_number}
use Rattle.gx_store.specs.declared.item.Item.{Item as StoreItem}
use Rattle.gx_store.specs.declared.number.NodeId.{NodeId}
use Rattle.gx_store.specs.Items.{item_in, items_in}
use Rattle.gx_store.specs.Places.{node_places}
use Rattle.gx_machine.specs.declared.failure.Failure.{Failure}
use Rattle.gx_machine.specs.Failing.{FailsSo}
use Rattle.gx_machine.proofs.Resuming.{Rest, fails_through, turns_behind}
use Rattle.gx_machine.proofs.Outcomes.{after_after}

-- ---- loops along `//`

pub below_is_descendants : (k : Context) (operand nodes deeper source : Denotation) (outer inner : Binder) (axis below : Axis) (asks test : Test) (bindings : Bindings) (forest : Forest)
    → operand ≡ loop_of_steps k outer axis asks nodes → nodes ≡ only_nodes k (ordered k deeper) → deeper ≡ loop_of_steps k inner below test source
    → axis ≡ axes.Child → below ≡ axes.DescendantOrSelf → test ≡ tests.Node
    → ordered k operand bindings forest ≡ ordered k (loop_of_steps k inner axes.Descendant asks source) bindings forest
below_is_descendants k operand nodes deeper source outer inner axis below asks test bindings forest a b d child or_self any =
    let whole : operand ≡ loop_of_steps k outer axis asks (only_nodes k (ordered k (loop_of_steps k inner below test source))) =
    a ∙ ap (loop_of_steps k outer axis asks) (b ∙ ap (λ (x : Denotation). only_nodes k (ordered k x)) d) in
    ap (λ (x : Denotation). ordered k x bindings forest) whole
    ∙ ap (λ (x : Axis). ordered k (loop_of_steps k outer x asks (only_nodes k (ordered k (loop_of_steps k inner below test source)))) bindings forest) child
    ∙ ap (λ (x : Axis). ordered k (loop_of_steps k outer axes.Child asks (only_nodes k (ordered k (loop_of_steps k inner x test source)))) bindings forest) or_self
    ∙ ap (λ (x : Test). ordered k (loop_of_steps k outer axes.Child asks (only_nodes k (ordered k (loop_of_steps k inner axes.DescendantOrSelf x source)))) bindings forest) any
    ∙ slashes_are_descendants.nodes_in_order k outer inner asks source bindings forest

-- ---- steps behind what there is

steps_behind : (schemas : SchemaSet) (axis : Axis) (asks : Test) (done xs : Items) (forest : Forest)
    → stepped_from_each schemas axis asks done xs forest ≡ after (stepped_from_each schemas axis asks [] xs forest) (λ more left. gives (done ++ more) left)
steps_behind schemas axis asks done xs forest =
    let step : ℕ → Item → Forest → Outcome Items = λ number x now. stepped schemas axis asks (x ∷ []) now in
    ap (λ (v : Items). for_each step 1 v xs forest) (sym (append-nil done)) ∙ turns_behind step 1 done [] xs forest

pub steps_open : (k : Context) (binder : Binder) (axis : Axis) (asks : Test) (source : Denotation) (values : Items) (first : ℕ) (bindings : Bindings) (forest : Forest) (next : Rest) → first ≡ length values
    → after (source bindings forest) (λ xs f. after (stepped_from_each k.schemas axis asks (take first (values ++ xs)) (drop first (values ++ xs)) f) next)
    ≡ after (loop_of_steps k binder axis asks source bindings forest) (λ more left. next (values ++ more) left)
steps_open k binder axis asks source values first bindings forest next h =
    ap (λ (n : ℕ). after (source bindings forest) (λ xs f. after (stepped_from_each k.schemas axis asks (take n (values ++ xs)) (drop n (values ++ xs)) f) next)) h
    ∙ opened (source bindings forest)
    ∙ ap (λ (o : Outcome Items). after o (λ more left. next (values ++ more) left)) (sym (loops_of_steps k binder axis asks source bindings forest))
  where
    opened : (o : Outcome Items)
        → after o (λ xs f. after (stepped_from_each k.schemas axis asks (take (length values) (values ++ xs)) (drop (length values) (values ++ xs)) f) next)
        ≡ after (after o (λ xs f. stepped_from_each k.schemas axis asks [] xs f)) (λ more left. next (values ++ more) left)
    opened (gives xs f) =
        ap (λ (v : Items). after (stepped_from_each k.schemas axis asks v (drop (length values) (values ++ xs)) f) next) (take-append_seam values xs)
        ∙ ap (λ (v : Items). after (stepped_from_each k.schemas axis asks values v f) next) (drop-append_seam values xs)
        ∙ ap (λ (o : Outcome Items). after o next) (steps_behind k.schemas axis asks values xs f)
        ∙ sym (after_after (stepped_from_each k.schemas axis asks [] xs f) (λ more left. gives (values ++ more) left) next)
    opened (raises code) = refl
    opened wrong = refl

-- what is given goes on
pub goes_on : (o : Outcome Items) (front more now : Items) (forest : Forest) (next : Rest) → o ≡ gives (front ++ more) forest → now ≡ front ++ more → next now forest ≡ after o next
goes_on o front more now forest next e h = ap (λ (v : Items). next v forest) h ∙ sym (ap (λ (p : Outcome Items). after p next) e)

-- ---- one item after another

-- the number of an item says nothing
other_number : (schemas : SchemaSet) (axis : Axis) (asks : Test) (m n : ℕ) (done xs : Items) (forest : Forest)
    → for_each (λ number x now. stepped schemas axis asks (x ∷ []) now) m done xs forest ≡ for_each (λ number x now. stepped schemas axis asks (x ∷ []) now) n done xs forest
other_number schemas axis asks m n done [] forest = refl
other_number schemas axis asks m n done (x ∷ xs) forest =
    λ i. after (stepped schemas axis asks (x ∷ []) forest) (λ more left. other_number schemas axis asks (suc m) (suc n) (done ++ more) xs left i)

pub one_more_step : (schemas : SchemaSet) (axis : Axis) (asks : Test) (done more : Items) (x : Item) (xs : Items) (forest : Forest) → stepped schemas axis asks (x ∷ []) forest ≡ gives more forest
    → stepped_from_each schemas axis asks done (x ∷ xs) forest ≡ stepped_from_each schemas axis asks (done ++ more) xs forest
one_more_step schemas axis asks done more x xs forest e =
    ap (λ (o : Outcome Items). after o (λ m left. for_each (λ number y now. stepped schemas axis asks (y ∷ []) now) 2 (done ++ m) xs left)) e
    ∙ other_number schemas axis asks 2 1 (done ++ more) xs forest

pub one_step_fails : (schemas : SchemaSet) (axis : Axis) (asks : Test) (done : Items) (x : Item) (xs : Items) (forest : Forest) (e : Failure) → FailsSo e (stepped schemas axis asks (x ∷ []) forest)
    → FailsSo e (stepped_from_each schemas axis asks done (x ∷ xs) forest)
one_step_fails schemas axis asks done x xs forest e h =
    fails_through (stepped schemas axis asks (x ∷ []) forest) (λ m left. for_each (λ number y now. stepped schemas axis asks (y ∷ []) now) 2 (done ++ m) xs left) e h

-- ---- the items of an operand

pub one_alone : (schemas : SchemaSet) (axis : Axis) (asks : Test) (later : Forest) (done more : Items) (xs : List StoreItem) (forest : Forest) → 1 ≤ length xs → length xs < 2
    → stepped schemas axis asks (items_in later xs) forest ≡ gives more forest → stepped_from_each schemas axis asks done (items_in later xs) forest ≡ gives (done ++ more) forest
one_alone schemas axis asks later done more [] forest low high e = absurd (omega arith)
one_alone schemas axis asks later done more (x ∷ []) forest low high e = one_more_step schemas axis asks done more (item_in later x) [] forest e
one_alone schemas axis asks later done more (x ∷ y ∷ xs) forest low high e = absurd (omega arith)

pub one_alone_fails : (schemas : SchemaSet) (axis : Axis) (asks : Test) (later : Forest) (done : Items) (xs : List StoreItem) (forest : Forest) (e : Failure) → 1 ≤ length xs → length xs < 2
    → FailsSo e (stepped schemas axis asks (items_in later xs) forest) → FailsSo e (stepped_from_each schemas axis asks done (items_in later xs) forest)
one_alone_fails schemas axis asks later done [] forest e low high h = absurd (omega arith)
one_alone_fails schemas axis asks later done (x ∷ []) forest e low high h = one_step_fails schemas axis asks done (item_in later x) [] forest e h
one_alone_fails schemas axis asks later done (x ∷ y ∷ xs) forest e low high h = absurd (omega arith)

pub nodes_behind : (later : Forest) (done : Items) (found more : List NodeId) → done ++ map node (node_places later (found ++ more)) ≡ (done ++ map node (node_places later found)) ++ map node (node_places later more)
nodes_behind later done found more =
    ap (λ (v : Items). done ++ v) (ap (map node) (map-append (λ m. place_of_number later m.number) found more) ∙ map-append node (node_places later found) (node_places later more))
    ∙ sym (append_assoc done (map node (node_places later found)) (map node (node_places later more)))
