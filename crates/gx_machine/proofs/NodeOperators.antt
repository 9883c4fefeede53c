-- Operators over nodes.
use Rattle.std.proofs.Common.{◌≡◌, ℕ, nat_eq, nat_lt, Bool, true, false, ◌&&◌, if◌then◌else◌, List, [], ◌∷◌, ◌++◌, map, take, drop, append_assoc, Option, None, Some, refl, sym, ◌∙◌, ap, subst, arith}
use Rattle.std.specs.List.{list_all, list_any}
use Rattle.std.specs.Option.{option_map}
use Rattle.std.proofs.lemmas.Bool.{eqb-true, eq-eqb, ltb-false, true≢false}
use Rattle.std.proofs.lemmas.List.{take-append-drop}
use Rattle.gx_types.specs.declared.step.Axis.{Axis}
use Rattle.gx_types.specs.declared.step.Test.{Test}
use Rattle.gx_base.specs.declared.code.Code.TheVariants.{XPDY0050}
use Rattle.gx_types.specs.SchemaSet.{SchemaSet}
use Rattle.gx_types.specs.SequenceType.{SequenceType}
use Rattle.gx_model.specs.Forest.{Forest, PlainNode}
use Rattle.gx_model.specs.Item.{Item, atom, node, Items}
use Rattle.gx_model.specs.Axes.{on_axis}
use Rattle.gx_model.specs.Atomization.{atomized, joined_values, values_of_item}
use Rattle.gx_model.specs.DocumentOrder.{comes_before, same_node, in_document_order}
use Rattle.gx_model.proofs.OrderLemmas.{not_before_itself, nodes_same, node_itself}
use Rattle.gx_core.specs.declared.expression.NodeCombination.{NodeCombination}
use Rattle.gx_core.specs.declared.operator.Operator.{Operator}
use Rattle.gx_core.specs.declared.operator.Operator.TheVariants as operators
use Rattle.gx_core.specs.Instances.{is_instance}
use Rattle.gx_core.specs.Outcome.{Outcome, gives, raises, wrong, after, given}
use Rattle.gx_core.specs.Meaning.{Context, Bindings, Denotation, acts, denoted}
use Rattle.gx_core.specs.Paths.{is_node, places_of, put_in_order, stepped}
use Rattle.gx_core.specs.CombiningNodes.{combined, nodes_combined}
use Rattle.gx_nodes.specs.Entries.{place_of_number}
use Rattle.gx_nodes.proofs.NumberOrder.{before_is as number_before}
use Rattle.gx_machine.specs.declared.failure.Failure.{Failure}
use Rattle.gx_machine.specs.declared.failure.Failure.TheVariants.{Raised, Wrong, Memory}
use Rattle.gx_machine.specs.Failing.{FailsSo}
use Rattle.gx_machine.specs.OneItem.{only_node}
use Rattle.gx_machine.specs.Resume.{changed}

-- ---- steps

pub step_from_node : (schemas : SchemaSet) (axis : Axis) (asks : Test) (xs : Items) (forest : Forest) (place : PlainNode) → only_node xs ≡ Some place
    → stepped schemas axis asks xs forest ≡ gives (map node (on_axis schemas forest place axis asks)) forest
step_from_node schemas axis asks [] forest place e = absurd (cc)
step_from_node schemas axis asks (node p ∷ []) forest place e = let same : p ≡ place = cc in ap (λ (q : PlainNode). gives (map node (on_axis schemas forest q axis asks)) forest) same
step_from_node schemas axis asks (atom a ∷ []) forest place e = absurd (cc)
step_from_node schemas axis asks (node p ∷ y ∷ xs) forest place e = absurd (cc)
step_from_node schemas axis asks (atom a ∷ y ∷ xs) forest place e = absurd (cc)

pub step_from_none : (schemas : SchemaSet) (axis : Axis) (asks : Test) (xs : Items) (forest : Forest) → only_node xs ≡ None → stepped schemas axis asks xs forest ≡ wrong
step_from_none schemas axis asks [] forest e = refl
step_from_none schemas axis asks (node p ∷ []) forest e = absurd (cc)
step_from_none schemas axis asks (atom a ∷ []) forest e = refl
step_from_none schemas axis asks (node p ∷ y ∷ xs) forest e = refl
step_from_none schemas axis asks (atom a ∷ y ∷ xs) forest e = refl

-- ---- typed values

pub atoms_are_typed : (s : SchemaSet) (forest : Forest) (xs : Items) → list_any is_node xs ≡ false → atomized s forest xs ≡ Some xs
atoms_are_typed s forest [] e = refl
atoms_are_typed s forest (atom a ∷ xs) e = ap (joined_values (Some (atom a ∷ []))) (atoms_are_typed s forest xs e)
atoms_are_typed s forest (node place ∷ xs) e = absurd (cc)

joined_grouped : (xs ys : Items) (rest : Option Items) → joined_values (Some xs) (joined_values (Some ys) rest) ≡ joined_values (Some (xs ++ ys)) rest
joined_grouped xs ys None = refl
joined_grouped xs ys (Some zs) = ap (λ (v : Items). Some v) (sym (append_assoc xs ys zs))

appended_is : (typed now : Items) (found : Option Items) → option_map (λ values. typed ++ values) found ≡ Some now → (more : Items) × (found ≡ Some more) × (now ≡ typed ++ more)
appended_is typed now None e = absurd (cc)
appended_is typed now (Some more) e = (more, refl, (cc))

-- the typed values of one item more
pub one_more_typed : (s : SchemaSet) (forest : Forest) (x : Item) (typed now rest : Items) → option_map (λ values. typed ++ values) (values_of_item s forest x) ≡ Some now
    → joined_values (Some now) (atomized s forest rest) ≡ joined_values (Some typed) (atomized s forest (x ∷ rest))
one_more_typed s forest x typed now rest e =
    let found = appended_is typed now (values_of_item s forest x) e in
    ap (λ (v : Items). joined_values (Some v) (atomized s forest rest)) found.2
    ∙ sym (joined_grouped typed found.0 (atomized s forest rest))
    ∙ ap (λ (o : Option Items). joined_values (Some typed) (joined_values o (atomized s forest rest))) (sym found.1)

-- where an item has no typed values
pub one_fails : (s : SchemaSet) (forest : Forest) (x : Item) (typed rest : Items) (all : Option Items) (e : Failure) → joined_values (Some typed) (atomized s forest (x ∷ rest)) ≡ all
    → FailsSo e (given (values_of_item s forest x) (λ values. gives values forest)) → FailsSo e (given all (λ values. gives values forest))
one_fails s forest x typed rest all e same h =
    subst (λ (o : Option Items). FailsSo e (given o (λ values. gives values forest))) same (before (values_of_item s forest x) e h)
  where
    before : (found : Option Items) (f : Failure) → FailsSo f (given found (λ values. gives values forest)) → FailsSo f (given (joined_values (Some typed) (joined_values found (atomized s forest rest))) (λ values. gives values forest))
    before None f g = g
    before (Some values) (Raised code) g = absurd (cc)
    before (Some values) Wrong g = absurd (cc)
    before (Some values) Memory g = tt

-- atomic values at hand are their own typed values
pub data_at_hand : (k : Context) (forest : Forest) (operand : Denotation) (xs : Items) (bindings : Bindings) → operand bindings forest ≡ gives xs forest → list_any is_node xs ≡ false
    → denoted k operators.DataOf (operand ∷ []) bindings forest ≡ gives xs forest
data_at_hand k forest operand xs bindings e h =
    ap (λ (o : Outcome Items). after (after o (λ x f. gives (x ∷ []) f)) (acts k operators.DataOf)) e ∙ ap (λ (o : Option Items). given o (λ ys. gives ys forest)) (atoms_are_typed k.schemas forest xs h)

-- ---- operands that are changed where they stand

stays : (k : Context) (operator : Operator) (first : ℕ) (values : Items) (forest : Forest) → acts k operator (drop first values ∷ []) forest ≡ gives (drop first values) forest → changed k operator first values forest ≡ gives values forest
stays k operator first values forest e =
    ap (λ (o : Outcome Items). after o (λ more left. gives (take first values ++ more) left)) e ∙ ap (λ (v : Items). gives v forest) (take-append-drop first values)

pub changes : (k : Context) (operator : Operator) (first : ℕ) (values more : Items) (forest : Forest) → acts k operator (drop first values ∷ []) forest ≡ gives more forest → changed k operator first values forest ≡ gives (take first values ++ more) forest
changes k operator first values more forest e = ap (λ (o : Outcome Items). after o (λ more left. gives (take first values ++ more) left)) e

pub atoms_stay : (k : Context) (first : ℕ) (values : Items) (forest : Forest) → list_any is_node (drop first values) ≡ false → changed k operators.DataOf first values forest ≡ gives values forest
atoms_stay k first values forest h =
    stays k operators.DataOf first values forest (ap (λ (o : Option Items). given o (λ ys. gives ys forest)) (atoms_are_typed k.schemas forest (drop first values) h))

pub data_changes : (k : Context) (first : ℕ) (values typed : Items) (forest : Forest) → atomized k.schemas forest (drop first values) ≡ Some typed → changed k operators.DataOf first values forest ≡ gives (take first values ++ typed) forest
data_changes k first values typed forest e = changes k operators.DataOf first values typed forest (ap (λ (o : Option Items). given o (λ ys. gives ys forest)) e)

pub nodes_stay : (k : Context) (first : ℕ) (values : Items) (forest : Forest) → list_all is_node (drop first values) ≡ true → changed k operators.Nodes first values forest ≡ gives values forest
nodes_stay k first values forest h = stays k operators.Nodes first values forest (ap (λ (b : Bool). if b then gives (drop first values) forest else wrong) h)

pub others_are_wrong : (k : Context) (first : ℕ) (values : Items) (forest : Forest) → list_all is_node (drop first values) ≡ false → acts k operators.Nodes (drop first values ∷ []) forest ≡ wrong
others_are_wrong k first values forest h = ap (λ (b : Bool). if b then gives (drop first values) forest else wrong) h

-- what is treated as a type
pub instances_stay : (k : Context) (kind : SequenceType) (first : ℕ) (values : Items) (forest : Forest) → is_instance k.schemas forest kind (drop first values) ≡ true → changed k (operators.Treat kind) first values forest ≡ gives values forest
instances_stay k kind first values forest h = stays k (operators.Treat kind) first values forest (ap (λ (b : Bool). if b then gives (drop first values) forest else raises XPDY0050) h)

pub others_are_raised : (k : Context) (kind : SequenceType) (first : ℕ) (values : Items) (forest : Forest) → is_instance k.schemas forest kind (drop first values) ≡ false → acts k (operators.Treat kind) (drop first values ∷ []) forest ≡ raises XPDY0050
others_are_raised k kind first values forest h = ap (λ (b : Bool). if b then gives (drop first values) forest else raises XPDY0050) h

pub order_stays : (k : Context) (first : ℕ) (values : Items) (forest : Forest) → put_in_order (drop first values) forest ≡ gives (drop first values) forest → changed k operators.Order first values forest ≡ gives values forest
order_stays k first values forest e = stays k operators.Order first values forest e

pub order_changes : (k : Context) (first : ℕ) (values : Items) (nodes : List PlainNode) (forest : Forest) → put_in_order (drop first values) forest ≡ gives (map node nodes) forest
    → changed k operators.Order first values forest ≡ gives (take first values ++ map node nodes) forest
order_changes k first values nodes forest e = changes k operators.Order first values (map node nodes) forest e

-- ---- nodes in order

pub nodes_ordered : (xs : Items) (forest : Forest) (nodes : List PlainNode) → list_all is_node xs ≡ true → nodes ≡ in_document_order forest (places_of xs) → put_in_order xs forest ≡ gives (map node nodes) forest
nodes_ordered xs forest nodes h e =
    ap (λ (b : Bool). if b then gives (map node (in_document_order forest (places_of xs))) forest else (if list_any is_node xs then wrong else gives xs forest)) h ∙ ap (λ (ns : List PlainNode). gives (map node ns) forest) (sym e)

pub mixed_are_wrong : (xs : Items) (forest : Forest) → list_all is_node xs ≡ false → list_any is_node xs ≡ true → put_in_order xs forest ≡ wrong
mixed_are_wrong xs forest h e =
    ap (λ (b : Bool). if b then gives (map node (in_document_order forest (places_of xs))) forest else (if list_any is_node xs then wrong else gives xs forest)) h ∙ ap (λ (b : Bool). if b then wrong else gives xs forest) e

pub atoms_ordered : (xs : Items) (forest : Forest) → list_all is_node xs ≡ false → list_any is_node xs ≡ false → put_in_order xs forest ≡ gives xs forest
atoms_ordered xs forest h e =
    ap (λ (b : Bool). if b then gives (map node (in_document_order forest (places_of xs))) forest else (if list_any is_node xs then wrong else gives xs forest)) h ∙ ap (λ (b : Bool). if b then wrong else gives xs forest) e

-- ---- comparisons

-- a number is one node
pub same_is : (later : Forest) (a b : ℕ) → same_node (place_of_number later a) (place_of_number later b) ≡ nat_eq a b
same_is later a b = by_number (nat_eq a b) refl
  where
    one_number : place_of_number later a ≡ place_of_number later b → a ≡ b
    one_number e =
        let first : nat_lt a b ≡ false = sym (number_before later a b) ∙ ap (λ (n : PlainNode). comes_before n (place_of_number later b)) e ∙ not_before_itself (place_of_number later b) in
        let second : nat_lt b a ≡ false = sym (number_before later b a) ∙ ap (λ (n : PlainNode). comes_before (place_of_number later b) n) e ∙ not_before_itself (place_of_number later b) in
        omega (arith, ltb-false a b first, ltb-false b a second)

    never : (c : Bool) → same_node (place_of_number later a) (place_of_number later b) ≡ c → nat_eq a b ≡ false → c ≡ false
    never true e f = absurd (true≢false (sym (eq-eqb a b (one_number (nodes_same (place_of_number later a) (place_of_number later b) e))) ∙ f))
    never false e f = refl

    by_number : (c : Bool) → nat_eq a b ≡ c → same_node (place_of_number later a) (place_of_number later b) ≡ c
    by_number true e = ap (λ (n : ℕ). same_node (place_of_number later n) (place_of_number later b)) (eqb-true a b e) ∙ node_itself (place_of_number later b)
    by_number false e = never (same_node (place_of_number later a) (place_of_number later b)) refl e

-- document order is that of numbers
pub before_is : (later : Forest) (a b : ℕ) → comes_before (place_of_number later a) (place_of_number later b) ≡ nat_lt a b
before_is later a b = number_before later a b

-- ---- combinations of sequences of nodes

pub sets_of_nodes : (op : NodeCombination) (xs ys : Items) (forest : Forest) (nodes : List PlainNode) → (list_all is_node xs && list_all is_node ys) ≡ true
    → nodes ≡ in_document_order forest (combined op (places_of xs) (places_of ys)) → nodes_combined op xs ys forest ≡ gives (map node nodes) forest
sets_of_nodes op xs ys forest nodes h e =
    ap (λ (b : Bool). if b then gives (map node (in_document_order forest (combined op (places_of xs) (places_of ys)))) forest else wrong) h ∙ ap (λ (ns : List PlainNode). gives (map node ns) forest) (sym e)

pub others_are_no_sets : (op : NodeCombination) (xs ys : Items) (forest : Forest) → (list_all is_node xs && list_all is_node ys) ≡ false → nodes_combined op xs ys forest ≡ wrong
others_are_no_sets op xs ys forest h = ap (λ (b : Bool). if b then gives (map node (in_document_order forest (combined op (places_of xs) (places_of ys)))) forest else wrong) h
