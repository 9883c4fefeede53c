-- What quiet operators make of values is no error, and leaves the forest as it is.
use Rattle.std.proofs.Common.{◌≡◌, Bool, true, false, ◌||◌, ◌&&◌, List, [], ◌∷◌, ◌++◌, map, refl, if◌then◌else◌}
use Rattle.std.specs.List.{list_all, list_any}
use Rattle.gx_types.specs.declared.step.Axis.{Axis}
use Rattle.gx_types.specs.declared.step.Test.{Test}
use Rattle.gx_types.specs.SchemaSet.{SchemaSet}
use Rattle.gx_types.specs.SchemaInvariant.{IsSchemaSet}
use Rattle.gx_types.specs.SequenceType.{SequenceType}
use Rattle.gx_base.specs.declared.type_name.TypeName.{TypeName}
use Rattle.gx_atomic.specs.declared.comparison.Op.{Op}
use Rattle.gx_atomic.specs.Comparison.{value_comparison}
use Rattle.gx_model.specs.Atomization.{atomized}
use Rattle.gx_model.specs.DocumentOrder.{in_document_order}
use Rattle.gx_model.specs.Forest.{Forest}
use Rattle.gx_model.specs.Honest.{IsHonest}
use Rattle.gx_model.specs.Item.{Item, atom, node, Items}
use Rattle.gx_core.specs.declared.expression.BinaryOp.{BinaryOp}
use Rattle.gx_core.specs.declared.expression.BinaryClass.{BinaryClass}
use Rattle.gx_core.specs.declared.expression.BinaryClass.TheVariants as classes
use Rattle.gx_core.specs.declared.expression.NodeComparison.{NodeComparison}
use Rattle.gx_core.specs.declared.operator.Operator.{Operator}
use Rattle.gx_core.specs.declared.operator.Operator.TheVariants as operators
use Rattle.gx_core.specs.BinaryOperators.{class_of}
use Rattle.gx_core.specs.Bindings.{look_up}
use Rattle.gx_core.specs.Casting.{castable_items}
use Rattle.gx_core.specs.CombiningNodes.{combined}
use Rattle.gx_core.specs.Comparing.{truth_value, condition_of, value_of_item, compared_items}
use Rattle.gx_core.specs.ComparingNodes.{compared_nodes}
use Rattle.gx_core.specs.Operands.{on_two}
use Rattle.gx_core.specs.Outcome.{Outcome, gives, wrong, after, given}
use Rattle.gx_core.specs.Paths.{is_node, places_of, stepped, put_in_order}
use Rattle.gx_core.specs.Meaning.{Context, Bindings, Denotation, binary_meaning, acts, all_of, for_each, item_bound, any_decides, branch, switched, denoted}
use Rattle.gx_core.specs.Soundness.{AreOfTypes}
use Rattle.gx_plan.specs.declared.plan.Role.{Role}
use Rattle.gx_rules.specs.Guards.{is_in_join, is_quiet_class, is_quiet_binary, is_quiet_operator}
use Rattle.gx_rule_laws.specs.QuietValues.{is_comparison_of_join}
use Rattle.gx_rule_laws.proofs.QuietOperators.{IsQuiet, AreQuiet, quiet_after, quiet_given, quiet_choice, quiet_each, quiet_search, quiet_branch, quiet_switched, quiet_block}
use Rattle.gx_rule_laws.proofs.QuietCalls.{quiet_call}
use Rattle.gx_rule_laws.proofs.QuietComparisons.{quiet_general}

-- ---- operators of two operands

quiet_on_two : (xs ys : Items) (forest : Forest) (next : Item → Item → Forest → Outcome Items) → ((x y : Item) → IsQuiet forest (next x y forest))
    → IsQuiet forest (on_two xs ys forest next)
quiet_on_two (x ∷ []) (y ∷ []) forest next k = k x y
quiet_on_two [] [] forest next k = refl
quiet_on_two [] (y ∷ []) forest next k = refl
quiet_on_two (x ∷ []) [] forest next k = refl
quiet_on_two _ _ forest next k = tt

quiet_comparison : (op : Op) (x y : Item) (forest : Forest) → IsQuiet forest (compared_items op x y forest)
quiet_comparison op x y forest =
    quiet_given forest (value_of_item x)
    (λ a. given (value_of_item y) (λ b. given (value_comparison op a b) (λ truth. gives (truth_value truth) forest)))
    (λ a. quiet_given forest (value_of_item y) (λ b. given (value_comparison op a b) (λ truth. gives (truth_value truth) forest))
    (λ b. quiet_given forest (value_comparison op a b) (λ truth. gives (truth_value truth) forest) (λ truth. refl)))

quiet_nodes : (op : NodeComparison) (x y : Item) (forest : Forest) → IsQuiet forest (compared_nodes op x y forest)
quiet_nodes op (node a) (node b) forest = refl
quiet_nodes op (node a) (atom y) forest = tt
quiet_nodes op (atom x) y forest = tt

quiet_binary : (s : SchemaSet) (class : BinaryClass) (left right : SequenceType) (xs ys : Items) (forest : Forest) → is_quiet_class s class left right ≡ true
    → AreOfTypes s (left ∷ right ∷ []) forest (xs ∷ ys ∷ []) → IsQuiet forest (binary_meaning class xs ys forest)
quiet_binary s (classes.Arithmetic operation) left right xs ys forest e b = absurd (cc)
quiet_binary s (classes.Value op) left right xs ys forest e b = quiet_on_two xs ys forest (compared_items op) (λ x y. quiet_comparison op x y forest)
quiet_binary s (classes.General op) left right xs ys forest e b = quiet_general s forest op left right xs ys e b.0 b.1.0
quiet_binary s (classes.Nodes op) left right xs ys forest e b = quiet_on_two xs ys forest (compared_nodes op) (λ x y. quiet_nodes op x y forest)
quiet_binary s classes.Range left right xs ys forest e b = absurd (cc)
quiet_binary s (classes.Combination op) left right xs ys forest e b =
    quiet_choice forest (list_all is_node xs && list_all is_node ys)
    (gives (map node (in_document_order forest (combined op (places_of xs) (places_of ys)))) forest) wrong refl tt

quiet_operands : (s : SchemaSet) (context : Context) (op : BinaryOp) (ts : List SequenceType) (values : List Items) (forest : Forest)
    → is_quiet_binary s (class_of op) ts ≡ true → AreOfTypes s ts forest values → IsQuiet forest (acts context (operators.Binary op) values forest)
quiet_operands s context op (left ∷ right ∷ []) (xs ∷ ys ∷ []) forest e b = quiet_binary s (class_of op) left right xs ys forest e b
quiet_operands s context op (left ∷ right ∷ []) [] forest e b = absurd b
quiet_operands s context op (left ∷ right ∷ []) (xs ∷ []) forest e b = absurd b.1
quiet_operands s context op (left ∷ right ∷ []) (xs ∷ ys ∷ zs ∷ values) forest e b = absurd b.1.1
quiet_operands s context op [] values forest e b = absurd (cc)
quiet_operands s context op (left ∷ []) values forest e b = absurd (cc)
quiet_operands s context op (left ∷ right ∷ t ∷ ts) values forest e b = absurd (cc)

-- ---- strict operators

quiet_order : (xs : Items) (forest : Forest) → IsQuiet forest (put_in_order xs forest)
quiet_order xs forest =
    quiet_choice forest (list_all is_node xs) (gives (map node (in_document_order forest (places_of xs))) forest)
    (if list_any is_node xs then wrong else gives xs forest) refl
    (quiet_choice forest (list_any is_node xs) wrong (gives xs forest) tt refl)

quiet_castable : (s : SchemaSet) (kind : TypeName) (optional : Bool) (xs : Items) (forest : Forest) → IsQuiet forest (castable_items s kind optional xs forest)
quiet_castable s kind optional [] forest = refl
quiet_castable s kind optional (atom a ∷ []) forest = refl
quiet_castable s kind optional (atom a ∷ y ∷ xs) forest = tt
quiet_castable s kind optional (node place ∷ xs) forest = tt

unmarked : (marked quiet : Bool) → marked ≡ false → (marked || quiet) ≡ true → quiet ≡ true
unmarked true quiet e h = absurd (cc)
unmarked false quiet e h = h

pub quiet_act : (context : Context) → IsSchemaSet context.schemas → (role : Role) (operator : Operator) (ts : List SequenceType) (values : List Items) (forest : Forest)
    → IsHonest context.schemas forest → is_comparison_of_join role operator ≡ false → is_quiet_operator context.schemas role operator ts ≡ true
    → AreOfTypes context.schemas ts forest values → IsQuiet forest (acts context operator values forest)
quiet_act context is role (operators.Lit value) ts [] forest honest m e b = refl
quiet_act context is role operators.Empty ts [] forest honest m e b = refl
quiet_act context is role operators.Seq ts (xs ∷ ys ∷ []) forest honest m e b = refl
quiet_act context is role operators.Nodes ts (xs ∷ []) forest honest m e b =
    quiet_choice forest (list_all is_node xs) (gives xs forest) wrong refl tt
quiet_act context is role operators.Order ts (xs ∷ []) forest honest m e b = quiet_order xs forest
quiet_act context is role (operators.Nth number reverse) ts (xs ∷ []) forest honest m e b = refl
quiet_act context is role (operators.Final reverse) ts (xs ∷ []) forest honest m e b = refl
quiet_act context is role operators.DataOf ts (xs ∷ []) forest honest m e b =
    quiet_given forest (atomized context.schemas forest xs) (λ ys. gives ys forest) (λ ys. refl)
quiet_act context is role (operators.Castable kind optional) ts (xs ∷ []) forest honest m e b = quiet_castable context.schemas kind optional xs forest
quiet_act context is role (operators.Call function) ts values forest honest m e b =
    quiet_call context.schemas is function ts values forest honest e b
quiet_act context is role (operators.Binary op) ts values forest honest m e b =
    quiet_operands context.schemas context op ts values forest (unmarked (is_in_join role) (is_quiet_binary context.schemas (class_of op) ts) m e) b
quiet_act context is role (operators.Cast kind optional) ts values forest honest m e b = absurd (cc)
quiet_act context is role (operators.Treat kind) ts values forest honest m e b = absurd (cc)
quiet_act context is role operators.Neg ts values forest honest m e b = absurd (cc)
quiet_act context is role (operators.Construct constructor count) ts values forest honest m e b = absurd (cc)
quiet_act context is role (operators.User signature count) ts values forest honest m e b = absurd (cc)
quiet_act context is role _ ts _ forest honest m e b = tt

-- ---- operators that choose, bind or repeat, and all others

abbrev pub is_choosing : Operator → Bool
is_choosing (operators.For binder position) = true
is_choosing (operators.SomeIn binder) = true
is_choosing (operators.EveryIn binder) = true
is_choosing (operators.Block kinds orders) = true
is_choosing (operators.Let binder) = true
is_choosing (operators.Switch cases default) = true
is_choosing operators.If = true
is_choosing _ = false

quiet_step : (s : SchemaSet) (axis : Axis) (asks : Test) (xs : Items) (forest : Forest) → IsQuiet forest (stepped s axis asks xs forest)
quiet_step s axis asks [] forest = tt
quiet_step s axis asks (node place ∷ []) forest = refl
quiet_step s axis asks (node place ∷ y ∷ xs) forest = tt
quiet_step s axis asks (atom a ∷ xs) forest = tt

pub quiet_strict : (context : Context) (operator : Operator) (parts : List Denotation) (bindings : Bindings) (forest : Forest) → is_choosing operator ≡ false
    → IsQuiet forest (after (all_of parts bindings forest) (acts context operator)) → IsQuiet forest (denoted context operator parts bindings forest)
quiet_strict context (operators.Var number) [] bindings forest c h =
    quiet_given forest (look_up bindings number) (λ value. gives value forest) (λ value. refl)
quiet_strict context (operators.Step axis asks number) [] bindings forest c h =
    quiet_given forest (look_up bindings number) (λ value. stepped context.schemas axis asks value forest)
    (λ value. quiet_step context.schemas axis asks value forest)
quiet_strict context (operators.For binder position) parts bindings forest c h = absurd (cc)
quiet_strict context (operators.SomeIn binder) parts bindings forest c h = absurd (cc)
quiet_strict context (operators.EveryIn binder) parts bindings forest c h = absurd (cc)
quiet_strict context (operators.Block kinds orders) parts bindings forest c h = absurd (cc)
quiet_strict context (operators.Let binder) parts bindings forest c h = absurd (cc)
quiet_strict context (operators.Switch cases default) parts bindings forest c h = absurd (cc)
quiet_strict context operators.If parts bindings forest c h = absurd (cc)
quiet_strict context _ parts bindings forest c h = h

pub quiet_choosing : (context : Context) (operator : Operator) (parts : List Denotation) (bindings : Bindings) (forest : Forest) → is_choosing operator ≡ true
    → AreQuiet parts → IsQuiet forest (denoted context operator parts bindings forest)
quiet_choosing context (operators.For binder position) (source ∷ body ∷ []) bindings forest c h =
    quiet_after forest (source bindings forest)
    (λ xs left. for_each (λ number x now. body (item_bound binder.variable position number x ++ bindings) now) 1 [] xs left)
    (h.0 bindings forest)
    (λ xs. quiet_each (λ number x now. body (item_bound binder.variable position number x ++ bindings) now) 1 [] xs forest
    (λ number x. h.1.0 (item_bound binder.variable position number x ++ bindings) forest))
quiet_choosing context (operators.SomeIn binder) (source ∷ test ∷ []) bindings forest c h =
    quiet_after forest (source bindings forest) (λ xs left. any_decides true (λ x now. test ((binder.variable, x ∷ []) ∷ bindings) now) xs left)
    (h.0 bindings forest)
    (λ xs. quiet_search true (λ x now. test ((binder.variable, x ∷ []) ∷ bindings) now) xs forest
    (λ x. h.1.0 ((binder.variable, x ∷ []) ∷ bindings) forest))
quiet_choosing context (operators.EveryIn binder) (source ∷ test ∷ []) bindings forest c h =
    quiet_after forest (source bindings forest) (λ xs left. any_decides false (λ x now. test ((binder.variable, x ∷ []) ∷ bindings) now) xs left)
    (h.0 bindings forest)
    (λ xs. quiet_search false (λ x now. test ((binder.variable, x ∷ []) ∷ bindings) now) xs forest
    (λ x. h.1.0 ((binder.variable, x ∷ []) ∷ bindings) forest))
quiet_choosing context (operators.Block kinds orders) parts bindings forest c h = quiet_block kinds orders parts bindings forest h
quiet_choosing context (operators.Let binder) (value ∷ body ∷ []) bindings forest c h =
    quiet_after forest (value bindings forest) (λ xs left. body ((binder.variable, xs) ∷ bindings) left) (h.0 bindings forest)
    (λ xs. h.1.0 ((binder.variable, xs) ∷ bindings) forest)
quiet_choosing context (operators.Switch cases default) (operand ∷ branches) bindings forest c h =
    quiet_after forest (operand bindings forest) (λ xs left. switched context.schemas cases default branches xs bindings left)
    (h.0 bindings forest)
    (λ xs. quiet_switched context.schemas cases default branches xs bindings forest h.1)
quiet_choosing context operators.If (condition ∷ chosen ∷ otherwise ∷ []) bindings forest c h =
    quiet_after forest (condition bindings forest) (λ xs left. given (condition_of xs) (λ truth. branch truth chosen otherwise bindings left))
    (h.0 bindings forest)
    (λ xs. quiet_given forest (condition_of xs) (λ truth. branch truth chosen otherwise bindings forest)
    (λ truth. quiet_branch truth chosen otherwise bindings forest (h.1.0 bindings forest) (h.1.1.0 bindings forest)))
quiet_choosing context (operators.For binder position) _ bindings forest c h = tt
quiet_choosing context (operators.SomeIn binder) _ bindings forest c h = tt
quiet_choosing context (operators.EveryIn binder) _ bindings forest c h = tt
quiet_choosing context (operators.Let binder) _ bindings forest c h = tt
quiet_choosing context operators.If _ bindings forest c h = tt
quiet_choosing context (operators.Switch cases default) [] bindings forest c h = tt
quiet_choosing context _ parts bindings forest c h = absurd (cc)
