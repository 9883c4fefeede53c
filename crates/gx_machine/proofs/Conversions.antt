-- The function conversion rules, as they are applied to arguments and results.
use Rattle.std.proofs.Common.{◌≡◌, Bool, true, false, not, ◌&&◌, if◌then◌else◌, List, [], ◌∷◌, ◌++◌, Option, None, Some, refl, sym, ◌∙◌, ap, append_assoc, append-nil, ◌==◌, length}
use Rattle.std.proofs.lemmas.Bool.{eqb-true, true≢false}
use Rattle.std.proofs.lemmas.List.{nil_from_length}
use Rattle.std.specs.List.{list_all, list_any}
use Rattle.gx_base.specs.declared.type_name.TypeName.{TypeName}
use Rattle.gx_types.specs.SchemaSet.{SchemaSet}
use Rattle.gx_types.specs.SequenceType.{SequenceType}
use Rattle.gx_atomic.specs.Cast.{cast_of}
use Rattle.gx_model.specs.Forest.{Forest}
use Rattle.gx_model.specs.Item.{Item, atom, node, Items}
use Rattle.gx_core.specs.Casting.{cast_outcome}
use Rattle.gx_core.specs.Converting.{expected_atomic, is_untyped, is_any_atomic_type, item_converted, items_converted, converted_to, converted, arguments_converted}
use Rattle.gx_core.specs.Outcome.{Outcome, gives, raises, wrong, after, given}
use Rattle.gx_core.specs.Paths.{is_node}
use Rattle.gx_machine.specs.declared.failure.Failure.{Failure}
use Rattle.gx_machine.specs.declared.failure.Failure.TheVariants.{Raised, Wrong, Memory}
use Rattle.gx_machine.specs.Converting.{is_left_alone}
use Rattle.gx_machine.specs.Failing.{FailsSo}
use Rattle.gx_machine.proofs.NodeOperators.{atoms_are_typed}
use Rattle.gx_machine.proofs.Outcomes.{after_after, same_after}
use Rattle.gx_machine.proofs.Resuming.{fails_through, fails_also}

-- ---- items that stay as they are

others_stay : (b others : Bool) → (not b && others) ≡ true → others ≡ true
others_stay true others e = absurd (cc)
others_stay false others e = e

no_node_stays : (kind : TypeName) (xs : Items) → list_all (is_left_alone kind) xs ≡ true → list_any is_node xs ≡ false
no_node_stays kind [] e = refl
no_node_stays kind (node place ∷ xs) e = absurd (cc)
no_node_stays kind (atom a ∷ xs) e = no_node_stays kind xs (others_stay (is_untyped a.value && not (is_any_atomic_type kind)) (list_all (is_left_alone kind) xs) e)

one_stays : (b : Bool) (cast given_next : Outcome Items) (others : Bool) (all : Outcome Items) (next : Items → Forest → Outcome Items) → (others ≡ true → after given_next next ≡ all)
    → (not b && others) ≡ true → after (if b then cast else given_next) next ≡ all
one_stays true cast given_next others all next h e = absurd (cc)
one_stays false cast given_next others all next h e = h e

items_stay : (s : SchemaSet) (kind : TypeName) (xs : Items) (forest : Forest) → list_all (is_left_alone kind) xs ≡ true → items_converted s kind xs forest ≡ gives xs forest
items_stay s kind [] forest e = refl
items_stay s kind (node place ∷ xs) forest e = absurd (cc)
items_stay s kind (atom a ∷ xs) forest e =
    one_stays (is_untyped a.value && not (is_any_atomic_type kind)) (cast_outcome (cast_of s a kind) forest) (gives (atom a ∷ []) forest) (list_all (is_left_alone kind) xs) (gives (atom a ∷ xs) forest)
    (λ ys left. after (items_converted s kind xs left) (λ zs last. gives (ys ++ zs) last))
    (λ h. ap (λ (o : Outcome Items). after o (λ zs last. gives (atom a ∷ zs) last)) (items_stay s kind xs forest h)) e

pub none_expected : (s : SchemaSet) (expected : SequenceType) (xs : Items) (forest : Forest) → None ≡ expected_atomic expected → converted s expected xs forest ≡ gives xs forest
none_expected s expected xs forest e = sym (ap (λ (kind : Option TypeName). converted_to kind s xs forest) e)

pub all_stay : (s : SchemaSet) (expected : SequenceType) (kind : TypeName) (xs : Items) (forest : Forest) → Some kind ≡ expected_atomic expected → list_all (is_left_alone kind) xs ≡ true
    → converted s expected xs forest ≡ gives xs forest
all_stay s expected kind xs forest e h =
    sym (ap (λ (found : Option TypeName). converted_to found s xs forest) e)
    ∙ ap (λ (o : Option Items). given o (λ ys. items_converted s kind ys forest)) (atoms_are_typed s forest xs (no_node_stays kind xs h))
    ∙ items_stay s kind xs forest h

pub kind_expected : (s : SchemaSet) (expected : SequenceType) (kind : TypeName) (xs : Items) (forest : Forest) → expected_atomic expected ≡ Some kind
    → converted s expected xs forest ≡ converted_to (Some kind) s xs forest
kind_expected s expected kind xs forest e = ap (λ (found : Option TypeName). converted_to found s xs forest) e

pub typed_fails : (o : Option Items) (forest : Forest) (next : Items → Outcome Items) (e : Failure) → FailsSo e (given o (λ typed. gives typed forest)) → FailsSo e (given o next)
typed_fails None forest next e h = h
typed_fails (Some typed) forest next Memory h = tt
typed_fails (Some typed) forest next Wrong h = absurd (cc)
typed_fails (Some typed) forest next (Raised code) h = absurd (cc)

-- ---- items from the left

pub after_itself : {R : Type 0} (o : Outcome R) → after o (λ x left. gives x left) ≡ o
after_itself (gives x left) = refl
after_itself (raises code) = refl
after_itself wrong = refl

-- an item behind those that are converted
pub one_converted : (s : SchemaSet) (kind : TypeName) (x y : Item) (xs done : Items) (forest : Forest) → item_converted s kind x forest ≡ gives (y ∷ []) forest
    → after (items_converted s kind xs forest) (λ zs left. gives ((done ++ y ∷ []) ++ zs) left) ≡ after (items_converted s kind (x ∷ xs) forest) (λ zs left. gives (done ++ zs) left)
one_converted s kind x y xs done forest e =
    same_after (items_converted s kind xs forest) _ _ (λ zs left. ap (λ (v : Items). gives v left) (append_assoc done (y ∷ []) zs))
    ∙ after_after (items_converted s kind xs forest) (λ zs last. gives (y ∷ zs) last) (λ zs left. gives (done ++ zs) left)
    ∙ sym (ap (λ (o : Outcome Items). after (after o (λ ys left. after (items_converted s kind xs left) (λ zs last. gives (ys ++ zs) last))) (λ zs left. gives (done ++ zs) left)) e)

pub item_fails : (s : SchemaSet) (kind : TypeName) (x : Item) (xs : Items) (forest : Forest) (e : Failure) (next : Items → Forest → Outcome Items) → FailsSo e (item_converted s kind x forest)
    → FailsSo e (after (items_converted s kind (x ∷ xs) forest) next)
item_fails s kind x xs forest e next h =
    fails_through (items_converted s kind (x ∷ xs) forest) next e
    (fails_through (item_converted s kind x forest) (λ ys left. after (items_converted s kind xs left) (λ zs last. gives (ys ++ zs) last)) e h)

-- ---- arguments from the left

-- an argument behind those that are converted
pub one_argument : (s : SchemaSet) (expected : SequenceType) (parameters : List SequenceType) (xs ys : Items) (arguments done : List Items) (forest : Forest) → converted s expected xs forest ≡ gives ys forest
    → after (arguments_converted s parameters arguments forest) (λ vs left. gives ((done ++ ys ∷ []) ++ vs) left)
    ≡ after (arguments_converted s (expected ∷ parameters) (xs ∷ arguments) forest) (λ vs left. gives (done ++ vs) left)
one_argument s expected parameters xs ys arguments done forest e =
    same_after (arguments_converted s parameters arguments forest) _ _ (λ vs left. ap (λ (v : List Items). gives v left) (append_assoc done (ys ∷ []) vs))
    ∙ after_after (arguments_converted s parameters arguments forest) (λ vs last. gives (ys ∷ vs) last) (λ vs left. gives (done ++ vs) left)
    ∙ sym (ap (λ (o : Outcome Items). after (after o (λ zs left. after (arguments_converted s parameters arguments left) (λ vs last. gives (zs ∷ vs) last))) (λ vs left. gives (done ++ vs) left)) e)

pub argument_fails : (s : SchemaSet) (expected : SequenceType) (parameters : List SequenceType) (xs : Items) (arguments : List Items) (forest : Forest) (e : Failure) (next : List Items → Forest → Outcome Items)
    → FailsSo e (converted s expected xs forest) → FailsSo e (after (arguments_converted s (expected ∷ parameters) (xs ∷ arguments) forest) next)
argument_fails s expected parameters xs arguments forest e next h =
    fails_also e _ _ (sym (after_after (converted s expected xs forest) (λ ys left. after (arguments_converted s parameters arguments left) (λ vs last. gives (ys ∷ vs) last)) next))
    (fails_through (converted s expected xs forest) _ e h)

-- what is so of the arguments that are left is so of all
pub so_far : (o all : Outcome (List Items)) (done : List Items) (next : List Items → Forest → Outcome Items) → after o (λ vs left. gives (done ++ vs) left) ≡ all
    → after all next ≡ after o (λ vs left. next (done ++ vs) left)
so_far o all done next e = sym (ap (λ (p : Outcome (List Items)). after p next) e) ∙ sym (after_after o (λ vs left. gives (done ++ vs) left) next)

-- an argument without a parameter, and a parameter without an argument
pub no_parameter : (s : SchemaSet) (parameters : List SequenceType) (arguments : List Items) (xs : Items) (others : List Items) (forest : Forest) (next : List Items → Forest → Outcome Items)
    → parameters ≡ [] → arguments ≡ xs ∷ others → after (arguments_converted s parameters arguments forest) next ≡ wrong
no_parameter s parameters arguments xs others forest next e h = λ i. after (arguments_converted s (e i) (h i) forest) next

pub no_argument : (s : SchemaSet) (parameters : List SequenceType) (arguments : List Items) (forest : Forest) (next : List Items → Forest → Outcome Items) (empty : Bool)
    → empty ≡ (length parameters == 0) → empty ≡ false → arguments ≡ [] → after (arguments_converted s parameters arguments forest) next ≡ wrong
no_argument s [] arguments forest next empty e f h = absurd (true≢false (sym e ∙ f))
no_argument s (expected ∷ parameters) arguments forest next empty e f h = ap (λ (values : List Items). after (arguments_converted s (expected ∷ parameters) values forest) next) h

pub no_more : (s : SchemaSet) (parameters : List SequenceType) (arguments done : List Items) (forest : Forest) (empty : Bool)
    → empty ≡ (length parameters == 0) → empty ≡ true → arguments ≡ [] → after (arguments_converted s parameters arguments forest) (λ values now. gives (done ++ values) now) ≡ gives done forest
no_more s parameters arguments done forest empty e f h =
    let none : parameters ≡ [] = nil_from_length parameters (eqb-true (length parameters) 0 (sym e ∙ f)) in
    (λ i. after (arguments_converted s (none i) (h i) forest) (λ values now. gives (done ++ values) now)) ∙ ap (λ (v : List Items). gives v forest) (append-nil done)
