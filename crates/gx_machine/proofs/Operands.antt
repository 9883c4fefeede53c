-- Operands by the number of their items.
use Rattle.std.proofs.Common.{◌≡◌, ◌≤◌, ◌<◌, ℕ, get_or, take, drop, Bool, false, List, [], ◌∷◌, ◌++◌, length, Result, Err, Option, None, Some, refl, sym, ◌∙◌, ap, arith}
use Rattle.std.specs.Option.{option_map}
use Rattle.std.specs.Prelude.{is_ok, not}
use Rattle.std.proofs.lemmas.List.{take-append-drop}
use Rattle.gx_base.specs.declared.code.Code.{Code}
use Rattle.gx_base.specs.declared.type_name.TypeName.{TypeName}
use Rattle.gx_facets.specs.declared.Atomic.{Atomic}
use Rattle.gx_types.specs.SchemaSet.{SchemaSet}
use Rattle.gx_atomic.specs.declared.comparison.Op.{Op}
use Rattle.gx_atomic.specs.declared.casting.CastError.{CastError}
use Rattle.gx_atomic.specs.declared.casting.CastError.TheVariants.{FORG0001, FOCA0001, FOCA0003, FOCA0006, Memory}
use Rattle.gx_atomic.specs.Cast.{Casts, code_of}
use Rattle.gx_atomic.specs.Comparison.{Decision, general_comparison}
use Rattle.gx_atomic.proofs.PublicLaws.{empty_lists_compare_false}
use Rattle.gx_funcs.specs.declared.function.Function.TheVariants as functions
use Rattle.gx_funcs.specs.Function.{string_of_items, effective_boolean, one_answer, boolean_atom, string_atom, truth_atom}
use Rattle.gx_model.specs.Forest.{Forest, PlainNode}
use Rattle.gx_model.specs.Item.{Item, atom, node, Items, atoms}
use Rattle.gx_core.specs.Outcome.{Outcome, gives, wrong, given}
use Rattle.gx_core.specs.Operands.{on_one, on_two}
use Rattle.gx_core.specs.Arithmetic.{number_of_item}
use Rattle.gx_core.specs.Comparing.{condition_of, truth_of_value, truth_value, cast_failure, decided, atoms_among, generally_compared}
use Rattle.gx_core.specs.Ranging.{integer_of_item}
use Rattle.gx_core.specs.Calling.{views_of, answered, called}
use Rattle.gx_core.specs.Casting.{cast_outcome, cast_items, castable_items}
use Rattle.gx_machine.specs.declared.answer.Paired.{Paired}
use Rattle.gx_machine.specs.declared.answer.Paired.TheVariants.{Arithmetic, Value, NodeComparison, Range}
use Rattle.gx_machine.specs.Failing.{FailsSo}
use Rattle.gx_machine.specs.OneItem.{only_atom, only_node}
use Rattle.gx_machine.specs.Answering.{failure_of, paired_meaning}

-- an operand of more than one item is a type error
pub many : (xs : Items) (forest : Forest) (next : Item → Forest → Outcome Items) → 2 ≤ length xs → on_one xs forest next ≡ wrong
many [] forest next h = absurd (omega (arith, h))
many (x ∷ []) forest next h = absurd (omega (arith, h))
many (x ∷ y ∷ xs) forest next h = refl

pub many_on_the_left : (xs ys : Items) (forest : Forest) (next : Item → Item → Forest → Outcome Items) → 2 ≤ length xs → on_two xs ys forest next ≡ wrong
many_on_the_left [] ys forest next h = absurd (omega (arith, h))
many_on_the_left (x ∷ []) ys forest next h = absurd (omega (arith, h))
many_on_the_left (x ∷ y ∷ xs) ys forest next h = refl

pub many_on_the_right : (xs ys : Items) (forest : Forest) (next : Item → Item → Forest → Outcome Items) → 2 ≤ length ys → on_two xs ys forest next ≡ wrong
many_on_the_right xs [] forest next h = absurd (omega (arith, h))
many_on_the_right xs (y ∷ []) forest next h = absurd (omega (arith, h))
many_on_the_right [] (y ∷ z ∷ ys) forest next h = refl
many_on_the_right (x ∷ []) (y ∷ z ∷ ys) forest next h = refl
many_on_the_right (x ∷ w ∷ xs) (y ∷ z ∷ ys) forest next h = refl

-- and so is a node where a value is asked for
given_none : {A : Type 0} (found : Option A) (never : Outcome Items) → never ≡ wrong → given found (λ x. never) ≡ wrong
given_none None never e = refl
given_none (Some x) never e = e

pub no_pair_on_the_left : (operation : Paired) (place : PlainNode) (a : Atomic) (forest : Forest) → paired_meaning operation (node place) (atom a) forest ≡ wrong
no_pair_on_the_left (Arithmetic operation) place a forest = refl
no_pair_on_the_left (Value op) place a forest = refl
no_pair_on_the_left (NodeComparison op) place a forest = refl
no_pair_on_the_left Range place a forest = refl

pub no_pair_on_the_right : (operation : Paired) (a : Atomic) (place : PlainNode) (forest : Forest) → paired_meaning operation (atom a) (node place) forest ≡ wrong
no_pair_on_the_right (Arithmetic operation) a place forest = given_none (number_of_item (atom a)) wrong refl
no_pair_on_the_right (Value op) a place forest = refl
no_pair_on_the_right (NodeComparison op) a place forest = refl
no_pair_on_the_right Range a place forest = given_none (integer_of_item (atom a)) wrong refl

pub many_are_not_cast : (schemas : SchemaSet) (kind : TypeName) (allows_empty : Bool) (xs : Items) (forest : Forest) → 2 ≤ length xs → cast_items schemas kind allows_empty xs forest ≡ wrong
many_are_not_cast schemas kind allows_empty [] forest h = absurd (omega (arith, h))
many_are_not_cast schemas kind allows_empty (x ∷ []) forest h = absurd (omega (arith, h))
many_are_not_cast schemas kind allows_empty (atom a ∷ y ∷ xs) forest h = refl
many_are_not_cast schemas kind allows_empty (node place ∷ y ∷ xs) forest h = refl

pub many_are_not_castable : (schemas : SchemaSet) (kind : TypeName) (allows_empty : Bool) (xs : Items) (forest : Forest) → 2 ≤ length xs → castable_items schemas kind allows_empty xs forest ≡ wrong
many_are_not_castable schemas kind allows_empty [] forest h = absurd (omega (arith, h))
many_are_not_castable schemas kind allows_empty (x ∷ []) forest h = absurd (omega (arith, h))
many_are_not_castable schemas kind allows_empty (atom a ∷ y ∷ xs) forest h = refl
many_are_not_castable schemas kind allows_empty (node place ∷ y ∷ xs) forest h = refl

-- what a value of one item is
pub many_are_no_node : (xs : Items) → 2 ≤ length xs → None ≡ only_node xs
many_are_no_node [] h = absurd (omega (arith, h))
many_are_no_node (x ∷ []) h = absurd (omega (arith, h))
many_are_no_node (atom a ∷ y ∷ xs) h = refl
many_are_no_node (node place ∷ y ∷ xs) h = refl

pub many_are_no_atom : (xs : Items) → 2 ≤ length xs → None ≡ only_atom xs
many_are_no_atom [] h = absurd (omega (arith, h))
many_are_no_atom (x ∷ []) h = absurd (omega (arith, h))
many_are_no_atom (atom a ∷ y ∷ xs) h = refl
many_are_no_atom (node place ∷ y ∷ xs) h = refl

pub condition_is_none : (xs : Items) → only_atom xs ≡ None → None ≡ condition_of xs
condition_is_none [] e = refl
condition_is_none (node place ∷ []) e = refl
condition_is_none (atom a ∷ []) e = absurd (cc)
condition_is_none (atom a ∷ y ∷ xs) e = refl
condition_is_none (node place ∷ y ∷ xs) e = refl

pub condition_is : (xs : Items) (a : Atomic) → only_atom xs ≡ Some a → truth_of_value a.value ≡ condition_of xs
condition_is [] a e = absurd (cc)
condition_is (node place ∷ []) a e = absurd (cc)
condition_is (atom b ∷ []) a e = let same : b ≡ a = cc in ap (λ (c : Atomic). truth_of_value c.value) (sym same)
condition_is (atom b ∷ y ∷ xs) a e = absurd (cc)
condition_is (node place ∷ y ∷ xs) a e = absurd (cc)

pub only_atom_is : (xs : Items) (a : Atomic) → only_atom xs ≡ Some a → xs ≡ atom a ∷ []
only_atom_is [] a e = absurd (cc)
only_atom_is (node place ∷ []) a e = absurd (cc)
only_atom_is (atom b ∷ []) a e = let same : b ≡ a = cc in ap (λ (c : Atomic). atom c ∷ []) same
only_atom_is (atom b ∷ y ∷ xs) a e = absurd (cc)
only_atom_is (node place ∷ y ∷ xs) a e = absurd (cc)

pub many_have_no_string : (forest : Forest) (xs : Items) → 2 ≤ length xs → None ≡ string_of_items (views_of forest xs)
many_have_no_string forest [] h = absurd (omega (arith, h))
many_have_no_string forest (x ∷ []) h = absurd (omega (arith, h))
many_have_no_string forest (x ∷ y ∷ xs) h = refl

-- general comparisons
pub left_is_empty : (op : Op) (ys : Items) (forest : Forest) → generally_compared op [] ys forest ≡ gives (truth_value false) forest
left_is_empty op ys forest = refl

pub right_is_empty : (op : Op) (xs : Items) (forest : Forest) → generally_compared op xs [] forest ≡ gives (truth_value false) forest
right_is_empty op [] forest = refl
right_is_empty op (x ∷ xs) forest = refl

pub atoms_are_among : (xs : List Atomic) → atoms_among (atoms xs) ≡ Some xs
atoms_are_among [] = refl
atoms_are_among (x ∷ xs) = ap (option_map (λ ys. x ∷ ys)) (atoms_are_among xs)

pub general_is : (op : Op) (xs ys : List Atomic) (forest : Forest) → generally_compared op (atoms xs) (atoms ys) forest ≡ decided (general_comparison op xs ys) forest
general_is op [] ys forest = refl
general_is op (x ∷ xs) [] forest = ap (λ (d : Decision). decided d forest) (sym (empty_lists_compare_false.empty_right op (x ∷ xs)))
general_is op (x ∷ xs) (y ∷ ys) forest =
    ap (λ (o : Option (List Atomic)). given o (λ as'. given (atoms_among (atoms (y ∷ ys))) (λ bs. decided (general_comparison op as' bs) forest))) (atoms_are_among (x ∷ xs))
    ∙ ap (λ (o : Option (List Atomic)). given o (λ bs. decided (general_comparison op (x ∷ xs) bs) forest)) (atoms_are_among (y ∷ ys))

-- how a cast fails
pub failing_cast : (error : CastError) → FailsSo (failure_of error) (cast_failure error)
failing_cast FORG0001 = refl
failing_cast FOCA0001 = refl
failing_cast FOCA0003 = refl
failing_cast FOCA0006 = refl
failing_cast Memory = tt

pub failed_cast : (error : CastError) (expected : Result Atomic CastError) (forest : Forest) → Casts (Err error) expected → FailsSo (failure_of error) (cast_outcome expected forest)
failed_cast FORG0001 expected forest h = ap (λ (r : Result Atomic CastError). cast_outcome r forest) h
failed_cast FOCA0001 expected forest h = ap (λ (r : Result Atomic CastError). cast_outcome r forest) h
failed_cast FOCA0003 expected forest h = ap (λ (r : Result Atomic CastError). cast_outcome r forest) h
failed_cast FOCA0006 expected forest h = ap (λ (r : Result Atomic CastError). cast_outcome r forest) h
failed_cast Memory expected forest h = tt

-- a cast that fails with a code is none
pub no_cast : (error : CastError) (expected : Result Atomic CastError) (code : Code) → code_of error ≡ Some code → Casts (Err error) expected → false ≡ is_ok expected
no_cast FORG0001 expected code e h = sym (ap is_ok h)
no_cast FOCA0001 expected code e h = sym (ap is_ok h)
no_cast FOCA0003 expected code e h = sym (ap is_ok h)
no_cast FOCA0006 expected code e h = sym (ap is_ok h)
no_cast Memory expected code e h = absurd (cc)

-- a list of one value
pub the_single : {A : Type 0} (xs : List A) (x : A) → length xs ≡ 1 → x ≡ get_or xs 0 x → xs ≡ x ∷ []
the_single [] x l e = absurd (omega (arith, l))
the_single {A = A} (y ∷ []) x l e = ap (λ (z : A). z ∷ []) (sym e)
the_single (y ∷ z ∷ xs) x l e = absurd (omega (arith, l))

-- what `boolean` and `not` answer
pub boolean_called : (s : SchemaSet) (forest : Forest) (xs : Items) (truth : Bool) (a : Atomic) → effective_boolean (views_of forest xs) ≡ Some truth → a ≡ boolean_atom (views_of forest xs) truth → called s functions.Boolean (xs ∷ []) forest ≡ gives (atom a ∷ []) forest
boolean_called s forest xs truth a e f =
    ap (λ (o : Option Bool). given (option_map (λ t. one_answer (boolean_atom (views_of forest xs) t)) o) (λ answer. answered answer forest)) e ∙ ap (λ (b : Atomic). gives (atom b ∷ []) forest) (sym f)

pub no_boolean : (s : SchemaSet) (forest : Forest) (xs : Items) → effective_boolean (views_of forest xs) ≡ None → called s functions.Boolean (xs ∷ []) forest ≡ wrong
no_boolean s forest xs e = ap (λ (o : Option Bool). given (option_map (λ t. one_answer (boolean_atom (views_of forest xs) t)) o) (λ answer. answered answer forest)) e

pub contrary_called : (s : SchemaSet) (forest : Forest) (xs : Items) (truth : Bool) (a : Atomic) → effective_boolean (views_of forest xs) ≡ Some truth → a ≡ truth_atom (not truth) → called s functions.Not (xs ∷ []) forest ≡ gives (atom a ∷ []) forest
contrary_called s forest xs truth a e f =
    ap (λ (o : Option Bool). given (option_map (λ t. one_answer (truth_atom (not t))) o) (λ answer. answered answer forest)) e ∙ ap (λ (b : Atomic). gives (atom b ∷ []) forest) (sym f)

pub no_contrary : (s : SchemaSet) (forest : Forest) (xs : Items) → effective_boolean (views_of forest xs) ≡ None → called s functions.Not (xs ∷ []) forest ≡ wrong
no_contrary s forest xs e = ap (λ (o : Option Bool). given (option_map (λ t. one_answer (truth_atom (not t))) o) (λ answer. answered answer forest)) e

-- what `string` answers
pub string_called : (s : SchemaSet) (forest : Forest) (xs : Items) (text : List ℕ) (a : Atomic) → string_of_items (views_of forest xs) ≡ Some text → a ≡ string_atom text → called s functions.String (xs ∷ []) forest ≡ gives (atom a ∷ []) forest
string_called s forest xs text a e f =
    ap (λ (o : Option (List ℕ)). given (option_map (λ t. one_answer (string_atom t)) o) (λ answer. answered answer forest)) e ∙ ap (λ (b : Atomic). gives (atom b ∷ []) forest) (sym f)

pub no_string : (s : SchemaSet) (forest : Forest) (xs : Items) → string_of_items (views_of forest xs) ≡ None → called s functions.String (xs ∷ []) forest ≡ wrong
no_string s forest xs e = ap (λ (o : Option (List ℕ)). given (option_map (λ t. one_answer (string_atom t)) o) (λ answer. answered answer forest)) e

-- atomic values among items
after_atoms : (xs : List Atomic) (ys : Items) → atoms_among (atoms xs ++ ys) ≡ option_map (λ zs. xs ++ zs) (atoms_among ys)
after_atoms [] ys = same (atoms_among ys)
  where
    same : (o : Option (List Atomic)) → o ≡ option_map (λ zs. zs) o
    same None = refl
    same (Some zs) = refl
after_atoms (x ∷ xs) ys = ap (option_map (λ zs. x ∷ zs)) (after_atoms xs ys) ∙ both (atoms_among ys)
  where
    both : (o : Option (List Atomic)) → option_map (λ zs. x ∷ zs) (option_map (λ zs. xs ++ zs) o) ≡ option_map (λ zs. (x ∷ xs) ++ zs) o
    both None = refl
    both (Some zs) = refl

pub node_among : (items : Items) (values : List Atomic) (i : ℕ) (place : PlainNode) (rest : Items) → take i items ≡ atoms values → drop i items ≡ node place ∷ rest → atoms_among items ≡ None
node_among items values i place rest e f =
    ap atoms_among (sym (take-append-drop i items) ∙ ap (λ (v : Items). v ++ drop i items) e ∙ ap (λ (v : Items). atoms values ++ v) f) ∙ after_atoms values (node place ∷ rest)

more_are_items : (a : Atomic) (xs : Items) (values : List Atomic) (found : Option (List Atomic)) → ((rest : List Atomic) → found ≡ Some rest → xs ≡ atoms rest) → option_map (λ zs. a ∷ zs) found ≡ Some values → atom a ∷ xs ≡ atoms values
more_are_items a xs values None h e = absurd (cc)
more_are_items a xs values (Some rest) h e = let same : a ∷ rest ≡ values = cc in ap (λ (v : Items). atom a ∷ v) (h rest refl) ∙ ap atoms same

pub atoms_are_items : (xs : Items) (values : List Atomic) → atoms_among xs ≡ Some values → xs ≡ atoms values
atoms_are_items [] values e = let same : [] ≡ values = cc in ap atoms same
atoms_are_items (atom a ∷ xs) values e = more_are_items a xs values (atoms_among xs) (λ rest h. atoms_are_items xs rest h) e
atoms_are_items (node place ∷ xs) values e = absurd (cc)

-- a general comparison of operands that are not empty
pub general_of_atoms : (op : Op) (xs ys : Items) (as' bs : List Atomic) (forest : Forest) → atoms_among xs ≡ Some as' → atoms_among ys ≡ Some bs → generally_compared op xs ys forest ≡ generally_compared op (atoms as') (atoms bs) forest
general_of_atoms op xs ys as' bs forest e f = ap (λ (v : Items). generally_compared op v ys forest) (atoms_are_items xs as' e) ∙ ap (λ (v : Items). generally_compared op (atoms as') v forest) (atoms_are_items ys bs f)

pub no_left_atoms : (op : Op) (xs ys : Items) (forest : Forest) → 0 < length xs → 0 < length ys → atoms_among xs ≡ None → generally_compared op xs ys forest ≡ wrong
no_left_atoms op [] ys forest l r e = absurd (omega (arith, l))
no_left_atoms op (x ∷ xs) [] forest l r e = absurd (omega (arith, r))
no_left_atoms op (x ∷ xs) (y ∷ ys) forest l r e = ap (λ (o : Option (List Atomic)). given o (λ as'. given (atoms_among (y ∷ ys)) (λ bs. decided (general_comparison op as' bs) forest))) e

pub no_right_atoms : (op : Op) (xs ys : Items) (forest : Forest) → 0 < length xs → 0 < length ys → atoms_among ys ≡ None → generally_compared op xs ys forest ≡ wrong
no_right_atoms op [] ys forest l r e = absurd (omega (arith, l))
no_right_atoms op (x ∷ xs) [] forest l r e = absurd (omega (arith, r))
no_right_atoms op (x ∷ xs) (y ∷ ys) forest l r e = first (atoms_among (x ∷ xs))
  where
    first : (o : Option (List Atomic)) → given o (λ as'. given (atoms_among (y ∷ ys)) (λ bs. decided (general_comparison op as' bs) forest)) ≡ wrong
    first None = refl
    first (Some as') = ap (λ (o : Option (List Atomic)). given o (λ bs. decided (general_comparison op as' bs) forest)) e
