-- Comparisons of values (XQuery 1.0, sections 3.5.1 and 3.5.2), and the condition of a conditional (section 3.10).
use Rattle.std.specs.Prelude.{Bool, false, List, [], ◌∷◌, Option, None, Some, Ok, Err}
use Rattle.gx_facets.specs.declared.Atomic.{Atomic}
use Rattle.gx_facets.specs.declared.AtomValue.{AtomValue}
use Rattle.gx_facets.specs.declared.AtomValue.TheVariants.{Truth}
use Rattle.gx_atomic.specs.declared.comparison.Op.{Op}
use Rattle.gx_atomic.specs.declared.casting.CastError.{CastError}
use Rattle.gx_atomic.specs.Cast.{code_of}
use Rattle.gx_atomic.specs.Comparison.{Decision, value_comparison, general_comparison}
use Rattle.gx_funcs.specs.Function.{truth_atom}
use Rattle.gx_model.specs.Forest.{Forest}
use Rattle.gx_model.specs.Item.{Item, atom, node, Items}
use Rattle.gx_core.specs.Outcome.{Outcome, gives, raises, wrong, given}
use Rattle.gx_core.specs.Operands.{on_two}

-- a boolean as a value
abbrev pub truth_value : Bool → Items
truth_value truth = atom (truth_atom truth) ∷ []

abbrev pub truth_of_value : AtomValue → Option Bool
truth_of_value (Truth truth) = Some truth
truth_of_value _ = None

-- the boolean that a value of one item is
abbrev pub condition_of : Items → Option Bool
condition_of (atom a ∷ []) = truth_of_value a.value
condition_of _ = None

abbrev pub value_of_item : Item → Option AtomValue
value_of_item (atom a) = Some a.value
value_of_item (node place) = None

-- ---- value comparisons; values of two families cannot be compared, which is a type error

abbrev pub compared_items : Op → Item → Item → Forest → Outcome Items
compared_items op x y forest =
    given (value_of_item x) (λ a. given (value_of_item y)
    (λ b. given (value_comparison op a b) (λ truth. gives (truth_value truth) forest)))

abbrev pub value_compared : Op → Items → Items → Forest → Outcome Items
value_compared op xs ys forest = on_two xs ys forest (compared_items op)

-- ---- general comparisons

-- the error of a cast
abbrev pub cast_failure : CastError → Outcome Items
cast_failure error = given (code_of error) (λ code. raises code)

abbrev pub decided : Decision → Forest → Outcome Items
decided (Some (Ok truth)) forest = gives (truth_value truth) forest
decided (Some (Err error)) forest = cast_failure error
decided None forest = wrong

abbrev with_atom : Atomic → Option (List Atomic) → Option (List Atomic)
with_atom a None = None
with_atom a (Some rest) = Some (a ∷ rest)

-- the atomic values that the items are, if they are
abbrev pub atoms_among : Items → Option (List Atomic)
atoms_among [] = Some []
atoms_among (atom a ∷ items) = with_atom a (atoms_among items)
atoms_among (node place ∷ items) = None

-- false where an operand is empty
abbrev pub generally_compared : Op → Items → Items → Forest → Outcome Items
generally_compared op [] ys forest = gives (truth_value false) forest
generally_compared op (x ∷ xs) [] forest = gives (truth_value false) forest
generally_compared op (x ∷ xs) (y ∷ ys) forest =
    given (atoms_among (x ∷ xs)) (λ as'. given (atoms_among (y ∷ ys)) (λ bs. decided (general_comparison op as' bs) forest))
