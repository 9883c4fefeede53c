-- What operators that look at items, and call nothing, make of values that are there stays where the forest grows.
use Rattle.std.proofs.Common.{ℕ, zero, suc, ℤ, pos, negsuc, Bool, true, false, not, ◌&&◌, List, [], ◌∷◌, map, drop, Option, None, Some, Ok, Err, refl, ap, if◌then◌else◌}
use Rattle.std.specs.Prelude.{Result, nat_le}
use Rattle.std.specs.List.{list_all, list_any}
use Rattle.gx_base.specs.declared.code.Code.{Code}
use Rattle.gx_base.specs.declared.code.Code.TheVariants.{GLXD0002, XPDY0050}
use Rattle.gx_base.specs.declared.limits.TheConstants.{RANGE_ITEMS}
use Rattle.gx_base.specs.declared.type_name.TypeName.{TypeName}
use Rattle.gx_num.specs.declared.Number.{Number}
use Rattle.gx_num.specs.declared.NumFault.{NumFault}
use Rattle.gx_num.specs.Arithmetic.{exact_negation, in_range_or_overflow}
use Rattle.gx_facets.specs.declared.Atomic.{Atomic}
use Rattle.gx_types.specs.SchemaSet.{SchemaSet}
use Rattle.gx_types.specs.SequenceType.{SequenceType}
use Rattle.gx_atomic.specs.declared.casting.CastError.{CastError}
use Rattle.gx_atomic.specs.declared.comparison.Op.{Op}
use Rattle.gx_atomic.specs.Cast.{code_of, cast_of}
use Rattle.gx_atomic.specs.Comparison.{Decision, value_comparison, general_comparison}
use Rattle.gx_model.specs.Atomization.{atomized}
use Rattle.gx_model.specs.DocumentOrder.{same_node, in_document_order}
use Rattle.gx_model.specs.Forest.{Forest, PlainNode}
use Rattle.gx_model.specs.Growth.{Extends}
use Rattle.gx_model.specs.Item.{Item, atom, node, Items, atoms}
use Rattle.gx_model.specs.OrderLaws.{Every}
use Rattle.gx_core.specs.declared.expression.ArithmeticOp.{ArithmeticOp}
use Rattle.gx_core.specs.declared.expression.BinaryClass.{BinaryClass}
use Rattle.gx_core.specs.declared.expression.BinaryClass.TheVariants as classes
use Rattle.gx_core.specs.declared.expression.NodeComparison.{NodeComparison}
use Rattle.gx_core.specs.declared.expression.NodeCombination.{NodeCombination}
use Rattle.gx_core.specs.declared.expression.NodeCombination.TheVariants.{Union, Intersect, Except}
use Rattle.gx_core.specs.Arithmetic.{number_of_item, computed, result_of, computed_of_items, negation_of_item, negation}
use Rattle.gx_core.specs.Casting.{cast_outcome, cast_items, castable_items}
use Rattle.gx_core.specs.CombiningNodes.{combined, nodes_combined}
use Rattle.gx_core.specs.Comparing.{truth_value, value_of_item, compared_items, cast_failure, decided, atoms_among, generally_compared}
use Rattle.gx_core.specs.ComparingNodes.{compared_nodes}
use Rattle.gx_core.specs.Filtering.{counted_so, item_numbered, nth_in, nth_of, final_of}
use Rattle.gx_core.specs.Instances.{is_instance}
use Rattle.gx_core.specs.Meaning.{binary_meaning}
use Rattle.gx_core.specs.Operands.{on_one, on_two}
use Rattle.gx_core.specs.Outcome.{Outcome, gives, raises, wrong, given}
use Rattle.gx_core.specs.Paths.{is_node, places_of, nodes_alone, put_in_order}
use Rattle.gx_core.specs.Ranging.{integer_of_item, range_length, integers_from, range_between, range_of_items}
use Rattle.gx_core.specs.Treating.{treated}
use Rattle.gx_growth_laws.specs.Steady.{HasNode, IsThere, AreThere}
use Rattle.gx_growth_laws.proofs.GrownForests.{same_order, ordered_there, nodes_there, atoms_there}
use Rattle.gx_growth_laws.proofs.ListFacts.{every_joined, every_reversed, every_taken, every_behind, every_kept}
use Rattle.gx_growth_laws.proofs.StayingItems.{places_there, atomized_there, same_atomized, same_instance}
use Rattle.gx_growth_laws.proofs.StayingOutcomes.{Stays, stays_given, stays_if, stays_so}

-- items that are in the forest before, where they are the value of an outcome
abbrev pub ItemsStay : (before now : Forest) → Outcome Items → Outcome Items → Type 0
ItemsStay before now one other = Stays (AreThere before) before now one other

-- ---- at most one item of each operand

module _ (before now : Forest) where
  stays_on_one : (xs : Items) (next : Item → Forest → Outcome Items) → ((x : Item) → ItemsStay before now (next x before) (next x now))
      → ItemsStay before now (on_one xs before next) (on_one xs now next)
  stays_on_one [] next k = (refl, tt, refl)
  stays_on_one (x ∷ []) next k = k x
  stays_on_one (x ∷ y ∷ xs) next k = tt

  stays_on_two : (xs ys : Items) (next : Item → Item → Forest → Outcome Items)
      → ((x y : Item) → ItemsStay before now (next x y before) (next x y now)) → ItemsStay before now (on_two xs ys before next) (on_two xs ys now next)
  stays_on_two (x ∷ []) (y ∷ []) next k = k x y
  stays_on_two [] [] next k = (refl, tt, refl)
  stays_on_two [] (y ∷ []) next k = (refl, tt, refl)
  stays_on_two (x ∷ []) [] next k = (refl, tt, refl)
  stays_on_two _ _ next k = tt

  -- ---- atomic values

  stays_computed : (result : Result Number NumFault) → ItemsStay before now (computed result before) (computed result now)
  stays_computed (Ok n) = (refl, (tt, tt), refl)
  stays_computed (Err fault) = tt

  pub stays_negation : (xs : Items) → ItemsStay before now (negation xs before) (negation xs now)
  stays_negation xs =
      stays_on_one xs negation_of_item
      (λ x. stays_given before now (AreThere before) (λ forest. number_of_item x) (λ n forest. computed (in_range_or_overflow (exact_negation n)) forest) refl
      (λ n e. stays_computed (in_range_or_overflow (exact_negation n))))

  stays_arithmetic : (operation : ArithmeticOp) (x y : Item)
      → ItemsStay before now (computed_of_items operation x y before) (computed_of_items operation x y now)
  stays_arithmetic operation x y =
      stays_given before now (AreThere before) (λ forest. number_of_item x)
      (λ m forest. given (number_of_item y) (λ n. computed (result_of operation m n) forest)) refl
      (λ m e. stays_given before now (AreThere before) (λ forest. number_of_item y) (λ n forest. computed (result_of operation m n) forest) refl
      (λ n f. stays_computed (result_of operation m n)))

  stays_comparison : (op : Op) (x y : Item) → ItemsStay before now (compared_items op x y before) (compared_items op x y now)
  stays_comparison op x y =
      stays_given before now (AreThere before) (λ forest. value_of_item x)
      (λ a forest. given (value_of_item y) (λ b. given (value_comparison op a b) (λ truth. gives (truth_value truth) forest))) refl
      (λ a e. stays_given before now (AreThere before) (λ forest. value_of_item y)
      (λ b forest. given (value_comparison op a b) (λ truth. gives (truth_value truth) forest)) refl
      (λ b f. stays_given before now (AreThere before) (λ forest. value_comparison op a b) (λ truth forest. gives (truth_value truth) forest) refl
      (λ truth g. (refl, (tt, tt), refl))))

  stays_failure : (error : CastError) → ItemsStay before now (cast_failure error) (cast_failure error)
  stays_failure error = by_code (code_of error)
    where
      by_code : (found : Option Code) → ItemsStay before now (given found (λ code. raises code)) (given found (λ code. raises code))
      by_code None = tt
      by_code (Some code) = tt

  stays_decided : (decision : Decision) → ItemsStay before now (decided decision before) (decided decision now)
  stays_decided (Some (Ok truth)) = (refl, (tt, tt), refl)
  stays_decided (Some (Err error)) = stays_failure error
  stays_decided None = tt

  stays_generally : (op : Op) (xs ys : Items) → ItemsStay before now (generally_compared op xs ys before) (generally_compared op xs ys now)
  stays_generally op [] ys = (refl, (tt, tt), refl)
  stays_generally op (x ∷ xs) [] = (refl, (tt, tt), refl)
  stays_generally op (x ∷ xs) (y ∷ ys) =
      stays_given before now (AreThere before) (λ forest. atoms_among (x ∷ xs))
      (λ as' forest. given (atoms_among (y ∷ ys)) (λ bs. decided (general_comparison op as' bs) forest)) refl
      (λ as' e. stays_given before now (AreThere before) (λ forest. atoms_among (y ∷ ys))
      (λ bs forest. decided (general_comparison op as' bs) forest) refl
      (λ bs f. stays_decided (general_comparison op as' bs)))

  stays_range : (x y : Item) → ItemsStay before now (range_of_items x y before) (range_of_items x y now)
  stays_range x y =
      stays_given before now (AreThere before) (λ forest. integer_of_item x)
      (λ first forest. given (integer_of_item y) (λ last. range_between first last forest)) refl
      (λ first e. stays_given before now (AreThere before) (λ forest. integer_of_item y) (λ last forest. range_between first last forest) refl
      (λ last f. stays_if before now (AreThere before) (λ forest. nat_le (range_length first last) RANGE_ITEMS)
      (λ forest. gives (atoms (integers_from first (range_length first last))) forest) (λ forest. raises GLXD0002) refl
      (refl, atoms_there before (integers_from first (range_length first last)), refl) tt))

  pub stays_cast_outcome : (result : Result Atomic CastError) → ItemsStay before now (cast_outcome result before) (cast_outcome result now)
  stays_cast_outcome (Ok a) = (refl, (tt, tt), refl)
  stays_cast_outcome (Err error) = stays_failure error

  pub stays_cast : (schemas : SchemaSet) (kind : TypeName) (optional : Bool) (xs : Items)
      → ItemsStay before now (cast_items schemas kind optional xs before) (cast_items schemas kind optional xs now)
  stays_cast schemas kind optional [] =
      stays_if before now (AreThere before) (λ forest. optional) (λ forest. gives [] forest) (λ forest. wrong) refl (refl, tt, refl) tt
  stays_cast schemas kind optional (atom a ∷ []) = stays_cast_outcome (cast_of schemas a kind)
  stays_cast schemas kind optional (atom a ∷ y ∷ xs) = tt
  stays_cast schemas kind optional (node place ∷ xs) = tt

  pub stays_castable : (schemas : SchemaSet) (kind : TypeName) (optional : Bool) (xs : Items)
      → ItemsStay before now (castable_items schemas kind optional xs before) (castable_items schemas kind optional xs now)
  stays_castable schemas kind optional [] = (refl, (tt, tt), refl)
  stays_castable schemas kind optional (atom a ∷ []) = (refl, (tt, tt), refl)
  stays_castable schemas kind optional (atom a ∷ y ∷ xs) = tt
  stays_castable schemas kind optional (node place ∷ xs) = tt

  -- ---- nodes

  stays_compared_nodes : (op : NodeComparison) (x y : Item) → ItemsStay before now (compared_nodes op x y before) (compared_nodes op x y now)
  stays_compared_nodes op (node a) (node b) = (refl, (tt, tt), refl)
  stays_compared_nodes op (node a) (atom y) = tt
  stays_compared_nodes op (atom x) y = tt

  pub stays_alone : (xs : Items) → AreThere before xs → ItemsStay before now (nodes_alone xs before) (nodes_alone xs now)
  stays_alone xs h =
      stays_if before now (AreThere before) (λ forest. list_all is_node xs) (λ forest. gives xs forest) (λ forest. wrong) refl (refl, h, refl) tt

-- nodes in document order
stays_in_order : (before now : Forest) → Extends before now → (places : List PlainNode) → Every (HasNode before) places
    → ItemsStay before now (gives (map node (in_document_order before places)) before) (gives (map node (in_document_order now places)) now)
stays_in_order before now e places h =
    stays_so before now (AreThere before) (λ forest. map node (in_document_order forest places)) (ap (map node) (same_order before now e places h))
    (nodes_there before (in_document_order before places) (ordered_there before places h))

pub stays_ordered : (before now : Forest) → Extends before now → (xs : Items) → AreThere before xs
    → ItemsStay before now (put_in_order xs before) (put_in_order xs now)
stays_ordered before now e xs h =
    stays_if before now (AreThere before) (λ forest. list_all is_node xs)
    (λ forest. gives (map node (in_document_order forest (places_of xs))) forest) (λ forest. if list_any is_node xs then wrong else gives xs forest) refl
    (stays_in_order before now e (places_of xs) (places_there before xs h))
    (stays_if before now (AreThere before) (λ forest. list_any is_node xs) (λ forest. wrong) (λ forest. gives xs forest) refl tt (refl, h, refl))

combined_there : (forest : Forest) (op : NodeCombination) (first second : List PlainNode) → Every (HasNode forest) first → Every (HasNode forest) second
    → Every (HasNode forest) (combined op first second)
combined_there forest Union first second h k = every_joined (HasNode forest) first second h k
combined_there forest Intersect first second h k = every_kept (HasNode forest) (λ n. list_any (same_node n) second) first h
combined_there forest Except first second h k = every_kept (HasNode forest) (λ n. not (list_any (same_node n) second)) first h

stays_combined : (before now : Forest) → Extends before now → (op : NodeCombination) (xs ys : Items) → AreThere before xs → AreThere before ys
    → ItemsStay before now (nodes_combined op xs ys before) (nodes_combined op xs ys now)
stays_combined before now e op xs ys h k =
    stays_if before now (AreThere before) (λ forest. list_all is_node xs && list_all is_node ys)
    (λ forest. gives (map node (in_document_order forest (combined op (places_of xs) (places_of ys)))) forest) (λ forest. wrong) refl
    (stays_in_order before now e (combined op (places_of xs) (places_of ys))
    (combined_there before op (places_of xs) (places_of ys) (places_there before xs h) (places_there before ys k))) tt

-- ---- operators of two operands

pub stays_binary : (before now : Forest) → Extends before now → (class : BinaryClass) (xs ys : Items) → AreThere before xs → AreThere before ys
    → ItemsStay before now (binary_meaning class xs ys before) (binary_meaning class xs ys now)
stays_binary before now e (classes.Arithmetic operation) xs ys h k =
    stays_on_two before now xs ys (computed_of_items operation) (stays_arithmetic before now operation)
stays_binary before now e (classes.Value op) xs ys h k = stays_on_two before now xs ys (compared_items op) (stays_comparison before now op)
stays_binary before now e (classes.General op) xs ys h k = stays_generally before now op xs ys
stays_binary before now e (classes.Nodes op) xs ys h k = stays_on_two before now xs ys (compared_nodes op) (stays_compared_nodes before now op)
stays_binary before now e classes.Range xs ys h k = stays_on_two before now xs ys range_of_items (stays_range before now)
stays_binary before now e (classes.Combination op) xs ys h k = stays_combined before now e op xs ys h k

-- ---- positions, data and types

counted_there : (forest : Forest) (backwards : Bool) (xs : Items) → AreThere forest xs → AreThere forest (counted_so backwards xs)
counted_there forest true xs h = every_reversed (IsThere forest) xs h
counted_there forest false xs h = h

numbered_there : (forest : Forest) (number : ℕ) (xs : Items) → AreThere forest xs → AreThere forest (item_numbered number xs)
numbered_there forest zero xs h = tt
numbered_there forest (suc before) xs h = every_taken (IsThere forest) 1 (drop before xs) (every_behind (IsThere forest) before xs h)

nth_in_there : (forest : Forest) (number : ℤ) (xs : Items) → AreThere forest xs → AreThere forest (nth_in number xs)
nth_in_there forest (pos number) xs h = numbered_there forest number xs h
nth_in_there forest (negsuc number) xs h = tt

pub nth_there : (forest : Forest) (number : ℤ) (backwards : Bool) (xs : Items) → AreThere forest xs → AreThere forest (nth_of number backwards xs)
nth_there forest number backwards xs h = nth_in_there forest number (counted_so backwards xs) (counted_there forest backwards xs h)

pub final_there : (forest : Forest) (backwards : Bool) (xs : Items) → AreThere forest xs → AreThere forest (final_of backwards xs)
final_there forest backwards xs h =
    every_taken (IsThere forest) 1 (counted_so (not backwards) xs) (counted_there forest (not backwards) xs h)

pub stays_data : (before now : Forest) → Extends before now → (schemas : SchemaSet) (xs : Items) → AreThere before xs
    → ItemsStay before now (given (atomized schemas before xs) (λ ys. gives ys before)) (given (atomized schemas now xs) (λ ys. gives ys now))
stays_data before now e schemas xs h =
    stays_given before now (AreThere before) (λ forest. atomized schemas forest xs) (λ ys forest. gives ys forest) (same_atomized before now e schemas xs h)
    (λ ys f. (refl, atomized_there schemas before xs ys f, refl))

pub stays_treated : (before now : Forest) → Extends before now → (schemas : SchemaSet) (kind : SequenceType) (xs : Items) → AreThere before xs
    → ItemsStay before now (treated schemas kind xs before) (treated schemas kind xs now)
stays_treated before now e schemas kind xs h =
    stays_if before now (AreThere before) (λ forest. is_instance schemas forest kind xs) (λ forest. gives xs forest) (λ forest. raises XPDY0050)
    (same_instance before now e schemas kind xs h) (refl, h, refl) tt
