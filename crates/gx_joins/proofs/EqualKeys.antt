-- The comparison of two keys that have values of one family, and the keys of a value.
use Rattle.std.proofs.Common.{◌≡◌, Bool, true, false, List, [], ◌∷◌, map, Some, refl, sym, ap, ◌∙◌, if◌then◌else◌}
use Rattle.std.specs.List.{All}
use Rattle.gx_facets.specs.declared.Atomic.{Atomic}
use Rattle.gx_facets.specs.Value.{same_family}
use Rattle.gx_atomic.specs.declared.comparison.Op.TheVariants.{Eq}
use Rattle.gx_atomic.specs.declared.join_key.JoinKey.{JoinKey}
use Rattle.gx_atomic.specs.Comparison.{Decision, general_comparison, pairs_of}
use Rattle.gx_atomic.specs.JoinKey.{join_key_of, same_key}
use Rattle.gx_model.specs.Forest.{Forest}
use Rattle.gx_model.specs.Item.{Items, atoms}
use Rattle.gx_core.specs.declared.expression.BinaryOp.TheVariants as binary
use Rattle.gx_core.specs.declared.operator.Operator.TheVariants as operators
use Rattle.gx_core.specs.Comparing.{truth_value, condition_of, atoms_among, generally_compared, decided}
use Rattle.gx_core.specs.Meaning.{Bindings, Context, Denotation, acts, all_of, branch, denoted}
use Rattle.gx_core.specs.Outcome.{Outcome, gives, after, given}
use Rattle.gx_join_table.specs.Joining.{have_equal_keys}
use Rattle.gx_join_table.proofs.PublicLaws.{equal_keys_are_equal_values}
use Rattle.gx_joins.specs.HashJoin.{JoinParts, keys_of_items}
use Rattle.gx_joins.specs.Pairs.{compared_keys, tested_keys}

-- whether a value of one list is equal to one of the other, by their keys
abbrev pub values_meet : (left right : List Atomic) → Bool
values_meet left right = have_equal_keys same_key (map join_key_of left) (map join_key_of right)

atoms_are_among : (values : List Atomic) → atoms_among (atoms values) ≡ Some values
atoms_are_among [] = refl
atoms_are_among (a ∷ values) = rw (atoms_are_among values) refl

pub keys_of_atoms : (values : List Atomic) → keys_of_items (atoms values) ≡ Some (map join_key_of values)
keys_of_atoms values = rw (atoms_are_among values) refl

no_key_meets_none : (keys : List JoinKey) → have_equal_keys same_key keys [] ≡ false
no_key_meets_none [] = refl
no_key_meets_none (key ∷ keys) = no_key_meets_none keys

atoms_compared : (left right : List Atomic) (forest : Forest) → All (λ pair. same_family pair.0.value pair.1.value ≡ true) (pairs_of left right)
    → generally_compared Eq (atoms left) (atoms right) forest ≡ gives (truth_value (values_meet left right)) forest
atoms_compared [] right forest family = refl
atoms_compared (a ∷ left) [] forest family = ap (λ truth. gives (truth_value truth) forest) (sym (no_key_meets_none (map join_key_of (a ∷ left))))
atoms_compared (a ∷ left) (b ∷ right) forest family =
    ap (λ o. given o (λ as'. given (atoms_among (atoms (b ∷ right))) (λ bs. decided (general_comparison Eq as' bs) forest))) (atoms_are_among (a ∷ left))
    ∙ ap (λ o. given o (λ bs. decided (general_comparison Eq (a ∷ left) bs) forest)) (atoms_are_among (b ∷ right))
    ∙ ap (λ (d : Decision). decided d forest) (equal_keys_are_equal_values (a ∷ left) (b ∷ right) family)

two_parts : (first second : Denotation) (next : List Items → Forest → Outcome Items) (bindings : Bindings) (forest : Forest) (xs ys : Items)
    → first bindings forest ≡ gives xs forest → second bindings forest ≡ gives ys forest
    → after (all_of (first ∷ second ∷ []) bindings forest) next ≡ next (xs ∷ ys ∷ []) forest
two_parts first second next bindings forest xs ys e f =
    ap (λ o. after (after o (λ value left. after (all_of (second ∷ []) bindings left) (λ values last. gives (value ∷ values) last))) next) e
    ∙ ap (λ o. after (after (after o (λ value left. gives (value ∷ []) left)) (λ values last. gives (xs ∷ values) last)) next) f

-- the result where the values meet, and else no item
pub tested_where_they_meet : (context : Context) (join : JoinParts Denotation) (bindings : Bindings) (forest : Forest) (left right : List Atomic)
    → join.left_key bindings forest ≡ gives (atoms left) forest → join.right_key bindings forest ≡ gives (atoms right) forest
    → All (λ pair. same_family pair.0.value pair.1.value ≡ true) (pairs_of left right)
    → tested_keys context join bindings forest ≡ (if values_meet left right then join.result bindings forest else gives [] forest)
tested_where_they_meet context join bindings forest left right e f family =
    ap (λ o. after o (λ xs last. given (condition_of xs) (λ truth. branch truth join.result (denoted context operators.Empty []) bindings last))) compared
    ∙ by_truth (values_meet left right)
  where
    compared : compared_keys context join bindings forest ≡ gives (truth_value (values_meet left right)) forest
    compared =
        two_parts join.left_key join.right_key (acts context (operators.Binary binary.AnyEq)) bindings forest (atoms left) (atoms right) e f
        ∙ atoms_compared left right forest family

    by_truth : (truth : Bool) → branch truth join.result (denoted context operators.Empty []) bindings forest ≡ (if truth then join.result bindings forest else gives [] forest)
    by_truth true = refl
    by_truth false = refl
