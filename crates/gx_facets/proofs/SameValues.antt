-- Lists of values.
use Rattle.std.proofs.Common.{◌≡◌, ◌≢◌, suc, Bool, true, false, ◌&&◌, List, [], ◌∷◌, length, refl, ap, ◌∙◌}
use Rattle.gx_facets.specs.Admission.{same_values, values_of}
use Rattle.gx_facets.specs.declared.AtomValue.{AtomValue}
use Rattle.gx_facets.specs.declared.Atomic.{Atomic}

and_false : (a b : Bool) → b ≡ false → (a && b) ≡ false
and_false true b e = e
and_false false b e = refl

-- lists of two lengths differ
pub lengths_differ : (xs ys : List AtomValue) → length xs ≢ length ys → same_values xs ys ≡ false
lengths_differ [] [] h = absurd (h refl)
lengths_differ [] (y ∷ ys) h = refl
lengths_differ (x ∷ xs) [] h = refl
lengths_differ (x ∷ xs) (y ∷ ys) h = and_false _ _ (lengths_differ xs ys (λ e. h (ap suc e)))

value_count : (items : List Atomic) → length (values_of items) ≡ length items
value_count [] = refl
value_count (a ∷ items) = ap suc (value_count items)

pub item_counts_differ : (xs : List AtomValue) (items : List Atomic) → length xs ≢ length items → same_values xs (values_of items) ≡ false
item_counts_differ xs items h = lengths_differ xs (values_of items) (λ e. h (e ∙ value_count items))
