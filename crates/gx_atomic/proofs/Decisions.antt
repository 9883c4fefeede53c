-- The first decision of a list.
use Rattle.std.proofs.Common.{◌≡◌, ℕ, ◌+◌, ◌<◌, Bool, true, false, cond, List, [], ◌∷◌, ◌++◌, length, get_or, drop, refl, ap, sym, ◌∙◌, append-nil}
use Rattle.std.proofs.lemmas.List.{map-append, at_drop_more}
use Rattle.std.specs.Prelude.{map}
use Rattle.gx_facets.specs.declared.Atomic.{Atomic}
use Rattle.gx_atomic.specs.declared.comparison.Op.{Op}
use Rattle.gx_atomic.specs.Comparison.{Decision, is_decisive, first_decision, pair_decision, pairs_of, general_comparison}

pub by_answer : (b : Bool) {P : Type 0} → (b ≡ true → P) → (b ≡ false → P) → P
by_answer true yes' no' = yes' refl
by_answer false yes' no' = no' refl

-- the decision, unless it decides nothing
abbrev pub or_else : Decision → Decision → Decision
or_else decision other = cond (is_decisive decision) decision other

pub first_decision-cons : (d : Decision) (ds : List Decision) → first_decision (d ∷ ds) ≡ or_else d (first_decision ds)
first_decision-cons d ds = by_answer (is_decisive d) (λ yes'. rw yes' refl) (λ no'. rw no' refl)

pub first_decision-append : (ds es : List Decision) → first_decision (ds ++ es) ≡ or_else (first_decision ds) (first_decision es)
first_decision-append [] es = refl
first_decision-append (d ∷ ds) es =
    by_answer (is_decisive d) (λ yes'. rw (yes', yes') refl) (λ no'. rw no' (first_decision-append ds es))

module _ (op : Op) where
  -- one more item on the right
  pub comparison_right : (x y : Atomic) (ys : List Atomic)
      → general_comparison op (x ∷ []) (y ∷ ys) ≡ or_else (pair_decision op (x, y)) (general_comparison op (x ∷ []) ys)
  comparison_right x y ys = first_decision-cons (pair_decision op (x, y)) (map (pair_decision op) (pairs_of (x ∷ []) ys))

  -- one more item on the left
  pub comparison_left : (x : Atomic) (xs ys : List Atomic)
      → general_comparison op (x ∷ xs) ys ≡ or_else (general_comparison op (x ∷ []) ys) (general_comparison op xs ys)
  comparison_left x xs ys =
      let row = map (λ y. (x, y)) ys in
      ap first_decision (map-append (pair_decision op) row (pairs_of xs ys))
      ∙ first_decision-append (map (pair_decision op) row) (map (pair_decision op) (pairs_of xs ys))
      ∙ ap (λ r. or_else (first_decision (map (pair_decision op) r)) (general_comparison op xs ys)) (sym (append-nil row))

pub decides : (d other : Decision) → is_decisive d ≡ true → or_else d other ≡ d
decides d other yes' = rw yes' refl

pub decides_nothing : (d other : Decision) → is_decisive d ≡ false → or_else d other ≡ other
decides_nothing d other no' = rw no' refl

-- the items from the i-th on: the i-th decides, or those behind it
pub comparison_from : (op : Op) (xs ys : List Atomic) (i : ℕ) (x : Atomic) → i < length xs → x ≡ get_or xs i x
    → general_comparison op (drop i xs) ys ≡ or_else (general_comparison op (x ∷ []) ys) (general_comparison op (drop (i + 1) xs) ys)
comparison_from op xs ys i x within at =
    at_drop_more (λ zs. general_comparison op zs ys) xs i x within
    ∙ ap (λ z. general_comparison op (z ∷ drop (i + 1) xs) ys) (sym at)
    ∙ comparison_left op x (drop (i + 1) xs) ys
