-- How deep trees are, level by level.
use Rattle.std.proofs.Common.{◌≡◌, ℕ, suc, ◌<◌, max, Bool, true, false, ◌||◌, nat_lt, List, [], ◌∷◌, refl, sym, ap, ◌∙◌, arith}
use Rattle.std.specs.Prelude.{not}
use Rattle.std.proofs.lemmas.Bool.{ltb-true, ltb-false, lt-ltb, le-ltb}
use Rattle.gx_tree.specs.declared.attribute.Attribute.{Attribute}
use Rattle.gx_tree.specs.PlainTree.{PlainTree, PlainTrees, document, element, attribute, text, a_tree, tree_size}
use Rattle.gx_core.specs.Constructing.{depth_of_attributes, depth_of_tree, depth_of_trees}

pub lt_none : (limit : ℕ) → nat_lt limit 0 ≡ false
lt_none limit = le-ltb limit 0 (omega arith)

pub lt_max : (limit a b : ℕ) → nat_lt limit (max a b) ≡ (nat_lt limit a || nat_lt limit b)
lt_max limit a b = by_tests (nat_lt limit a) (nat_lt limit b) refl refl
  where
    by_tests : (c d : Bool) → nat_lt limit a ≡ c → nat_lt limit b ≡ d → nat_lt limit (max a b) ≡ (c || d)
    by_tests true d e f = lt-ltb limit (max a b) (omega (arith, ltb-true limit a e))
    by_tests false true e f = lt-ltb limit (max a b) (omega (arith, ltb-true limit b f))
    by_tests false false e f = le-ltb limit (max a b) (omega (arith, ltb-false limit a e, ltb-false limit b f))

pub lt_suc : (limit here d : ℕ) → limit ≡ suc here → nat_lt limit (suc d) ≡ nat_lt here d
lt_suc limit here d e = by_test (nat_lt here d) refl
  where
    by_test : (c : Bool) → nat_lt here d ≡ c → nat_lt limit (suc d) ≡ c
    by_test true f = lt-ltb limit (suc d) (omega (arith, e, ltb-true here d f))
    by_test false f = le-ltb limit (suc d) (omega (arith, e, ltb-false here d f))

pub positive : (t : PlainTree) → 0 < depth_of_tree t
positive (document ts) = omega arith
positive (element name kind l ts) = omega arith
positive (attribute a) = omega arith
positive (text x) = omega arith

pub at_zero : (t : PlainTree) → nat_lt 0 (depth_of_tree t) ≡ true
at_zero t = lt-ltb 0 (depth_of_tree t) (positive t)

pub attributes_at_zero : (l : List Attribute) → (l ≡ [] → ⊥) → depth_of_attributes l ≡ 1
attributes_at_zero [] h = absurd (h refl)
attributes_at_zero (a ∷ l) h = refl

pub attributes_within : (l : List Attribute) (limit : ℕ) → 0 < limit → nat_lt limit (depth_of_attributes l) ≡ false
attributes_within [] limit h = le-ltb limit 0 (omega arith)
attributes_within (a ∷ l) limit h = le-ltb limit 1 (omega (arith, h))

pub or_assoc : (a b c : Bool) → ((a || b) || c) ≡ (a || (b || c))
or_assoc true b c = refl
or_assoc false b c = refl

pub or_true : (a : Bool) → (a || true) ≡ true
or_true true = refl
or_true false = refl

-- the levels behind a tree that is entered
pub entered : (within : Bool) (limit : ℕ) (t : PlainTree) (ts : PlainTrees) (now before outer : Bool) → (not within || now) ≡ (nat_lt limit (depth_of_tree t) || before) → before ≡ (nat_lt limit (depth_of_trees ts) || outer)
    → (not within || now) ≡ (nat_lt limit (depth_of_trees (a_tree t ts)) || outer)
entered within limit t ts now before outer h e =
    h
    ∙ ap (λ (b : Bool). nat_lt limit (depth_of_tree t) || b) e
    ∙ sym (or_assoc (nat_lt limit (depth_of_tree t)) (nat_lt limit (depth_of_trees ts)) outer)
    ∙ ap (λ (b : Bool). b || outer) (sym (lt_max limit (depth_of_tree t) (depth_of_trees ts)))

-- a document or an element whose own level is not too deep
pub document_entered : (limit here : ℕ) (ts : PlainTrees) (outer : Bool) → limit ≡ suc here → (nat_lt here (depth_of_trees ts) || outer) ≡ (nat_lt limit (depth_of_tree (document ts)) || outer)
document_entered limit here ts outer e = ap (λ (b : Bool). b || outer) (sym (lt_suc limit here (depth_of_trees ts) e))

pub element_entered : (limit here : ℕ) (l : List Attribute) (ts : PlainTrees) (outer : Bool) → limit ≡ suc here → nat_lt here (depth_of_attributes l) ≡ false
    → (nat_lt here (depth_of_trees ts) || outer) ≡ (nat_lt limit (suc (max (depth_of_attributes l) (depth_of_trees ts))) || outer)
element_entered limit here l ts outer e h =
    ap (λ (b : Bool). (b || nat_lt here (depth_of_trees ts)) || outer) (sym h)
    ∙ ap (λ (b : Bool). b || outer) (sym (lt_max here (depth_of_attributes l) (depth_of_trees ts)))
    ∙ ap (λ (b : Bool). b || outer) (sym (lt_suc limit here (max (depth_of_attributes l) (depth_of_trees ts)) e))

pub leaf_within : (limit here : ℕ) (outer : Bool) → limit ≡ suc here → outer ≡ (nat_lt limit 1 || outer)
leaf_within limit here outer e = ap (λ (b : Bool). b || outer) (sym (le-ltb limit 1 (omega (arith, e))))

pub size_positive : (t : PlainTree) → 0 < tree_size t
size_positive (document ts) = omega arith
size_positive (element name kind l ts) = omega arith
size_positive (attribute a) = omega arith
size_positive (text x) = omega arith

pub too_deep_at_zero : (limit : ℕ) (t : PlainTree) (outer : Bool) → limit ≡ 0 → true ≡ (nat_lt limit (depth_of_tree t) || outer)
too_deep_at_zero limit t outer e = sym (ap (λ (b : Bool). b || outer) (ap (λ (n : ℕ). nat_lt n (depth_of_tree t)) e ∙ at_zero t))
