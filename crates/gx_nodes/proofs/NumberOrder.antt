-- Document order is the order of numbers.
use Rattle.std.proofs.Common.{◌≡◌, ℕ, zero, suc, ◌+◌, ◌<◌, ◌≤◌, Bool, true, false, ltb, nat_lt, List, [], ◌∷◌, length, Some, refl, sym, ap, ◌∙◌, arith, subst, if◌then◌else◌}
use Rattle.std.specs.List.{slice_get}
use Rattle.std.proofs.lemmas.Bool.{ltb-true, ltb-false, lt-ltb}
use Rattle.gx_model.specs.Forest.{Forest, PlainNode}
use Rattle.gx_model.specs.DocumentOrder.{comes_before, path_comes_first, nodes_from}
use Rattle.gx_model.specs.OrderLaws.{Every, Ascends}
use Rattle.gx_model.proofs.LocationLemmas.{nat_differs}
use Rattle.gx_model.proofs.OrderLemmas.{not_before_itself, never_both}
use Rattle.gx_model.proofs.ListedNodes.{nodes_ascend}
use Rattle.gx_nodes.specs.Entries.{NodeEntry, node_entries, count_in, beyond, entry_in, place_of_number}
use Rattle.gx_nodes.proofs.Standing.{got_mapped, got_past}
use Rattle.gx_nodes.proofs.EntryLemmas.{got_entry}
use Rattle.gx_nodes.proofs.PlaceLemmas.{place_of, places_in_order}
use Rattle.gx_nodes.proofs.FoundLemmas.{tree_within}

every_at : {A : Type 0} (P : A → Type 0) (xs : List A) → Every P xs → (n : ℕ) (x : A) → slice_get xs n ≡ Some x → P x
every_at P [] h n x e = absurd (cc)
every_at P (y ∷ xs) h zero x e = let same : y ≡ x = cc in subst P same h.0
every_at P (y ∷ xs) h (suc n) x e = every_at P xs h.1 n x e

ascends_at : {A : Type 0} (before : A → A → Bool) (xs : List A) → Ascends before xs → (m n : ℕ) (x y : A) → m < n → slice_get xs m ≡ Some x → slice_get xs n ≡ Some y → before x y ≡ true
ascends_at before [] h m n x y l e f = absurd (cc)
ascends_at before (z ∷ xs) h m zero x y l e f = absurd (omega (arith, l))
ascends_at before (z ∷ xs) h zero (suc n) x y l e f =
    let same : z ≡ x = cc in
    subst (λ w. before w y ≡ true) same (every_at (λ w. before z w ≡ true) xs h.0 n y f)
ascends_at before (z ∷ xs) h (suc m) (suc n) x y l e f = ascends_at before xs h.1 m n x y (omega (arith, l)) e f

earlier_tree : (a b : PlainNode) → a.tree < b.tree → comes_before a b ≡ true
earlier_tree a b l =
    ap (λ (c : Bool). if c then path_comes_first a.path a.attribute b.path b.attribute else nat_lt a.tree b.tree) (nat_differs a.tree b.tree (λ e. absurd (omega (arith, e, l))))
    ∙ lt-ltb a.tree b.tree l

number_before : (forest : Forest) (a b : ℕ) → a < b → comes_before (place_of_number forest a) (place_of_number forest b) ≡ true
number_before forest a b l = by_test (ltb a (count_in forest)) refl (ltb b (count_in forest)) refl
  where
    place_there : (n : ℕ) → n < count_in forest → slice_get (nodes_from 0 forest) n ≡ Some (place_of_number forest n)
    place_there n h = ap (λ (ns : List PlainNode). slice_get ns n) (sym (places_in_order forest)) ∙ got_mapped place_of (node_entries forest) n (entry_in forest n) (got_entry forest n h)

    past : (n : ℕ) → count_in forest ≤ n → (place_of_number forest n).tree ≡ length forest + n
    past n h = ap (λ (e : NodeEntry). e.place.tree) (got_past (node_entries forest) n (beyond forest n) h)

    by_test : (c : Bool) → ltb a (count_in forest) ≡ c → (d : Bool) → ltb b (count_in forest) ≡ d → comes_before (place_of_number forest a) (place_of_number forest b) ≡ true
    by_test true e true f =
        let h = ltb-true a (count_in forest) e in
        let g = ltb-true b (count_in forest) f in
        ascends_at comes_before (nodes_from 0 forest) (nodes_ascend forest) a b (place_of_number forest a) (place_of_number forest b) l (place_there a h) (place_there b g)
    by_test true e false f =
        let inside = tree_within forest a (ltb-true a (count_in forest) e) in
        let outside = past b (ltb-false b (count_in forest) f) in
        earlier_tree (place_of_number forest a) (place_of_number forest b) (omega (arith, inside, outside))
    by_test false e true f = absurd (omega (arith, l, ltb-false a (count_in forest) e, ltb-true b (count_in forest) f))
    by_test false e false f =
        let first = past a (ltb-false a (count_in forest) e) in
        let second = past b (ltb-false b (count_in forest) f) in
        earlier_tree (place_of_number forest a) (place_of_number forest b) (omega (arith, l, first, second))

pub before_is : (forest : Forest) (a b : ℕ) → comes_before (place_of_number forest a) (place_of_number forest b) ≡ nat_lt a b
before_is forest a b = by_test (ltb a b) refl (ltb b a) refl
  where
    not_before : (c : Bool) → comes_before (place_of_number forest a) (place_of_number forest b) ≡ c → comes_before (place_of_number forest b) (place_of_number forest a) ≡ true
        → comes_before (place_of_number forest a) (place_of_number forest b) ≡ false
    not_before true e g = absurd (never_both (place_of_number forest a) (place_of_number forest b) e g)
    not_before false e g = e

    by_test : (c : Bool) → ltb a b ≡ c → (d : Bool) → ltb b a ≡ d → comes_before (place_of_number forest a) (place_of_number forest b) ≡ nat_lt a b
    by_test true e d f = number_before forest a b (ltb-true a b e) ∙ sym e
    by_test false e true f = not_before (comes_before (place_of_number forest a) (place_of_number forest b)) refl (number_before forest b a (ltb-true b a f)) ∙ sym e
    by_test false e false f =
        let same : a ≡ b = omega (arith, ltb-false a b e, ltb-false b a f) in
        ap (λ (n : ℕ). comes_before (place_of_number forest n) (place_of_number forest b)) same ∙ not_before_itself (place_of_number forest b) ∙ sym e
