use Rattle.std.proofs.Common.{◌≡◌, Bool, ◌&&◌, ◌==◌, List, [], ◌∷◌, length, sym, ap, ◌∙◌, arith, rules}
use Rattle.std.proofs.lemmas.Bool.{ne_eqb}
use Rattle.std.proofs.lemmas.List.{nil_from_length}
use Rattle.gx_model.specs.Forest.{Forest}
use Rattle.gx_core.specs.DeepEqual.{are_deep_equal, are_equal_items}
use Rattle.gx_store.specs.declared.item.Item.{Item}
use Rattle.gx_store.specs.Items.{item_in, items_in}
use Rattle.gx_machine.proofs.deep_equal.are_deep_equal.Goals as goal

-- two sequences that are left are equal where their first items are, and what is behind these
first_pair : (store later : Forest) (whole : Bool) (left others behind beside : List Item) (x y : Item) → left ≡ x ∷ behind → others ≡ y ∷ beside
    → whole ≡ are_deep_equal store (items_in later left) (items_in later others)
    → whole ≡ (are_equal_items store (item_in later x) (item_in later y) && are_deep_equal store (items_in later behind) (items_in later beside))
first_pair store later whole left others behind beside x y e f h =
    h
    ∙ ap (λ (xs : List Item). are_deep_equal store (items_in later xs) (items_in later others)) e
    ∙ ap (λ (ys : List Item). are_deep_equal store (items_in later (x ∷ behind)) (items_in later ys)) f

pub returns-in_default-split_first : goal.returns-in_default-split_first
returns-in_default-split_first c later w =
    let store = c.args.store.now in
    let left : c.loop-x.left.now ≡ c.in-Some.x.now ∷ c.in-Some.behind.now = search rules in
    let none : c.loop-x.others.now ≡ [] = nil_from_length c.loop-x.others.now c.in_default-split_first.ensures.cases in
    sym (c.loop-x.invariant later w
    ∙ ap (λ (xs : List Item). are_deep_equal store (items_in later xs) (items_in later c.loop-x.others.now)) left
    ∙ ap (λ (ys : List Item). are_deep_equal store (items_in later (c.in-Some.x.now ∷ c.in-Some.behind.now)) (items_in later ys)) none)

pub returns-then-not-are_equal_items : goal.returns-then-not-are_equal_items
returns-then-not-are_equal_items c later w =
    let store = c.args.store.now in
    let left : c.loop-x.left.now ≡ c.in-Some.x.now ∷ c.in-Some.behind.now = search rules in
    let others : c.loop-x.others.now ≡ c.in-Some-split_first.y.now ∷ c.in-Some-split_first.beside.now = search rules in
    sym (first_pair store later _ c.loop-x.left.now c.loop-x.others.now c.in-Some.behind.now c.in-Some-split_first.beside.now c.in-Some.x.now c.in-Some-split_first.y.now left others (c.loop-x.invariant later w)
    ∙ ap (λ (b : Bool). b && are_deep_equal store (items_in later c.in-Some.behind.now) (items_in later c.in-Some-split_first.beside.now)) (sym (c.are_equal_items.ensures later w) ∙ c.if-not-are_equal_items.true))

pub loop-x-preserved : goal.loop-x-preserved
loop-x-preserved c later w =
    let store = c.args.store.now in
    let left : c.loop-x.left.now ≡ c.in-Some.x.now ∷ c.in-Some.behind.now = search rules in
    let others : c.loop-x.others.now ≡ c.in-Some-split_first.y.now ∷ c.in-Some-split_first.beside.now = search rules in
    first_pair store later _ c.loop-x.left.now c.loop-x.others.now c.in-Some.behind.now c.in-Some-split_first.beside.now c.in-Some.x.now c.in-Some-split_first.y.now left others (c.loop-x.invariant later w)
    ∙ ap (λ (b : Bool). b && are_deep_equal store (items_in later c.in-Some.behind.now) (items_in later c.in-Some-split_first.beside.now)) (sym (c.are_equal_items.ensures later w) ∙ c.if-not-are_equal_items.false)

nothing_left : (store later : Forest) (others : List Item) (answer : Bool) → answer ≡ (length others == 0) → answer ≡ are_deep_equal store [] (items_in later others)
nothing_left store later [] answer e = e
nothing_left store later (y ∷ others) answer e = e ∙ ne_eqb (length (y ∷ others)) 0 (λ h. absurd (omega (arith, h)))

pub returns : goal.returns
returns c later w =
    let store = c.args.store.now in
    let none : c.loop-x.left.now ≡ [] = nil_from_length c.loop-x.left.now c.in_default.ensures.cases in
    nothing_left store later c.loop-x.others.now c.is_empty.result c.is_empty.ensures
    ∙ sym (c.loop-x.invariant later w ∙ ap (λ (xs : List Item). are_deep_equal store (items_in later xs) (items_in later c.loop-x.others.now)) none)
