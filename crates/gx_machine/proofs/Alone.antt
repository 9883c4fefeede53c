-- A value that is alone from a number of values on.
use Rattle.std.proofs.Common.{◌≡◌, ℕ, zero, suc, List, [], ◌∷◌, ◌++◌, length, take, drop, Result, Ok, Err, OnOk, refl, sym, ◌∙◌, ap, arith}
use Rattle.std.proofs.lemmas.List.{drop-map, take-map}
use Rattle.gx_model.specs.Forest.{Forest}
use Rattle.gx_store.specs.declared.item.Item.{Item}
use Rattle.gx_store.specs.Items.{item_in, items_in}

pub if_moved : {A E P Q : Type 0} (r : Result A E) → OnOk r P → (P → Q) → OnOk r Q
if_moved (Ok x) h f = f h
if_moved (Err e) h f = tt

none_left : {A : Type 0} (n : ℕ) (none : List A) → none ≡ [] → length (drop n none) ≡ 0
none_left zero [] e = refl
none_left (suc n) [] e = refl
none_left n (x ∷ none) e = absurd (cc)

last_is_alone : {A : Type 0} (n : ℕ) (all front : List A) (x : A) → length (drop n all) ≡ 1 → all ≡ front ++ x ∷ [] → (drop n all ≡ x ∷ []) × (take n all ≡ front)
last_is_alone zero [] front x h e = absurd (cc)
last_is_alone zero (y ∷ []) [] x h e = (e, refl)
last_is_alone zero (y ∷ []) (z ∷ []) x h e = absurd (cc)
last_is_alone zero (y ∷ []) (z ∷ w ∷ front) x h e = absurd (cc)
last_is_alone zero (y ∷ z ∷ all) front x h e = absurd (omega (arith, h))
last_is_alone (suc n) [] front x h e = absurd (cc)
last_is_alone (suc n) (y ∷ []) front x h e = let none = none_left n (drop 1 (y ∷ [])) refl in absurd (omega (arith, h, none))
last_is_alone (suc n) (y ∷ z ∷ all) [] x h e = absurd (cc)
last_is_alone (suc n) (y ∷ z ∷ all) (w ∷ front) x h e =
    let rest : z ∷ all ≡ front ++ x ∷ [] = cc in
    let same : y ≡ w = cc in
    let both = last_is_alone n (z ∷ all) front x h rest in
    (both.0, ap (λ v. v ∷ take n (z ∷ all)) same ∙ ap (λ l. w ∷ l) both.1)

pub popped_alone : (later : Forest) (n : ℕ) (all front : List Item) (x : Item) → length (drop n all) ≡ 1 → all ≡ front ++ x ∷ [] → drop n (items_in later all) ≡ item_in later x ∷ []
popped_alone later n all front x h e = drop-map (item_in later) n all ∙ ap (items_in later) (last_is_alone n all front x h e).0

pub front_of_alone : (later : Forest) (n : ℕ) (all front : List Item) (x : Item) → length (drop n all) ≡ 1 → all ≡ front ++ x ∷ [] → items_in later front ≡ take n (items_in later all)
front_of_alone later n all front x h e = sym (take-map (item_in later) n all ∙ ap (items_in later) (last_is_alone n all front x h e).1)
