-- Items whose nodes have numbers, in a forest that comes later.
use Rattle.std.proofs.Common.{◌≡◌, ℕ, suc, ◌+◌, add-one, ◌<◌, Bool, true, false, nat_eq, if◌then◌else◌, List, [], ◌∷◌, drop, get_or, length, None, Some, refl, sym, ◌∙◌, ap}
use Rattle.std.specs.Option.{option_map}
use Rattle.std.proofs.Math.Seq.{drop-cons}
use Rattle.std.proofs.lemmas.List.{drop-map}
use Rattle.gx_model.specs.Forest.{Forest}
use Rattle.gx_model.specs.Item.{Items}
use Rattle.gx_core.specs.Bindings.{look_up}
use Rattle.gx_store.specs.declared.item.Item.{Item}
use Rattle.gx_store.specs.Items.{item_in, items_in}
use Rattle.gx_machine.specs.declared.bound.Bound.{Bound}
use Rattle.gx_machine.specs.BoundItems.{bound_items}
use Rattle.gx_machine.specs.Resume.{items_of}

-- what is bound to a variable
pub look_up_items : (later : Forest) (bindings : List (ℕ × Bound)) (number : ℕ) → look_up (items_of later bindings) number ≡ option_map (bound_items later) (look_up bindings number)
look_up_items later [] number = refl
look_up_items later (b ∷ bindings) number =
    elim (nat_eq b.0 number) as (λ (same : Bool). (if same then Some (bound_items later b.1) else look_up (items_of later bindings) number) ≡ option_map (bound_items later) (if same then Some b.1 else look_up bindings number)) [
      | true ↦ refl
      | false ↦ look_up_items later bindings number
    ]

pub found_items : (later : Forest) (bindings : List (ℕ × Bound)) (number : ℕ) (bound : Bound) (xs : Items) → Some bound ≡ look_up bindings number → xs ≡ bound_items later bound → look_up (items_of later bindings) number ≡ Some xs
found_items later bindings number bound xs e h =
    look_up_items later bindings number ∙ ap (option_map (bound_items later)) (sym e) ∙ ap (λ (ys : Items). Some ys) (sym h)

pub no_items : (later : Forest) (bindings : List (ℕ × Bound)) (number : ℕ) → None ≡ look_up bindings number → look_up (items_of later bindings) number ≡ None
no_items later bindings number e = look_up_items later bindings number ∙ ap (option_map (bound_items later)) (sym e)

-- the items from one on
pub items_from : (later : Forest) (xs : List Item) (i : ℕ) (x : Item) → i < length xs → x ≡ get_or xs i x → items_in later (drop i xs) ≡ item_in later x ∷ items_in later (drop (suc i) xs)
items_from later xs i x h e = ap (items_in later) (drop-cons xs i x h ∙ ap (λ (y : Item). y ∷ drop (suc i) xs) (sym e))

pub next_source : (later : Forest) (xs : List Item) (i : ℕ) (x y : Item) → i < length xs → y ≡ get_or xs i y → x ≡ y → drop i (items_in later xs) ≡ item_in later x ∷ drop (i + 1) (items_in later xs)
next_source later xs i x y h e f =
    drop-map (item_in later) i xs ∙ items_from later xs i y h e
    ∙ ap (λ (z : Item). item_in later z ∷ items_in later (drop (suc i) xs)) (sym f)
    ∙ ap (λ (v : Items). item_in later x ∷ v) (sym (drop-map (item_in later) (suc i) xs) ∙ ap (λ (n : ℕ). drop n (items_in later xs)) (sym (add-one i)))
