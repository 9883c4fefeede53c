-- What a loop or a switch binds fits its types.
use Rattle.std.proofs.Common.{ℕ, zero, suc, pos, None, List, [], ◌∷◌, ◌++◌, refl}
use Rattle.gx_base.specs.declared.type_name.Builtin.TheVariants.{Integer}
use Rattle.gx_base.specs.declared.type_name.TypeName.TheVariants as names
use Rattle.gx_types.specs.declared.item_type.ItemType.TheVariants.{Atom}
use Rattle.gx_types.specs.declared.shape.Shape.{Shape}
use Rattle.gx_types.specs.declared.shape.Shape.TheVariants as shapes
use Rattle.gx_types.specs.SchemaSet.{SchemaSet}
use Rattle.gx_types.specs.SequenceType.{SequenceType, item}
use Rattle.gx_types.specs.Prime.{prime_of, items_of}
use Rattle.gx_types.specs.Takes.{EachShape, SomeItemTakes}
use Rattle.gx_types.proofs.PublicLaws.{items_take_each_shape, prime_is_a_choice_of_items}
use Rattle.gx_funcs.specs.Function.{integer_atom}
use Rattle.gx_model.specs.Forest.{Forest}
use Rattle.gx_model.specs.Item.{Item, atom, Items}
use Rattle.gx_model.specs.Belongs.{HaveShapes, Belongs}
use Rattle.gx_model.specs.Growth.{Extends}
use Rattle.gx_model.proofs.PublicLaws.{values_stay}
use Rattle.gx_core.specs.declared.expression.Binder.{Binder}
use Rattle.gx_core.specs.Bindings.{Types, position_bound}
use Rattle.gx_core.specs.Meaning.{Bindings, item_bound}
use Rattle.gx_core.specs.Soundness.{Setting, Fits}
use Rattle.gx_core.proofs.KeptFacts.{binding_fits}

-- each item alone belongs to a type
abbrev pub EachBelongs : SchemaSet → Forest → SequenceType → Items → Type 0
EachBelongs s forest t [] = Unit {0}
EachBelongs s forest t (x ∷ xs) = Belongs s forest (x ∷ []) t × EachBelongs s forest t xs

pub each_still : (s : SchemaSet) (before now : Forest) (t : SequenceType) (xs : Items) → Extends before now → EachBelongs s before t xs
    → EachBelongs s now t xs
each_still s before now t [] e h = tt
each_still s before now t (x ∷ xs) e h = (values_stay s before now (x ∷ []) t e h.0, each_still s before now t xs e h.1)

in_prime : (s : SchemaSet) (forest : Forest) (t : SequenceType) (xs : Items) (ss : List Shape) → HaveShapes s forest xs ss
    → EachShape (SomeItemTakes s (items_of t)) ss → EachBelongs s forest (prime_of t) xs
in_prime s forest t [] [] h k = tt
in_prime s forest t [] (shape ∷ ss) h k = absurd h
in_prime s forest t (x ∷ xs) [] h k = absurd h
in_prime s forest t (x ∷ xs) (shape ∷ ss) h k = (
  record {
    seen = shape ∷ [];
    shaped = (h.0, h.1, tt);
    taken = (prime_is_a_choice_of_items s t (shape ∷ [])).1 (record { shape = shape; alone = refl; taken = k.0 });
  },
  in_prime s forest t xs ss h.2 k.1,
)

-- each item of a value belongs to the prime type
pub items_belong : (s : SchemaSet) (forest : Forest) (t : SequenceType) (xs : Items) → Belongs s forest xs t
    → EachBelongs s forest (prime_of t) xs
items_belong s forest t xs b = in_prime s forest t xs b.seen b.shaped (items_take_each_shape s t b.seen b.taken)

-- an item and its position are of the types that a loop binds
pub item_fits : (setting : Setting) (binder : Binder) (position number : ℕ) (p : SequenceType) (x : Item) (types : Types)
    (bindings : Bindings) (forest : Forest)
    → Fits setting.schemas forest types bindings → Belongs setting.schemas forest (x ∷ []) p
    → Fits setting.schemas forest (((binder.variable, p) ∷ position_bound position (item (Atom (names.Builtin Integer)))) ++ types)
    (item_bound binder.variable position number x ++ bindings)
item_fits setting binder zero number p x types bindings forest fits one =
    binding_fits setting binder p (x ∷ []) types bindings forest fits one
item_fits setting binder (suc position) number p x types bindings forest fits one =
    let integer : SequenceType = item (Atom (names.Builtin Integer)) in
    let value : Items = atom (integer_atom (pos number)) ∷ [] in
    let counted : Belongs setting.schemas forest value integer =
    record { seen = shapes.Atom (names.Builtin Integer) ∷ []; shaped = (refl, (0, refl), tt); taken = (shapes.Atom (names.Builtin Integer), refl, (0, refl)) } in
    let of_position : Binder = record { variable = suc position; place = binder.place; kind = None } in
    binding_fits setting binder p (x ∷ []) ((suc position, integer) ∷ types) ((suc position, value) ∷ bindings) forest
    (binding_fits setting of_position integer value types bindings forest fits counted) one

-- the variable of a branch is bound to a value of its type
pub branch_fits : (setting : Setting) (number : ℕ) (t : SequenceType) (xs : Items) (types : Types) (bindings : Bindings) (forest : Forest)
    → Fits setting.schemas forest types bindings → Belongs setting.schemas forest xs t
    → Fits setting.schemas forest (position_bound number t ++ types) (position_bound number xs ++ bindings)
branch_fits setting zero t xs types bindings forest fits b = fits
branch_fits setting (suc number) t xs types bindings forest fits b =
    let binder : Binder = record { variable = suc number; place = record { line = 0; column = 0 }; kind = None } in
    binding_fits setting binder t xs types bindings forest fits b
