-- Typed values and instances stay where the forest grows.
use Rattle.std.proofs.Common.{◌≡◌, Bool, ◌&&◌, ◌||◌, nat_eq, List, [], ◌∷◌, length, Option, None, Some, refl, ap, subst}
use Rattle.std.specs.Prelude.{nat_le, option_map}
use Rattle.std.specs.List.{list_all}
use Rattle.gx_facets.specs.declared.Atomic.{Atomic}
use Rattle.gx_types.specs.SchemaSet.{SchemaSet}
use Rattle.gx_types.specs.SequenceType.{SequenceType, nothing, item, either, optional, star, plus}
use Rattle.gx_model.specs.Atomization.{values_of_item, joined_values, atomized}
use Rattle.gx_model.specs.Forest.{Forest, then_found}
use Rattle.gx_model.specs.Growth.{Extends}
use Rattle.gx_model.specs.Item.{Item, atom, node, Items, atoms}
use Rattle.gx_model.specs.OrderLaws.{Every}
use Rattle.gx_model.specs.TypedValue.{typed_value_of, value_of_node}
use Rattle.gx_core.specs.Instances.{found_matches, item_matches, is_instance}
use Rattle.gx_core.specs.Paths.{places_of}
use Rattle.gx_growth_laws.specs.Steady.{HasNode, IsThere, AreThere}
use Rattle.gx_growth_laws.proofs.GrownForests.{same_tree, same_shape, atoms_there}
use Rattle.gx_growth_laws.proofs.ListFacts.{every_joined}

-- ---- nodes among items

pub places_there : (forest : Forest) (xs : Items) → AreThere forest xs → Every (HasNode forest) (places_of xs)
places_there forest [] h = tt
places_there forest (node place ∷ xs) h = (h.0, places_there forest xs h.1)
places_there forest (atom a ∷ xs) h = places_there forest xs h.1

-- ---- typed values

abbrev pub FoundThere : Forest → Option Items → Type 0
FoundThere forest None = Unit {0}
FoundThere forest (Some xs) = AreThere forest xs

joined_there : (forest : Forest) (found others : Option Items) → FoundThere forest found → FoundThere forest others → FoundThere forest (joined_values found others)
joined_there forest None others h k = tt
joined_there forest (Some xs) None h k = tt
joined_there forest (Some xs) (Some ys) h k = every_joined (IsThere forest) xs ys h k

values_there : (schemas : SchemaSet) (forest : Forest) (x : Item) → FoundThere forest (values_of_item schemas forest x)
values_there schemas forest (atom a) = (tt, tt)
values_there schemas forest (node place) = by_found (value_of_node schemas forest place)
  where
    by_found : (found : Option (List Atomic)) → FoundThere forest (option_map atoms found)
    by_found None = tt
    by_found (Some values) = atoms_there forest values

all_values_there : (schemas : SchemaSet) (forest : Forest) (xs : Items) → FoundThere forest (atomized schemas forest xs)
all_values_there schemas forest [] = tt
all_values_there schemas forest (x ∷ xs) =
    joined_there forest (values_of_item schemas forest x) (atomized schemas forest xs) (values_there schemas forest x) (all_values_there schemas forest xs)

pub atomized_there : (schemas : SchemaSet) (forest : Forest) (xs ys : Items) → atomized schemas forest xs ≡ Some ys → AreThere forest ys
atomized_there schemas forest xs ys e = subst (FoundThere forest) e (all_values_there schemas forest xs)

same_values : (before now : Forest) → Extends before now → (schemas : SchemaSet) (x : Item) → IsThere before x
    → values_of_item schemas now x ≡ values_of_item schemas before x
same_values before now e schemas (atom a) h = refl
same_values before now e schemas (node place) h =
    ap (λ found. option_map atoms (then_found found (typed_value_of schemas))) (same_tree before now e place h)

pub same_atomized : (before now : Forest) → Extends before now → (schemas : SchemaSet) (xs : Items) → AreThere before xs
    → atomized schemas now xs ≡ atomized schemas before xs
same_atomized before now e schemas [] h = refl
same_atomized before now e schemas (x ∷ xs) h =
    let first = same_values before now e schemas x h.0 in
    let rest = same_atomized before now e schemas xs h.1 in
    λ i. joined_values (first i) (rest i)

-- ---- instances

same_matches : (before now : Forest) → Extends before now → (schemas : SchemaSet) (t : SequenceType) (x : Item) → IsThere before x
    → item_matches schemas now t x ≡ item_matches schemas before t x
same_matches before now e schemas (item kind) x h = ap (found_matches schemas kind) (same_shape before now e x h)
same_matches before now e schemas (either first second) x h =
    let one = same_matches before now e schemas first x h in
    let other = same_matches before now e schemas second x h in
    λ i. one i || other i
same_matches before now e schemas _ x h = refl

all_match : (before now : Forest) → Extends before now → (schemas : SchemaSet) (t : SequenceType) (xs : Items) → AreThere before xs
    → list_all (item_matches schemas now t) xs ≡ list_all (item_matches schemas before t) xs
all_match before now e schemas t [] h = refl
all_match before now e schemas t (x ∷ xs) h =
    let first = same_matches before now e schemas t x h.0 in
    let rest = all_match before now e schemas t xs h.1 in
    λ i. first i && rest i

pub same_instance : (before now : Forest) → Extends before now → (schemas : SchemaSet) (t : SequenceType) (xs : Items) → AreThere before xs
    → is_instance schemas now t xs ≡ is_instance schemas before t xs
same_instance before now e schemas nothing xs h = refl
same_instance before now e schemas (optional part) xs h = ap (λ (b : Bool). nat_le (length xs) 1 && b) (all_match before now e schemas part xs h)
same_instance before now e schemas (star part) xs h = all_match before now e schemas part xs h
same_instance before now e schemas (plus part) xs h = ap (λ (b : Bool). nat_le 1 (length xs) && b) (all_match before now e schemas part xs h)
same_instance before now e schemas t xs h = ap (λ (b : Bool). nat_eq (length xs) 1 && b) (all_match before now e schemas t xs h)
