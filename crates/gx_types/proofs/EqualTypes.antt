-- Equal types take the same lists.
use Rattle.std.proofs.Common.{◌≡◌, ℕ, zero, suc, true, ◌&&◌, List, [], ◌∷◌, inl, inr, Option, Some, None, refl}
use Rattle.std.proofs.lemmas.Bool.{and_parts}
use Rattle.gx_base.specs.declared.name.Name.{Name}
use Rattle.gx_base.specs.declared.type_name.TypeName.{TypeName}
use Rattle.gx_types.specs.declared.item_type.ItemType.{ItemType}
use Rattle.gx_types.specs.declared.item_type.ItemType.TheVariants as items
use Rattle.gx_types.specs.declared.shape.Shape.{Shape}
use Rattle.gx_types.specs.declared.shape.Shape.TheVariants as shapes
use Rattle.gx_types.specs.SameItemType.{same_optional_name, same_type_name, same_item_type}
use Rattle.gx_types.specs.SameType.{same_type}
use Rattle.gx_types.specs.SchemaSet.{SchemaSet}
use Rattle.gx_types.specs.Derivation.{bases_of, Bases, Leads, DerivesFrom}
use Rattle.gx_types.specs.ItemTakes.{name_fits, ItemTakes}
use Rattle.gx_types.specs.Takes.{Takes, Each}
use Rattle.gx_types.specs.SequenceType.{SequenceType, never, nothing, item, both, either, optional, star, plus}
use Rattle.gx_types.specs.EqualNames.{same_names_trans, type_name_symm, type_name_trans}

-- what leads to a type leads to an equal one
pub leads_to_equal : (bases : Bases) (steps : ℕ) (t a b : TypeName) → same_type_name a b ≡ true → Leads bases steps t b → Leads bases steps t a
leads_to_equal bases zero t a b h k = type_name_trans t b a k (type_name_symm a b h)
leads_to_equal bases (suc n) t a b h k = (k.0, k.1, leads_to_equal bases n k.0 a b h k.2)

derives_from_equal : (s : SchemaSet) (t a b : TypeName) → same_type_name a b ≡ true → DerivesFrom s t b → DerivesFrom s t a
derives_from_equal s t a b h k = (k.0, leads_to_equal (bases_of s) k.0 t a b h k.1)

fits_equal : (a b : Option Name) (n : Name) → same_optional_name a b ≡ true → name_fits b n ≡ true → name_fits a n ≡ true
fits_equal None None n h k = refl
fits_equal (Some a) (Some b) n h k = same_names_trans a b n h k
fits_equal None (Some b) n h k = absurd (cc)
fits_equal (Some a) None n h k = absurd (cc)

-- an equal name and an equal type
fits_both : (s : SchemaSet) (a b : Option Name) (t u : TypeName) (n : Name) (v : TypeName) → same_optional_name a b && same_type_name t u ≡ true → (name_fits b n ≡ true) × DerivesFrom s v u → (name_fits a n ≡ true) × DerivesFrom s v t
fits_both s a b t u n v h k =
    (fits_equal a b n ((and_parts (same_optional_name a b) (same_type_name t u) h).0) k.0, derives_from_equal s v t u ((and_parts (same_optional_name a b) (same_type_name t u) h).1) k.1)

pub item_takes_equal : (s : SchemaSet) (i j : ItemType) (shape : Shape) → same_item_type i j ≡ true → ItemTakes s j shape → ItemTakes s i shape
item_takes_equal s (items.Element a t) (items.Element b u) (shapes.Elem n v) h k = fits_both s a b t u n v h k
item_takes_equal s (items.Attribute a t) (items.Attribute b u) (shapes.Attr n v) h k = fits_both s a b t u n v h k
item_takes_equal s items.Text items.Text shape h k = k
item_takes_equal s (items.Document None) (items.Document None) shape h k = k
item_takes_equal s (items.Document (Some d)) (items.Document (Some e)) (shapes.Doc (Some c)) h k = fits_both s d.0 e.0 d.1 e.1 c.0 c.1 h k
item_takes_equal s (items.Atom t) (items.Atom u) (shapes.Atom v) h k = derives_from_equal s v t u h k
item_takes_equal s (items.Element a t) (items.Element b u) _ h k = absurd k
item_takes_equal s (items.Attribute a t) (items.Attribute b u) _ h k = absurd k
item_takes_equal s (items.Document (Some d)) (items.Document (Some e)) _ h k = absurd k
item_takes_equal s (items.Atom t) (items.Atom u) _ h k = absurd k
item_takes_equal s _ _ shape h k = absurd (cc)

-- a fact of each list
pub each_implies : (P Q : List Shape → Type 0) → ((ss : List Shape) → P ss → Q ss) → (parts : List (List Shape)) → Each P parts → Each Q parts
each_implies P Q f [] e = tt
each_implies P Q f (part ∷ parts) e = (f part e.0, each_implies P Q f parts e.1)

pub equal_takes : (s : SchemaSet) (t u : SequenceType) (ss : List Shape) → same_type t u ≡ true → Takes s u ss → Takes s t ss
equal_takes s never never ss h k = k
equal_takes s nothing nothing ss h k = k
equal_takes s (item i) (item j) ss h k = (k.0, k.1, item_takes_equal s i j k.0 h k.2)
equal_takes s (both a b) (both c d) ss h k =
    (k.0, k.1, k.2, equal_takes s a c k.0 ((and_parts (same_type a c) (same_type b d) h).0) k.3, equal_takes s b d k.1 ((and_parts (same_type a c) (same_type b d) h).1) k.4)
equal_takes s (either a b) (either c d) ss h (inl k) = inl (equal_takes s a c ss ((and_parts (same_type a c) (same_type b d) h).0) k)
equal_takes s (either a b) (either c d) ss h (inr k) = inr (equal_takes s b d ss ((and_parts (same_type a c) (same_type b d) h).1) k)
equal_takes s (optional a) (optional b) ss h (inl k) = inl k
equal_takes s (optional a) (optional b) ss h (inr k) = inr (equal_takes s a b ss h k)
equal_takes s (star a) (star b) ss h k = (k.0, k.1, each_implies (Takes s b) (Takes s a) (λ xs. equal_takes s a b xs h) k.0 k.2)
equal_takes s (plus a) (plus b) ss h k =
    (k.0, k.1, k.2, equal_takes s a b k.0 h k.3, each_implies (Takes s b) (Takes s a) (λ xs. equal_takes s a b xs h) k.1 k.4)
equal_takes s _ _ ss h k = absurd (cc)
