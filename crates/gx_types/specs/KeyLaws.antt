-- Equal item types and equal types write the same to a hasher.
use Rattle.std.proofs.Common.{◌≡◌, true, ◌&&◌, [], ◌∷◌, ◌++◌, Option, Some, None, refl, ◌∙◌, ap, rules}
use Rattle.std.specs.Cmp.Rules.{hashing}
use Rattle.std.specs.Hash.{HashWrites}
use Rattle.std.proofs.lemmas.Bool.{eqb-true, and_parts}
use Rattle.gx_base.specs.Name.{same_name}
use Rattle.gx_base.specs.declared.name.Name.{Name}
use Rattle.gx_base.specs.declared.type_name.TypeName.{TypeName}
use Rattle.gx_base.specs.declared.type_name.TypeName.TheVariants as names
use Rattle.gx_types.specs.declared.item_type.ItemType.{ItemType}
use Rattle.gx_types.specs.declared.item_type.ItemType.TheVariants as items
use Rattle.gx_types.specs.SameItemType.{same_optional_name, same_type_name, same_item_type}
use Rattle.gx_types.specs.SameType.{same_type}
use Rattle.gx_types.specs.HashInput.{name_writes, optional_name_writes, type_name_writes, test_writes, item_type_writes, type_writes}
use Rattle.gx_types.specs.SequenceType.{SequenceType, never, nothing, item, both, either, optional, star, plus}
use Rattle.gx_types.specs.EqualNames.{builtins_are_one}

equal_names : (a b : Name) → same_name a b ≡ true → name_writes a ≡ name_writes b
equal_names = search (hashing, rules)

equal_optional_names : (a b : Option Name) → same_optional_name a b ≡ true → optional_name_writes a ≡ optional_name_writes b
equal_optional_names None None h = refl
equal_optional_names (Some a) (Some b) h = equal_names a b h
equal_optional_names _ _ h = absurd (cc)

equal_type_names : (t u : TypeName) → same_type_name t u ≡ true → type_name_writes t ≡ type_name_writes u
equal_type_names (names.Builtin a) (names.Builtin b) h = ap (λ x. type_name_writes (names.Builtin x)) (builtins_are_one a b h)
equal_type_names (names.Named a) (names.Named b) h = equal_names a b h
equal_type_names (names.Anonymous a) (names.Anonymous b) h = ap (λ x. type_name_writes (names.Anonymous x)) (eqb-true a b h)
equal_type_names _ _ h = absurd (cc)

-- the same, one after the other, behind the same
behind_same : (front a b c d : HashWrites) → a ≡ c → b ≡ d → front ++ (a ++ b) ≡ front ++ (c ++ d)
behind_same front a b c d p q = ap (λ (x : HashWrites). front ++ (x ++ b)) p ∙ ap (λ (x : HashWrites). front ++ (c ++ x)) q

equal_tests : (front : HashWrites) (a b : Option Name) (t u : TypeName) → same_optional_name a b && same_type_name t u ≡ true → front ++ test_writes a t ≡ front ++ test_writes b u
equal_tests front a b t u h =
    let p = and_parts (same_optional_name a b) (same_type_name t u) h in
    behind_same front (optional_name_writes a) (type_name_writes t) (optional_name_writes b) (type_name_writes u) (equal_optional_names a b p.0) (equal_type_names t u p.1)

pub equal_item_types_write_the_same : (i j : ItemType) → same_item_type i j ≡ true → item_type_writes i ≡ item_type_writes j
equal_item_types_write_the_same (items.Element a t) (items.Element b u) h = equal_tests ((0 ∷ []) ∷ []) a b t u h
equal_item_types_write_the_same (items.Attribute a t) (items.Attribute b u) h = equal_tests ((1 ∷ []) ∷ []) a b t u h
equal_item_types_write_the_same items.Text items.Text h = refl
equal_item_types_write_the_same (items.Document None) (items.Document None) h = refl
equal_item_types_write_the_same (items.Document (Some d)) (items.Document (Some e)) h = equal_tests ((4 ∷ []) ∷ []) d.0 e.0 d.1 e.1 h
equal_item_types_write_the_same (items.Atom t) (items.Atom u) h = ap (λ (x : HashWrites). ((5 ∷ []) ∷ []) ++ x) (equal_type_names t u h)
equal_item_types_write_the_same _ _ h = absurd (cc)

equal_pairs : (front : HashWrites) (a b c d : SequenceType) → (same_type a c ≡ true → type_writes a ≡ type_writes c) → (same_type b d ≡ true → type_writes b ≡ type_writes d)
    → same_type a c && same_type b d ≡ true → front ++ (type_writes a ++ type_writes b) ≡ front ++ (type_writes c ++ type_writes d)
equal_pairs front a b c d f g h =
    let p = and_parts (same_type a c) (same_type b d) h in behind_same front (type_writes a) (type_writes b) (type_writes c) (type_writes d) (f p.0) (g p.1)

pub equal_types_write_the_same : (t u : SequenceType) → same_type t u ≡ true → type_writes t ≡ type_writes u
equal_types_write_the_same never never h = refl
equal_types_write_the_same nothing nothing h = refl
equal_types_write_the_same (item i) (item j) h = ap (λ (x : HashWrites). ((2 ∷ []) ∷ []) ++ x) (equal_item_types_write_the_same i j h)
equal_types_write_the_same (both a b) (both c d) h = equal_pairs ((3 ∷ []) ∷ []) a b c d (equal_types_write_the_same a c) (equal_types_write_the_same b d) h
equal_types_write_the_same (either a b) (either c d) h = equal_pairs ((4 ∷ []) ∷ []) a b c d (equal_types_write_the_same a c) (equal_types_write_the_same b d) h
equal_types_write_the_same (optional a) (optional b) h = ap (λ (x : HashWrites). ((5 ∷ []) ∷ []) ++ x) (equal_types_write_the_same a b h)
equal_types_write_the_same (star a) (star b) h = ap (λ (x : HashWrites). ((6 ∷ []) ∷ []) ++ x) (equal_types_write_the_same a b h)
equal_types_write_the_same (plus a) (plus b) h = ap (λ (x : HashWrites). ((7 ∷ []) ∷ []) ++ x) (equal_types_write_the_same a b h)
equal_types_write_the_same _ _ h = absurd (cc)
