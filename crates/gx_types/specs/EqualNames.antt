-- Equality of names, of names of types and of item types.
use Rattle.std.proofs.Common.{◌≡◌, ℕ, Bool, true, false, ◌&&◌, Option, Some, None, refl, sym, ◌∙◌, subst, nat_eq, rules}
use Rattle.std.specs.Cmp.{IsEquivalence, equiv}
use Rattle.std.specs.Cmp.Rules.{comparing}
use Rattle.std.proofs.lemmas.Bool.{eqb-true, eq-eqb, and_from, and_parts}
use Rattle.gx_base.specs.Name.{same_name}
use Rattle.gx_base.specs.declared.name.Name.{Name}
use Rattle.gx_base.specs.declared.type_name.Builtin.{Builtin}
use Rattle.gx_base.specs.declared.type_name.Builtin.TheVariants.{AnyType, Untyped, AnySimple, AnyAtomic, UntypedAtomic, Str, NormalizedStr, Token, Boolean, Decimal, Integer, NonPositive, Negative, Long, Int, Short, Byte, NonNegative, UnsignedLong, UnsignedInt, UnsignedShort, UnsignedByte, Positive}
use Rattle.gx_base.specs.declared.type_name.TypeName.{TypeName}
use Rattle.gx_base.specs.declared.type_name.TypeName.TheVariants as names
use Rattle.gx_types.specs.declared.item_type.ItemType.{ItemType}
use Rattle.gx_types.specs.declared.item_type.ItemType.TheVariants as items
use Rattle.gx_types.specs.BuiltinOrder.{builtin_number, same_builtin}
use Rattle.gx_types.specs.SameItemType.{same_optional_name, same_type_name, same_item_type}

false_too : (b : Bool) → (b ≡ true → false ≡ true) → false ≡ b
false_too true g = g refl
false_too false g = refl

-- tests that hold both ways are one
pub same_tests : (a b : Bool) → (a ≡ true → b ≡ true) → (b ≡ true → a ≡ true) → a ≡ b
same_tests true b f g = sym (f refl)
same_tests false b f g = false_too b g

pub names_are_equivalent : IsEquivalence same_name
names_are_equivalent = search (comparing, rules)

-- two names that are equal to each other are equal to the same names
pub same_names_trans : (a b c : Name) → same_name a b ≡ true → same_name b c ≡ true → same_name a c ≡ true
same_names_trans a b c h k = names_are_equivalent.congr a b c h ∙ k

name_symm : (a b : Name) → same_name a b ≡ true → same_name b a ≡ true
name_symm a b h = sym (names_are_equivalent.symm a b) ∙ h

numbers_trans : (a b c : ℕ) → nat_eq a b ≡ true → nat_eq b c ≡ true → nat_eq a c ≡ true
numbers_trans a b c h k = subst (λ (n : ℕ). nat_eq n c ≡ true) (sym (eqb-true a b h)) k

number_symm : (a b : ℕ) → nat_eq a b ≡ true → nat_eq b a ≡ true
number_symm a b h = eq-eqb b a (sym (eqb-true a b h))

pub builtins_are_one : (a b : Builtin) → same_builtin a b ≡ true → a ≡ b
builtins_are_one AnyType AnyType h = refl
builtins_are_one Untyped Untyped h = refl
builtins_are_one AnySimple AnySimple h = refl
builtins_are_one AnyAtomic AnyAtomic h = refl
builtins_are_one UntypedAtomic UntypedAtomic h = refl
builtins_are_one Str Str h = refl
builtins_are_one NormalizedStr NormalizedStr h = refl
builtins_are_one Token Token h = refl
builtins_are_one Boolean Boolean h = refl
builtins_are_one Decimal Decimal h = refl
builtins_are_one Integer Integer h = refl
builtins_are_one NonPositive NonPositive h = refl
builtins_are_one Negative Negative h = refl
builtins_are_one Long Long h = refl
builtins_are_one Int Int h = refl
builtins_are_one Short Short h = refl
builtins_are_one Byte Byte h = refl
builtins_are_one NonNegative NonNegative h = refl
builtins_are_one UnsignedLong UnsignedLong h = refl
builtins_are_one UnsignedInt UnsignedInt h = refl
builtins_are_one UnsignedShort UnsignedShort h = refl
builtins_are_one UnsignedByte UnsignedByte h = refl
builtins_are_one Positive Positive h = refl
builtins_are_one _ _ h = absurd (cc)

-- names of types

pub type_name_itself : (t : TypeName) → same_type_name t t ≡ true
type_name_itself (names.Builtin b) = eq-eqb (builtin_number b) (builtin_number b) refl
type_name_itself (names.Named n) = names_are_equivalent.refl n
type_name_itself (names.Anonymous n) = eq-eqb n n refl

pub type_name_symm : (t u : TypeName) → same_type_name t u ≡ true → same_type_name u t ≡ true
type_name_symm (names.Builtin a) (names.Builtin b) h = number_symm (builtin_number a) (builtin_number b) h
type_name_symm (names.Named a) (names.Named b) h = name_symm a b h
type_name_symm (names.Anonymous a) (names.Anonymous b) h = number_symm a b h
type_name_symm _ _ h = absurd (cc)

pub type_name_trans : (t u v : TypeName) → same_type_name t u ≡ true → same_type_name u v ≡ true → same_type_name t v ≡ true
type_name_trans (names.Builtin a) (names.Builtin b) (names.Builtin c) h k = numbers_trans (builtin_number a) (builtin_number b) (builtin_number c) h k
type_name_trans (names.Named a) (names.Named b) (names.Named c) h k = same_names_trans a b c h k
type_name_trans (names.Anonymous a) (names.Anonymous b) (names.Anonymous c) h k = numbers_trans a b c h k
type_name_trans _ _ _ h k = absurd (cc)

pub type_names_are_equivalent : IsEquivalence same_type_name
type_names_are_equivalent =
    equiv (record { symm = λ t u. same_tests (same_type_name t u) (same_type_name u t) (type_name_symm t u) (type_name_symm u t); trans = type_name_trans }) type_name_itself

-- item types

optional_name_symm : (a b : Option Name) → same_optional_name a b ≡ true → same_optional_name b a ≡ true
optional_name_symm None None h = refl
optional_name_symm (Some a) (Some b) h = name_symm a b h
optional_name_symm _ _ h = absurd (cc)

optional_name_trans : (a b c : Option Name) → same_optional_name a b ≡ true → same_optional_name b c ≡ true → same_optional_name a c ≡ true
optional_name_trans None None None h k = refl
optional_name_trans (Some a) (Some b) (Some c) h k = same_names_trans a b c h k
optional_name_trans _ _ _ h k = absurd (cc)

optional_name_itself : (a : Option Name) → same_optional_name a a ≡ true
optional_name_itself None = refl
optional_name_itself (Some a) = names_are_equivalent.refl a

-- a name and a type
abbrev same_pair : (a b : Option Name) (t u : TypeName) → Bool
same_pair a b t u = same_optional_name a b && same_type_name t u

pair_symm : (a b : Option Name) (t u : TypeName) → same_pair a b t u ≡ true → same_pair b a u t ≡ true
pair_symm a b t u h =
    let p = and_parts (same_optional_name a b) (same_type_name t u) h in
    and_from (same_optional_name b a) (same_type_name u t) (optional_name_symm a b p.0) (type_name_symm t u p.1)

pair_trans : (a b c : Option Name) (t u v : TypeName) → same_pair a b t u ≡ true → same_pair b c u v ≡ true → same_pair a c t v ≡ true
pair_trans a b c t u v h k =
    let p = and_parts (same_optional_name a b) (same_type_name t u) h in
    let q = and_parts (same_optional_name b c) (same_type_name u v) k in
    and_from (same_optional_name a c) (same_type_name t v) (optional_name_trans a b c p.0 q.0) (type_name_trans t u v p.1 q.1)

pair_itself : (a : Option Name) (t : TypeName) → same_pair a a t t ≡ true
pair_itself a t = and_from (same_optional_name a a) (same_type_name t t) (optional_name_itself a) (type_name_itself t)

item_symm : (i j : ItemType) → same_item_type i j ≡ true → same_item_type j i ≡ true
item_symm (items.Element a t) (items.Element b u) h = pair_symm a b t u h
item_symm (items.Attribute a t) (items.Attribute b u) h = pair_symm a b t u h
item_symm items.Text items.Text h = refl
item_symm (items.Document None) (items.Document None) h = refl
item_symm (items.Document (Some d)) (items.Document (Some e)) h = pair_symm d.0 e.0 d.1 e.1 h
item_symm (items.Atom t) (items.Atom u) h = type_name_symm t u h
item_symm _ _ h = absurd (cc)

item_trans : (i j k : ItemType) → same_item_type i j ≡ true → same_item_type j k ≡ true → same_item_type i k ≡ true
item_trans (items.Element a t) (items.Element b u) (items.Element c v) h g = pair_trans a b c t u v h g
item_trans (items.Attribute a t) (items.Attribute b u) (items.Attribute c v) h g = pair_trans a b c t u v h g
item_trans items.Text items.Text items.Text h g = refl
item_trans (items.Document None) (items.Document None) (items.Document None) h g = refl
item_trans (items.Document (Some d)) (items.Document (Some e)) (items.Document (Some f)) h g = pair_trans d.0 e.0 f.0 d.1 e.1 f.1 h g
item_trans (items.Atom t) (items.Atom u) (items.Atom v) h g = type_name_trans t u v h g
item_trans _ _ _ h g = absurd (cc)

item_itself : (i : ItemType) → same_item_type i i ≡ true
item_itself (items.Element a t) = pair_itself a t
item_itself (items.Attribute a t) = pair_itself a t
item_itself items.Text = refl
item_itself (items.Document None) = refl
item_itself (items.Document (Some d)) = pair_itself d.0 d.1
item_itself (items.Atom t) = type_name_itself t

pub item_types_are_equivalent : IsEquivalence same_item_type
item_types_are_equivalent =
    equiv (record { symm = λ i j. same_tests (same_item_type i j) (same_item_type j i) (item_symm i j) (item_symm j i); trans = item_trans }) item_itself
