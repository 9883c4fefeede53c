-- The items of honest forests have well-formed shapes.
use Rattle.std.proofs.Common.{◌≡◌, ℕ, zero, suc, length, Bool, true, false, ◌||◌, List, [], ◌∷◌, Option, None, Some, inl, inr, refl, sym, ◌∙◌, ap, subst, if◌then◌else◌, Result, Ok, Err}
use Rattle.std.specs.Prelude.{is_some, is_ok}
use Rattle.std.specs.List.{list_any}
use Rattle.std.specs.Option.{option_map}
use Rattle.std.proofs.lemmas.Bool.{true≢false}
use Rattle.std.proofs.Math.Bool.{or-true}
use Rattle.gx_base.specs.declared.name.Name.{Name}
use Rattle.gx_base.specs.declared.type_name.Builtin.{Builtin}
use Rattle.gx_base.specs.declared.type_name.Builtin.TheVariants.{AnyType, Untyped, AnySimple, AnyAtomic, Str, Boolean, Decimal, Integer}
use Rattle.gx_base.specs.declared.type_name.TypeName.{TypeName}
use Rattle.gx_base.specs.declared.type_name.TypeName.TheVariants as names
use Rattle.gx_facets.specs.declared.AtomValue.{AtomValue}
use Rattle.gx_facets.specs.declared.AtomValue.TheVariants as values
use Rattle.gx_facets.specs.declared.ValueRead.{ValueRead}
use Rattle.gx_facets.specs.Value.{value_of}
use Rattle.gx_num.specs.declared.Number.TheVariants.{Int, Dec}
use Rattle.gx_types.specs.BuiltinOrder.{same_builtin}
use Rattle.gx_types.specs.SameItemType.{same_type_name}
use Rattle.gx_types.specs.declared.declaration.Declared.{Declared}
use Rattle.gx_types.specs.declared.shape.Shape.{Shape}
use Rattle.gx_types.specs.declared.shape.Shape.TheVariants as shapes
use Rattle.gx_types.specs.SchemaSet.{SchemaSet, names_declared, declaration_among}
use Rattle.gx_types.specs.SchemaInvariant.{is_named_type}
use Rattle.gx_types.specs.BaseChain.{own_declaration, with_bases, chain_within, end_of_chain}
use Rattle.gx_types.specs.SimpleType.{AtomicMeaning, all_facets, built_in, single_meaning, meaning_of_content}
use Rattle.gx_types.specs.SimpleValue.{admitted_value, with_first, admitted_values, values_at}
use Rattle.gx_types.specs.Derivation.{bases_of, bases_among, declared_base_of, DerivesFrom}
use Rattle.gx_types.specs.Grounded.{Grounded}
use Rattle.gx_types.specs.SequenceType.{SequenceType}
use Rattle.gx_types.specs.Takes.{EachShape}
use Rattle.gx_types.proofs.PublicLaws.{equality_is_an_equivalence}
use Rattle.gx_types.proofs.DerivationLemmas.{from_base, baseless}
use Rattle.gx_include.specs.Decision.{is_included}
use Rattle.gx_include_letters.specs.WellFormed.{plain_types, element_types, IsAmongTypes, IsWellFormedShape}
use Rattle.gx_include.proofs.Deciding.{inclusion_is_decided}
use Rattle.gx_tree.specs.declared.attribute.Attribute.{Attribute}
use Rattle.gx_tree.specs.PlainTree.{PlainTree, PlainTrees, document, element, attribute, text, no_trees, a_tree}
use Rattle.gx_model.specs.Forest.{Forest, PlainNode, node_in}
use Rattle.gx_model.specs.Item.{Item, atom, node, Items}
use Rattle.gx_model.specs.Belongs.{shape_of, item_shape, ValueFits, ItemFits, HaveShapes, Belongs}
use Rattle.gx_model.specs.DeclaredContent.{is_valued}
use Rattle.gx_model.specs.TypedTree.{IsTyped, AreTyped}
use Rattle.gx_model.specs.Honest.{IsHonest}
use Rattle.gx_steptype.proofs.CoveredTypes.{declared_is_listed}
use Rattle.gx_steptype.proofs.HonestPlaces.{PlaceFact, place_fact}

-- ---- types of atomic values

-- a built-in type that is derived from one below xs:anyAtomicType is such a type itself
builtin_is_plain : (s : SchemaSet) (b c : Builtin) → same_builtin AnyType b ≡ false → same_builtin Untyped b ≡ false → same_builtin AnySimple b ≡ false → same_builtin AnyAtomic b ≡ false
    → DerivesFrom s (names.Builtin c) (names.Builtin b) → IsAmongTypes (names.Builtin c) (plain_types s)
builtin_is_plain s b AnyType any untyped simple atomic d = absurd (baseless (bases_of s) (names.Builtin AnyType) (names.Builtin b) any refl d)
builtin_is_plain s b Untyped any untyped simple atomic d =
    absurd (baseless (bases_of s) (names.Builtin AnyType) (names.Builtin b) any refl (from_base (bases_of s) (names.Builtin Untyped) (names.Builtin b) (names.Builtin AnyType) untyped refl d))
builtin_is_plain s b AnySimple any untyped simple atomic d =
    absurd (baseless (bases_of s) (names.Builtin AnyType) (names.Builtin b) any refl (from_base (bases_of s) (names.Builtin AnySimple) (names.Builtin b) (names.Builtin AnyType) simple refl d))
builtin_is_plain s b AnyAtomic any untyped simple atomic d =
    absurd (baseless (bases_of s) (names.Builtin AnyType) (names.Builtin b) any refl
    (from_base (bases_of s) (names.Builtin AnySimple) (names.Builtin b) (names.Builtin AnyType) simple refl
    (from_base (bases_of s) (names.Builtin AnyAtomic) (names.Builtin b) (names.Builtin AnySimple) atomic refl d)))
builtin_is_plain s b _ any untyped simple atomic d = refl

-- a type with a base is declared
declared_among : (types : List Declared) (t base : TypeName) → declared_base_of (bases_among types) t ≡ Some base → list_any (same_type_name t) (names_declared types) ≡ true
declared_among [] t base e = absurd (cc)
declared_among (d ∷ types) t base e =
    elim (same_type_name d.name t) as (λ (b : Bool). same_type_name d.name t ≡ b → (if b then Some d.base else declared_base_of (bases_among types) t) ≡ Some base
    → (same_type_name t d.name || list_any (same_type_name t) (names_declared types)) ≡ true) [
      | true ↦ λ same f. ap (λ (b : Bool). b || list_any (same_type_name t) (names_declared types)) (equality_is_an_equivalence.type_names.symm t d.name ∙ same)
      | false ↦ λ same f. ap (λ (b : Bool). b || list_any (same_type_name t) (names_declared types)) (equality_is_an_equivalence.type_names.symm t d.name ∙ same) ∙ declared_among types t base f
    ] refl e

derived_is_plain : (s : SchemaSet) (b : Builtin) (t : TypeName) → same_builtin AnyType b ≡ false → same_builtin Untyped b ≡ false → same_builtin AnySimple b ≡ false → same_builtin AnyAtomic b ≡ false
    → DerivesFrom s t (names.Builtin b) → IsAmongTypes t (plain_types s)
derived_is_plain s b (names.Builtin c) any untyped simple atomic d = builtin_is_plain s b c any untyped simple atomic d
derived_is_plain s b (names.Named n) any untyped simple atomic (zero, same) = absurd (cc)
derived_is_plain s b (names.Named n) any untyped simple atomic (suc k, (base, e, r)) = declared_among s.types (names.Named n) base e
derived_is_plain s b (names.Anonymous n) any untyped simple atomic (zero, same) = absurd (cc)
derived_is_plain s b (names.Anonymous n) any untyped simple atomic (suc k, (base, e, r)) = declared_among s.types (names.Anonymous n) base e

value_is_plain : (s : SchemaSet) (v : AtomValue) (t : TypeName) → ValueFits s v t → IsAmongTypes t (plain_types s)
value_is_plain s (values.Untyped x) t f = subst (λ (u : TypeName). IsAmongTypes u (plain_types s)) (sym f) refl
value_is_plain s (values.Str x) t f = derived_is_plain s Str t refl refl refl refl f
value_is_plain s (values.Truth b) t f = derived_is_plain s Boolean t refl refl refl refl f
value_is_plain s (values.Num (Int i)) t f = derived_is_plain s Integer t refl refl refl refl f
value_is_plain s (values.Num (Dec d)) t f = derived_is_plain s Decimal t refl refl refl refl f.0

-- ---- types of nodes

-- a type that a declaration may name
named_is_plain : (s : SchemaSet) (t : TypeName) → is_named_type s t ≡ true → IsAmongTypes t (plain_types s)
named_is_plain s (names.Builtin AnyType) h = absurd (cc)
named_is_plain s (names.Builtin Untyped) h = absurd (cc)
named_is_plain s (names.Builtin AnySimple) h = absurd (cc)
named_is_plain s (names.Builtin AnyAtomic) h = absurd (cc)
named_is_plain s (names.Builtin _) h = refl
named_is_plain s (names.Named n) h = declared_is_listed s.types (names.Named n) h
named_is_plain s (names.Anonymous n) h = declared_is_listed s.types (names.Anonymous n) h

-- a type that is not declared has no bases
no_bases : (types : List Declared) (n : ℕ) (t : TypeName) → own_declaration types t ≡ None → chain_within types n t ≡ []
no_bases types zero t e = refl
no_bases types (suc n) t e = ap (λ (found : Option Declared). with_bases found (chain_within types n)) e

abbrev ended_meaning : List Declared → TypeName → List Declared → AtomicMeaning
ended_meaning types t chain = record { kind = t; bottom = built_in (end_of_chain chain t); facets = all_facets types t }

abbrev single_is_valued : AtomicMeaning → List ℕ → Bool
single_is_valued item written = is_ok (values_at (single_meaning item) written)

one_read : (item : AtomicMeaning) (read : Result AtomValue ValueRead) → is_ok (admitted_values (single_meaning item) (with_first (admitted_value item read) (Ok []))) ≡ true → is_ok read ≡ true
one_read item (Ok v) h = refl
one_read item (Err fault) h = h

-- and the values of the built-in type that it is, if it is one
undeclared_is_read : (s : SchemaSet) (t : TypeName) (written : List ℕ) → own_declaration s.types t ≡ None → is_valued s t written ≡ true → is_ok (value_of (built_in t) written) ≡ true
undeclared_is_read s t written e h =
    one_read (ended_meaning s.types t []) (value_of (built_in t) written) (
    sym (ap (λ (chain : List Declared). single_is_valued (ended_meaning s.types t chain) written) (no_bases s.types (length s.types) t e))
    ∙ sym (ap (λ (found : Option Declared). is_ok (values_at (meaning_of_content s.types t (option_map (λ (declared : Declared). declared.content) found)) written)) e)
    ∙ h
    )

read_is_plain : (s : SchemaSet) (b : Builtin) (written : List ℕ) → is_ok (value_of b written) ≡ true → IsAmongTypes (names.Builtin b) (plain_types s)
read_is_plain s AnyType written h = absurd (true≢false (sym h))
read_is_plain s Untyped written h = absurd (true≢false (sym h))
read_is_plain s AnySimple written h = absurd (true≢false (sym h))
read_is_plain s AnyAtomic written h = absurd (true≢false (sym h))
read_is_plain s _ written h = refl

-- a type is declared where a text has values at it
is_declared_where_valued : (s : SchemaSet) (t : TypeName) (written : List ℕ) (found : Option Declared) → own_declaration s.types t ≡ found → built_in t ≡ AnySimple → is_valued s t written ≡ true → is_some found ≡ true
is_declared_where_valued s t written (Some d) e b h = refl
is_declared_where_valued s t written None e b h =
    absurd (true≢false (sym (subst (λ (c : Builtin). is_ok (value_of c written) ≡ true) b (undeclared_is_read s t written e h))))

-- a type at which a text has values
valued_is_plain : (s : SchemaSet) (t : TypeName) (written : List ℕ) → is_valued s t written ≡ true → IsAmongTypes t (plain_types s)
valued_is_plain s (names.Builtin b) written h = read_is_plain s b written (undeclared_is_read s (names.Builtin b) written refl h)
valued_is_plain s (names.Named n) written h =
    declared_is_listed s.types (names.Named n) (is_declared_where_valued s (names.Named n) written (declaration_among s.types (names.Named n)) refl refl h)
valued_is_plain s (names.Anonymous n) written h =
    declared_is_listed s.types (names.Anonymous n) (is_declared_where_valued s (names.Anonymous n) written (declaration_among s.types (names.Anonymous n)) refl refl h)

-- ---- nodes

element_is_well_formed : (s : SchemaSet) (n : Name) (k : TypeName) (l : List Attribute) (ts : PlainTrees) → IsTyped s (element n k l ts) → IsAmongTypes k (element_types s)
element_is_well_formed s n k l ts (inl u) = subst (λ (t : TypeName). IsAmongTypes t (element_types s)) (sym u.0) refl
element_is_well_formed s n k l ts (inr h) =
    let keeps = h.0 in
    ap (λ (b : Bool). same_type_name k (names.Builtin Untyped) || b) (named_is_plain s k keeps.known) ∙ or-true (same_type_name k (names.Builtin Untyped))

document_is_well_formed : (s : SchemaSet) (ts : PlainTrees) → AreTyped s ts → IsWellFormedShape s (shape_of (document ts))
document_is_well_formed s no_trees h = tt
document_is_well_formed s (a_tree (document us) no_trees) h = tt
document_is_well_formed s (a_tree (document us) (a_tree t ts)) h = tt
document_is_well_formed s (a_tree (element n k l us) no_trees) h = element_is_well_formed s n k l us h.0
document_is_well_formed s (a_tree (element n k l us) (a_tree t ts)) h = tt
document_is_well_formed s (a_tree (attribute a) no_trees) h = tt
document_is_well_formed s (a_tree (attribute a) (a_tree t ts)) h = tt
document_is_well_formed s (a_tree (text x) no_trees) h = tt
document_is_well_formed s (a_tree (text x) (a_tree t ts)) h = tt

node_is_well_formed : (s : SchemaSet) (t : PlainTree) → PlaceFact s t → IsWellFormedShape s (shape_of t)
node_is_well_formed s (document ts) h = document_is_well_formed s ts h
node_is_well_formed s (element n k l ts) h = element_is_well_formed s n k l ts h
node_is_well_formed s (attribute a) (inl e) = subst (λ (t : TypeName). IsAmongTypes t (plain_types s)) (sym e) refl
node_is_well_formed s (attribute a) (inr typed) = valued_is_plain s a.kind a.value typed.value
node_is_well_formed s (text x) h = tt

found_is_well_formed : (s : SchemaSet) (forest : Forest) (place : PlainNode) (shape : Shape) (o : Option PlainTree) → IsHonest s forest → node_in forest place ≡ o → option_map shape_of o ≡ Some shape
    → IsWellFormedShape s shape
found_is_well_formed s forest place shape None honest e f = absurd (cc)
found_is_well_formed s forest place shape (Some t) honest e f =
    let same : shape_of t ≡ shape = cc in subst (IsWellFormedShape s) same (node_is_well_formed s t (place_fact s forest place t honest e))

item_is_well_formed : (s : SchemaSet) (forest : Forest) (x : Item) (shape : Shape) → IsHonest s forest → item_shape forest x ≡ Some shape → ItemFits s x → IsWellFormedShape s shape
item_is_well_formed s forest (atom a) shape honest e f =
    let same : shapes.Atom a.kind ≡ shape = cc in subst (IsWellFormedShape s) same (value_is_plain s a.value a.kind f)
item_is_well_formed s forest (node place) shape honest e f = found_is_well_formed s forest place shape (node_in forest place) honest refl e

-- ---- values

shapes_are_well_formed : (s : SchemaSet) (forest : Forest) (xs : Items) (ss : List Shape) → IsHonest s forest → HaveShapes s forest xs ss → EachShape (IsWellFormedShape s) ss
shapes_are_well_formed s forest [] [] honest h = tt
shapes_are_well_formed s forest [] (shape ∷ ss) honest h = absurd h
shapes_are_well_formed s forest (x ∷ xs) [] honest h = absurd h
shapes_are_well_formed s forest (x ∷ xs) (shape ∷ ss) honest h =
    (item_is_well_formed s forest x shape honest h.0 h.1, shapes_are_well_formed s forest xs ss honest h.2)

-- a value of a type that is included in another one belongs to that
pub included_belongs : (s : SchemaSet) (forest : Forest) (xs : Items) (t u : SequenceType) → Grounded (bases_of s) → IsHonest s forest → is_included s t u ≡ true → Belongs s forest xs t → Belongs s forest xs u
included_belongs s forest xs t u g honest e b = record {
  seen = b.seen;
  shaped = b.shaped;
  taken = (inclusion_is_decided s t u g).0 e b.seen (shapes_are_well_formed s forest xs b.seen honest b.shaped) b.taken;
}
