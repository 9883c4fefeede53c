-- Types without a name that stand within elements and attributes: each is the one of the next number.
use Rattle.std.proofs.Common.{◌≡◌, ◌∙◌, ℕ, ◌+◌, Bool, true, false, not, ◌&&◌, ◌||◌, List, [], ◌∷◌, ◌++◌, Option, None, Some, inl, inr, refl, sym, ap, subst, if◌then◌else◌}
use Rattle.std.specs.Prelude.{bytes_eq, codes, is_some}
use Rattle.std.specs.List.{list_any}
use Rattle.std.specs.Str.{encode_utf8_all}
use Rattle.std.proofs.lemmas.Bool.{true≢false}
use Rattle.std.proofs.lemmas.List.Folds.{list_any-append}
use Rattle.gx_base.specs.declared.name.Name.{Name}
use Rattle.gx_base.specs.declared.type_name.TypeName.TheVariants as names
use Rattle.gx_types.specs.SameItemType.{same_type_name}
use Rattle.gx_types.proofs.EqualNames.{type_name_itself}
use Rattle.gx_xml.specs.declared.source.Declaration.{Declaration}
use Rattle.gx_xml.specs.declared.source.SourceAttribute.{SourceAttribute}
use Rattle.gx_xml.specs.SourceTree.{SourceTree, SourceContents, source, no_content, a_child, a_text, tree_name}
use Rattle.gx_qnames.specs.Words.{is_schema_uri}
use Rattle.gx_schema_syntax.specs.declared.context.Context.{Context}
use Rattle.gx_schema_syntax.specs.declared.numbers.Numbers.{Numbers}
use Rattle.gx_schema_syntax.specs.declared.parts.Seen.{Seen}
use Rattle.gx_schema_syntax.specs.declared.parts.Slot.{Slot}
use Rattle.gx_schema_syntax.specs.declared.parts.Slot.TheVariants.{Alone}
use Rattle.gx_schema_syntax.specs.declared.role.Role.{Role}
use Rattle.gx_schema_syntax.specs.declared.role.Role.TheVariants as roles
use Rattle.gx_schema_syntax.specs.declared.written.TypeDeclaration.{TypeDeclaration}
use Rattle.gx_schema_syntax.specs.declared.written.TypeDefinition.{TypeDefinition}
use Rattle.gx_schema_syntax.specs.declared.written.TypeDefinition.TheVariants.{Simple, Complex}
use Rattle.gx_schema_syntax.specs.Attributes.{allowed_attributes, form_of}
use Rattle.gx_schema_syntax.specs.Contents.{given_value, holds_named, is_given}
use Rattle.gx_schema_syntax.specs.Declarations.{name_written}
use Rattle.gx_schema_syntax.specs.Numbers.{numbers_behind, numbers_inside}
use Rattle.gx_schema_syntax.specs.Outside.{outside_among, slot_in}
use Rattle.gx_schema_syntax.specs.Parts.{parts_of, role_in, slot_of}
use Rattle.gx_schema_syntax.specs.Types.{body_of, complex_type_by, definition_written, first_part, is_true, own_type, simple_type_by, type_declaration, types_among, types_written}
use Rattle.gx_schema_syntax.specs.Words.{is_annotation, is_schema_element}
use Rattle.gx_schema.proofs.InsideProfile.{IsPartInside, element_inside, not_given, not_named, one_slot, or_right, part_inside, slot_by, slot_there}
use Rattle.gx_schema.proofs.PartRoles.{is_attribute_role, is_element_role, named_by}
use Rattle.gx_schema.proofs.ReadDeclarations.{any_definition, is_anonymous, is_simple_definition}

-- ---- types that stand among others

pub any_left : (test : TypeDeclaration → Bool) (xs ys : List TypeDeclaration) → list_any test xs ≡ true → list_any test (xs ++ ys) ≡ true
any_left test xs ys h = list_any-append test xs ys ∙ ap (λ (b : Bool). b || list_any test ys) h

pub any_right : (test : TypeDeclaration → Bool) (xs ys : List TypeDeclaration) → list_any test ys ≡ true → list_any test (xs ++ ys) ≡ true
any_right test xs ys h = list_any-append test xs ys ∙ or_right (list_any test xs) (list_any test ys) h

-- types that are written stand among all
abbrev pub AreAmong : (all written : List TypeDeclaration) → Type 0
AreAmong all written = (test : TypeDeclaration → Bool) → list_any test written ≡ true → list_any test all ≡ true

pub among_front : (all xs ys : List TypeDeclaration) → AreAmong all (xs ++ ys) → AreAmong all xs
among_front all xs ys among test h = among test (any_left test xs ys h)

pub among_behind : (all xs ys : List TypeDeclaration) → AreAmong all (xs ++ ys) → AreAmong all ys
among_behind all xs ys among test h = among test (any_right test xs ys h)

any_unless : (b : Bool) (test : TypeDeclaration → Bool) (xs : List TypeDeclaration) → b ≡ false → list_any test xs ≡ true → list_any test (if b then [] else xs) ≡ true
any_unless true test xs a h = absurd (cc)
any_unless false test xs a h = h

-- the types in an element other than an annotation
pub among_inside : (all : List TypeDeclaration) (x : Context) (scope : List Declaration) (at : Numbers) (name : Name) (declarations : List Declaration) (attributes : List SourceAttribute) (cs : SourceContents) → is_annotation name ≡ false →
    AreAmong all (types_written x scope at (source name declarations attributes cs)) →
    AreAmong all (types_among x (declarations ++ scope) (numbers_inside at (source name declarations attributes cs)) cs)
among_inside all x scope at name declarations attributes cs a among test h =
    let own = own_type x scope at (source name declarations attributes cs) in
    let inside = types_among x (declarations ++ scope) (numbers_inside at (source name declarations attributes cs)) cs in
    among test (any_unless (is_annotation name) test (own ++ inside) a (any_right test own inside h))

-- ---- numbers

numbers_unless : (b : Bool) (at other : Numbers) → b ≡ true → (if b then at else other) ≡ at
numbers_unless true at other h = refl
numbers_unless false at other h = absurd (cc)

-- an annotation numbers nothing
pub annotation_numbers : (at : Numbers) (t : SourceTree) → is_annotation (tree_name t) ≡ true → numbers_behind at t ≡ at
annotation_numbers at (source name declarations attributes cs) a = numbers_unless (is_annotation name) at _ a

abbrev pub is_type : Name → Bool
is_type name = is_schema_element (codes "complexType") name || is_schema_element (codes "simpleType") name

-- an element of another name is no type
pub no_type : (word : List ℕ) (name : Name) → bytes_eq word (codes "complexType") ≡ false → bytes_eq word (codes "simpleType") ≡ false → is_schema_element word name ≡ true → is_type name ≡ false
no_type word name c s named =
    ap (λ (b : Bool). b || is_schema_element (codes "simpleType") name) (not_named word (codes "complexType") name c named) ∙ not_named word (codes "simpleType") name s named

-- it takes no number of a type
pub numbers_same : (at : Numbers) (name : Name) (declarations : List Declaration) (attributes : List SourceAttribute) (cs : SourceContents) → is_type name ≡ false →
    (numbers_inside at (source name declarations attributes cs)).anonymous ≡ at.anonymous
numbers_same at name declarations attributes cs other = ap (λ (b : Bool). if b && not (is_given (codes "name") attributes) then at.anonymous + 1 else at.anonymous) other

-- ---- the type in an element or an attribute

abbrev pub holds_type : SourceContents → Bool
holds_type cs = holds_named (codes "complexType") cs || holds_named (codes "simpleType") cs

-- a part of an element or an attribute is a type without a name, and its definition is a wanted one
pub record IsTypePart (wanted : TypeDefinition → Bool) (name : Name) (slot : Slot) : Type 0 where
  pub typed : is_type name ≡ true
  pub unnamed : form_of (role_in slot) (codes "name") ≡ None
  pub defined : (x : Context) (scope : List Declaration) (at : Numbers) (declarations : List Declaration) (attributes : List SourceAttribute) (cs : SourceContents) → wanted (definition_written x scope at (source name declarations attributes cs)) ≡ true

abbrev pub HoldsTypes : (TypeDefinition → Bool) → Role → Type 0
HoldsTypes wanted role = (name : Name) (slot : Slot) → is_schema_uri name.uri ≡ true → slot_of role (encode_utf8_all name.local) ≡ Some slot → IsTypePart wanted name slot

complex_unnamed : form_of roles.AnonymousComplexType (codes "name") ≡ None
unfolding allowed_attributes
complex_unnamed = refl

simple_unnamed : form_of roles.AnonymousSimpleType (codes "name") ≡ None
unfolding allowed_attributes
simple_unnamed = refl

complex_part : (name : Name) → is_schema_uri name.uri ≡ true → bytes_eq (codes "complexType") (encode_utf8_all name.local) ≡ true → IsTypePart any_definition name (Alone roles.AnonymousComplexType)
complex_part name u e = record {
  typed = ap (λ (b : Bool). b || is_schema_element (codes "simpleType") name) (named_by (codes "complexType") name u e);
  unnamed = complex_unnamed;
  defined = λ x scope at declarations attributes cs. refl;
}

any_simple_part : (name : Name) → is_schema_uri name.uri ≡ true → bytes_eq (codes "simpleType") (encode_utf8_all name.local) ≡ true → IsTypePart any_definition name (Alone roles.AnonymousSimpleType)
any_simple_part name u e = record {
  typed = or_right (is_schema_element (codes "complexType") name) (is_schema_element (codes "simpleType") name) (named_by (codes "simpleType") name u e);
  unnamed = simple_unnamed;
  defined = λ x scope at declarations attributes cs. refl;
}

simple_where_not_complex : (b : Bool) (one other : TypeDefinition) → b ≡ false → is_simple_definition other ≡ true → is_simple_definition (if b then one else other) ≡ true
simple_where_not_complex true one other e h = absurd (true≢false e)
simple_where_not_complex false one other e h = h

simple_part : (name : Name) → is_schema_uri name.uri ≡ true → bytes_eq (codes "simpleType") (encode_utf8_all name.local) ≡ true → IsTypePart is_simple_definition name (Alone roles.AnonymousSimpleType)
simple_part name u e =
    let named = named_by (codes "simpleType") name u e in
    record {
      typed = or_right (is_schema_element (codes "complexType") name) (is_schema_element (codes "simpleType") name) named;
      unnamed = simple_unnamed;
      defined = λ x scope at declarations attributes cs.
          simple_where_not_complex (is_schema_element (codes "complexType") name)
          (Complex (complex_type_by x (is_true (given_value (codes "mixed") attributes)) (body_of (declarations ++ scope) (numbers_inside at (source name declarations attributes cs)) cs)))
          (Simple (simple_type_by (first_part cs) (declarations ++ scope) (numbers_inside at (source name declarations attributes cs))))
          (not_named (codes "simpleType") (codes "complexType") name refl named) refl;
    }

element_slot : (name : Name) (slot : Slot) → is_schema_uri name.uri ≡ true → (c s : Bool) → bytes_eq (codes "complexType") (encode_utf8_all name.local) ≡ c → bytes_eq (codes "simpleType") (encode_utf8_all name.local) ≡ s →
    (if c then Some (Alone roles.AnonymousComplexType) else (if s then Some (Alone roles.AnonymousSimpleType) else None)) ≡ Some slot → IsTypePart any_definition name slot
element_slot name slot u true s c_is s_is e = subst (IsTypePart any_definition name) (one_slot (Alone roles.AnonymousComplexType) slot e) (complex_part name u c_is)
element_slot name slot u false true c_is s_is e = subst (IsTypePart any_definition name) (one_slot (Alone roles.AnonymousSimpleType) slot e) (any_simple_part name u s_is)
element_slot name slot u false false c_is s_is e = absurd (cc)

attribute_slot : (name : Name) (slot : Slot) → is_schema_uri name.uri ≡ true → (s : Bool) → bytes_eq (codes "simpleType") (encode_utf8_all name.local) ≡ s →
    (if s then Some (Alone roles.AnonymousSimpleType) else None) ≡ Some slot → IsTypePart is_simple_definition name slot
attribute_slot name slot u true s_is e = subst (IsTypePart is_simple_definition name) (one_slot (Alone roles.AnonymousSimpleType) slot e) (simple_part name u s_is)
attribute_slot name slot u false s_is e = absurd (cc)

pub elements_hold_types : (role : Role) → is_element_role role ≡ true → HoldsTypes any_definition role
unfolding parts_of
elements_hold_types roles.GlobalElement is name slot u e = element_slot name slot u (bytes_eq (codes "complexType") (encode_utf8_all name.local)) (bytes_eq (codes "simpleType") (encode_utf8_all name.local)) refl refl e
elements_hold_types roles.LocalElement is name slot u e = element_slot name slot u (bytes_eq (codes "complexType") (encode_utf8_all name.local)) (bytes_eq (codes "simpleType") (encode_utf8_all name.local)) refl refl e
elements_hold_types _ is name slot u e = absurd (true≢false (sym is))

pub attributes_hold_types : (role : Role) → is_attribute_role role ≡ true → HoldsTypes is_simple_definition role
unfolding parts_of
attributes_hold_types roles.GlobalAttribute is name slot u e = attribute_slot name slot u (bytes_eq (codes "simpleType") (encode_utf8_all name.local)) refl e
attributes_hold_types roles.LocalAttribute is name slot u e = attribute_slot name slot u (bytes_eq (codes "simpleType") (encode_utf8_all name.local)) refl e
attributes_hold_types _ is name slot u e = absurd (true≢false (sym is))

-- a type without a name has the number of where it stands
own_is_anonymous : (wanted : TypeDefinition → Bool) (x : Context) (scope : List Declaration) (at : Numbers) (name : Name) (declarations : List Declaration) (attributes : List SourceAttribute) (cs : SourceContents) →
    is_type name ≡ true → given_value (codes "name") attributes ≡ None → wanted (definition_written x scope at (source name declarations attributes cs)) ≡ true →
    list_any (is_anonymous wanted at.anonymous) (own_type x scope at (source name declarations attributes cs)) ≡ true
own_is_anonymous wanted x scope at name declarations attributes cs typed unnamed defined =
    let t : SourceTree = source name declarations attributes cs in
    ap (λ (b : Bool). list_any (is_anonymous wanted at.anonymous) (if b then type_declaration x scope at t ∷ [] else [])) typed
    ∙ ap (λ (b : Bool). (b && same_type_name (type_declaration x scope at t).name (names.Anonymous at.anonymous)) || false) defined
    ∙ ap (λ (o : Option (List ℕ)). same_type_name (if is_some o then names.Named (name_written x.target attributes) else names.Anonymous at.anonymous) (names.Anonymous at.anonymous) || false) unnamed
    ∙ ap (λ (b : Bool). b || false) (type_name_itself (names.Anonymous at.anonymous))

-- an annotation holds no type that counts
annotation_holds : (t : SourceTree) (cs : SourceContents) → is_annotation (tree_name t) ≡ true → holds_type (a_child t cs) ≡ holds_type cs
annotation_holds t cs a =
    ap (λ (b : Bool). (b || holds_named (codes "complexType") cs) || (is_schema_element (codes "simpleType") (tree_name t) || holds_named (codes "simpleType") cs))
    (not_named (codes "annotation") (codes "complexType") (tree_name t) refl a)
    ∙ ap (λ (b : Bool). holds_named (codes "complexType") cs || (b || holds_named (codes "simpleType") cs)) (not_named (codes "annotation") (codes "simpleType") (tree_name t) refl a)

part_is_anonymous : (wanted : TypeDefinition → Bool) (x : Context) (scope wide : List Declaration) (at : Numbers) (role : Role) (seen : Seen) (t : SourceTree) (cs : SourceContents) → HoldsTypes wanted role → is_annotation (tree_name t) ≡ false →
    IsPartInside scope role seen t cs → list_any (is_anonymous wanted at.anonymous) (types_written x wide at t) ≡ true
part_is_anonymous wanted x scope wide at role seen (source name declarations attributes inner) cs holds a part =
    let there = slot_by (is_schema_uri name.uri) role name.local part.slot (slot_there seen (slot_in (is_schema_uri name.uri) role name.local) part.slot part.fitting) in
    let is = holds name part.slot there.0 there.1 in
    let inside = element_inside scope (role_in part.slot) name declarations attributes inner part.element in
    let unnamed = not_given (declarations ++ scope) (role_in part.slot) (codes "name") is.unnamed refl attributes inside.attributes_inside in
    let own = own_type x wide at (source name declarations attributes inner) in
    let among = types_among x (declarations ++ wide) (numbers_inside at (source name declarations attributes inner)) inner in
    any_unless (is_annotation name) (is_anonymous wanted at.anonymous) (own ++ among) a (any_left (is_anonymous wanted at.anonymous) own among
    (own_is_anonymous wanted x wide at name declarations attributes inner is.typed unnamed (is.defined x wide at declarations attributes inner)))

-- where an element or an attribute holds a type, the first type in it has the next number
pub type_is_there : (wanted : TypeDefinition → Bool) (x : Context) (scope wide : List Declaration) (at : Numbers) (role : Role) (seen : Seen) (cs : SourceContents) → HoldsTypes wanted role → outside_among scope role seen cs ≡ None → holds_type cs ≡ true →
    list_any (is_anonymous wanted at.anonymous) (types_among x wide at cs) ≡ true
type_is_there wanted x scope wide at role seen no_content holds e h = absurd (cc)
type_is_there wanted x scope wide at role seen (a_text text cs) holds e h = type_is_there wanted x scope wide at role seen cs holds e h
type_is_there wanted x scope wide at role seen (a_child t cs) holds e h = elim (part_inside scope role seen t cs e (is_annotation (tree_name t)) refl) [
  | inl (a, rest) ↦ any_right (is_anonymous wanted at.anonymous) (types_written x wide at t) (types_among x wide (numbers_behind at t) cs)
      (subst (λ (n : Numbers). list_any (is_anonymous wanted at.anonymous) (types_among x wide n cs) ≡ true) (sym (annotation_numbers at t a))
      (type_is_there wanted x scope wide at role seen cs holds rest (sym (annotation_holds t cs a) ∙ h)))
  | inr (a, part) ↦ any_left (is_anonymous wanted at.anonymous) (types_written x wide at t) (types_among x wide (numbers_behind at t) cs) (part_is_anonymous wanted x scope wide at role seen t cs holds a part)
]
