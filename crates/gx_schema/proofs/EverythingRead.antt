-- Every declaration that is written within the profile is read.
use Rattle.std.proofs.Common.{◌≡◌, ◌∙◌, ℕ, ◌+◌, Bool, true, false, ◌||◌, List, [], ◌∷◌, ◌++◌, None, Some, inl, inr, refl, sym, ap, subst, if◌then◌else◌}
use Rattle.std.specs.Prelude.{bytes_eq, codes, option_map}
use Rattle.std.proofs.lemmas.Bool.{true≢false}
use Rattle.gx_base.specs.declared.name.Name.{Name}
use Rattle.gx_base.specs.declared.type_name.TypeName.TheVariants as names
use Rattle.gx_types.specs.SchemaInvariant.{HoldsOfEach, is_built_in}
use Rattle.gx_xml.specs.declared.source.Declaration.{Declaration}
use Rattle.gx_xml.specs.declared.source.Source.{Source}
use Rattle.gx_xml.specs.SourceTree.{SourceTree, SourceContents, source, no_content, a_child, a_text, tree_name}
use Rattle.gx_schema_syntax.specs.declared.context.Context.{Context}
use Rattle.gx_schema_syntax.specs.declared.numbers.Numbers.{Numbers}
use Rattle.gx_schema_syntax.specs.declared.parts.Seen.{Seen}
use Rattle.gx_schema_syntax.specs.declared.parts.Slot.{Slot}
use Rattle.gx_schema_syntax.specs.declared.parts.Slot.TheVariants.{Repeated}
use Rattle.gx_schema_syntax.specs.declared.role.Role.TheVariants as roles
use Rattle.gx_schema_syntax.specs.declared.written.ComplexTypeDefinition.{ComplexTypeDefinition}
use Rattle.gx_schema_syntax.specs.declared.written.ContentKind.TheVariants as content
use Rattle.gx_schema_syntax.specs.declared.written.GlobalDeclaration.{GlobalDeclaration}
use Rattle.gx_schema_syntax.specs.declared.written.SimpleTypeDefinition.{SimpleTypeDefinition}
use Rattle.gx_schema_syntax.specs.declared.written.SimpleTypeDefinition.TheVariants as simple
use Rattle.gx_schema_syntax.specs.declared.written.TypeDeclaration.{TypeDeclaration}
use Rattle.gx_schema_syntax.specs.declared.written.TypeDefinition.TheVariants.{Simple, Complex}
use Rattle.gx_schema_syntax.specs.declared.written.TypeReference.{TypeReference}
use Rattle.gx_schema_syntax.specs.declared.written.WrittenFacet.{WrittenFacet}
use Rattle.gx_schema_syntax.specs.Attributes.{allowed_attributes, form_of}
use Rattle.gx_schema_syntax.specs.Contents.{given_value, is_given}
use Rattle.gx_schema_syntax.specs.Declarations.{name_written, type_named}
use Rattle.gx_schema_syntax.specs.DocumentTree.{DocumentTree}
use Rattle.gx_schema_syntax.specs.Documents.{document_context, document_written, documents_written, global_attribute, global_attribute_group, global_element, global_group, global_written, globals_written}
use Rattle.gx_schema_syntax.specs.Numbers.{first_numbers, numbers_behind, numbers_inside}
use Rattle.gx_schema_syntax.specs.Outside.{is_value, outside_among, outside_element, outside_root, seen_before}
use Rattle.gx_schema_syntax.specs.Parts.{parts_of, role_in, seen_after, slot_of}
use Rattle.gx_schema_syntax.specs.Profile.{outside_files}
use Rattle.gx_schema_syntax.specs.Types.{Opened, body_of, complex_type_by, definition_written, derived_body, facets_written, first_part, is_part_named, is_true, next_element, own_type, simple_type_by, type_declaration, types_among, types_written}
use Rattle.gx_schema_syntax.specs.Words.{is_annotation, is_schema_element, shown_name}
use Rattle.gx_schema_components.specs.DeclaredNames.{declarations_in, types_in}
use Rattle.gx_schema.specs.Import.{AreWithinProfile, documents_of}
use Rattle.gx_schema.proofs.Lists.{first_none, holds_append, mapped_none, second_none}
use Rattle.gx_schema.proofs.AnonymousTypes.{AreAmong, among_behind, among_front, among_inside, no_type}
use Rattle.gx_schema.proofs.InsideProfile.{IsPartInside, element_inside, not_given, not_named, part_inside, slot_is}
use Rattle.gx_schema.proofs.NamedTypes.{base_is_read}
use Rattle.gx_schema.proofs.ReadDeclarations.{HoldsDeclaration, HoldsGlobal, IsAttributeType, IsElementType, IsEverythingRead, IsReadDeclaration, IsReadDefinition, base_written, is_read_base, is_read_derivation}
use Rattle.gx_schema.proofs.ReadKinds.{attribute_is_read, content_holds, element_is_read, members_hold, types_hold}

-- ---- type declarations

body_is_read : (in_simple in_complex : Bool) (part : Opened) (scope : List Declaration) (at : Numbers) (cs : SourceContents) →
    is_read_derivation (if in_simple then derived_body content.Simple (first_part part.contents) (part.declarations ++ scope) (next_element at)
    else (if in_complex then derived_body content.Complex (first_part part.contents) (part.declarations ++ scope) (next_element at)
    else record { derivation = None; scope = scope; numbers = at; contents = cs })).derivation ≡ true
body_is_read true in_complex part scope at cs = let inner = first_part part.contents in base_is_read (codes "base") (inner.declarations ++ (part.declarations ++ scope)) inner.attributes
body_is_read false true part scope at cs = let inner = first_part part.contents in base_is_read (codes "base") (inner.declarations ++ (part.declarations ++ scope)) inner.attributes
body_is_read false false part scope at cs = refl

simple_is_read : (is_list : Bool) (place other : ℕ) (item base : TypeReference) (facets : List WrittenFacet) → is_read_base item ≡ true → is_read_base base ≡ true →
    is_read_base (base_written (if is_list then simple.List place item else simple.Restriction other base facets)) ≡ true
simple_is_read true place other item base facets h k = h
simple_is_read false place other item base facets h k = k

definition_by : (is_complex : Bool) (c : ComplexTypeDefinition) (s : SimpleTypeDefinition) → is_read_derivation c.derivation ≡ true → is_read_base (base_written s) ≡ true →
    IsReadDefinition (if is_complex then Complex c else Simple s)
definition_by true c s h k = h
definition_by false c s h k = k

definition_is_read : (x : Context) (scope : List Declaration) (at : Numbers) (t : SourceTree) → IsReadDefinition (definition_written x scope at t)
definition_is_read x scope at (source name declarations attributes cs) =
    let inner : List Declaration = declarations ++ scope in
    let numbers : Numbers = numbers_inside at (source name declarations attributes cs) in
    let part : Opened = first_part cs in
    definition_by (is_schema_element (codes "complexType") name) (complex_type_by x (is_true (given_value (codes "mixed") attributes)) (body_of inner numbers cs)) (simple_type_by part inner numbers)
    (body_is_read (is_part_named (codes "simpleContent") part) (is_part_named (codes "complexContent") part) part inner numbers cs)
    (simple_is_read (is_part_named (codes "list") part) numbers.element numbers.element (type_named (codes "itemType") (part.declarations ++ inner) part.attributes)
    (type_named (codes "base") (part.declarations ++ inner) part.attributes) (facets_written (next_element numbers) part.contents)
    (base_is_read (codes "itemType") (part.declarations ++ inner) part.attributes) (base_is_read (codes "base") (part.declarations ++ inner) part.attributes))

is_own : (given : Bool) (name : Name) (number : ℕ) → is_built_in (if given then names.Named name else names.Anonymous number) ≡ false
is_own true name number = refl
is_own false name number = refl

declaration_is_read : (x : Context) (scope : List Declaration) (at : Numbers) (t : SourceTree) → IsReadDeclaration (type_declaration x scope at t)
declaration_is_read x scope at (source name declarations attributes cs) = record {
  own = is_own (is_given (codes "name") attributes) (name_written x.target attributes) at.anonymous;
  definition = definition_is_read x scope at (source name declarations attributes cs);
}

types_unless : (b : Bool) (xs : List TypeDeclaration) → HoldsOfEach IsReadDeclaration xs → HoldsOfEach IsReadDeclaration (if b then [] else xs)
types_unless true xs h = tt
types_unless false xs h = h

type_if : (b : Bool) (d : TypeDeclaration) → IsReadDeclaration d → HoldsOfEach IsReadDeclaration (if b then d ∷ [] else [])
type_if true d h = (h, tt)
type_if false d h = tt

mutual
  types_are_read : (x : Context) (scope : List Declaration) (at : Numbers) (t : SourceTree) → HoldsOfEach IsReadDeclaration (types_written x scope at t)
  types_are_read x scope at (source name declarations attributes cs) =
      types_unless (is_annotation name) _
      (holds_append IsReadDeclaration (own_type x scope at (source name declarations attributes cs)) (types_among x (declarations ++ scope) (numbers_inside at (source name declarations attributes cs)) cs)
      (type_if (is_schema_element (codes "complexType") name || is_schema_element (codes "simpleType") name) (type_declaration x scope at (source name declarations attributes cs))
      (declaration_is_read x scope at (source name declarations attributes cs)))
      (types_among_are_read x (declarations ++ scope) (numbers_inside at (source name declarations attributes cs)) cs))

  types_among_are_read : (x : Context) (scope : List Declaration) (at : Numbers) (cs : SourceContents) → HoldsOfEach IsReadDeclaration (types_among x scope at cs)
  types_among_are_read x scope at no_content = tt
  types_among_are_read x scope at (a_text text cs) = types_among_are_read x scope at cs
  types_among_are_read x scope at (a_child t cs) =
      holds_append IsReadDeclaration (types_written x scope at t) (types_among x scope (numbers_behind at t) cs) (types_are_read x scope at t) (types_among_are_read x scope (numbers_behind at t) cs)

-- ---- global declarations

no_element_reference : form_of roles.GlobalElement (codes "ref") ≡ None
unfolding allowed_attributes
no_element_reference = refl

no_attribute_reference : form_of roles.GlobalAttribute (codes "ref") ≡ None
unfolding allowed_attributes
no_attribute_reference = refl

no_attribute_use : form_of roles.GlobalAttribute (codes "use") ≡ None
unfolding allowed_attributes
no_attribute_use = refl

element_role : slot_of roles.Schema (codes "element") ≡ Some (Repeated roles.GlobalElement)
unfolding parts_of
element_role = refl

attribute_role : slot_of roles.Schema (codes "attribute") ≡ Some (Repeated roles.GlobalAttribute)
unfolding parts_of
attribute_role = refl

-- what is asked of the types that a global declaration is written with
abbrev HoldsRead : List TypeDeclaration → GlobalDeclaration → Type 0
HoldsRead all g = HoldsGlobal (IsElementType all) (IsAttributeType all) g

global_by : (Fact : GlobalDeclaration → Type 0) (is_element is_attribute is_group is_attribute_group : Bool) (element attribute group attribute_group : GlobalDeclaration) → (is_element ≡ true → Fact element) →
    (is_attribute ≡ true → Fact attribute) → (is_group ≡ true → Fact group) → (is_attribute_group ≡ true → Fact attribute_group) →
    HoldsOfEach Fact (if is_element then element ∷ [] else (if is_attribute then attribute ∷ [] else (if is_group then group ∷ [] else (if is_attribute_group then attribute_group ∷ [] else []))))
global_by Fact true is_attribute is_group is_attribute_group element attribute group attribute_group h k l m = (h refl, tt)
global_by Fact false true is_group is_attribute_group element attribute group attribute_group h k l m = (k refl, tt)
global_by Fact false false true is_attribute_group element attribute group attribute_group h k l m = (l refl, tt)
global_by Fact false false false true element attribute group attribute_group h k l m = (m refl, tt)
global_by Fact false false false false element attribute group attribute_group h k l m = tt

global_is_read : (x : Context) (all : List TypeDeclaration) (scope : List Declaration) (at : Numbers) (seen : Seen) (t : SourceTree) (cs : SourceContents) → is_annotation (tree_name t) ≡ false → IsPartInside scope roles.Schema seen t cs →
    AreAmong all (types_written x scope at t) → HoldsOfEach (HoldsRead all) (global_written x scope at t)
global_is_read x all scope at seen (source name declarations attributes inner) cs plain part among =
    let t : SourceTree = source name declarations attributes inner in
    let wide : List Declaration = declarations ++ scope in
    let within = among_inside all x scope at name declarations attributes inner plain among in
    let inside = element_inside scope (role_in part.slot) name declarations attributes inner part.element in
    global_by (HoldsRead all) (is_schema_element (codes "element") name) (is_schema_element (codes "attribute") name) (is_schema_element (codes "group") name) (is_schema_element (codes "attributeGroup") name)
    (global_element x wide at t) (global_attribute x wide at t) (global_group x wide at t) (global_attribute_group x wide at t)
    (λ named.
    let slot = slot_is seen roles.Schema (codes "element") (Repeated roles.GlobalElement) element_role name declarations attributes inner part.slot named part.fitting in
    let own = element_inside scope roles.GlobalElement name declarations attributes inner (subst (λ (s : Slot). outside_element scope (role_in s) t ≡ None) (sym slot) part.element) in
    element_is_read x all wide wide wide at roles.GlobalElement name declarations attributes inner refl (no_type (codes "element") name refl refl named) own
    (not_given wide roles.GlobalElement (codes "ref") no_element_reference refl attributes own.attributes_inside) within)
    (λ named.
    let slot = slot_is seen roles.Schema (codes "attribute") (Repeated roles.GlobalAttribute) attribute_role name declarations attributes inner part.slot named part.fitting in
    let own = element_inside scope roles.GlobalAttribute name declarations attributes inner (subst (λ (s : Slot). outside_element scope (role_in s) t ≡ None) (sym slot) part.element) in
    attribute_is_read x all wide wide wide at roles.GlobalAttribute name declarations attributes inner refl (no_type (codes "attribute") name refl refl named) own
    (not_given wide roles.GlobalAttribute (codes "ref") no_attribute_reference refl attributes own.attributes_inside)
    (ap (is_value (codes "prohibited")) (not_given wide roles.GlobalAttribute (codes "use") no_attribute_use refl attributes own.attributes_inside)) within)
    (λ named. content_holds x all wide wide (numbers_inside at t) (role_in part.slot) (seen_before (role_in part.slot) attributes) inner inside.parts within)
    (λ named. members_hold x all wide wide (numbers_inside at t) (role_in part.slot) (seen_before (role_in part.slot) attributes) inner inside.parts within)

-- an annotation is not one
no_global : (word : List ℕ) (t : SourceTree) (g : GlobalDeclaration) (Fact : GlobalDeclaration → Type 0) → bytes_eq (codes "annotation") word ≡ false → is_annotation (tree_name t) ≡ true → is_schema_element word (tree_name t) ≡ true → Fact g
no_global word t g Fact other a named = absurd (true≢false (sym named ∙ not_named (codes "annotation") word (tree_name t) other a))

annotation_is_no_global : (x : Context) (all : List TypeDeclaration) (scope : List Declaration) (at : Numbers) (t : SourceTree) → is_annotation (tree_name t) ≡ true → HoldsOfEach (HoldsRead all) (global_written x scope at t)
annotation_is_no_global x all scope at (source name declarations attributes inner) a =
    let t : SourceTree = source name declarations attributes inner in
    let wide : List Declaration = declarations ++ scope in
    global_by (HoldsRead all) (is_schema_element (codes "element") name) (is_schema_element (codes "attribute") name) (is_schema_element (codes "group") name) (is_schema_element (codes "attributeGroup") name)
    (global_element x wide at t) (global_attribute x wide at t) (global_group x wide at t) (global_attribute_group x wide at t)
    (no_global (codes "element") t (global_element x wide at t) (HoldsRead all) refl a) (no_global (codes "attribute") t (global_attribute x wide at t) (HoldsRead all) refl a)
    (no_global (codes "group") t (global_group x wide at t) (HoldsRead all) refl a) (no_global (codes "attributeGroup") t (global_attribute_group x wide at t) (HoldsRead all) refl a)

globals_are_read : (x : Context) (all : List TypeDeclaration) (scope : List Declaration) (at : Numbers) (seen : Seen) (cs : SourceContents) → outside_among scope roles.Schema seen cs ≡ None →
    AreAmong all (types_among x scope at cs) → HoldsOfEach (HoldsRead all) (globals_written x scope at cs)
globals_are_read x all scope at seen no_content e among = tt
globals_are_read x all scope at seen (a_text text cs) e among = globals_are_read x all scope at seen cs e among
globals_are_read x all scope at seen (a_child t cs) e among =
    let front = among_front all (types_written x scope at t) (types_among x scope (numbers_behind at t) cs) among in
    let behind = among_behind all (types_written x scope at t) (types_among x scope (numbers_behind at t) cs) among in
    elim (part_inside scope roles.Schema seen t cs e (is_annotation (tree_name t)) refl) [
      | inl (a, rest) ↦ holds_append (HoldsRead all) (global_written x scope at t) (globals_written x scope (numbers_behind at t) cs)
          (annotation_is_no_global x all scope at t a) (globals_are_read x all scope (numbers_behind at t) seen cs rest behind)
      | inr (a, part) ↦ holds_append (HoldsRead all) (global_written x scope at t) (globals_written x scope (numbers_behind at t) cs)
          (global_is_read x all scope at seen t cs a part front) (globals_are_read x all scope (numbers_behind at t) (seen_after part.slot) cs part.others behind)
    ]

-- ---- documents

root_by : (is_schema : Bool) (scope : List Declaration) (t : SourceTree) (shown : List ℕ) → (if is_schema then outside_element scope roles.Schema t else Some shown) ≡ None → (is_schema ≡ true) × (outside_element scope roles.Schema t ≡ None)
root_by true scope t shown e = (refl, e)
root_by false scope t shown e = absurd (cc)

-- what is asked of a document
record IsReadDocument (all : List TypeDeclaration) (document : DocumentTree) : Type 0 where
  kinds : HoldsOfEach (HoldsDeclaration (IsElementType all) (IsAttributeType all)) document.types
  globals : HoldsOfEach (HoldsRead all) document.declarations

document_is_read : (all : List TypeDeclaration) (at : Numbers) (t : SourceTree) → outside_root t ≡ None → AreAmong all (document_written at t).types → IsReadDocument all (document_written at t)
document_is_read all at (source name declarations attributes cs) e among =
    let x : Context = document_context attributes in
    let t : SourceTree = source name declarations attributes cs in
    let root = root_by (is_schema_element (codes "schema") name) [] t (shown_name name) e in
    let inside = element_inside [] roles.Schema name declarations attributes cs root.1 in
    let plain = not_named (codes "schema") (codes "annotation") name refl root.0 in
    record {
      kinds = types_hold x all [] [] at roles.Schema t root.1 among;
      globals = globals_are_read x all (declarations ++ []) (numbers_inside at t) (seen_before roles.Schema attributes) cs inside.parts (among_inside all x [] at name declarations attributes cs plain among);
    }

documents_are_read : (all : List TypeDeclaration) (at : Numbers) (number : ℕ) (files : List Source) → outside_files number files ≡ None → AreAmong all (types_in (documents_written at files)) →
    HoldsOfEach (HoldsDeclaration (IsElementType all) (IsAttributeType all)) (types_in (documents_written at files)) × HoldsOfEach (HoldsRead all) (declarations_in (documents_written at files))
documents_are_read all at number [] e among = (tt, tt)
documents_are_read all at number (f ∷ files) e among =
    let document : DocumentTree = document_written at f.root in
    let others : List DocumentTree = documents_written (numbers_behind at f.root) files in
    let shown : List ℕ → ℕ × List ℕ = λ name. (number, name) in
    let here = mapped_none shown (outside_root f.root) (first_none (option_map shown (outside_root f.root)) (outside_files (number + 1) files) e) in
    let behind = second_none (option_map shown (outside_root f.root)) (outside_files (number + 1) files) e in
    let own = document_is_read all at f.root here (among_front all document.types (types_in others) among) in
    let rest = documents_are_read all (numbers_behind at f.root) (number + 1) files behind (among_behind all document.types (types_in others) among) in (
      holds_append (HoldsDeclaration (IsElementType all) (IsAttributeType all)) document.types (types_in others) own.kinds rest.0,
      holds_append (HoldsRead all) document.declarations (declarations_in others) own.globals rest.1,
    )

document_types : (at : Numbers) (t : SourceTree) → HoldsOfEach IsReadDeclaration (document_written at t).types
document_types at (source name declarations attributes cs) = types_are_read (document_context attributes) [] at (source name declarations attributes cs)

types_of_documents : (at : Numbers) (files : List Source) → HoldsOfEach IsReadDeclaration (types_in (documents_written at files))
types_of_documents at [] = tt
types_of_documents at (f ∷ files) =
    let document : DocumentTree = document_written at f.root in
    holds_append IsReadDeclaration document.types (types_in (documents_written (numbers_behind at f.root) files)) (document_types at f.root) (types_of_documents (numbers_behind at f.root) files)

pub everything_read : (documents : List DocumentTree) → AreWithinProfile documents → IsEverythingRead documents
everything_read documents (files, inside, same) =
    let all = types_in (documents_of files) in
    let kinds = documents_are_read all first_numbers 0 files inside (λ test h. h) in
    subst IsEverythingRead (sym same) (record {
      types = types_of_documents first_numbers files;
      kinds = kinds.0;
      globals = kinds.1;
    })
