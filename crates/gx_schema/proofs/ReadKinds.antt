-- The types that elements and attributes within the profile are written with are there, and those of attributes are simple where they have no name.
use Rattle.std.proofs.Common.{◌≡◌, ◌∙◌, ℕ, Bool, true, false, not, ◌||◌, List, [], ◌∷◌, ◌++◌, Option, None, Some, inl, inr, refl, sym, ap, subst, if◌then◌else◌}
use Rattle.std.specs.Prelude.{bytes_eq, codes, is_some, option_map, unwrap_or}
use Rattle.std.specs.List.{list_any}
use Rattle.std.specs.Str.{encode_utf8_all}
use Rattle.std.proofs.lemmas.Bool.{true≢false}
use Rattle.gx_base.specs.declared.name.Name.{Name}
use Rattle.gx_base.specs.declared.type_name.Builtin.{Builtin}
use Rattle.gx_base.specs.declared.type_name.Builtin.TheVariants as builtins
use Rattle.gx_types.specs.SchemaInvariant.{HoldsOfEach}
use Rattle.gx_xml.specs.declared.source.Declaration.{Declaration}
use Rattle.gx_xml.specs.declared.source.SourceAttribute.{SourceAttribute}
use Rattle.gx_xml.specs.SourceTree.{SourceTree, SourceContents, source, no_content, a_child, a_text, tree_name}
use Rattle.gx_qnames.specs.Words.{has_spelling, is_schema_uri}
use Rattle.gx_schema_syntax.specs.declared.context.Context.{Context}
use Rattle.gx_schema_syntax.specs.declared.numbers.Numbers.{Numbers}
use Rattle.gx_schema_syntax.specs.declared.parts.Seen.{Seen}
use Rattle.gx_schema_syntax.specs.declared.parts.Seen.TheVariants.{Nothing}
use Rattle.gx_schema_syntax.specs.declared.role.Compositor.TheVariants.{Sequence, Choice}
use Rattle.gx_schema_syntax.specs.declared.role.Role.{Role}
use Rattle.gx_schema_syntax.specs.declared.role.Role.TheVariants as roles
use Rattle.gx_schema_syntax.specs.declared.written.AttributeMember.{AttributeMember}
use Rattle.gx_schema_syntax.specs.declared.written.ComplexTypeDefinition.{ComplexTypeDefinition}
use Rattle.gx_schema_syntax.specs.declared.written.ContentKind.{ContentKind}
use Rattle.gx_schema_syntax.specs.declared.written.ContentKind.TheVariants as content
use Rattle.gx_schema_syntax.specs.declared.written.LocalDeclaration.{LocalDeclaration}
use Rattle.gx_schema_syntax.specs.declared.written.SimpleTypeDefinition.{SimpleTypeDefinition}
use Rattle.gx_schema_syntax.specs.declared.written.TypeDeclaration.{TypeDeclaration}
use Rattle.gx_schema_syntax.specs.declared.written.TypeDefinition.{TypeDefinition}
use Rattle.gx_schema_syntax.specs.declared.written.TypeDefinition.TheVariants.{Simple, Complex}
use Rattle.gx_schema_syntax.specs.declared.written.TypeReference.{TypeReference}
use Rattle.gx_schema_syntax.specs.declared.written.TypeReference.TheVariants as types
use Rattle.gx_schema_syntax.specs.declared.written.Usage.{Usage}
use Rattle.gx_schema_syntax.specs.declared.written.Usage.TheVariants as usages
use Rattle.gx_schema_syntax.specs.Contents.{given_value, holds_named}
use Rattle.gx_schema_syntax.specs.Declarations.{bounds_written, declaration_by, declared_kind, group_reference, local_declaration, local_element, local_namespace, particle_written, particles_written, type_in, type_within}
use Rattle.gx_schema_syntax.specs.Numbers.{numbers_behind, numbers_inside}
use Rattle.gx_schema_syntax.specs.Outside.{is_prohibited, is_value, lacks_attribute_type, lacks_element_type, missing_type, outside_among, outside_element, seen_before, slot_in}
use Rattle.gx_schema_syntax.specs.ParticleTree.{ParticleTree, ParticleTrees, a_model_group, a_particle}
use Rattle.gx_schema_syntax.specs.Parts.{role_in, seen_after, slot_of}
use Rattle.gx_schema_syntax.specs.Types.{Body, Opened, attribute_group, attribute_use, body_of, complex_type_by, definition_written, derived_body, first_part, first_particle, is_part_named, is_particle, is_some_named, is_true, member_written, members_written, next_element, nothing_opened, opened, own_type, simple_type_by, type_declaration, types_among, types_written, usage_of}
use Rattle.gx_schema_syntax.specs.Words.{is_annotation, is_schema_element}
use Rattle.gx_schema.proofs.AnonymousTypes.{AreAmong, among_behind, among_front, among_inside, annotation_numbers, attributes_hold_types, elements_hold_types, holds_type, is_type, no_type, numbers_same, type_is_there}
use Rattle.gx_schema.proofs.InsideProfile.{IsElementInside, IsPartInside, element_inside, not_named, or_right, part_inside, slot_by, slot_there, spelled}
use Rattle.gx_schema.proofs.Lists.{holds_append}
use Rattle.gx_schema.proofs.NamedTypes.{named_type_is_read}
use Rattle.gx_schema.proofs.PartRoles.{IsParticle, derivation_of_content, fits_where_named, is_attribute_role, is_content_role, is_element_role, is_fitting, is_group_role, particle_of_group, particle_of_name}
use Rattle.gx_schema.proofs.ReadDeclarations.{HoldsContent, HoldsDeclaration, HoldsDefinition, HoldsLocal, HoldsMember, HoldsParticle, HoldsParticles, HoldsUse, IsAttributeType, IsElementType, IsReadKind, any_definition, is_anonymous, is_simple_definition}

-- ---- the type of a declaration

within_is_read : (wanted : TypeDefinition → Bool) (all : List TypeDeclaration) (default : Builtin) (number : ℕ) (holds : Bool) → holds ≡ true → list_any (is_anonymous wanted number) all ≡ true →
    IsReadKind wanted all (if holds then types.Anonymous number else types.Builtin default)
within_is_read wanted all default number true h there = there
within_is_read wanted all default number false h there = absurd (cc)

kind_by : (wanted : TypeDefinition → Bool) (all : List TypeDeclaration) (default : Builtin) (scope : List Declaration) (cs : SourceContents) (number : ℕ) (given : Option (List ℕ)) → (given ≡ None → holds_type cs ≡ true) →
    (holds_type cs ≡ true → list_any (is_anonymous wanted number) all ≡ true) → IsReadKind wanted all (unwrap_or (option_map (type_in scope) given) (type_within default cs number))
kind_by wanted all default scope cs number None holds there = within_is_read wanted all default number (holds_type cs) (holds refl) (there (holds refl))
kind_by wanted all default scope cs number (Some value) holds there = named_type_is_read wanted all scope value

lacking : (lacks : Bool) (shown : List ℕ) → (if lacks then Some shown else None) ≡ None → lacks ≡ false
lacking true shown e = absurd (cc)
lacking false shown e = refl

element_lacks : (role : Role) → is_element_role role ≡ true → (attributes : List SourceAttribute) (cs : SourceContents) → missing_type role attributes cs ≡ None → lacks_element_type attributes cs ≡ false
element_lacks roles.GlobalElement is attributes cs e = lacking (lacks_element_type attributes cs) (codes "xs:anyType") e
element_lacks roles.LocalElement is attributes cs e = lacking (lacks_element_type attributes cs) (codes "xs:anyType") e
element_lacks _ is attributes cs e = absurd (true≢false (sym is))

attribute_lacks : (role : Role) → is_attribute_role role ≡ true → (attributes : List SourceAttribute) (cs : SourceContents) → missing_type role attributes cs ≡ None → lacks_attribute_type attributes cs ≡ false
attribute_lacks roles.GlobalAttribute is attributes cs e = lacking (lacks_attribute_type attributes cs) (codes "xs:anySimpleType") e
attribute_lacks roles.LocalAttribute is attributes cs e = lacking (lacks_attribute_type attributes cs) (codes "xs:anySimpleType") e
attribute_lacks _ is attributes cs e = absurd (true≢false (sym is))

element_holds : (typed referred : Option (List ℕ)) (holds : Bool) → not (is_some typed || (is_some referred || holds)) ≡ false → referred ≡ None → typed ≡ None → holds ≡ true
element_holds None None true h r t = refl
element_holds None None false h r t = absurd (cc)
element_holds None (Some value) holds h r t = absurd (cc)
element_holds (Some value) referred holds h r t = absurd (cc)

attribute_holds : (typed referred : Option (List ℕ)) (c s prohibited : Bool) → not (is_some typed || (is_some referred || (s || prohibited))) ≡ false → referred ≡ None → prohibited ≡ false → typed ≡ None → (c || s) ≡ true
attribute_holds None None c true prohibited h r p t = or_right c true refl
attribute_holds None None c false true h r p t = absurd (true≢false p)
attribute_holds None None c false false h r p t = absurd (cc)
attribute_holds None (Some value) c s prohibited h r p t = absurd (cc)
attribute_holds (Some value) referred c s prohibited h r p t = absurd (cc)

pub element_is_read : (x : Context) (all : List TypeDeclaration) (scope wide inner : List Declaration) (at : Numbers) (role : Role) (name : Name) (declarations : List Declaration) (attributes : List SourceAttribute) (cs : SourceContents) →
    is_element_role role ≡ true → is_type name ≡ false → IsElementInside scope role attributes cs → given_value (codes "ref") attributes ≡ None →
    AreAmong all (types_among x wide (numbers_inside at (source name declarations attributes cs)) cs) → IsElementType all (declared_kind builtins.AnyType inner attributes cs at.anonymous)
element_is_read x all scope wide inner at role name declarations attributes cs is plain inside referred among =
    let numbers = numbers_inside at (source name declarations attributes cs) in
    kind_by any_definition all builtins.AnyType inner cs at.anonymous (given_value (codes "type") attributes)
    (λ typed. element_holds (given_value (codes "type") attributes) (given_value (codes "ref") attributes) (holds_type cs) (element_lacks role is attributes cs inside.typed) referred typed)
    (λ holds. subst (λ (n : ℕ). list_any (is_anonymous any_definition n) all ≡ true) (numbers_same at name declarations attributes cs plain)
    (among (is_anonymous any_definition numbers.anonymous) (type_is_there any_definition x scope wide numbers role (seen_before role attributes) cs (elements_hold_types role is) inside.parts holds)))

pub attribute_is_read : (x : Context) (all : List TypeDeclaration) (scope wide inner : List Declaration) (at : Numbers) (role : Role) (name : Name) (declarations : List Declaration) (attributes : List SourceAttribute) (cs : SourceContents) →
    is_attribute_role role ≡ true → is_type name ≡ false → IsElementInside scope role attributes cs → given_value (codes "ref") attributes ≡ None → is_prohibited attributes ≡ false →
    AreAmong all (types_among x wide (numbers_inside at (source name declarations attributes cs)) cs) → IsAttributeType all (declared_kind builtins.AnySimple inner attributes cs at.anonymous)
attribute_is_read x all scope wide inner at role name declarations attributes cs is plain inside referred allowed among =
    let numbers = numbers_inside at (source name declarations attributes cs) in
    kind_by is_simple_definition all builtins.AnySimple inner cs at.anonymous (given_value (codes "type") attributes)
    (λ typed. attribute_holds (given_value (codes "type") attributes) (given_value (codes "ref") attributes) (holds_named (codes "complexType") cs) (holds_named (codes "simpleType") cs) (is_prohibited attributes)
    (attribute_lacks role is attributes cs inside.typed) referred allowed typed)
    (λ holds. subst (λ (n : ℕ). list_any (is_anonymous is_simple_definition n) all ≡ true) (numbers_same at name declarations attributes cs plain)
    (among (is_anonymous is_simple_definition numbers.anonymous) (type_is_there is_simple_definition x scope wide numbers role (seen_before role attributes) cs (attributes_hold_types role is) inside.parts holds)))

-- ---- local declarations

local_by : (Fact : TypeReference → Type 0) (referred : Option (List ℕ)) (default : Builtin) (uri : List ℕ) (scope : List Declaration) (attributes : List SourceAttribute) (cs : SourceContents) (number : ℕ) →
    (referred ≡ None → Fact (declared_kind default scope attributes cs number)) → HoldsLocal Fact (declaration_by referred default uri scope attributes cs number)
local_by Fact None default uri scope attributes cs number own = own refl
local_by Fact (Some value) default uri scope attributes cs number own = tt

local_element_holds : (x : Context) (all : List TypeDeclaration) (scope wide : List Declaration) (at : Numbers) (role : Role) (name : Name) (declarations : List Declaration) (attributes : List SourceAttribute) (cs : SourceContents) →
    is_schema_element (codes "element") name ≡ true → is_element_role role ≡ true → IsElementInside (declarations ++ scope) role attributes cs →
    AreAmong all (types_among x (declarations ++ wide) (numbers_inside at (source name declarations attributes cs)) cs) →
    HoldsParticle (IsElementType all) (local_element x wide at (source name declarations attributes cs))
local_element_holds x all scope wide at role name declarations attributes cs named is inside among =
    local_by (IsElementType all) (given_value (codes "ref") attributes) builtins.AnyType (local_namespace x.target x.elements_are_qualified attributes) (declarations ++ wide) attributes cs at.anonymous
    (λ own. element_is_read x all (declarations ++ scope) (declarations ++ wide) (declarations ++ wide) at role name declarations attributes cs is (no_type (codes "element") name refl refl named) inside own among)

use_by : (Fact : TypeReference → Type 0) (usage : Usage) (attribute : LocalDeclaration) → HoldsLocal Fact attribute → HoldsUse Fact usage attribute
use_by Fact usages.Optional attribute h = h
use_by Fact usages.Required attribute h = h
use_by Fact usages.Prohibited attribute h = tt

prohibited_by : (Fact : TypeReference → Type 0) (used : Option (List ℕ)) (attribute : LocalDeclaration) → is_value (codes "prohibited") used ≡ true → HoldsUse Fact (usage_of used) attribute
prohibited_by Fact None attribute h = absurd (cc)
prohibited_by Fact (Some value) attribute h =
    let not_required : has_spelling (codes "required") value ≡ false = ap (λ (text : List ℕ). bytes_eq text (codes "required")) (spelled (codes "prohibited") value h) in
    let is : usage_of (Some value) ≡ usages.Prohibited =
    ap (λ (b : Bool). if b then usages.Required else (if has_spelling (codes "prohibited") value then usages.Prohibited else usages.Optional)) not_required
    ∙ ap (λ (b : Bool). if b then usages.Prohibited else usages.Optional) h in
    subst (λ (usage : Usage). HoldsUse Fact usage attribute) (sym is) tt

use_unless_prohibited : (Fact : TypeReference → Type 0) (prohibited : Bool) (used : Option (List ℕ)) (attribute : LocalDeclaration) → is_value (codes "prohibited") used ≡ prohibited → (prohibited ≡ false → HoldsLocal Fact attribute) →
    HoldsUse Fact (usage_of used) attribute
use_unless_prohibited Fact true used attribute e h = prohibited_by Fact used attribute e
use_unless_prohibited Fact false used attribute e h = use_by Fact (usage_of used) attribute (h refl)

local_attribute_holds : (x : Context) (all : List TypeDeclaration) (scope wide : List Declaration) (at : Numbers) (role : Role) (name : Name) (declarations : List Declaration) (attributes : List SourceAttribute) (cs : SourceContents) →
    is_schema_element (codes "attribute") name ≡ true → is_attribute_role role ≡ true → IsElementInside (declarations ++ scope) role attributes cs →
    AreAmong all (types_among x (declarations ++ wide) (numbers_inside at (source name declarations attributes cs)) cs) →
    HoldsMember (IsAttributeType all) (attribute_use x wide at (source name declarations attributes cs))
local_attribute_holds x all scope wide at role name declarations attributes cs named is inside among =
    let uri = local_namespace x.target x.attributes_are_qualified attributes in
    use_unless_prohibited (IsAttributeType all) (is_prohibited attributes) (given_value (codes "use") attributes)
    (local_declaration builtins.AnySimple uri (declarations ++ wide) attributes cs at.anonymous) refl
    (λ allowed. local_by (IsAttributeType all) (given_value (codes "ref") attributes) builtins.AnySimple uri (declarations ++ wide) attributes cs at.anonymous
    (λ own. attribute_is_read x all (declarations ++ scope) (declarations ++ wide) (declarations ++ wide) at role name declarations attributes cs is (no_type (codes "attribute") name refl refl named) inside own allowed among))

-- ---- particles

particle_by : (Fact : TypeReference → Type 0) (s c g : Bool) (sequence choice group element : ParticleTree) → (s ≡ true → HoldsParticle Fact sequence) → (c ≡ true → HoldsParticle Fact choice) → HoldsParticle Fact group →
    (s ≡ false → c ≡ false → g ≡ false → HoldsParticle Fact element) → HoldsParticle Fact (if s then sequence else (if c then choice else (if g then group else element)))
particle_by Fact true c g sequence choice group element h k l m = h refl
particle_by Fact false true g sequence choice group element h k l m = k refl
particle_by Fact false false true sequence choice group element h k l m = l
particle_by Fact false false false sequence choice group element h k l m = m refl refl refl

particles_by : (Fact : TypeReference → Type 0) (b annotates : Bool) (one other : ParticleTrees) → b ≡ annotates → HoldsParticles Fact (if annotates then one else other) → HoldsParticles Fact (if b then one else other)
particles_by Fact b annotates one other e h = subst (λ (c : Bool). HoldsParticles Fact (if c then one else other)) (sym e) h

-- what is within the profile has a slot
slot_of_part : (scope : List Declaration) (role : Role) (seen : Seen) (name : Name) (declarations : List Declaration) (attributes : List SourceAttribute) (inner cs : SourceContents) (part : IsPartInside scope role seen (source name declarations attributes inner) cs) →
    (is_schema_uri name.uri ≡ true) × (slot_of role (encode_utf8_all name.local) ≡ Some part.slot)
slot_of_part scope role seen name declarations attributes inner cs part =
    slot_by (is_schema_uri name.uri) role name.local part.slot (slot_there seen (slot_in (is_schema_uri name.uri) role name.local) part.slot part.fitting)

group_particle : (scope : List Declaration) (role : Role) (seen : Seen) (t : SourceTree) (cs : SourceContents) → is_group_role role ≡ true → (part : IsPartInside scope role seen t cs) → IsParticle (tree_name t) (role_in part.slot)
group_particle scope role seen (source name declarations attributes inner) cs is part =
    let there = slot_of_part scope role seen name declarations attributes inner cs part in particle_of_group role is name part.slot there.0 there.1

first_is_particle : (scope : List Declaration) (role : Role) (seen : Seen) (t : SourceTree) (cs : SourceContents) → is_particle (tree_name t) ≡ true → (part : IsPartInside scope role seen t cs) → IsParticle (tree_name t) (role_in part.slot)
first_is_particle scope role seen (source name declarations attributes inner) cs is part =
    let there = slot_of_part scope role seen name declarations attributes inner cs part in particle_of_name role name part.slot is there.1

mutual
  particle_holds : (x : Context) (all : List TypeDeclaration) (scope wide : List Declaration) (at : Numbers) (role : Role) (t : SourceTree) → IsParticle (tree_name t) role → is_annotation (tree_name t) ≡ false →
      outside_element scope role t ≡ None → AreAmong all (types_written x wide at t) → HoldsParticle (IsElementType all) (particle_written x wide at t)
  particle_holds x all scope wide at role (source name declarations attributes cs) is plain e among =
      let t : SourceTree = source name declarations attributes cs in
      let particles = particles_written x (declarations ++ wide) (numbers_inside at t) cs in
      let inside = element_inside scope role name declarations attributes cs e in
      let within = among_inside all x wide at name declarations attributes cs plain among in
      particle_by (IsElementType all) (is_schema_element (codes "sequence") name) (is_schema_element (codes "choice") name) (is_schema_element (codes "group") name)
      (a_model_group at.element (bounds_written attributes) Sequence particles) (a_model_group at.element (bounds_written attributes) Choice particles)
      (group_reference wide at t) (local_element x wide at t)
      (λ named. particles_hold x all (declarations ++ scope) (declarations ++ wide) (numbers_inside at t) role (seen_before role attributes) cs (is.sequence named) inside.parts within)
      (λ named. particles_hold x all (declarations ++ scope) (declarations ++ wide) (numbers_inside at t) role (seen_before role attributes) cs (is.choice named) inside.parts within)
      tt
      (λ s c g. let element = is.element s c g in local_element_holds x all scope wide at role name declarations attributes cs element.0 element.1 inside within)

  particles_hold : (x : Context) (all : List TypeDeclaration) (scope wide : List Declaration) (at : Numbers) (role : Role) (seen : Seen) (cs : SourceContents) → is_group_role role ≡ true →
      outside_among scope role seen cs ≡ None → AreAmong all (types_among x wide at cs) → HoldsParticles (IsElementType all) (particles_written x wide at cs)
  particles_hold x all scope wide at role seen no_content is e among = tt
  particles_hold x all scope wide at role seen (a_text text cs) is e among = particles_hold x all scope wide at role seen cs is e among
  particles_hold x all scope wide at role seen (a_child t cs) is e among =
      let behind = among_behind all (types_written x wide at t) (types_among x wide (numbers_behind at t) cs) among in
      let other = a_particle (particle_written x wide at t) (particles_written x wide (numbers_behind at t) cs) in
      elim (part_inside scope role seen t cs e (is_annotation (tree_name t)) refl) [
        | inl (a, rest) ↦ particles_by (IsElementType all) (is_annotation (tree_name t)) true (particles_written x wide at cs) other a
            (particles_hold x all scope wide at role seen cs is rest (subst (λ (n : Numbers). AreAmong all (types_among x wide n cs)) (annotation_numbers at t a) behind))
        | inr (a, part) ↦ particles_by (IsElementType all) (is_annotation (tree_name t)) false (particles_written x wide at cs) other a (
          particle_holds x all scope wide at (role_in part.slot) t (group_particle scope role seen t cs is part) a part.element (among_front all (types_written x wide at t) (types_among x wide (numbers_behind at t) cs) among),
          particles_hold x all scope wide (numbers_behind at t) role (seen_after part.slot) cs is part.others behind,
        )
      ]

content_by : (Fact : TypeReference → Type 0) (b annotates is : Bool) (one : Option ParticleTree) (particle : ParticleTree) → b ≡ annotates → HoldsContent Fact (if annotates then one else (if is then Some particle else None)) →
    HoldsContent Fact (if b then one else (if is then Some particle else None))
content_by Fact b annotates is one particle e h = subst (λ (c : Bool). HoldsContent Fact (if c then one else (if is then Some particle else None))) (sym e) h

content_if : (Fact : TypeReference → Type 0) (is : Bool) (particle : ParticleTree) → (is ≡ true → HoldsParticle Fact particle) → HoldsContent Fact (if is then Some particle else None)
content_if Fact true particle h = h refl
content_if Fact false particle h = tt

pub content_holds : (x : Context) (all : List TypeDeclaration) (scope wide : List Declaration) (at : Numbers) (role : Role) (seen : Seen) (cs : SourceContents) →
    outside_among scope role seen cs ≡ None → AreAmong all (types_among x wide at cs) → HoldsContent (IsElementType all) (first_particle x wide at cs)
content_holds x all scope wide at role seen no_content e among = tt
content_holds x all scope wide at role seen (a_text text cs) e among = content_holds x all scope wide at role seen cs e among
content_holds x all scope wide at role seen (a_child t cs) e among =
    let front = among_front all (types_written x wide at t) (types_among x wide (numbers_behind at t) cs) among in
    let behind = among_behind all (types_written x wide at t) (types_among x wide (numbers_behind at t) cs) among in
    elim (part_inside scope role seen t cs e (is_annotation (tree_name t)) refl) [
      | inl (a, rest) ↦ content_by (IsElementType all) (is_annotation (tree_name t)) true (is_particle (tree_name t)) (first_particle x wide at cs) (particle_written x wide at t) a
          (content_holds x all scope wide at role seen cs rest (subst (λ (n : Numbers). AreAmong all (types_among x wide n cs)) (annotation_numbers at t a) behind))
      | inr (a, part) ↦ content_by (IsElementType all) (is_annotation (tree_name t)) false (is_particle (tree_name t)) (first_particle x wide at cs) (particle_written x wide at t) a
          (content_if (IsElementType all) (is_particle (tree_name t)) (particle_written x wide at t)
          (λ is. particle_holds x all scope wide at (role_in part.slot) t (first_is_particle scope role seen t cs is part) a part.element front))
    ]

-- ---- lists of attributes

member_by : (Fact : TypeReference → Type 0) (a g : Bool) (attribute group : AttributeMember) → (a ≡ true → HoldsMember Fact attribute) → HoldsMember Fact group →
    HoldsOfEach (HoldsMember Fact) (if a then attribute ∷ [] else (if g then group ∷ [] else []))
member_by Fact true g attribute group h k = (h refl, tt)
member_by Fact false true attribute group h k = (k, tt)
member_by Fact false false attribute group h k = tt

group_holds : (Fact : TypeReference → Type 0) (scope : List Declaration) (at : Numbers) (t : SourceTree) → HoldsMember Fact (attribute_group scope at t)
group_holds Fact scope at (source name declarations attributes cs) = tt

attribute_holds_in : (x : Context) (all : List TypeDeclaration) (scope wide : List Declaration) (at : Numbers) (role : Role) (seen : Seen) (t : SourceTree) (cs : SourceContents) → is_annotation (tree_name t) ≡ false →
    IsPartInside scope role seen t cs → AreAmong all (types_written x wide at t) → is_schema_element (codes "attribute") (tree_name t) ≡ true → HoldsMember (IsAttributeType all) (attribute_use x wide at t)
attribute_holds_in x all scope wide at role seen (source name declarations attributes inner) cs plain part among named =
    let there = slot_of_part scope role seen name declarations attributes inner cs part in
    local_attribute_holds x all scope wide at (role_in part.slot) name declarations attributes inner named (fits_where_named role (codes "attribute") name part.slot named there.1)
    (element_inside scope (role_in part.slot) name declarations attributes inner part.element) (among_inside all x wide at name declarations attributes inner plain among)

pub members_hold : (x : Context) (all : List TypeDeclaration) (scope wide : List Declaration) (at : Numbers) (role : Role) (seen : Seen) (cs : SourceContents) →
    outside_among scope role seen cs ≡ None → AreAmong all (types_among x wide at cs) → HoldsOfEach (HoldsMember (IsAttributeType all)) (members_written x wide at cs)
members_hold x all scope wide at role seen no_content e among = tt
members_hold x all scope wide at role seen (a_text text cs) e among = members_hold x all scope wide at role seen cs e among
members_hold x all scope wide at role seen (a_child t cs) e among =
    let front = among_front all (types_written x wide at t) (types_among x wide (numbers_behind at t) cs) among in
    let behind = among_behind all (types_written x wide at t) (types_among x wide (numbers_behind at t) cs) among in
    let is_attribute = is_schema_element (codes "attribute") (tree_name t) in
    let is_group = is_schema_element (codes "attributeGroup") (tree_name t) in
    elim (part_inside scope role seen t cs e (is_annotation (tree_name t)) refl) [
      | inl (a, rest) ↦ holds_append (HoldsMember (IsAttributeType all)) (member_written x wide at t) (members_written x wide (numbers_behind at t) cs)
          (member_by (IsAttributeType all) is_attribute is_group (attribute_use x wide at t) (attribute_group wide at t)
          (λ named. absurd (true≢false (sym named ∙ not_named (codes "annotation") (codes "attribute") (tree_name t) refl a))) (group_holds (IsAttributeType all) wide at t))
          (members_hold x all scope wide (numbers_behind at t) role seen cs rest behind)
      | inr (a, part) ↦ holds_append (HoldsMember (IsAttributeType all)) (member_written x wide at t) (members_written x wide (numbers_behind at t) cs)
          (member_by (IsAttributeType all) is_attribute is_group (attribute_use x wide at t) (attribute_group wide at t)
          (λ named. attribute_holds_in x all scope wide at role seen t cs a part front named) (group_holds (IsAttributeType all) wide at t))
          (members_hold x all scope wide (numbers_behind at t) role (seen_after part.slot) cs part.others behind)
    ]

-- ---- complex types

-- a part that is opened stands within the profile, with a role that fits its name
record IsOpenedInside (x : Context) (all : List TypeDeclaration) (wide : List Declaration) (at : Numbers) (part : Opened) : Type 0 where
  scope : List Declaration
  role : Role
  seen : Seen
  fitting : (word : List ℕ) → is_part_named word part ≡ true → is_fitting word role ≡ true
  inside : outside_among scope role seen part.contents ≡ None
  among : AreAmong all (types_among x (part.declarations ++ wide) (next_element at) part.contents)

abbrev is_part_type : Opened → Bool
is_part_type part = is_part_named (codes "complexType") part || is_part_named (codes "simpleType") part

next_numbers : (at : Numbers) (name : Name) (declarations : List Declaration) (attributes : List SourceAttribute) (cs : SourceContents) → is_type name ≡ false → numbers_inside at (source name declarations attributes cs) ≡ next_element at
next_numbers at name declarations attributes cs other = ap (λ (n : ℕ). record (next_element at) { anonymous = n }) (numbers_same at name declarations attributes cs other)

opened_tree : (x : Context) (all : List TypeDeclaration) (scope wide : List Declaration) (at : Numbers) (role : Role) (seen : Seen) (t : SourceTree) (cs : SourceContents) → is_annotation (tree_name t) ≡ false → is_type (tree_name t) ≡ false →
    IsPartInside scope role seen t cs → AreAmong all (types_written x wide at t) → IsOpenedInside x all wide at (opened t)
opened_tree x all scope wide at role seen (source name declarations attributes inner) cs plain other part among =
    let there = slot_of_part scope role seen name declarations attributes inner cs part in
    let inside = element_inside scope (role_in part.slot) name declarations attributes inner part.element in
    record {
      scope = declarations ++ scope;
      role = role_in part.slot;
      seen = seen_before (role_in part.slot) attributes;
      fitting = λ word named. fits_where_named role word name part.slot named there.1;
      inside = inside.parts;
      among = subst (λ (n : Numbers). AreAmong all (types_among x (declarations ++ wide) n inner)) (next_numbers at name declarations attributes inner other)
          (among_inside all x wide at name declarations attributes inner plain among);
    }

opened_nothing : (x : Context) (all : List TypeDeclaration) (wide : List Declaration) (at : Numbers) → IsOpenedInside x all wide at nothing_opened
opened_nothing x all wide at = record {
  scope = [];
  role = roles.Schema;
  seen = Nothing;
  fitting = λ word named. absurd (true≢false (sym named));
  inside = refl;
  among = λ test h. absurd (true≢false (sym h));
}

opened_by : (Fact : Opened → Type 0) (b annotates : Bool) (one other : Opened) → b ≡ annotates → Fact (if annotates then one else other) → Fact (if b then one else other)
opened_by Fact b annotates one other e h = subst (λ (c : Bool). Fact (if c then one else other)) (sym e) h

type_of_opened : (t : SourceTree) → is_part_type (opened t) ≡ is_type (tree_name t)
type_of_opened (source name declarations attributes cs) = refl

first_opened : (x : Context) (all : List TypeDeclaration) (scope wide : List Declaration) (at : Numbers) (role : Role) (seen : Seen) (cs : SourceContents) → is_part_type (first_part cs) ≡ false →
    outside_among scope role seen cs ≡ None → AreAmong all (types_among x wide at cs) → IsOpenedInside x all wide at (first_part cs)
first_opened x all scope wide at role seen no_content other e among = opened_nothing x all wide at
first_opened x all scope wide at role seen (a_text text cs) other e among = first_opened x all scope wide at role seen cs other e among
first_opened x all scope wide at role seen (a_child t cs) other e among =
    let front = among_front all (types_written x wide at t) (types_among x wide (numbers_behind at t) cs) among in
    let behind = among_behind all (types_written x wide at t) (types_among x wide (numbers_behind at t) cs) among in
    elim (part_inside scope role seen t cs e (is_annotation (tree_name t)) refl) [
      | inl (a, rest) ↦ opened_by (IsOpenedInside x all wide at) (is_annotation (tree_name t)) true (first_part cs) (opened t) a
          (first_opened x all scope wide at role seen cs (sym (ap (λ (b : Bool). is_part_type (if b then first_part cs else opened t)) a) ∙ other) rest
          (subst (λ (n : Numbers). AreAmong all (types_among x wide n cs)) (annotation_numbers at t a) behind))
      | inr (a, part) ↦ opened_by (IsOpenedInside x all wide at) (is_annotation (tree_name t)) false (first_part cs) (opened t) a
          (opened_tree x all scope wide at role seen t cs a (sym (type_of_opened t) ∙ (sym (ap (λ (b : Bool). is_part_type (if b then first_part cs else opened t)) a) ∙ other)) part front)
    ]

-- the derivation in a content is no type
no_type_by : (e r : Bool) (name : Name) → is_schema_element (codes "extension") name ≡ e → is_schema_element (codes "restriction") name ≡ r → (e || r) ≡ true → is_type name ≡ false
no_type_by true r name e_is r_is h = no_type (codes "extension") name refl refl e_is
no_type_by false true name e_is r_is h = no_type (codes "restriction") name refl refl r_is
no_type_by false false name e_is r_is h = absurd (cc)

derivation_is_no_type : (scope : List Declaration) (role : Role) (seen : Seen) (t : SourceTree) (cs : SourceContents) → is_content_role role ≡ true → IsPartInside scope role seen t cs → is_type (tree_name t) ≡ false
derivation_is_no_type scope role seen (source name declarations attributes inner) cs is part =
    let there = slot_of_part scope role seen name declarations attributes inner cs part in
    no_type_by (is_schema_element (codes "extension") name) (is_schema_element (codes "restriction") name) name refl refl (derivation_of_content role is name part.slot there.0 there.1)

content_opens_no_type : (scope : List Declaration) (role : Role) (seen : Seen) (cs : SourceContents) → is_content_role role ≡ true → outside_among scope role seen cs ≡ None → is_part_type (first_part cs) ≡ false
content_opens_no_type scope role seen no_content is e = refl
content_opens_no_type scope role seen (a_text text cs) is e = content_opens_no_type scope role seen cs is e
content_opens_no_type scope role seen (a_child t cs) is e = elim (part_inside scope role seen t cs e (is_annotation (tree_name t)) refl) [
  | inl (a, rest) ↦ ap (λ (b : Bool). is_part_type (if b then first_part cs else opened t)) a ∙ content_opens_no_type scope role seen cs is rest
  | inr (a, part) ↦ ap (λ (b : Bool). is_part_type (if b then first_part cs else opened t)) a ∙ type_of_opened t ∙ derivation_is_no_type scope role seen t cs is part
]

-- where the particle and the attributes of a complex type stand
record IsBodyInside (x : Context) (all : List TypeDeclaration) (body : Body) : Type 0 where
  scope : List Declaration
  role : Role
  seen : Seen
  inside : outside_among scope role seen body.contents ≡ None
  among : AreAmong all (types_among x body.scope body.numbers body.contents)

part_type_by : (word : List ℕ) (name : Option Name) → bytes_eq word (codes "complexType") ≡ false → bytes_eq word (codes "simpleType") ≡ false → is_some_named word name ≡ true →
    (is_some_named (codes "complexType") name || is_some_named (codes "simpleType") name) ≡ false
part_type_by word None c s named = absurd (true≢false (sym named))
part_type_by word (Some name) c s named = no_type word name c s named

derived_inside : (x : Context) (all : List TypeDeclaration) (scope wide : List Declaration) (at : Numbers) (role : Role) (seen : Seen) (cs : SourceContents) (kind : ContentKind) (word : List ℕ) → bytes_eq word (codes "complexType") ≡ false →
    bytes_eq word (codes "simpleType") ≡ false → ((role : Role) → is_fitting word role ≡ true → is_content_role role ≡ true) → is_part_named word (first_part cs) ≡ true → outside_among scope role seen cs ≡ None → AreAmong all (types_among x wide at cs) →
    IsBodyInside x all (derived_body kind (first_part (first_part cs).contents) ((first_part cs).declarations ++ wide) (next_element at))
derived_inside x all scope wide at role seen cs kind word c s content named e among =
    let part = first_part cs in
    let outer = first_opened x all scope wide at role seen cs (part_type_by word part.name c s named) e among in
    let is = content outer.role (outer.fitting word named) in
    let inner = first_opened x all outer.scope (part.declarations ++ wide) (next_element at) outer.role outer.seen part.contents (content_opens_no_type outer.scope outer.role outer.seen part.contents is outer.inside) outer.inside outer.among in
    record { scope = inner.scope; role = inner.role; seen = inner.seen; inside = inner.inside; among = inner.among }

body_if : (x : Context) (all : List TypeDeclaration) (s c : Bool) (simple complex own : Body) → (s ≡ true → IsBodyInside x all simple) → (c ≡ true → IsBodyInside x all complex) → IsBodyInside x all own →
    IsBodyInside x all (if s then simple else (if c then complex else own))
body_if x all true c simple complex own h k l = h refl
body_if x all false true simple complex own h k l = k refl
body_if x all false false simple complex own h k l = l

body_inside : (x : Context) (all : List TypeDeclaration) (scope wide : List Declaration) (at : Numbers) (role : Role) (seen : Seen) (cs : SourceContents) → outside_among scope role seen cs ≡ None → AreAmong all (types_among x wide at cs) →
    IsBodyInside x all (body_of wide at cs)
body_inside x all scope wide at role seen cs e among =
    let part = first_part cs in
    body_if x all (is_part_named (codes "simpleContent") part) (is_part_named (codes "complexContent") part)
    (derived_body content.Simple (first_part part.contents) (part.declarations ++ wide) (next_element at)) (derived_body content.Complex (first_part part.contents) (part.declarations ++ wide) (next_element at))
    (record { derivation = None; scope = wide; numbers = at; contents = cs })
    (λ named. derived_inside x all scope wide at role seen cs content.Simple (codes "simpleContent") refl refl (λ role fits. fits) named e among)
    (λ named. derived_inside x all scope wide at role seen cs content.Complex (codes "complexContent") refl refl (λ role fits. fits) named e among)
    (record { scope = scope; role = role; seen = seen; inside = e; among = among })

-- ---- types

definition_by : (Elements Attributes : TypeReference → Type 0) (is_complex : Bool) (complex : ComplexTypeDefinition) (simple : SimpleTypeDefinition) → HoldsContent Elements complex.particle → HoldsOfEach (HoldsMember Attributes) complex.attributes →
    HoldsDefinition Elements Attributes (if is_complex then Complex complex else Simple simple)
definition_by Elements Attributes true complex simple h k = (h, k)
definition_by Elements Attributes false complex simple h k = tt

definition_holds : (x : Context) (all : List TypeDeclaration) (scope wide : List Declaration) (at : Numbers) (role : Role) (name : Name) (declarations : List Declaration) (attributes : List SourceAttribute) (cs : SourceContents) →
    IsElementInside (declarations ++ scope) role attributes cs → AreAmong all (types_among x (declarations ++ wide) (numbers_inside at (source name declarations attributes cs)) cs) →
    HoldsDefinition (IsElementType all) (IsAttributeType all) (definition_written x wide at (source name declarations attributes cs))
definition_holds x all scope wide at role name declarations attributes cs inside among =
    let numbers = numbers_inside at (source name declarations attributes cs) in
    let body = body_of (declarations ++ wide) numbers cs in
    let stands = body_inside x all (declarations ++ scope) (declarations ++ wide) numbers role (seen_before role attributes) cs inside.parts among in
    definition_by (IsElementType all) (IsAttributeType all) (is_schema_element (codes "complexType") name) (complex_type_by x (is_true (given_value (codes "mixed") attributes)) body)
    (simple_type_by (first_part cs) (declarations ++ wide) numbers)
    (content_holds x all stands.scope body.scope body.numbers stands.role stands.seen body.contents stands.inside stands.among)
    (members_hold x all stands.scope body.scope body.numbers stands.role stands.seen body.contents stands.inside stands.among)

type_if : (Fact : TypeDeclaration → Type 0) (b : Bool) (declaration : TypeDeclaration) → Fact declaration → HoldsOfEach Fact (if b then declaration ∷ [] else [])
type_if Fact true declaration h = (h, tt)
type_if Fact false declaration h = tt

types_unless : (Fact : TypeDeclaration → Type 0) (b : Bool) (written : List TypeDeclaration) → (b ≡ false → HoldsOfEach Fact written) → HoldsOfEach Fact (if b then [] else written)
types_unless Fact true written h = tt
types_unless Fact false written h = h refl

annotation_writes_no_type : (Fact : TypeDeclaration → Type 0) (x : Context) (scope : List Declaration) (at : Numbers) (t : SourceTree) → is_annotation (tree_name t) ≡ true → HoldsOfEach Fact (types_written x scope at t)
annotation_writes_no_type Fact x scope at (source name declarations attributes cs) a =
    types_unless Fact (is_annotation name) (own_type x scope at (source name declarations attributes cs) ++ types_among x (declarations ++ scope) (numbers_inside at (source name declarations attributes cs)) cs)
    (λ plain. absurd (true≢false (sym a ∙ plain)))

mutual
  pub types_hold : (x : Context) (all : List TypeDeclaration) (scope wide : List Declaration) (at : Numbers) (role : Role) (t : SourceTree) → outside_element scope role t ≡ None → AreAmong all (types_written x wide at t) →
      HoldsOfEach (HoldsDeclaration (IsElementType all) (IsAttributeType all)) (types_written x wide at t)
  types_hold x all scope wide at role (source name declarations attributes cs) e among =
      let Fact : TypeDeclaration → Type 0 = HoldsDeclaration (IsElementType all) (IsAttributeType all) in
      let t : SourceTree = source name declarations attributes cs in
      let inside = element_inside scope role name declarations attributes cs e in
      let inner = types_among x (declarations ++ wide) (numbers_inside at t) cs in
      types_unless Fact (is_annotation name) (own_type x wide at t ++ inner) (λ plain.
      let within = among_inside all x wide at name declarations attributes cs plain among in
      holds_append Fact (own_type x wide at t) inner
      (type_if Fact (is_type name) (type_declaration x wide at t) (definition_holds x all scope wide at role name declarations attributes cs inside within))
      (types_among_hold x all (declarations ++ scope) (declarations ++ wide) (numbers_inside at t) role (seen_before role attributes) cs inside.parts within))

  pub types_among_hold : (x : Context) (all : List TypeDeclaration) (scope wide : List Declaration) (at : Numbers) (role : Role) (seen : Seen) (cs : SourceContents) → outside_among scope role seen cs ≡ None → AreAmong all (types_among x wide at cs) →
      HoldsOfEach (HoldsDeclaration (IsElementType all) (IsAttributeType all)) (types_among x wide at cs)
  types_among_hold x all scope wide at role seen no_content e among = tt
  types_among_hold x all scope wide at role seen (a_text text cs) e among = types_among_hold x all scope wide at role seen cs e among
  types_among_hold x all scope wide at role seen (a_child t cs) e among =
      let Fact : TypeDeclaration → Type 0 = HoldsDeclaration (IsElementType all) (IsAttributeType all) in
      let front = among_front all (types_written x wide at t) (types_among x wide (numbers_behind at t) cs) among in
      let behind = among_behind all (types_written x wide at t) (types_among x wide (numbers_behind at t) cs) among in
      elim (part_inside scope role seen t cs e (is_annotation (tree_name t)) refl) [
        | inl (a, rest) ↦ holds_append Fact (types_written x wide at t) (types_among x wide (numbers_behind at t) cs) (annotation_writes_no_type Fact x wide at t a)
            (types_among_hold x all scope wide (numbers_behind at t) role seen cs rest behind)
        | inr (a, part) ↦ holds_append Fact (types_written x wide at t) (types_among x wide (numbers_behind at t) cs) (types_hold x all scope wide at (role_in part.slot) t part.element front)
            (types_among_hold x all scope wide (numbers_behind at t) role (seen_after part.slot) cs part.others behind)
      ]
