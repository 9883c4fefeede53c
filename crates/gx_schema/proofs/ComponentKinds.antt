-- The types of elements and attributes in components keep to what holds of the types that they are written with.
use Rattle.std.proofs.Common.{◌≡◌, ℕ, suc, ◌+◌, ◌<◌, Bool, true, false, List, [], ◌∷◌, ◌++◌, length, Option, None, Some, refl, sym, ap, subst, arith, if◌then◌else◌}
use Rattle.std.specs.Prelude.{is_some}
use Rattle.std.specs.List.{flat_map}
use Rattle.std.proofs.lemmas.Option.{get_or_from_slice_get}
use Rattle.gx_base.specs.Name.{same_name}
use Rattle.gx_base.specs.declared.name.Name.{Name}
use Rattle.gx_base.specs.declared.type_name.TypeName.{TypeName}
use Rattle.gx_types.specs.SchemaInvariant.{HoldsOfEach}
use Rattle.gx_qnames.specs.declared.reference.Reference.{Reference}
use Rattle.gx_references.specs.Numbers.{first_from}
use Rattle.gx_schema_syntax.specs.declared.written.AttributeMember.{AttributeMember}
use Rattle.gx_schema_syntax.specs.declared.written.AttributeMember.TheVariants as members
use Rattle.gx_schema_syntax.specs.declared.written.GlobalDeclaration.{GlobalDeclaration}
use Rattle.gx_schema_syntax.specs.declared.written.GlobalDeclaration.TheVariants as globals
use Rattle.gx_schema_syntax.specs.declared.written.LocalDeclaration.{LocalDeclaration}
use Rattle.gx_schema_syntax.specs.declared.written.LocalDeclaration.TheVariants as locals
use Rattle.gx_schema_syntax.specs.declared.written.TypeDeclaration.{TypeDeclaration}
use Rattle.gx_schema_syntax.specs.declared.written.TypeDefinition.{TypeDefinition}
use Rattle.gx_schema_syntax.specs.declared.written.TypeDefinition.TheVariants as definitions
use Rattle.gx_schema_syntax.specs.declared.written.TypeReference.{TypeReference}
use Rattle.gx_schema_syntax.specs.declared.written.Usage.{Usage}
use Rattle.gx_schema_syntax.specs.declared.written.Usage.TheVariants as usages
use Rattle.gx_schema_syntax.specs.DocumentTree.{DocumentTree}
use Rattle.gx_schema_syntax.specs.ParticleTree.{ParticleTree, ParticleTrees, an_element, a_group, a_model_group, no_particles, a_particle}
use Rattle.gx_schema_components.specs.declared.component.AttributeGroup.{AttributeGroup}
use Rattle.gx_schema_components.specs.declared.component.Declaration.{Declaration}
use Rattle.gx_schema_components.specs.declared.component.ModelGroup.{ModelGroup}
use Rattle.gx_schema_components.specs.declared.component.Particle.{Particle}
use Rattle.gx_schema_components.specs.declared.component.TypeComponent.{TypeComponent}
use Rattle.gx_schema_components.specs.declared.component.TypeForm.{TypeForm}
use Rattle.gx_schema_components.specs.declared.component.TypeForm.TheVariants as forms
use Rattle.gx_schema_components.specs.declared.mention.ComponentKind.{ComponentKind}
use Rattle.gx_schema_components.specs.declared.mention.ComponentKind.TheVariants as kinds
use Rattle.gx_schema_components.specs.AttributeLists.{attribute_groups_of, part_by_usage, part_of_member, parts_of_members}
use Rattle.gx_schema_components.specs.Components.{declared_attribute, declared_element, definitions_by, first_inner, globals_of, types_by}
use Rattle.gx_schema_components.specs.DeclaredNames.{declarations_in, declared_number, names_of_kind, type_names_in, types_in}
use Rattle.gx_schema_components.specs.GroupNumbers.{content_placed, definitions_placed, group_of_definition, particle_placed, particles_placed}
use Rattle.gx_schema_components.specs.Mentions.{base_mentions, content_mentions, definition_mentions, global_mentions, local_mentions, member_mentions, members_mentions, particle_mentions, particles_mentions, type_declaration_mentions, type_mentions}
use Rattle.gx_schema_components.specs.Referred.{Globals, declaration_referred, local_component, type_referred, unknown_type}
use Rattle.gx_schema_components.specs.TypeComponents.{form_placed, types_placed}
use Rattle.gx_schema_components.specs.Unknown.{Numbering, refers}
use Rattle.gx_schema_content.specs.ElementKinds.{element_kinds, kinds_of_content, kinds_of_form, kinds_of_group, kinds_of_particle, kinds_of_type}
use Rattle.gx_schema_attributes.specs.AttributeKinds.{attribute_kinds, kind_in_part, kinds_in_form, kinds_in_group, kinds_in_parts, kinds_in_type}
use Rattle.gx_schema.specs.SeenComponents.{attribute_groups, circles_of, model_groups, seen_attribute_group, seen_attribute_groups_from, seen_form, seen_group, seen_components, seen_groups_from, seen_types, type_components}
use Rattle.gx_schema.proofs.Declarations.{element_at}
use Rattle.gx_schema.proofs.Lists.{holds_append, holds_at, holds_behind, holds_front, holds_joined}
use Rattle.gx_schema.proofs.NothingFound.{Refers}
use Rattle.gx_schema.proofs.NumberedTypes.{number_of_reference}
use Rattle.gx_schema.proofs.ReadDeclarations.{HoldsContent, HoldsDeclaration, HoldsDefinition, HoldsGlobal, HoldsLocal, HoldsMember, HoldsParticle, HoldsParticles, HoldsUse}

-- what holds of a type where it is written and refers to something holds otherwise of what it refers to, and this of each global declaration of a kind
pub record Keeps (x : Globals) (component : ComponentKind) (declarations : List Declaration) (Fact : TypeReference → Type 0) (Passes : TypeName → Type 0) : Type 0 where
  pub kinds : (place : ℕ) (kind : TypeReference) → Fact kind → HoldsOfEach (Refers x.numbers) (type_mentions place kind) → Passes (type_referred x.numbers x.types kind)
  pub declared : (reference : Reference) → refers x.numbers component reference ≡ true → Passes (declaration_referred declarations (x.numbers component reference.name) reference.name).kind

local_keeps : (x : Globals) (component : ComponentKind) (declarations : List Declaration) (Fact : TypeReference → Type 0) (Passes : TypeName → Type 0) → Keeps x component declarations Fact Passes → (place : ℕ) (declaration : LocalDeclaration) →
    HoldsLocal Fact declaration → HoldsOfEach (Refers x.numbers) (local_mentions component place declaration) → Passes (local_component x component declarations declaration).kind
local_keeps x component declarations Fact Passes keeps place (locals.Declared name kind) h refer = keeps.kinds place kind h refer
local_keeps x component declarations Fact Passes keeps place (locals.Referred reference kind) h refer = keeps.declared reference refer.0

-- ---- elements

abbrev pub GroupPasses : (TypeName → Type 0) → ModelGroup → Type 0
GroupPasses Passes group = HoldsOfEach Passes (kinds_of_group group)

abbrev pub TypePasses : (TypeName → Type 0) → TypeComponent → Type 0
TypePasses Passes component = HoldsOfEach Passes (kinds_of_type component)

module _ (x : Globals) (first : ℕ) (Fact : TypeReference → Type 0) (Passes : TypeName → Type 0) (keeps : Keeps x kinds.ElementDeclaration x.elements Fact Passes) where
  mutual
    particle_keeps : (groups : List ModelGroup) (particle : ParticleTree) → HoldsParticle Fact particle → HoldsOfEach (Refers x.numbers) (particle_mentions particle) → HoldsOfEach (GroupPasses Passes) groups →
        HoldsOfEach (GroupPasses Passes) (particle_placed x first groups particle).groups × HoldsOfEach Passes (kinds_of_particle (particle_placed x first groups particle).placed)
    particle_keeps groups (an_element place bounds declaration) h refer passing =
        (passing, (local_keeps x kinds.ElementDeclaration x.elements Fact Passes keeps place declaration h refer, tt))
    particle_keeps groups (a_group place bounds reference) h refer passing = (passing, tt)
    particle_keeps groups (a_model_group place bounds compositor particles) h refer passing =
        let inside = particles_keep groups particles h refer passing in
        (holds_append (GroupPasses Passes) (particles_placed x first groups particles).groups _ inside.0 (inside.1, tt), tt)

    particles_keep : (groups : List ModelGroup) (particles : ParticleTrees) → HoldsParticles Fact particles → HoldsOfEach (Refers x.numbers) (particles_mentions particles) → HoldsOfEach (GroupPasses Passes) groups →
        HoldsOfEach (GroupPasses Passes) (particles_placed x first groups particles).groups × HoldsOfEach Passes (flat_map kinds_of_particle (particles_placed x first groups particles).placed)
    particles_keep groups no_particles h refer passing = (passing, tt)
    particles_keep groups (a_particle particle others) h refer passing =
        let here = particle_keeps groups particle h.0 (holds_front (Refers x.numbers) (particle_mentions particle) (particles_mentions others) refer) passing in
        let placed = particle_placed x first groups particle in
        let rest = particles_keep placed.groups others h.1 (holds_behind (Refers x.numbers) (particle_mentions particle) (particles_mentions others) refer) here.0 in
        (rest.0, holds_append Passes (kinds_of_particle placed.placed) (flat_map kinds_of_particle (particles_placed x first placed.groups others).placed) here.1 rest.1)

  content_keeps : (groups : List ModelGroup) (content : Option ParticleTree) → HoldsContent Fact content → HoldsOfEach (Refers x.numbers) (content_mentions content) → HoldsOfEach (GroupPasses Passes) groups →
      HoldsOfEach (GroupPasses Passes) (content_placed x first groups content).groups × HoldsOfEach Passes (kinds_of_content (content_placed x first groups content).placed)
  content_keeps groups None h refer passing = (passing, tt)
  content_keeps groups (Some particle) h refer passing = particle_keeps groups particle h refer passing

  definition_passes : (content : Option Particle) → HoldsOfEach Passes (kinds_of_content content) → GroupPasses Passes (group_of_definition content)
  definition_passes None h = tt
  definition_passes (Some particle) h = holds_append Passes (kinds_of_particle particle) [] h tt

  pub definitions_keep : (Attributes : TypeReference → Type 0) (groups : List ModelGroup) (declarations : List GlobalDeclaration) → HoldsOfEach (HoldsGlobal Fact Attributes) declarations →
      HoldsOfEach (λ (g : GlobalDeclaration). HoldsOfEach (Refers x.numbers) (global_mentions g)) declarations → HoldsOfEach (GroupPasses Passes) groups →
      HoldsOfEach (GroupPasses Passes) (definitions_placed x first groups declarations).placed × HoldsOfEach (GroupPasses Passes) (definitions_placed x first groups declarations).groups
  definitions_keep Attributes groups [] h refer passing = (tt, passing)
  definitions_keep Attributes groups (globals.Group place name particle ∷ others) h refer passing =
      let content = content_keeps groups particle h.0 refer.0 passing in
      let placed = content_placed x first groups particle in
      let rest = definitions_keep Attributes placed.groups others h.1 refer.1 content.0 in
      ((definition_passes placed.placed content.1, rest.0), rest.1)
  definitions_keep Attributes groups (globals.Element place name kind ∷ others) h refer passing = definitions_keep Attributes groups others h.1 refer.1 passing
  definitions_keep Attributes groups (globals.Attribute place name kind ∷ others) h refer passing = definitions_keep Attributes groups others h.1 refer.1 passing
  definitions_keep Attributes groups (globals.AttributeGroup place name attributes ∷ others) h refer passing = definitions_keep Attributes groups others h.1 refer.1 passing

  definition_keeps : (Attributes : TypeReference → Type 0) (groups : List ModelGroup) (definition : TypeDefinition) → HoldsDefinition Fact Attributes definition → HoldsOfEach (Refers x.numbers) (definition_mentions definition) →
      HoldsOfEach (GroupPasses Passes) groups → HoldsOfEach (GroupPasses Passes) (form_placed x first groups definition).groups × HoldsOfEach Passes (kinds_of_form (form_placed x first groups definition).placed)
  definition_keeps Attributes groups (definitions.Simple definition) h refer passing = (passing, tt)
  definition_keeps Attributes groups (definitions.Complex definition) h refer passing =
      content_keeps groups definition.particle h.0
      (holds_front (Refers x.numbers) (content_mentions definition.particle) (members_mentions definition.attributes)
      (holds_behind (Refers x.numbers) (base_mentions definition.derivation) (content_mentions definition.particle ++ members_mentions definition.attributes) refer)) passing

  pub types_keep : (Attributes : TypeReference → Type 0) (groups : List ModelGroup) (declarations : List TypeDeclaration) → HoldsOfEach (HoldsDeclaration Fact Attributes) declarations →
      HoldsOfEach (λ (t : TypeDeclaration). HoldsOfEach (Refers x.numbers) (type_declaration_mentions t)) declarations → HoldsOfEach (GroupPasses Passes) groups →
      HoldsOfEach (TypePasses Passes) (types_placed x first groups declarations).placed × HoldsOfEach (GroupPasses Passes) (types_placed x first groups declarations).groups
  types_keep Attributes groups [] h refer passing = (tt, passing)
  types_keep Attributes groups (declaration ∷ others) h refer passing =
      let form = definition_keeps Attributes groups declaration.definition h.0 refer.0 passing in
      let rest = types_keep Attributes (form_placed x first groups declaration.definition).groups others h.1 refer.1 form.0 in
      ((form.1, rest.0), rest.1)

-- ---- attributes

module _ (x : Globals) (Fact : TypeReference → Type 0) (Passes : TypeName → Type 0) (keeps : Keeps x kinds.AttributeDeclaration x.attributes Fact Passes) where
  use_passes : (place : ℕ) (usage : Usage) (attribute : LocalDeclaration) → HoldsUse Fact usage attribute → HoldsOfEach (Refers x.numbers) (local_mentions kinds.AttributeDeclaration place attribute) →
      HoldsOfEach Passes (kind_in_part (part_by_usage place usage (local_component x kinds.AttributeDeclaration x.attributes attribute)))
  use_passes place usages.Optional attribute h refer = (local_keeps x kinds.AttributeDeclaration x.attributes Fact Passes keeps place attribute h refer, tt)
  use_passes place usages.Required attribute h refer = (local_keeps x kinds.AttributeDeclaration x.attributes Fact Passes keeps place attribute h refer, tt)
  use_passes place usages.Prohibited attribute h refer = tt

  member_passes : (member : AttributeMember) → HoldsMember Fact member → HoldsOfEach (Refers x.numbers) (member_mentions member) → HoldsOfEach Passes (kind_in_part (part_of_member x member))
  member_passes (members.Attribute place usage attribute) h refer = use_passes place usage attribute h refer
  member_passes (members.Group place reference) h refer = tt

  parts_pass : (list : List AttributeMember) → HoldsOfEach (HoldsMember Fact) list → HoldsOfEach (Refers x.numbers) (members_mentions list) → HoldsOfEach Passes (kinds_in_parts (parts_of_members x list))
  parts_pass [] h refer = tt
  parts_pass (member ∷ others) h refer =
      holds_append Passes (kind_in_part (part_of_member x member)) (kinds_in_parts (parts_of_members x others))
      (member_passes member h.0 (holds_front (Refers x.numbers) (member_mentions member) (members_mentions others) refer))
      (parts_pass others h.1 (holds_behind (Refers x.numbers) (member_mentions member) (members_mentions others) refer))

  definition_attributes_pass : (Elements : TypeReference → Type 0) (first : ℕ) (groups : List ModelGroup) (definition : TypeDefinition) → HoldsDefinition Elements Fact definition →
      HoldsOfEach (Refers x.numbers) (definition_mentions definition) → HoldsOfEach Passes (kinds_in_form (form_placed x first groups definition).placed)
  definition_attributes_pass Elements first groups (definitions.Simple definition) h refer = tt
  definition_attributes_pass Elements first groups (definitions.Complex definition) h refer =
      parts_pass definition.attributes h.1
      (holds_behind (Refers x.numbers) (content_mentions definition.particle) (members_mentions definition.attributes)
      (holds_behind (Refers x.numbers) (base_mentions definition.derivation) (content_mentions definition.particle ++ members_mentions definition.attributes) refer))

  pub type_attributes_pass : (Elements : TypeReference → Type 0) (first : ℕ) (groups : List ModelGroup) (declarations : List TypeDeclaration) → HoldsOfEach (HoldsDeclaration Elements Fact) declarations →
      HoldsOfEach (λ (t : TypeDeclaration). HoldsOfEach (Refers x.numbers) (type_declaration_mentions t)) declarations →
      HoldsOfEach (λ (component : TypeComponent). HoldsOfEach Passes (kinds_in_type component)) (types_placed x first groups declarations).placed
  type_attributes_pass Elements first groups [] h refer = tt
  type_attributes_pass Elements first groups (declaration ∷ others) h refer = (
    definition_attributes_pass Elements first groups declaration.definition h.0 refer.0,
    type_attributes_pass Elements first (form_placed x first groups declaration.definition).groups others h.1 refer.1,
  )

  pub attribute_groups_pass : (Elements : TypeReference → Type 0) (declarations : List GlobalDeclaration) → HoldsOfEach (HoldsGlobal Elements Fact) declarations →
      HoldsOfEach (λ (g : GlobalDeclaration). HoldsOfEach (Refers x.numbers) (global_mentions g)) declarations → HoldsOfEach (λ (group : AttributeGroup). HoldsOfEach Passes (kinds_in_group group)) (attribute_groups_of x declarations)
  attribute_groups_pass Elements [] h refer = tt
  attribute_groups_pass Elements (globals.AttributeGroup place name attributes ∷ others) h refer = (parts_pass attributes h.0 refer.0, attribute_groups_pass Elements others h.1 refer.1)
  attribute_groups_pass Elements (globals.Element place name kind ∷ others) h refer = attribute_groups_pass Elements others h.1 refer.1
  attribute_groups_pass Elements (globals.Attribute place name kind ∷ others) h refer = attribute_groups_pass Elements others h.1 refer.1
  attribute_groups_pass Elements (globals.Group place name particle ∷ others) h refer = attribute_groups_pass Elements others h.1 refer.1

-- ---- global declarations

first_within_by : (number : ℕ) (others : List Name) (name : Name) (found : ℕ) (t : Bool) → (if t then Some number else first_from (suc number) others name) ≡ Some found →
    (first_from (suc number) others name ≡ Some found → found < suc number + length others) → found < number + suc (length others)
first_within_by number others name found true e rest = let here : number ≡ found = cc in omega (arith, here)
first_within_by number others name found false e rest = let told = rest e in omega (arith, told)

-- the number of a name in a list is within the list
first_within : (number : ℕ) (names : List Name) (name : Name) (found : ℕ) → first_from number names name ≡ Some found → found < number + length names
first_within number [] name found e = absurd (cc)
first_within number (other ∷ others) name found e = first_within_by number others name found (same_name other name) e (first_within (suc number) others name found)

abbrev DeclarationPasses : (TypeName → Type 0) → Declaration → Type 0
DeclarationPasses Passes declaration = Passes declaration.kind

-- the declaration that a number refers to passes where all do
declaration_passes : (Passes : TypeName → Type 0) (declarations : List Declaration) (names : List Name) (name other : Name) (found : Option ℕ) → HoldsOfEach (DeclarationPasses Passes) declarations → length declarations ≡ length names →
    first_from 0 names name ≡ found → is_some found ≡ true → Passes (declaration_referred declarations found other).kind
declaration_passes Passes declarations names name other None pass sized e known = absurd (cc)
declaration_passes Passes declarations names name other (Some number) pass sized e known =
    let within = first_within 0 names name number e in
    let (declaration, here) = element_at declarations number (omega (arith, within, sized)) in
    subst (λ (d : Declaration). Passes d.kind) (sym (get_or_from_slice_get declarations number declaration (record { place = 0; name = other; kind = unknown_type }) here))
    (holds_at (DeclarationPasses Passes) declarations number declaration pass here)

module _ (numbers : Numbering) (names : List TypeName) (Fact : TypeReference → Type 0) (Passes : TypeName → Type 0)
    (each : (place : ℕ) (kind : TypeReference) → Fact kind → HoldsOfEach (Refers numbers) (type_mentions place kind) → Passes (type_referred numbers names kind)) where
  elements_pass : (Attributes : TypeReference → Type 0) (declarations : List GlobalDeclaration) → HoldsOfEach (HoldsGlobal Fact Attributes) declarations → HoldsOfEach (λ (g : GlobalDeclaration). HoldsOfEach (Refers numbers) (global_mentions g)) declarations →
      HoldsOfEach (DeclarationPasses Passes) (flat_map (declared_element numbers names) declarations)
  elements_pass Attributes [] h refer = tt
  elements_pass Attributes (globals.Element place name kind ∷ others) h refer = (each place kind h.0 refer.0, elements_pass Attributes others h.1 refer.1)
  elements_pass Attributes (globals.Attribute place name kind ∷ others) h refer = elements_pass Attributes others h.1 refer.1
  elements_pass Attributes (globals.Group place name particle ∷ others) h refer = elements_pass Attributes others h.1 refer.1
  elements_pass Attributes (globals.AttributeGroup place name attributes ∷ others) h refer = elements_pass Attributes others h.1 refer.1

  attributes_pass : (Elements : TypeReference → Type 0) (declarations : List GlobalDeclaration) → HoldsOfEach (HoldsGlobal Elements Fact) declarations → HoldsOfEach (λ (g : GlobalDeclaration). HoldsOfEach (Refers numbers) (global_mentions g)) declarations →
      HoldsOfEach (DeclarationPasses Passes) (flat_map (declared_attribute numbers names) declarations)
  attributes_pass Elements [] h refer = tt
  attributes_pass Elements (globals.Attribute place name kind ∷ others) h refer = (each place kind h.0 refer.0, attributes_pass Elements others h.1 refer.1)
  attributes_pass Elements (globals.Element place name kind ∷ others) h refer = attributes_pass Elements others h.1 refer.1
  attributes_pass Elements (globals.Group place name particle ∷ others) h refer = attributes_pass Elements others h.1 refer.1
  attributes_pass Elements (globals.AttributeGroup place name attributes ∷ others) h refer = attributes_pass Elements others h.1 refer.1

elements_sized : (numbers : Numbering) (names : List TypeName) (declarations : List GlobalDeclaration) → length (flat_map (declared_element numbers names) declarations) ≡ length (names_of_kind kinds.ElementDeclaration declarations)
elements_sized numbers names [] = refl
elements_sized numbers names (globals.Element place name kind ∷ others) = ap suc (elements_sized numbers names others)
elements_sized numbers names (globals.Attribute place name kind ∷ others) = elements_sized numbers names others
elements_sized numbers names (globals.Group place name particle ∷ others) = elements_sized numbers names others
elements_sized numbers names (globals.AttributeGroup place name attributes ∷ others) = elements_sized numbers names others

attributes_sized : (numbers : Numbering) (names : List TypeName) (declarations : List GlobalDeclaration) → length (flat_map (declared_attribute numbers names) declarations) ≡ length (names_of_kind kinds.AttributeDeclaration declarations)
attributes_sized numbers names [] = refl
attributes_sized numbers names (globals.Attribute place name kind ∷ others) = ap suc (attributes_sized numbers names others)
attributes_sized numbers names (globals.Element place name kind ∷ others) = attributes_sized numbers names others
attributes_sized numbers names (globals.Group place name particle ∷ others) = attributes_sized numbers names others
attributes_sized numbers names (globals.AttributeGroup place name attributes ∷ others) = attributes_sized numbers names others

-- ---- documents

-- what is written in documents, and refers to something
pub record AreWritten (documents : List DocumentTree) (Elements Attributes : TypeReference → Type 0) : Type 0 where
  pub types : HoldsOfEach (HoldsDeclaration Elements Attributes) (types_in documents)
  pub globals : HoldsOfEach (HoldsGlobal Elements Attributes) (declarations_in documents)
  pub types_refer : HoldsOfEach (λ (t : TypeDeclaration). HoldsOfEach (Refers (declared_number documents)) (type_declaration_mentions t)) (types_in documents)
  pub globals_refer : HoldsOfEach (λ (g : GlobalDeclaration). HoldsOfEach (Refers (declared_number documents)) (global_mentions g)) (declarations_in documents)

-- what holds of a type that is written holds otherwise of the type that it is
abbrev pub Becomes : List DocumentTree → (TypeReference → Type 0) → (TypeName → Type 0) → Type 0
Becomes documents Fact Passes =
    (place : ℕ) (kind : TypeReference) → Fact kind → HoldsOfEach (Refers (declared_number documents)) (type_mentions place kind) → Passes (type_referred (declared_number documents) (type_names_in documents) kind)

seen_form_of_elements : (Passes : TypeName → Type 0) (is_circular : ℕ → Bool) (form : TypeForm) → HoldsOfEach Passes (kinds_of_form form) → HoldsOfEach Passes (kinds_of_form (seen_form is_circular form))
seen_form_of_elements Passes is_circular (forms.Simple definition) h = tt
seen_form_of_elements Passes is_circular (forms.Complex definition) h = h

seen_types_of_elements : (Passes : TypeName → Type 0) (is_circular : ℕ → Bool) (types : List TypeComponent) → HoldsOfEach (TypePasses Passes) types → HoldsOfEach (TypePasses Passes) (seen_types is_circular types)
seen_types_of_elements Passes is_circular [] h = tt
seen_types_of_elements Passes is_circular (component ∷ types) h = (seen_form_of_elements Passes is_circular component.form h.0, seen_types_of_elements Passes is_circular types h.1)

seen_group_passes : (Passes : TypeName → Type 0) (circular : Bool) (group : ModelGroup) → GroupPasses Passes group → GroupPasses Passes (seen_group circular group)
seen_group_passes Passes true group h = tt
seen_group_passes Passes false group h = h

seen_groups_pass : (Passes : TypeName → Type 0) (is_circular : ℕ → Bool) (number : ℕ) (groups : List ModelGroup) → HoldsOfEach (GroupPasses Passes) groups → HoldsOfEach (GroupPasses Passes) (seen_groups_from is_circular number groups)
seen_groups_pass Passes is_circular number [] h = tt
seen_groups_pass Passes is_circular number (group ∷ groups) h = (seen_group_passes Passes (is_circular number) group h.0, seen_groups_pass Passes is_circular (suc number) groups h.1)

-- the types of the elements that are seen in documents
pub elements_keep_in : (documents : List DocumentTree) (Elements Attributes : TypeReference → Type 0) (Passes : TypeName → Type 0) → Becomes documents Elements Passes → AreWritten documents Elements Attributes →
    HoldsOfEach Passes (element_kinds (seen_components documents).types (seen_components documents).groups)
elements_keep_in documents Elements Attributes Passes each written =
    let x = globals_of documents in
    let first = first_inner documents in
    let circles = circles_of documents in
    let seen = seen_components documents in
    let passing = elements_pass (declared_number documents) (type_names_in documents) Elements Passes each Attributes (declarations_in documents) written.globals written.globals_refer in
    let keeps : Keeps x kinds.ElementDeclaration x.elements Elements Passes = record {
      kinds = each;
      declared = λ reference refer.
          declaration_passes Passes x.elements (names_of_kind kinds.ElementDeclaration (declarations_in documents)) reference.name reference.name (declared_number documents kinds.ElementDeclaration reference.name) passing
          (elements_sized (declared_number documents) (type_names_in documents) (declarations_in documents)) refl (number_of_reference (declared_number documents) kinds.ElementDeclaration reference refer);
    } in
    let definitions = definitions_keep x first Elements Passes keeps Attributes [] (declarations_in documents) written.globals written.globals_refer tt in
    let placed = types_keep x first Elements Passes keeps Attributes (definitions_by x first documents).groups (types_in documents) written.types written.types_refer definitions.1 in
    holds_append Passes (flat_map kinds_of_type seen.types) (flat_map kinds_of_group seen.groups)
    (holds_joined Passes kinds_of_type seen.types (seen_types_of_elements Passes circles.types (type_components documents) placed.0))
    (holds_joined Passes kinds_of_group seen.groups
    (seen_groups_pass Passes circles.groups 0 (model_groups documents) (holds_append (GroupPasses Passes) (definitions_by x first documents).placed (types_by x first documents).groups definitions.0 placed.1)))

seen_form_of_attributes : (Passes : TypeName → Type 0) (is_circular : ℕ → Bool) (form : TypeForm) → HoldsOfEach Passes (kinds_in_form form) → HoldsOfEach Passes (kinds_in_form (seen_form is_circular form))
seen_form_of_attributes Passes is_circular (forms.Simple definition) h = tt
seen_form_of_attributes Passes is_circular (forms.Complex definition) h = h

seen_types_of_attributes : (Passes : TypeName → Type 0) (is_circular : ℕ → Bool) (types : List TypeComponent) → HoldsOfEach (λ (component : TypeComponent). HoldsOfEach Passes (kinds_in_type component)) types →
    HoldsOfEach (λ (component : TypeComponent). HoldsOfEach Passes (kinds_in_type component)) (seen_types is_circular types)
seen_types_of_attributes Passes is_circular [] h = tt
seen_types_of_attributes Passes is_circular (component ∷ types) h = (seen_form_of_attributes Passes is_circular component.form h.0, seen_types_of_attributes Passes is_circular types h.1)

seen_attribute_group_passes : (Passes : TypeName → Type 0) (circular : Bool) (group : AttributeGroup) → HoldsOfEach Passes (kinds_in_group group) → HoldsOfEach Passes (kinds_in_group (seen_attribute_group circular group))
seen_attribute_group_passes Passes true group h = tt
seen_attribute_group_passes Passes false group h = h

seen_attribute_groups_pass : (Passes : TypeName → Type 0) (is_circular : ℕ → Bool) (number : ℕ) (groups : List AttributeGroup) → HoldsOfEach (λ (group : AttributeGroup). HoldsOfEach Passes (kinds_in_group group)) groups →
    HoldsOfEach (λ (group : AttributeGroup). HoldsOfEach Passes (kinds_in_group group)) (seen_attribute_groups_from is_circular number groups)
seen_attribute_groups_pass Passes is_circular number [] h = tt
seen_attribute_groups_pass Passes is_circular number (group ∷ groups) h =
    (seen_attribute_group_passes Passes (is_circular number) group h.0, seen_attribute_groups_pass Passes is_circular (suc number) groups h.1)

-- the types of the attributes that are seen in documents
pub attributes_keep_in : (documents : List DocumentTree) (Elements Attributes : TypeReference → Type 0) (Passes : TypeName → Type 0) → Becomes documents Attributes Passes → AreWritten documents Elements Attributes →
    HoldsOfEach Passes (attribute_kinds (seen_components documents).types (seen_components documents).attribute_groups)
attributes_keep_in documents Elements Attributes Passes each written =
    let x = globals_of documents in
    let first = first_inner documents in
    let circles = circles_of documents in
    let seen = seen_components documents in
    let passing = attributes_pass (declared_number documents) (type_names_in documents) Attributes Passes each Elements (declarations_in documents) written.globals written.globals_refer in
    let keeps : Keeps x kinds.AttributeDeclaration x.attributes Attributes Passes = record {
      kinds = each;
      declared = λ reference refer.
          declaration_passes Passes x.attributes (names_of_kind kinds.AttributeDeclaration (declarations_in documents)) reference.name reference.name (declared_number documents kinds.AttributeDeclaration reference.name) passing
          (attributes_sized (declared_number documents) (type_names_in documents) (declarations_in documents)) refl (number_of_reference (declared_number documents) kinds.AttributeDeclaration reference refer);
    } in
    let placed = type_attributes_pass x Attributes Passes keeps Elements first (definitions_by x first documents).groups (types_in documents) written.types written.types_refer in
    holds_append Passes (flat_map kinds_in_type seen.types) (flat_map kinds_in_group seen.attribute_groups)
    (holds_joined Passes kinds_in_type seen.types (seen_types_of_attributes Passes circles.types (type_components documents) placed))
    (holds_joined Passes kinds_in_group seen.attribute_groups
    (seen_attribute_groups_pass Passes circles.attribute_groups 0 (attribute_groups documents) (attribute_groups_pass x Attributes Passes keeps Elements (declarations_in documents) written.globals written.globals_refer)))
