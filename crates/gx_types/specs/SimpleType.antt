-- What a type with simple values means (XML Schema 1.0 part 1, sections 3.4 and 3.14; part 2, sections 2.5.1 and 4.1).
use Rattle.std.specs.Prelude.{List, [], ◌++◌, Option, None, Some}
use Rattle.std.specs.List.{filter_map}
use Rattle.gx_base.specs.declared.type_name.Builtin.{Builtin}
use Rattle.gx_base.specs.declared.type_name.Builtin.TheVariants.{AnySimple}
use Rattle.gx_base.specs.declared.type_name.TypeName.{TypeName}
use Rattle.gx_base.specs.declared.type_name.TypeName.TheVariants as names
use Rattle.gx_facets.specs.declared.restriction.Facets.{Facets}
use Rattle.gx_types.specs.BaseChain.{own_content, base_chain, end_of_chain}
use Rattle.gx_types.specs.SchemaSet.{SchemaSet}
use Rattle.gx_types.specs.declared.declaration.Content.{Content}
use Rattle.gx_types.specs.declared.declaration.Content.TheVariants as contents
use Rattle.gx_types.specs.declared.declaration.Declared.{Declared}
use Rattle.gx_types.specs.declared.simple_type.Variety.{Variety}
use Rattle.gx_types.specs.declared.simple_type.Variety.TheVariants as varieties

-- an atomic type: its values are those of a built-in type that each of the facets admits
pub record AtomicMeaning : Type 0 where
  pub kind : TypeName
  pub bottom : Builtin
  pub facets : List Facets

-- a type with simple values: one value of an atomic type, or a list of items of it, that each of the further facets admits
pub record SimpleMeaning : Type 0 where
  pub variety : Variety
  pub item : AtomicMeaning
  pub facets : List Facets

-- the facets that a type adds to those of its base
abbrev pub own_facets : Content → Option Facets
own_facets (contents.Atomic facets) = Some facets
own_facets (contents.List item facets) = Some facets
own_facets (contents.Simple kind facets) = Some facets
own_facets (contents.Complex mixed model) = None

-- the facets of a type and of all its bases
abbrev pub all_facets : List Declared → TypeName → List Facets
all_facets types t = filter_map (λ (declared : Declared). own_facets declared.content) (base_chain types t)

-- a built-in type; one that is not built-in has no values of its own
abbrev pub built_in : TypeName → Builtin
built_in (names.Builtin builtin) = builtin
built_in _ = AnySimple

-- the built-in type at which the bases of a type end
abbrev pub bottom_of : List Declared → TypeName → Builtin
bottom_of types t = built_in (end_of_chain (base_chain types t) t)

abbrev pub atomic_meaning : List Declared → TypeName → AtomicMeaning
atomic_meaning types t = record { kind = t; bottom = bottom_of types t; facets = all_facets types t }

-- xs:anySimpleType has no lexical space of its own, and so has a type without simple values
abbrev pub meaning_without_values : TypeName → AtomicMeaning
meaning_without_values t = record { kind = t; bottom = AnySimple; facets = [] }

abbrev pub single_meaning : AtomicMeaning → SimpleMeaning
single_meaning item = record { variety = varieties.Atomic; item = item; facets = [] }

-- a simple type with this content: a list of items, or one value
abbrev pub simple_meaning : List Declared → TypeName → Option Content → SimpleMeaning
simple_meaning types t None = single_meaning (atomic_meaning types t)
simple_meaning types t (Some (contents.Atomic facets)) = single_meaning (atomic_meaning types t)
simple_meaning types t (Some (contents.List item facets)) = record { variety = varieties.List; item = atomic_meaning types item; facets = all_facets types t }
simple_meaning types t (Some (contents.Simple kind facets)) = single_meaning (meaning_without_values t)
simple_meaning types t (Some (contents.Complex mixed model)) = single_meaning (meaning_without_values t)

abbrev pub restricted : List Facets → SimpleMeaning → SimpleMeaning
restricted facets meaning = record { variety = meaning.variety; item = meaning.item; facets = facets ++ meaning.facets }

-- a type with this content: simple content has the values of its simple type that the facets of the type and of its bases admit
abbrev pub meaning_of_content : List Declared → TypeName → Option Content → SimpleMeaning
meaning_of_content types t (Some (contents.Simple kind facets)) = restricted (all_facets types t) (simple_meaning types kind (own_content types kind))
meaning_of_content types t content = simple_meaning types t content

abbrev pub meaning_among : List Declared → TypeName → SimpleMeaning
meaning_among types t = meaning_of_content types t (own_content types t)

abbrev pub simple_meaning_of : SchemaSet → TypeName → SimpleMeaning
simple_meaning_of schemas t = meaning_among schemas.types t

-- an atomic type with this content; a complex type is none, whatever its values are
abbrev pub atomic_of_content : List Declared → TypeName → Option Content → Option AtomicMeaning
atomic_of_content types t (Some (contents.Atomic facets)) = Some (atomic_meaning types t)
atomic_of_content types t _ = None

-- an atomic type that is declared
abbrev pub declared_atomic : SchemaSet → TypeName → Option AtomicMeaning
declared_atomic schemas t = atomic_of_content schemas.types t (own_content schemas.types t)
