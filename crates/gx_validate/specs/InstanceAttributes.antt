-- Attributes that speak of schemas, whose namespace has the prefix xsi by custom (XML Schema 1.0 part 1, section 2.6).
use Rattle.std.specs.Prelude.{ℕ, Bool, ◌&&◌, List, [], ◌∷◌, codes, Option, Some, None, if◌then◌else◌}
use Rattle.std.specs.List.{list_any}
use Rattle.gx_base.specs.declared.name.Name.{Name}
use Rattle.gx_xml.specs.declared.source.SourceAttribute.{SourceAttribute}
use Rattle.gx_xml.specs.Untyped.{is_instance_namespace}
use Rattle.gx_qnames.specs.Words.{has_spelling}

-- an attribute has this local name in that namespace
abbrev pub is_instance_attribute : (word : List ℕ) → Name → Bool
is_instance_attribute word name = is_instance_namespace name.uri && has_spelling word name.local

-- the value of xsi:type
abbrev pub given_type : List SourceAttribute → Option (List ℕ)
given_type [] = None
given_type (a ∷ others) = if is_instance_attribute (codes "type") a.name then Some a.value else given_type others

-- xsi:nil is there
abbrev pub has_nil : List SourceAttribute → Bool
has_nil attributes = list_any (λ a. is_instance_attribute (codes "nil") a.name) attributes
