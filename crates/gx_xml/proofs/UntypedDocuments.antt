-- The tree of a document without types.
use Rattle.std.proofs.Common.{◌≡◌, ℕ, Bool, true, false, ◌||◌, List, [], ◌∷◌, map, refl, ◌∙◌, ap, if◌then◌else◌}
use Rattle.std.specs.List.{list_any}
use Rattle.gx_base.specs.Name.{same_name}
use Rattle.gx_tree.specs.PlainTree.{IsContent, AreContent, IsProper}
use Rattle.gx_tree.specs.Erasure.{IsUntyped, AreUntyped, AreUntypedAtomic}
use Rattle.gx_tree.specs.OwnNames.{has_attribute, HaveOwnNames, HasOwnNames, AllHaveOwnNames}
use Rattle.gx_xml.specs.declared.source.SourceAttribute.{SourceAttribute}
use Rattle.gx_xml.specs.Reading.{IsDocumentOf}
use Rattle.gx_xml.specs.Sound.{HasNoRepeats, IsSoundSource, AreSoundContents}
use Rattle.gx_xml.specs.SourceTree.{SourceTree, SourceContents, source, no_content, a_child, a_text}
use Rattle.gx_xml.specs.Untyped.{attribute_as_untyped, is_instance_namespace, untyped_attributes, untyped_element, untyped_contents, untyped_document}
use Rattle.std.proofs.lemmas.Bool.{or_parts}
use Rattle.gx_xml.proofs.OneReading.{sound_source}

mutual
  element_is_content : (t : SourceTree) → IsContent (untyped_element t)
  element_is_content (source name declarations attributes cs) = contents_are_content cs

  contents_are_content : (cs : SourceContents) → AreContent (untyped_contents cs)
  contents_are_content no_content = tt
  contents_are_content (a_child t cs) = (element_is_content t, contents_are_content cs)
  contents_are_content (a_text x cs) = (tt, contents_are_content cs)

pub document_is_proper : (root : SourceTree) → IsProper (untyped_document root)
document_is_proper root = (element_is_content root, tt)

attributes_are_untyped : (attributes : List SourceAttribute) → AreUntypedAtomic (untyped_attributes attributes)
attributes_are_untyped [] = tt
attributes_are_untyped (a ∷ others) =
    elim (is_instance_namespace a.name.uri) as (λ (dropped : Bool). AreUntypedAtomic (if dropped then untyped_attributes others else attribute_as_untyped a ∷ untyped_attributes others)) [
      | true ↦ attributes_are_untyped others
      | false ↦ (refl, attributes_are_untyped others)
    ]

mutual
  element_is_untyped : (t : SourceTree) → IsUntyped (untyped_element t)
  element_is_untyped (source name declarations attributes cs) = (refl, attributes_are_untyped attributes, contents_are_untyped cs)

  contents_are_untyped : (cs : SourceContents) → AreUntyped (untyped_contents cs)
  contents_are_untyped no_content = tt
  contents_are_untyped (a_child t cs) = (element_is_untyped t, contents_are_untyped cs)
  contents_are_untyped (a_text x cs) = (tt, contents_are_untyped cs)

pub document_is_untyped : (root : SourceTree) → IsUntyped (untyped_document root)
document_is_untyped root = (element_is_untyped root, tt)

-- a name that none of them has, none has among those that are kept
name_is_own : (a : SourceAttribute) (others : List SourceAttribute) → list_any (same_name a.name) (map (λ b. b.name) others) ≡ false → has_attribute (untyped_attributes others) (attribute_as_untyped a) ≡ false
name_is_own a [] h = refl
name_is_own a (b ∷ others) h =
    let apart = or_parts (same_name a.name b.name) (list_any (same_name a.name) (map (λ b. b.name) others)) h in
    let own = name_is_own a others apart.1 in
    elim (is_instance_namespace b.name.uri) as (λ (dropped : Bool). has_attribute (if dropped then untyped_attributes others else attribute_as_untyped b ∷ untyped_attributes others) (attribute_as_untyped a) ≡ false) [
      | true ↦ own
      | false ↦ ap (λ (same : Bool). same || has_attribute (untyped_attributes others) (attribute_as_untyped a)) apart.0 ∙ own
    ]

attributes_have_own_names : (attributes : List SourceAttribute) → HasNoRepeats same_name (map (λ a. a.name) attributes) → HaveOwnNames (untyped_attributes attributes)
attributes_have_own_names [] h = tt
attributes_have_own_names (a ∷ others) h =
    elim (is_instance_namespace a.name.uri) as (λ (dropped : Bool). HaveOwnNames (if dropped then untyped_attributes others else attribute_as_untyped a ∷ untyped_attributes others)) [
      | true ↦ attributes_have_own_names others h.1
      | false ↦ (name_is_own a others h.0, attributes_have_own_names others h.1)
    ]

mutual
  element_has_own_names : (t : SourceTree) → IsSoundSource t → HasOwnNames (untyped_element t)
  element_has_own_names (source name declarations attributes cs) h = (attributes_have_own_names attributes h.1, contents_have_own_names cs h.2)

  contents_have_own_names : (cs : SourceContents) → AreSoundContents cs → AllHaveOwnNames (untyped_contents cs)
  contents_have_own_names no_content h = tt
  contents_have_own_names (a_child t cs) h = (element_has_own_names t h.0, contents_have_own_names cs h.1)
  contents_have_own_names (a_text x cs) h = (tt, contents_have_own_names cs h.2)

pub document_has_own_names : (bytes : List ℕ) (root : SourceTree) → IsDocumentOf bytes root → HasOwnNames (untyped_document root)
document_has_own_names bytes root h = (element_has_own_names root (sound_source h.0 root h.2.derived).0, tt)
