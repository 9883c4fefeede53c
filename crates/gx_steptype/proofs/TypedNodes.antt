-- The types of the nodes of honest forests.
use Rattle.std.proofs.Common.{◌≡◌, ◌⊎◌, inl, inr, Some}
use Rattle.gx_base.specs.declared.type_name.Builtin.TheVariants.{Untyped, UntypedAtomic}
use Rattle.gx_base.specs.declared.type_name.TypeName.TheVariants.{Builtin}
use Rattle.gx_types.specs.SchemaSet.{SchemaSet}
use Rattle.gx_tree.specs.PlainTree.{PlainTree, document, element, attribute, text}
use Rattle.gx_model.specs.Forest.{Forest, PlainNode, node_in}
use Rattle.gx_model.specs.TypedTree.{IsTypedAttribute, KeepsToType}
use Rattle.gx_model.specs.Honest.{IsHonest}
use Rattle.gx_steptype.proofs.HonestPlaces.{PlaceFact, place_fact}

-- what is known of the type of a node
abbrev pub NodeFact : SchemaSet → PlainTree → Type 0
NodeFact s (document ts) = Unit {0}
NodeFact s (element n k l ts) = (k ≡ Builtin Untyped) ⊎ KeepsToType s k l ts
NodeFact s (attribute a) = (a.kind ≡ Builtin UntypedAtomic) ⊎ IsTypedAttribute s a
NodeFact s (text x) = Unit {0}

node_fact : (s : SchemaSet) (t : PlainTree) → PlaceFact s t → NodeFact s t
node_fact s (document ts) h = tt
node_fact s (element n k l ts) (inl u) = inl u.0
node_fact s (element n k l ts) (inr h) = inr h.0
node_fact s (attribute a) h = h
node_fact s (text x) h = tt

pub found_fact : (s : SchemaSet) (forest : Forest) (place : PlainNode) (t : PlainTree) → IsHonest s forest → node_in forest place ≡ Some t → NodeFact s t
found_fact s forest place t h e = node_fact s t (place_fact s forest place t h e)
