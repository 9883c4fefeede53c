-- What the static rules demand of an operand, and the types that the standard names there: its type is included in them.
use Rattle.std.specs.Prelude.{◌≡◌, ◌↔◌, ◌⊎◌, Bool, true, false, ◌&&◌}
use Rattle.gx_base.specs.declared.type_name.Builtin.{Builtin}
use Rattle.gx_base.specs.declared.type_name.Builtin.TheVariants.{AnyAtomic, Integer, Decimal, UntypedAtomic, Boolean}
use Rattle.gx_base.specs.declared.type_name.Builtin.TheVariants as builtins
use Rattle.gx_base.specs.declared.type_name.TypeName.{TypeName}
use Rattle.gx_types.specs.declared.item_type.ItemType.{ItemType}
use Rattle.gx_types.specs.SchemaSet.{SchemaSet}
use Rattle.gx_types.specs.Derivation.{bases_of}
use Rattle.gx_types.specs.Grounded.{Grounded}
use Rattle.gx_types.specs.SequenceType.{SequenceType, either, optional, star}
use Rattle.gx_include.specs.Inclusion.{IsIncluded}
use Rattle.gx_steptype.specs.StepType.{any_item}
use Rattle.gx_funcs.specs.declared.function.ParameterType.TheVariants as parameters
use Rattle.gx_core.specs.declared.expression.ArithmeticOp.{ArithmeticOp}
use Rattle.gx_static.specs.declared.comparison.Family.{Family}
use Rattle.gx_static.specs.declared.comparison.Family.TheVariants as families
use Rattle.gx_static.specs.NormalTypes.{IsNormalType}
use Rattle.gx_static.specs.Rule.{Ruling, has_type, has_none, atomic, all_items, is_atomic, is_atomic_in, is_of_family, is_at_most_one, is_at_least_one, arithmetic_rule, negation_rule, value_comparison_rule, range_rule, conditional_rule, nodes_type, order_rule, cast_rule, castable_rule, takes_argument}

-- what a rule demands of each item of an operand
pub data Demand : Type 0 where
  -- it is an atomic value of a built-in type, or of one derived from it
  of_type : (builtin : Builtin) → Demand
  -- it is of a family of values that compare with one another
  of_family : (family : Family) → Demand
  -- it is an atomic value
  of_atomic : Demand
  -- nothing
  of_any : Demand

-- the test of an item type
abbrev pub meets_demand : SchemaSet → Demand → ItemType → Bool
meets_demand schemas (of_type builtin) kind = is_atomic_in schemas builtin kind
meets_demand schemas (of_family family) kind = is_of_family schemas family kind
meets_demand schemas of_atomic kind = is_atomic kind
meets_demand schemas of_any kind = true

abbrev pub family_type : Family → SequenceType
family_type families.Number = atomic Decimal
family_type families.Text = either (atomic builtins.Str) (atomic UntypedAtomic)
family_type families.Truth = atomic Boolean

-- the type of one such item
abbrev pub demanded_type : Demand → SequenceType
demanded_type (of_type builtin) = atomic builtin
demanded_type (of_family family) = family_type family
demanded_type of_atomic = atomic AnyAtomic
demanded_type of_any = any_item

-- a demand that names the types of atomic values
abbrev pub NamesAtomicTypes : Demand → Type 0
NamesAtomicTypes (of_type builtin) = Unit {0}
NamesAtomicTypes (of_family family) = Unit {0}
NamesAtomicTypes of_atomic = ⊥
NamesAtomicTypes of_any = ⊥

-- a type that meets a demand is included in the demanded type, with each indicator
pub record IsIncludedIfMet (schemas : SchemaSet) (demand : Demand) (t : SequenceType) : Type 0 where
  pub any_number : all_items (meets_demand schemas demand) t ≡ true → IsIncluded schemas t (star (demanded_type demand))
  pub at_most_one : (is_at_most_one t && all_items (meets_demand schemas demand) t) ≡ true → IsIncluded schemas t (optional (demanded_type demand))
  pub one : (is_at_least_one t && is_at_most_one t && all_items (meets_demand schemas demand) t) ≡ true → IsIncluded schemas t (demanded_type demand)

-- and one that is included in it meets the demand
pub record IsMetIfIncluded (schemas : SchemaSet) (demand : Demand) (t : SequenceType) : Type 0 where
  pub any_number : IsIncluded schemas t (star (demanded_type demand)) → all_items (meets_demand schemas demand) t ≡ true
  pub at_most_one : IsIncluded schemas t (optional (demanded_type demand)) → (is_at_most_one t && all_items (meets_demand schemas demand) t) ≡ true
  pub one : IsIncluded schemas t (demanded_type demand) → (is_at_least_one t && is_at_most_one t && all_items (meets_demand schemas demand) t) ≡ true

-- whatever the type is, where the demand names types
abbrev pub MetDemandsAreInclusion : Type 0
MetDemandsAreInclusion = (schemas : SchemaSet) (demand : Demand) (t : SequenceType) → NamesAtomicTypes demand → IsIncludedIfMet schemas demand t

-- each demand on a type as typing makes it is inclusion, exactly
abbrev pub DemandsAreInclusion : Type 0
DemandsAreInclusion =
    (schemas : SchemaSet) (demand : Demand) (t : SequenceType) → Grounded (bases_of schemas) → IsNormalType schemas t → IsIncludedIfMet schemas demand t × IsMetIfIncluded schemas demand t

-- ---- rules

-- a rule gives a type
abbrev pub GivesType : Ruling → Type 0
GivesType (has_type type) = Unit {0}
GivesType (has_none code part) = ⊥

-- a rule of one operand gives a type exactly where that of the operand is included in a type
abbrev pub DemandsOfOne : SchemaSet → (SequenceType → Ruling) → SequenceType → Type 0
DemandsOfOne schemas ruling wanted = (operand : SequenceType) → IsNormalType schemas operand → GivesType (ruling operand) ↔ IsIncluded schemas operand wanted

-- and a rule of two operands where those of both are
abbrev pub DemandsOfBoth : SchemaSet → (SequenceType → SequenceType → Ruling) → SequenceType → Type 0
DemandsOfBoth schemas ruling wanted =
    (left right : SequenceType) → IsNormalType schemas left → IsNormalType schemas right
    → GivesType (ruling left right) ↔ (IsIncluded schemas left wanted × IsIncluded schemas right wanted)

-- two types are included in the type of at most one value of one family
abbrev pub AreOfOneFamily : SchemaSet → (left right : SequenceType) → Type 0
AreOfOneFamily schemas left right =
    (family : Family) × IsIncluded schemas left (optional (family_type family)) × IsIncluded schemas right (optional (family_type family))

-- the rules that test item types give a type exactly where those of their operands are included in the types that the standard names
pub record RulesDemandInclusion (schemas : SchemaSet) : Type 0 where
  pub arithmetic : (operation : ArithmeticOp) → DemandsOfBoth schemas (arithmetic_rule schemas operation) (optional (atomic Decimal))
  pub range : DemandsOfBoth schemas (range_rule schemas) (optional (atomic Integer))
  pub negation : DemandsOfOne schemas (negation_rule schemas) (optional (atomic Decimal))
  pub comparison : (left right : SequenceType) → IsNormalType schemas left → IsNormalType schemas right → GivesType (value_comparison_rule schemas left right) ↔ AreOfOneFamily schemas left right
  pub condition : (chosen otherwise : SequenceType) → DemandsOfOne schemas (λ condition. conditional_rule schemas condition chosen otherwise) (atomic Boolean)
  pub cast : (kind : TypeName) → DemandsOfOne schemas (cast_rule kind false) (atomic AnyAtomic)
  pub optional_cast : (kind : TypeName) → DemandsOfOne schemas (cast_rule kind true) (optional (atomic AnyAtomic))
  pub castable : DemandsOfOne schemas castable_rule (optional (atomic AnyAtomic))
  pub order : (operand : SequenceType) → IsNormalType schemas operand → GivesType (order_rule schemas operand) ↔ (IsIncluded schemas operand nodes_type ⊎ IsIncluded schemas operand (star (atomic AnyAtomic)))
  pub argument : (argument : SequenceType) → IsNormalType schemas argument → (takes_argument schemas parameters.OptionalItem argument ≡ true) ↔ IsIncluded schemas argument (optional any_item)

-- in any schemas whose types end at built-in ones
abbrev pub AllRulesDemandInclusion : Type 0
AllRulesDemandInclusion = (schemas : SchemaSet) → Grounded (bases_of schemas) → RulesDemandInclusion schemas
