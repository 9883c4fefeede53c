-- A type with another type in the place of each item type, however long it is.
use Rattle.std.specs.Prelude.{List, [], ◌∷◌, ◌++◌}
use Rattle.gx_types.specs.declared.item_type.ItemType.{ItemType}
use Rattle.gx_types.specs.SequenceType.{SequenceType, never, nothing, item, both, either, optional, star, plus}
use Rattle.gx_types.specs.Indicator.{optional_of, star_of, plus_of}
use Rattle.gx_types.specs.Choice.{choice_among}
use Rattle.gx_types.specs.TypeRules.{joined_types}

-- in a choice of any number of members they are gathered first, and chosen at once
abbrev mutual
  pub replaced_items : (ItemType → SequenceType) → SequenceType → SequenceType
  replaced_items f never = never
  replaced_items f nothing = nothing
  replaced_items f (item kind) = f kind
  replaced_items f (both first second) = joined_types (replaced_items f first) (replaced_items f second)
  replaced_items f (either first second) = choice_among (alternatives f first ++ alternatives f second)
  replaced_items f (optional part) = optional_of (replaced_items f part)
  replaced_items f (star part) = star_of (replaced_items f part)
  replaced_items f (plus part) = plus_of (replaced_items f part)

  pub alternatives : (ItemType → SequenceType) → SequenceType → List SequenceType
  alternatives f never = never ∷ []
  alternatives f nothing = nothing ∷ []
  alternatives f (item kind) = f kind ∷ []
  alternatives f (both first second) = joined_types (replaced_items f first) (replaced_items f second) ∷ []
  alternatives f (either first second) = alternatives f first ++ alternatives f second
  alternatives f (optional part) = optional_of (replaced_items f part) ∷ []
  alternatives f (star part) = star_of (replaced_items f part) ∷ []
  alternatives f (plus part) = plus_of (replaced_items f part) ∷ []
