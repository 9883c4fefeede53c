-- The laws of validation.
use Rattle.std.specs.Prelude.{◌≡◌, ◌↔◌, Ok, Err, IsSome}
use Rattle.gx_base.specs.declared.name.Name.{Name}
use Rattle.gx_tree.specs.PlainTree.{PlainTree}
use Rattle.gx_types.specs.SchemaSet.{SchemaSet, global_type}
use Rattle.gx_types.specs.SchemaInvariant.{IsSchemaSet}
use Rattle.gx_model.specs.Honest.{IsHonestTree}
use Rattle.gx_model.specs.TypedTree.{IsWellTyped}
use Rattle.gx_xml.specs.SourceTree.{SourceTree}
use Rattle.gx_xml.specs.Sound.{IsSoundSource}
use Rattle.gx_validate.specs.Outcome.{Fault, validated}
use Rattle.gx_validate.specs.Valid.{IsTreeOfDocument, IsValidTree}

-- a tree is what validation comes to, exactly where it is valid
abbrev pub OutcomesAreValid : Type 0
OutcomesAreValid =
    (schemas : SchemaSet) (root : Name) (u : SourceTree) (v : PlainTree) → IsSchemaSet schemas → IsSome (global_type schemas root) → IsSoundSource u
    → (validated schemas root u ≡ Ok v) ↔ IsValidTree schemas root u v

-- at most one tree is valid
abbrev pub ValidTreesAreOne : Type 0
ValidTreesAreOne =
    (schemas : SchemaSet) (root : Name) (u : SourceTree) (v w : PlainTree) → IsSchemaSet schemas → IsSome (global_type schemas root) → IsSoundSource u
    → IsValidTree schemas root u v → IsValidTree schemas root u w → v ≡ w

-- there is a fault exactly where no tree is valid
abbrev pub FaultsExcludeTrees : Type 0
FaultsExcludeTrees =
    (schemas : SchemaSet) (root : Name) (u : SourceTree) → IsSchemaSet schemas → IsSome (global_type schemas root) → IsSoundSource u
    → ((fault : Fault) × (validated schemas root u ≡ Err fault)) ↔ ((v : PlainTree) → IsValidTree schemas root u v → ⊥)

-- a tree is valid exactly where it is honest and the document's
abbrev pub ValidTreesAreHonest : Type 0
ValidTreesAreHonest =
    (schemas : SchemaSet) (root : Name) (u : SourceTree) (v : PlainTree) → IsValidTree schemas root u v ↔ (IsHonestTree schemas v × IsTreeOfDocument schemas root u v)

-- and exactly where it is the document's and all of its elements keep to their types: none is without a type
abbrev pub ValidTreesAreWellTyped : Type 0
ValidTreesAreWellTyped =
    (schemas : SchemaSet) (root : Name) (u : SourceTree) (v : PlainTree) → IsSchemaSet schemas → IsSome (global_type schemas root) → IsSoundSource u
    → IsValidTree schemas root u v ↔ (IsWellTyped schemas v × IsTreeOfDocument schemas root u v)
