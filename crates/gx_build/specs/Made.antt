-- What a constructor does to the forest, and why it refuses.
use Rattle.std.specs.Prelude.{◌≡◌, ℕ, [], ◌∷◌, ◌++◌}
use Rattle.gx_model.specs.Forest.{Forest}
use Rattle.gx_nodes.specs.Entries.{count_in}
use Rattle.gx_core.specs.Constructing.{Built, built_tree, repeated_name, too_deep, wrong_content}
use Rattle.gx_build.specs.declared.error.BuildError.{BuildError}
use Rattle.gx_build.specs.declared.error.BuildError.TheVariants as errors

-- the tree that is built stands behind the others, and the number is that of its root
abbrev pub IsMade : (before now : Forest) → (number : ℕ) → Built → Type 0
IsMade before now number (built_tree t) = (now ≡ before ++ t ∷ []) × (number ≡ count_in before)
IsMade before now number repeated_name = ⊥
IsMade before now number too_deep = ⊥
IsMade before now number wrong_content = ⊥

-- want of memory says nothing
abbrev pub RefusesTree : BuildError → Built → Type 0
RefusesTree errors.Memory b = Unit {0}
RefusesTree errors.DuplicateAttribute b = b ≡ repeated_name
RefusesTree errors.TooDeep b = b ≡ too_deep
RefusesTree errors.WrongContent b = b ≡ wrong_content
