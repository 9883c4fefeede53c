-- What a rope says.
use Rattle.std.specs.Prelude.{ℕ, List, [], ◌∷◌, ◌++◌}
use Rattle.gx_include_followers.specs.declared.rope.Rope.{Rope}
use Rattle.gx_include_followers.specs.declared.rope.Rope.TheVariants.{Empty, One, Both'}

-- the numbers of a rope, in their order
abbrev pub numbers_of : Rope → List ℕ
numbers_of Empty = []
numbers_of (One number) = number ∷ []
numbers_of (Both' p first q second) = numbers_of first ++ numbers_of second
