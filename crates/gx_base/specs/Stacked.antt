-- The front of a list.
use Rattle.std.specs.Prelude.{List, [], ◌∷◌, Option, None, Some}

abbrev pub first : {T : Type 0} → List T → Option T
first [] = None
first (item ∷ items) = Some item
