-- Lists that grow behind.
use Rattle.std.specs.Prelude.{◌≡◌, List, ◌++◌}

-- something was added behind what was there
pub record Grows {A : Type 0} (before now : List A) : Type 0 where
  pub more : List A
  pub is : now ≡ before ++ more
