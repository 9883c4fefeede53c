-- A least and a greatest number of items; a greatest of 2 stands for any number.
use Rattle.std.specs.Prelude.{ℕ}

pub record Occurs : Type 0 where
  pub least : ℕ
  pub greatest : ℕ
