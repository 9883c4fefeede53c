-- Declarations of which nothing is known but the numbers that they name.
use Rattle.std.specs.Prelude.{◌≡◌, ℕ, List, Vec, refl}
use Rattle.std.specs.Global.{Global}
use Rattle.gx_references.specs.Known.{SameMeaningsOn}

abbrev pub numbers_in : Vec ℕ Global → List ℕ
numbers_in numbers = numbers.items

-- they mean nothing
abbrev pub no_meaning : (ℕ → Unit {0}) → Vec ℕ Global → Unit {0}
no_meaning known numbers = tt

pub no_meaning_agrees : (f g : ℕ → Unit {0}) (numbers : Vec ℕ Global) → SameMeaningsOn f g (numbers_in numbers) → no_meaning f numbers ≡ no_meaning g numbers
no_meaning_agrees f g numbers agree = refl
