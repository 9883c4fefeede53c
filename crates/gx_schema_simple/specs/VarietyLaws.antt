-- What a type says of its variety looks at nothing but the type that it names.
use Rattle.std.specs.Prelude.{◌≡◌, ℕ, zero, refl}
use Rattle.std.proofs.Common.{arith}
use Rattle.gx_references.specs.Known.{SameMeaningsOn}
use Rattle.gx_schema_simple.specs.Varieties.{said_number, variety_said}
use Rattle.gx_schema_simple.specs.declared.variety.SaidVariety.{SaidVariety}
use Rattle.gx_schema_simple.specs.declared.variety.SaidVariety.TheVariants.{Own, OfBase}
use Rattle.gx_schema_simple.specs.declared.variety.TypeVariety.{TypeVariety}

pub variety_said_agrees : (f g : ℕ → TypeVariety) (body : SaidVariety) → SameMeaningsOn f g (said_number body) → variety_said f body ≡ variety_said g body
variety_said_agrees f g (Own variety) agree = refl
variety_said_agrees f g (OfBase number) agree = agree number (zero, omega arith, refl)
