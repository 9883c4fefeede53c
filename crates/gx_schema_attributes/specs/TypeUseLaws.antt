-- The attributes of a type look at nothing but those of its base.
use Rattle.std.specs.Prelude.{◌≡◌, ℕ, zero, List, fold, refl}
use Rattle.std.proofs.Common.{ap, arith}
use Rattle.gx_types.specs.declared.declaration.AttributeUse.{AttributeUse}
use Rattle.gx_references.specs.Known.{SameMeaningsOn}
use Rattle.gx_schema_attributes.specs.declared.own.Inherited.{Inherited}
use Rattle.gx_schema_attributes.specs.declared.own.Inherited.TheVariants.{Nothing, All, Staying}
use Rattle.gx_schema_attributes.specs.declared.own.OwnUses.{OwnUses}
use Rattle.gx_schema_attributes.specs.GivenUses.{nothing_given, with_use}
use Rattle.gx_schema_attributes.specs.OwnUses.{base_named, base_uses, inherited_from, type_inherited}
use Rattle.gx_schema_attributes.specs.TypeUses.{uses_over}

base_uses_agree : (f g : ℕ → List AttributeUse) (inherited : Inherited) → SameMeaningsOn f g (type_inherited inherited) → base_uses f inherited ≡ base_uses g inherited
base_uses_agree f g Nothing agree = refl
base_uses_agree f g (All number) agree = agree number (zero, omega arith, refl)
base_uses_agree f g (Staying number) agree = agree number (zero, omega arith, refl)

pub uses_over_agree : (f g : ℕ → List AttributeUse) (own : OwnUses) → SameMeaningsOn f g (base_named own) → uses_over f own ≡ uses_over g own
uses_over_agree f g own agree =
    ap (λ (base : List AttributeUse). (fold with_use (fold with_use nothing_given (inherited_from base own)) own.given).uses) (base_uses_agree f g own.inherited agree)
