-- The attributes that a table has.
use Rattle.std.proofs.Common.{◌≡◌, ℕ, zero, suc, List, [], ◌∷◌, map, Option, None, Some, get_or, refl, ◌∙◌, ap}
use Rattle.std.specs.Global.{Global}
use Rattle.std.specs.Prelude.{IfOk, Result, Ok, Err, Vec}
use Rattle.gx_types.specs.declared.declaration.AttributeUse.{AttributeUse}
use Rattle.gx_references.specs.Known.{known}
use Rattle.gx_schema_attributes.specs.TypeUses.{found_uses}

pub found_at : (table : List (Option (List AttributeUse))) (number : ℕ) → get_or (map found_uses table) number [] ≡ known [] table number
found_at [] number = refl
found_at (None ∷ table) zero = refl
found_at (Some uses ∷ table) zero = refl
found_at (None ∷ table) (suc number) = found_at table number
found_at (Some uses ∷ table) (suc number) = found_at table number

-- a list of what a table has
pub found_in_all : {E : Type 0} (result : Result (Vec (List AttributeUse) Global) E) (table : List (Option (List AttributeUse))) (meaning : ℕ → List AttributeUse) →
    ((number : ℕ) → known [] table number ≡ meaning number) → IfOk result (λ uses. uses.items ≡ map found_uses table) →
    IfOk result (λ uses. (number : ℕ) → get_or uses.items number [] ≡ meaning number)
found_in_all (Ok uses) table meaning same e = λ number. ap (λ (us : List (List AttributeUse)). get_or us number []) e ∙ found_at table number ∙ same number
found_in_all (Err error) table meaning same e = tt

-- a list of no attributes
pub none_in_all : {E : Type 0} (result : Result (Vec (List AttributeUse) Global) E) (meaning : ℕ → List AttributeUse) → ((number : ℕ) → [] ≡ meaning number) →
    IfOk result (λ uses. (number : ℕ) → get_or uses.items number [] ≡ []) → IfOk result (λ uses. (number : ℕ) → get_or uses.items number [] ≡ meaning number)
none_in_all (Ok uses) meaning same e = λ number. e number ∙ same number
none_in_all (Err error) meaning same e = tt
