-- One more body.
use Rattle.std.proofs.Common.{◌≡◌, ℕ, ◌+◌, ◌<◌, Bool, List, [], ◌∷◌, ◌++◌, length, map, take, get_or, sym, ◌∙◌, ap, add-one}
use Rattle.std.proofs.lemmas.List.{map-append}
use Rattle.std.proofs.Math.Seq.{take-suc}
use Rattle.gx_schema_components.specs.declared.component.ModelGroup.{ModelGroup}
use Rattle.gx_schema_content.specs.PositionKnots.{group_fits}
use Rattle.gx_schema_content.specs.Views.{FittingGroup, fitting_by}

pub more_bodies : {A B C : Type 0} (view : B → C) (meaning : A → C) (bodies : List B) (xs : List A) (i : ℕ) (x : A) (body : B) → i < length xs → x ≡ get_or xs i x → view body ≡ meaning x →
    map view bodies ≡ map meaning (take i xs) → map view (bodies ++ body ∷ []) ≡ map meaning (take (i + 1) xs)
more_bodies {A} {B} {C} view meaning bodies xs i x body within is same done =
    let longer : take (i + 1) xs ≡ take i xs ++ get_or xs i x ∷ [] = rw add-one (take-suc xs i x within) in
    map-append view bodies (body ∷ [])
    ∙ ap (λ (cs : List C). cs ++ view body ∷ []) done
    ∙ ap (λ (c : C). map meaning (take i xs) ++ c ∷ []) (same ∙ ap meaning is)
    ∙ sym (ap (map meaning) longer ∙ map-append meaning (take i xs) (get_or xs i x ∷ []))

pub fitting_same : (fits : Bool) (positions : ℕ → ℕ) (group : ModelGroup) → fits ≡ group_fits positions group →
    (let it : FittingGroup = record { fits = fits; group = group } in it) ≡ fitting_by positions group
fitting_same fits positions group e = ap (λ (b : Bool). let it : FittingGroup = record { fits = b; group = group } in it) e
