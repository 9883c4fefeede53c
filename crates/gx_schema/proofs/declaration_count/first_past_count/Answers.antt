use Rattle.std.proofs.Common.{◌≡◌, ◌∙◌, ℕ, nat_le, List, Option, IfOk, ap, subst}
use Rattle.gx_schema.specs.declared.found.Found.{Found}
use Rattle.gx_schema.specs.DeclarationCount.{count_in_front, greatest_count, is_behind, places_counted}
use Rattle.gx_schema.proofs.PlacesInOrder.{first_behind_last}
use Rattle.gx_schema.proofs.declaration_count.first_past_count.Goals as goal

pub returns : goal.returns
returns c =
    let declarations = c.args.declarations.now in
    let last = c.last_within_count.result in
    let same : (place : ℕ) → is_behind last place ≡ nat_le greatest_count (count_in_front (places_counted declarations) place) =
    λ place. c.last_within_count.ensures place ∙ ap (λ (places : List ℕ). nat_le greatest_count (count_in_front places place)) c.in_ok-places.ensures
    in
    let P : Option Found → Type 0 = λ answer. IfOk c.first_behind.result (λ found. found ≡ answer) in
    subst P (first_behind_last declarations last same) c.first_behind.ensures
