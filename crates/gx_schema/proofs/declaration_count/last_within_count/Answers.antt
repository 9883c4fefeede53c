use Rattle.std.proofs.Common.{◌≡◌, ◌∙◌, ℕ, List, Option, ap}
use Rattle.std.specs.Prelude.{slice_get}
use Rattle.gx_schema.specs.DeclarationCount.{is_behind}
use Rattle.gx_schema.proofs.PlacesInOrder.{last_within}
use Rattle.gx_schema.proofs.declaration_count.last_within_count.Goals as goal

pub returns : goal.returns
returns c =
    let sorted = c.sort_unstable.new.self.items in
    let last : c.place_at.result ≡ slice_get sorted 4095 = c.place_at.ensures ∙ ap (λ (places : List ℕ). slice_get places 4095) c.deref.ensures.value in
    λ place. ap (λ (one : Option ℕ). is_behind one place) last ∙ last_within c.args.places.items sorted c.sort_unstable.ensures.permutation c.sort_unstable.ensures.sorted place
