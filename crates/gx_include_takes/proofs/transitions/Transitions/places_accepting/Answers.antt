use Rattle.std.proofs.Common.{sym, ◌∙◌, ap, subst, List, ℕ}
use Rattle.gx_include_takes.specs.Bits.{has_bit}
use Rattle.gx_include_takes.specs.Features.{accepts}
use Rattle.gx_include_takes.specs.Following.{AreComing}
use Rattle.gx_include_takes.proofs.PlaceSets.{coming_of_mask}
use Rattle.gx_include_takes.proofs.Targets.{mask_is}
use Rattle.gx_include_takes.proofs.transitions.Transitions.places_accepting.Goals as goal

pub returns-in_ok-after-in-Some : goal.returns-in_ok-after-in-Some
returns-in_ok-after-in-Some c =
    let t = c.args.t.now in
    let f = accepts c.args.feature c.args.schemas.now in
    subst (λ (ps : List ℕ). AreComing t c.args.rows.now f ps c.in_ok-after-in-Some.after.items) c.places.ensures
    (coming_of_mask t f c.args.rows.now c.as_slice.result.now c.places.result.now c.in_ok-after-in-Some.after.items
    (λ place. ap (λ ws. has_bit ws place) c.as_slice.ensures.value
    ∙ mask_is t c.args.schemas.now c.args.self.now.masks c.args.feature c.in-Some.mask.now c.requires.masks (sym c.in-Some.ensures.value) place)
    c.in_ok-after-in-Some.ensures)

pub returns-in_ok-after-in-None : goal.returns-in_ok-after-in-None
returns-in_ok-after-in-None c =
    let t = c.args.t.now in
    let f = accepts c.args.feature c.args.schemas.now in
    subst (λ (ps : List ℕ). AreComing t c.args.rows.now f ps c.in_ok-after-in-None.after.items) c.places-in-None.ensures
    (coming_of_mask t f c.args.rows.now c.as_slice-in-None.result.now c.places-in-None.result.now c.in_ok-after-in-None.after.items
    (λ place. ap (λ ws. has_bit ws place) c.as_slice-in-None.ensures.value ∙ c.in_ok-mask-in-None.ensures place) c.in_ok-after-in-None.ensures)
