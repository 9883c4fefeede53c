-- The earlier of two element particles.
use Rattle.std.proofs.Common.{◌≡◌, Bool, true, false, Option, None, Some, if◌then◌else◌, ap}
use Rattle.std.specs.Prelude.{nat_le}
use Rattle.gx_schema_content.specs.declared.elements.ElementParticle.{ElementParticle}
use Rattle.gx_schema_content.specs.Disagreement.{earlier_particle, stands_at_or_before}

pub found_stays : (found : Option ElementParticle) (element : ElementParticle) → stands_at_or_before found element.place ≡ true → found ≡ Some (earlier_particle found element)
found_stays None element e = absurd (cc)
found_stays (Some found) element e = ap (λ (test : Bool). Some (if test then found else element)) (let same : true ≡ nat_le found.place element.place = cc in same)

pub element_comes : (found : Option ElementParticle) (element : ElementParticle) → stands_at_or_before found element.place ≡ false → Some element ≡ Some (earlier_particle found element)
element_comes None element e = ap (λ (x : ElementParticle). Some x) (let same : element ≡ element = cc in same)
element_comes (Some found) element e = ap (λ (test : Bool). Some (if test then found else element)) (let same : false ≡ nat_le found.place element.place = cc in same)
