-- A type with an indicator, or as often as an occurrence says, takes joined lists of the type and nothing else.
use Rattle.std.proofs.Common.{◌≡◌, ℕ, zero, suc, ◌≤◌, List, [], ◌∷◌, ◌++◌, ◌⊎◌, inl, inr, refl, sym, ap, subst, arith}
use Rattle.gx_types.specs.declared.shape.Shape.{Shape}
use Rattle.gx_types.specs.SchemaSet.{SchemaSet}
use Rattle.gx_types.specs.Occurrence.{occurs}
use Rattle.gx_types.specs.SequenceType.{SequenceType, never, nothing, item, both, either, optional, star, plus}
use Rattle.gx_types.specs.Indicator.{star_of, plus_of, times_by}
use Rattle.gx_types.specs.Takes.{Takes}
use Rattle.gx_types.specs.Laws.{JoinedWithin, IndicatorsAreExact, RepeatedTakesJoined, RepeatedTakesNoMore, TimesTakesNoMore}
use Rattle.gx_types.proofs.EqualTypes.{each_implies}
use Rattle.gx_types.proofs.Joined.{MadeOf, made_of_one, made_of_none}
use Rattle.gx_types.proofs.TakesLemmas.{optional_takes, optional_takes_no_more, star_takes, plus_takes, repeated_takes, short_is_kept}

append_nothing : (xs : List Shape) → xs ≡ xs ++ []
append_nothing [] = refl
append_nothing (x ∷ xs) = ap (λ zs. x ∷ zs) (append_nothing xs)

star_takes_no_more : (s : SchemaSet) (t : SequenceType) (ss : List Shape) → Takes s (star_of t) ss → MadeOf (Takes s t) ss
star_takes_no_more s never ss h = ([], h, tt)
star_takes_no_more s nothing ss h = ([], h, tt)
star_takes_no_more s (item kind) ss h = h
star_takes_no_more s (both a b) ss h = h
star_takes_no_more s (either a b) ss h = h
star_takes_no_more s (optional a) ss h = (h.0, h.1, each_implies (Takes s a) (Takes s (optional a)) (λ xs k. inr k) h.0 h.2)
star_takes_no_more s (star a) ss h = made_of_one (Takes s (star a)) ss h
star_takes_no_more s (plus a) ss ([], e, f) = made_of_none (Takes s (plus a)) ss e
star_takes_no_more s (plus a) ss (part ∷ parts, e, f) = made_of_one (Takes s (plus a)) ss (part, parts, e, f.0, f.1)

plus_takes_no_more : (s : SchemaSet) (t : SequenceType) (ss : List Shape) → Takes s (plus_of t) ss → Takes s (plus t) ss
plus_takes_no_more s never ss h = absurd h
plus_takes_no_more s nothing ss h = ([], [], h, refl, tt)
plus_takes_no_more s (item kind) ss h = h
plus_takes_no_more s (both a b) ss h = h
plus_takes_no_more s (either a b) ss h = h
plus_takes_no_more s (optional a) ss ([], e, f) = ([], [], e, inl refl, tt)
plus_takes_no_more s (optional a) ss (part ∷ parts, e, f) = (part, parts, e, inr f.0, each_implies (Takes s a) (Takes s (optional a)) (λ xs k. inr k) parts f.1)
plus_takes_no_more s (star a) ss h = (ss, [], append_nothing ss, h, tt)
plus_takes_no_more s (plus a) ss h = (ss, [], append_nothing ss, h, tt)

optional_is_joined : (s : SchemaSet) (t : SequenceType) (ss : List Shape) → (ss ≡ []) ⊎ Takes s t ss → JoinedWithin s t (occurs 0 1) ss
optional_is_joined s t ss (inl e) = record { parts = []; joined = e; each = tt; count = record { least = omega arith; greatest = λ _. omega arith } }
optional_is_joined s t ss (inr h) = record { parts = ss ∷ []; joined = append_nothing ss; each = (h, tt); count = record { least = omega arith; greatest = λ _. omega arith } }

repeated_takes_no_more : (s : SchemaSet) (t : SequenceType) (least greatest : ℕ) (ss : List Shape) → least ≤ 1 → least ≤ greatest → Takes s (times_by t least greatest) ss → JoinedWithin s t (occurs least greatest) ss
repeated_takes_no_more s t zero zero ss a b h = record { parts = []; joined = h; each = tt; count = record { least = omega arith; greatest = λ _. omega arith } }
repeated_takes_no_more s t zero (suc zero) ss a b h = optional_is_joined s t ss (optional_takes_no_more s t ss h)
repeated_takes_no_more s t zero (suc (suc more)) ss a b h =
    let m = star_takes_no_more s t ss h in record { parts = m.0; joined = m.1; each = m.2; count = record { least = omega arith; greatest = λ g. absurd (omega arith) } }
repeated_takes_no_more s t (suc zero) zero ss a b h = absurd (omega arith)
repeated_takes_no_more s t (suc zero) (suc zero) ss a b h =
    record { parts = ss ∷ []; joined = append_nothing ss; each = (h, tt); count = record { least = omega arith; greatest = λ _. omega arith } }
repeated_takes_no_more s t (suc zero) (suc (suc more)) ss a b h =
    let p = plus_takes_no_more s t ss h in
    record { parts = p.0 ∷ p.1; joined = p.2; each = (p.3, p.4); count = record { least = omega arith; greatest = λ g. absurd (omega arith) } }
repeated_takes_no_more s t (suc (suc least)) greatest ss a b h = absurd (omega arith)

pub indicators_are_exact : IndicatorsAreExact
indicators_are_exact = record {
  optional = λ s t ss. (optional_takes s t ss, optional_takes_no_more s t ss);
  star = λ s t ss. (λ h. subst (Takes s (star_of t)) (sym h.1) (star_takes s t h.0 h.2), star_takes_no_more s t ss);
  plus = λ s t ss. (λ h. subst (Takes s (plus_of t)) (sym h.2) (plus_takes s t h.0 h.1 h.3 h.4), plus_takes_no_more s t ss);
}

pub repeated_takes_joined : RepeatedTakesJoined
repeated_takes_joined s t o ss j =
    subst (Takes s (times_by t o.least o.greatest)) (sym j.joined) (repeated_takes s t o.least o.greatest j.parts j.each (record { least = j.count.least; greatest = j.count.greatest }))

pub repeated_takes_nothing_else : RepeatedTakesNoMore
repeated_takes_nothing_else s t o ss a b h =
    let j = repeated_takes_no_more s t o.least o.greatest ss a b h in
    record { parts = j.parts; joined = j.joined; each = j.each; count = record { least = j.count.least; greatest = j.count.greatest } }

pub times_takes_no_more : TimesTakesNoMore
times_takes_no_more s t o ss a b short h =
    repeated_takes_no_more s t o.least o.greatest ss a b
    (subst (λ (u : SequenceType). Takes s u ss) (short_is_kept (times_by t o.least o.greatest) short) h)
