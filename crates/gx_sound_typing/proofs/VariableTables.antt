-- Tables of the types of variables: what is among others, how often a variable stands in one, and that one which stands there once is found.
use Rattle.std.proofs.Common.{◌≡◌, ◌⊎◌, inl, inr, ℕ, ◌+◌, ◌≤◌, Bool, true, false, ◌||◌, List, [], ◌∷◌, ◌++◌, Option, Some, refl, ◌∙◌, ap, subst, nat_eq, if◌then◌else◌, arith}
use Rattle.std.proofs.lemmas.Bool.{eqb-true, eq-eqb}
use Rattle.gx_types.specs.SequenceType.{SequenceType}
use Rattle.gx_core.specs.Bindings.{Types, look_up}
use Rattle.gx_core.specs.Invariant.{is_among, AreDistinct}
use Rattle.gx_static.proofs.ScopedVariables.{in_scope}
use Rattle.gx_sound_typing.specs.CarriedTyping.{with_carried, carried_types}

-- ---- what is among others

abbrev pub Among : Types → ℕ → SequenceType → Type 0
Among [] number t = ⊥
Among (b ∷ types) number t = ((b.0 ≡ number) × (b.1 ≡ t)) ⊎ Among types number t

abbrev pub AllAmong : Types → Types → Type 0
AllAmong [] types = Unit {0}
AllAmong (b ∷ bound) types = Among types b.0 b.1 × AllAmong bound types

among_behind : (front types : Types) (number : ℕ) (t : SequenceType) → Among types number t → Among (front ++ types) number t
among_behind [] types number t h = h
among_behind (b ∷ front) types number t h = inr (among_behind front types number t h)

pub all_behind : (front bound types : Types) → AllAmong bound types → AllAmong bound (front ++ types)
all_behind front [] types h = tt
all_behind front (b ∷ bound) types h = (among_behind front types b.0 b.1 h.0, all_behind front bound types h.1)

pub all_here : (bound types : Types) → AllAmong bound (bound ++ types)
all_here [] types = tt
all_here (b ∷ bound) types = (inl (refl, refl), all_behind (b ∷ []) bound (bound ++ types) (all_here bound types))

pub all_themselves : (types : Types) → AllAmong types types
all_themselves [] = tt
all_themselves (b ∷ types) = (inl (refl, refl), all_behind (b ∷ []) types types (all_themselves types))

pub all_joined : (front bound types : Types) → AllAmong bound types → AllAmong (front ++ bound) (front ++ types)
all_joined [] bound types h = h
all_joined (b ∷ front) bound types h = (inl (refl, refl), all_behind (b ∷ []) (front ++ bound) (front ++ types) (all_joined front bound types h))

among_through : (bound types : Types) (number : ℕ) (t : SequenceType) → Among bound number t → AllAmong bound types → Among types number t
among_through [] types number t k h = absurd k
among_through (b ∷ bound) types number t (inl e) h = subst (λ (m : ℕ). Among types m t) e.0 (subst (λ (u : SequenceType). Among types b.0 u) e.1 h.0)
among_through (b ∷ bound) types number t (inr k) h = among_through bound types number t k h.1

pub all_through : (first bound types : Types) → AllAmong first bound → AllAmong bound types → AllAmong first types
all_through [] bound types h k = tt
all_through (b ∷ first) bound types h k = (among_through bound types b.0 b.1 h.0 k, all_through first bound types h.1 k)

-- ---- how often a number stands in a list

abbrev pub one_if : Bool → ℕ
one_if true = 1
one_if false = 0

abbrev pub times : List ℕ → ℕ → ℕ
times [] number = 0
times (m ∷ numbers) number = one_if (nat_eq m number) + times numbers number

pub times_joined : (front behind : List ℕ) (number : ℕ) → times (front ++ behind) number ≡ times front number + times behind number
times_joined [] behind number = omega arith
times_joined (m ∷ front) behind number = let rest = times_joined front behind number in omega arith

one_here : (m number : ℕ) → nat_eq m number ≡ true → one_if (nat_eq m number) ≡ 1
one_here m number e = ap (λ (b : Bool). one_if b) e

counted : (types : Types) (number : ℕ) (t : SequenceType) → Among types number t → 1 ≤ times (in_scope types) number
counted [] number t h = absurd h
counted (b ∷ types) number t (inl e) = let one = one_here b.0 number (eq-eqb b.0 number e.0) in omega arith
counted (b ∷ types) number t (inr h) = let rest = counted types number t h in omega arith

absent : (numbers : List ℕ) (number : ℕ) → is_among numbers number ≡ false → times numbers number ≡ 0
absent [] number h = refl
absent (m ∷ numbers) number h =
    elim (nat_eq m number) as (λ (b : Bool). (b || is_among numbers number) ≡ false → one_if b + times numbers number ≡ 0) [
      | true ↦ λ e. absurd (cc)
      | false ↦ λ e. let rest = absent numbers number e in omega arith
    ] h

pub distinct_once : (numbers : List ℕ) (number : ℕ) → AreDistinct numbers → times numbers number ≤ 1
distinct_once [] number h = omega arith
distinct_once (m ∷ numbers) number h = by (distinct_once numbers number h.1) (nat_eq m number) refl
  where
    by : times numbers number ≤ 1 → (same : Bool) → nat_eq m number ≡ same → one_if same + times numbers number ≤ 1
    by rest true e = let none = absent numbers number (subst (λ (n : ℕ). is_among numbers n ≡ false) (eqb-true m number e) h.0) in omega arith
    by rest false e = omega arith

-- ---- what stands there once is found

found_once : (types : Types) (number : ℕ) (t : SequenceType) → Among types number t → times (in_scope types) number ≤ 1 → look_up types number ≡ Some t
found_once [] number t h once = absurd h
found_once (b ∷ types) number t h once = by (λ k o. found_once types number t k o) (nat_eq b.0 number) refl h
  where
    by : (Among types number t → times (in_scope types) number ≤ 1 → look_up types number ≡ Some t) → (same : Bool) → nat_eq b.0 number ≡ same
        → ((b.0 ≡ number) × (b.1 ≡ t)) ⊎ Among types number t → (if same then Some b.1 else look_up types number) ≡ Some t
    by rest true e (inl k) = ap (λ (u : SequenceType). Some u) k.1
    by rest true e (inr k) = let one = one_here b.0 number e in let more = counted types number t k in absurd (omega arith)
    by rest false e (inl k) = let same = eq-eqb b.0 number k.0 in absurd (cc)
    by rest false e (inr k) = rest k (omega arith)

pub carried_as_bound : (variables bound : Types) → ((number : ℕ) → times (in_scope variables) number ≤ 1) → AllAmong bound variables → carried_types variables (in_scope bound) ≡ bound
carried_as_bound variables [] once h = refl
carried_as_bound variables (b ∷ bound) once h =
    ap (λ (found : Option SequenceType). with_carried b.0 found (carried_types variables (in_scope bound))) (found_once variables b.0 b.1 h.0 (once b.0))
    ∙ ap (λ (bs : Types). b ∷ bs) (carried_as_bound variables bound once h.1)
