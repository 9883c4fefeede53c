-- Ways among declarations of which each names at most one.
use Rattle.std.proofs.Common.{◌≡◌, ℕ, ◌<◌, ◌≤◌, ◌⊎◌, inl, inr, List, length, Option, None, Some, subst}
use Rattle.std.proofs.lemmas.List.{get_or_past}
use Rattle.std.proofs.lemmas.Bool.{cases_lt}
use Rattle.gx_schema_simple.specs.Circles.{named_next, ComesTo, directly, through, StandsOnCircle}

pub leads_on : (bases : List (Option ℕ)) (from between to : ℕ) → ComesTo bases from between → ComesTo bases between to → ComesTo bases from to
leads_on bases from between to (directly here) way = through here way
leads_on bases from between to (through {between = middle} here first) way = through here (leads_on bases middle between to first way)

same_next : (bases : List (Option ℕ)) (number a b : ℕ) → named_next bases number ≡ Some a → named_next bases number ≡ Some b → a ≡ b
same_next bases number a b p q = cc

-- a way goes on behind the declaration that is named first
pub behind_first : (bases : List (Option ℕ)) (from next to : ℕ) → named_next bases from ≡ Some next → ComesTo bases from to → (to ≡ next) ⊎ ComesTo bases next to
behind_first bases from next to here (directly same) = inl (same_next bases from to next same here)
behind_first bases from next to here (through {between = between} same way) = inr (subst (λ (n : ℕ). ComesTo bases n to) (same_next bases from between next same here) way)

-- the declaration that one on a circle names leads back to it
next_leads_back : (bases : List (Option ℕ)) (from next : ℕ) → StandsOnCircle bases from → named_next bases from ≡ Some next → ComesTo bases next from
next_leads_back bases from next circle here = elim (behind_first bases from next from here circle) [
  | inl same ↦ subst (λ (n : ℕ). ComesTo bases n from) same circle
  | inr way ↦ way
]

-- from a declaration on a circle all ways lead back
pub leads_back : (bases : List (Option ℕ)) (from to : ℕ) → StandsOnCircle bases from → ComesTo bases from to → ComesTo bases to from
leads_back bases from to circle (directly here) = next_leads_back bases from to circle here
leads_back bases from to circle (through {between = between} here way) =
    let back = next_leads_back bases from between circle here in
    let onward = leads_back bases between to (leads_on bases between from between back (directly here)) way in
    leads_on bases to between from onward back

-- where a way leads from a circle, it stays on it
pub circle_goes_on : (bases : List (Option ℕ)) (from to : ℕ) → StandsOnCircle bases from → ComesTo bases from to → StandsOnCircle bases to
circle_goes_on bases from to circle way = leads_on bases to from to (leads_back bases from to circle way) way

-- a way begins with what a declaration names
pub begins : (bases : List (Option ℕ)) (from to : ℕ) → ComesTo bases from to → (next : ℕ) × (named_next bases from ≡ Some next)
begins bases from to (directly here) = (to, here)
begins bases from to (through {between = between} here way) = (between, here)

pub names_none_outside : (bases : List (Option ℕ)) (number : ℕ) → length bases ≤ number → named_next bases number ≡ None
names_none_outside bases number outside = get_or_past bases number None outside

pub within_by_next : (bases : List (Option ℕ)) (number next : ℕ) → named_next bases number ≡ Some next → number < length bases
within_by_next bases number next here = elim (cases_lt number (length bases)) [
  | inl within ↦ within
  | inr outside ↦ let none = names_none_outside bases number outside in absurd (cc)
]

-- a declaration that names none leads nowhere
pub leads_nowhere : (bases : List (Option ℕ)) (number to : ℕ) → named_next bases number ≡ None → ComesTo bases number to → ⊥
leads_nowhere bases number to none way = let (next, here) = begins bases number to way in cc
