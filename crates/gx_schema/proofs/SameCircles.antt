-- Circles look at nothing but the numbers that declarations name.
use Rattle.std.proofs.Common.{◌≡◌, ◌∙◌, ℕ, zero, suc, Bool, ◌||◌, ◌&&◌, ◌==◌, nat_lt, List, [], ◌∷◌, length, map, slice_get, Option, None, Some, refl, sym, ap}
use Rattle.std.specs.Prelude.{option_map}
use Rattle.std.specs.List.{list_any}
use Rattle.std.proofs.lemmas.List.{length-map}
use Rattle.gx_references.specs.Circles.{is_circular_among, refers_within}
use Rattle.gx_references.specs.References.{named_by, numbers_named}

got_same : {B C : Type 0} (r : B → List ℕ) (s : C → List ℕ) (bs : List B) (cs : List C) → map r bs ≡ map s cs → (number : ℕ) → option_map r (slice_get bs number) ≡ option_map s (slice_get cs number)
got_same r s [] [] e number = refl
got_same r s [] (c ∷ cs) e number = absurd (cc)
got_same r s (b ∷ bs) [] e number = absurd (cc)
got_same r s (b ∷ bs) (c ∷ cs) e zero = let same : r b ≡ s c = cc in ap Some same
got_same r s (b ∷ bs) (c ∷ cs) e (suc number) = let same : map r bs ≡ map s cs = cc in got_same r s bs cs same number

abbrev named_or : Option (List ℕ) → ℕ → List ℕ
named_or None number = number ∷ []
named_or (Some numbers) number = numbers

named_of : {B : Type 0} (r : B → List ℕ) (found : Option B) (number : ℕ) → numbers_named r found number ≡ named_or (option_map r found) number
named_of r None number = refl
named_of r (Some b) number = refl

named_same : {B C : Type 0} (r : B → List ℕ) (s : C → List ℕ) (bs : List B) (cs : List C) → map r bs ≡ map s cs → (number : ℕ) → named_by r bs number ≡ named_by s cs number
named_same r s bs cs e number =
    named_of r (slice_get bs number) number ∙ ap (λ (found : Option (List ℕ)). named_or found number) (got_same r s bs cs e number) ∙ sym (named_of s (slice_get cs number) number)

any_same : (f g : ℕ → Bool) → ((number : ℕ) → f number ≡ g number) → (numbers : List ℕ) → list_any f numbers ≡ list_any g numbers
any_same f g same [] = refl
any_same f g same (number ∷ numbers) = ap (λ (b : Bool). b || list_any f numbers) (same number) ∙ ap (λ (b : Bool). g number || b) (any_same f g same numbers)

refers_same : {B C : Type 0} (r : B → List ℕ) (s : C → List ℕ) (bs : List B) (cs : List C) → map r bs ≡ map s cs → (steps from to : ℕ) → refers_within r bs steps from to ≡ refers_within s cs steps from to
refers_same r s bs cs e zero from to = refl
refers_same r s bs cs e (suc steps) from to =
    any_same (λ next. (next == to) || refers_within r bs steps next to) (λ next. (next == to) || refers_within s cs steps next to)
    (λ next. ap (λ (b : Bool). (next == to) || b) (refers_same r s bs cs e steps next to)) (named_by r bs from)
    ∙ ap (list_any (λ next. (next == to) || refers_within s cs steps next to)) (named_same r s bs cs e from)

pub circular_same : {B C : Type 0} (r : B → List ℕ) (s : C → List ℕ) (bs : List B) (cs : List C) → map r bs ≡ map s cs → (number : ℕ) → is_circular_among r bs number ≡ is_circular_among s cs number
circular_same r s bs cs e number =
    let sized = sym (length-map bs r) ∙ ap length e ∙ length-map cs s in
    ap (λ (count : ℕ). nat_lt number count && refers_within r bs count number number) sized
    ∙ ap (λ (b : Bool). nat_lt number (length cs) && b) (refers_same r s bs cs e (length cs) number number)
