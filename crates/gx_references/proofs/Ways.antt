-- Ways of so many steps, from a declaration to another.
use Rattle.std.proofs.Common.{◌≡◌, ℕ, zero, suc, ◌+◌, ◌-◌, ◌≤◌, Bool, true, false, ◌||◌, ◌==◌, ◌⊎◌, inl, inr, List, [], ◌∷◌, refl, sym, ◌∙◌, ap, subst, arith}
use Rattle.std.specs.List.{Contains, list_any}
use Rattle.std.proofs.lemmas.Bool.{cases_Bool, true≢false}
use Rattle.std.proofs.lemmas.Bool.Decides.{eqb_tells}
use Rattle.std.proofs.lemmas.List.Folds.{list_any_at}
use Rattle.gx_references.specs.References.{named_by}
use Rattle.gx_references.specs.Circles.{RefersTo, directly, through, refers_within}
use Rattle.gx_references.proofs.Passing.{first_member, member_of_rest}

-- where some member passes, there is one
passing_member : {A : Type 0} (p : A → Bool) (xs : List A) → list_any p xs ≡ true → (x : A) × Contains xs x × (p x ≡ true)
passing_member p [] e = absurd (true≢false (sym e))
passing_member p (x ∷ xs) e = elim (cases_Bool (p x)) [
  | inl is_so ↦ (x, first_member x xs, is_so)
  | inr is_not ↦
      let rest = passing_member p xs (sym (ap (λ (b : Bool). b || list_any p xs) is_not) ∙ e) in
      (rest.0, member_of_rest x rest.0 xs rest.1, rest.2)
]

some_passes : {A : Type 0} (p : A → Bool) (xs : List A) (x : A) → Contains xs x → p x ≡ true → list_any p xs ≡ true
some_passes p xs x (k, within, here) is_so = list_any_at p xs k x within (ap p here ∙ is_so)

one_of_two : (a b : Bool) → (a || b) ≡ true → (a ≡ true) ⊎ (b ≡ true)
one_of_two true b e = inl refl
one_of_two false b e = inr e

-- the first step of a way
way_opens : {B : Type 0} (references : B → List ℕ) (bodies : List B) (steps from to : ℕ) → refers_within references bodies (suc steps) from to ≡ true →
    (next : ℕ) × Contains (named_by references bodies from) next × ((next ≡ to) ⊎ (refers_within references bodies steps next to ≡ true))
way_opens references bodies steps from to e =
    let found = passing_member (λ (next : ℕ). (next == to) || refers_within references bodies steps next to) (named_by references bodies from) e in (
      found.0,
      found.1,
      elim (eqb_tells found.0 to) [
        | inl (_, same) ↦ inl same
        | inr (is_not, _) ↦ inr (sym (ap (λ (b : Bool). b || refers_within references bodies steps found.0 to) is_not) ∙ found.2)
      ],
    )

pub way_of_one : {B : Type 0} (references : B → List ℕ) (bodies : List B) (steps from to : ℕ) → Contains (named_by references bodies from) to → refers_within references bodies (suc steps) from to ≡ true
way_of_one references bodies steps from to here =
    some_passes (λ (next : ℕ). (next == to) || refers_within references bodies steps next to) (named_by references bodies from) to here
    (elim (eqb_tells to to) [
      | inl (is_so, _) ↦ ap (λ (b : Bool). b || refers_within references bodies steps to to) is_so
      | inr (_, different) ↦ absurd (different refl)
    ])

way_through : {B : Type 0} (references : B → List ℕ) (bodies : List B) (steps from between to : ℕ) → Contains (named_by references bodies from) between → refers_within references bodies steps between to ≡ true → refers_within references bodies (suc steps) from to ≡ true
way_through references bodies steps from between to here way =
    some_passes (λ (next : ℕ). (next == to) || refers_within references bodies steps next to) (named_by references bodies from) between here
    (elim (cases_Bool (between == to)) [
      | inl is_so ↦ ap (λ (b : Bool). b || refers_within references bodies steps between to) is_so
      | inr is_not ↦ ap (λ (b : Bool). b || refers_within references bodies steps between to) is_not ∙ way
    ])

pub way_refers : {B : Type 0} (references : B → List ℕ) (bodies : List B) (steps from to : ℕ) → refers_within references bodies steps from to ≡ true → RefersTo references bodies from to
way_refers references bodies zero from to e = absurd (true≢false (sym e))
way_refers references bodies (suc steps) from to e =
    let (next, here, way) = way_opens references bodies steps from to e in
    elim way [
      | inl same ↦ directly (subst (λ (n : ℕ). Contains (named_by references bodies from) n) same here)
      | inr rest ↦ through here (way_refers references bodies steps next to rest)
    ]

-- a way goes on
pub way_goes_on : {B : Type 0} (references : B → List ℕ) (bodies : List B) (steps from between to : ℕ) → refers_within references bodies steps from between ≡ true → Contains (named_by references bodies between) to → refers_within references bodies (suc steps) from to ≡ true
way_goes_on references bodies zero from between to e last = absurd (true≢false (sym e))
way_goes_on references bodies (suc steps) from between to e last =
    let (next, here, way) = way_opens references bodies steps from between e in
    elim way [
      | inl same ↦ way_through references bodies (suc steps) from next to here
          (way_of_one references bodies steps next to (subst (λ (n : ℕ). Contains (named_by references bodies n) to) (sym same) last))
      | inr rest ↦ way_through references bodies (suc steps) from next to here (way_goes_on references bodies steps next between to rest last)
    ]

-- more steps are allowed
way_one_longer : {B : Type 0} (references : B → List ℕ) (bodies : List B) (steps from to : ℕ) → refers_within references bodies steps from to ≡ true → refers_within references bodies (suc steps) from to ≡ true
way_one_longer references bodies zero from to e = absurd (true≢false (sym e))
way_one_longer references bodies (suc steps) from to e =
    let (next, here, way) = way_opens references bodies steps from to e in
    elim way [
      | inl same ↦ way_of_one references bodies (suc steps) from to (subst (λ (n : ℕ). Contains (named_by references bodies from) n) same here)
      | inr rest ↦ way_through references bodies (suc steps) from next to here (way_one_longer references bodies steps next to rest)
    ]

pub way_at : {B : Type 0} (references : B → List ℕ) (bodies : List B) (steps other from to : ℕ) → steps ≡ other → refers_within references bodies steps from to ≡ true → refers_within references bodies other from to ≡ true
way_at references bodies steps other from to same e = subst (λ (n : ℕ). refers_within references bodies n from to ≡ true) same e

way_longer : {B : Type 0} (references : B → List ℕ) (bodies : List B) (more steps from to : ℕ) → refers_within references bodies steps from to ≡ true → refers_within references bodies (more + steps) from to ≡ true
way_longer references bodies zero steps from to e = way_at references bodies steps (zero + steps) from to (omega arith) e
way_longer references bodies (suc more) steps from to e =
    way_at references bodies (suc (more + steps)) (suc more + steps) from to (omega arith) (way_one_longer references bodies (more + steps) from to (way_longer references bodies more steps from to e))

pub way_by : {B : Type 0} (references : B → List ℕ) (bodies : List B) (steps limit from to : ℕ) → steps ≤ limit → refers_within references bodies steps from to ≡ true → refers_within references bodies limit from to ≡ true
way_by references bodies steps limit from to within e =
    way_at references bodies ((limit - steps) + steps) limit from to (omega arith) (way_longer references bodies (limit - steps) steps from to e)
