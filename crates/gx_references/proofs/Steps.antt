-- More steps change nothing where references come to an end.
use Rattle.std.proofs.Common.{◌≡◌, ℕ, zero, suc, ◌+◌, ◌-◌, ◌≤◌, true, List, Option, None, Some, slice_get, refl, sym, ◌∙◌, ap, subst, arith}
use Rattle.std.proofs.lemmas.Bool.{true≢false}
use Rattle.gx_references.specs.References.{numbers_named, named_by, ends_within, meaning_in, meaning_over, meaning_within}
use Rattle.gx_references.specs.Known.{SameMeaningsOn}
use Rattle.gx_references.specs.Laws.{LooksAtReferences}
use Rattle.gx_references.proofs.Passing.{member_passes, weaker_test_passes}

-- references that end within so many steps end within one more
pub ends_one_later : {B : Type 0} (references : B → List ℕ) (bodies : List B) (steps number : ℕ) → ends_within references bodies steps number ≡ true → ends_within references bodies (suc steps) number ≡ true
ends_one_later references bodies zero number e = absurd (true≢false (sym e))
ends_one_later references bodies (suc steps) number e =
    weaker_test_passes (ends_within references bodies steps) (ends_within references bodies (suc steps)) (named_by references bodies number) e
    (λ other here. ends_one_later references bodies steps other)

ends_at : {B : Type 0} (references : B → List ℕ) (bodies : List B) (steps other number : ℕ) → steps ≡ other → ends_within references bodies steps number ≡ true → ends_within references bodies other number ≡ true
ends_at references bodies steps other number same e = subst (λ (n : ℕ). ends_within references bodies n number ≡ true) same e

pub ends_later : {B : Type 0} (references : B → List ℕ) (bodies : List B) (more steps number : ℕ) → ends_within references bodies steps number ≡ true → ends_within references bodies (more + steps) number ≡ true
ends_later references bodies zero steps number e = ends_at references bodies steps (zero + steps) number (omega arith) e
ends_later references bodies (suc more) steps number e =
    ends_at references bodies (suc (more + steps)) (suc more + steps) number (omega arith) (ends_one_later references bodies (more + steps) number (ends_later references bodies more steps number e))

pub ends_by : {B : Type 0} (references : B → List ℕ) (bodies : List B) (steps limit number : ℕ) → steps ≤ limit → ends_within references bodies steps number ≡ true → ends_within references bodies limit number ≡ true
ends_by references bodies steps limit number within e =
    ends_at references bodies ((limit - steps) + steps) limit number (omega arith) (ends_later references bodies (limit - steps) steps number e)

-- a declaration means the same over meanings that agree on what it names
pub meaning_agrees : {B M : Type 0} (references : B → List ℕ) (meant : (ℕ → M) → B → M) (nothing : M) → LooksAtReferences references meant → (bodies : List B) (f g : ℕ → M) (number : ℕ) → SameMeaningsOn f g (named_by references bodies number) → meaning_over meant nothing bodies f number ≡ meaning_over meant nothing bodies g number
meaning_agrees references meant nothing looks bodies f g number agree =
    elim (slice_get bodies number) as (λ (b : Option _). SameMeaningsOn f g (numbers_named references b number) → meaning_in meant nothing b f ≡ meaning_in meant nothing b g) [
      | None ↦ λ _. refl
      | Some body ↦ λ a. looks f g body a
    ] agree

-- where references end within so many steps, one more step gives the same meaning
pub means_the_same_one_later : {B M : Type 0} (references : B → List ℕ) (meant : (ℕ → M) → B → M) (nothing : M) → LooksAtReferences references meant → (bodies : List B) (steps number : ℕ) → ends_within references bodies steps number ≡ true → meaning_within meant nothing bodies (suc steps) number ≡ meaning_within meant nothing bodies steps number
means_the_same_one_later references meant nothing looks bodies zero number e = absurd (true≢false (sym e))
means_the_same_one_later references meant nothing looks bodies (suc steps) number e =
    meaning_agrees references meant nothing looks bodies (meaning_within meant nothing bodies (suc steps)) (meaning_within meant nothing bodies steps) number
    (λ other here. means_the_same_one_later references meant nothing looks bodies steps other (member_passes (ends_within references bodies steps) (named_by references bodies number) other e here))

pub means_the_same_later : {B M : Type 0} (references : B → List ℕ) (meant : (ℕ → M) → B → M) (nothing : M) → LooksAtReferences references meant → (bodies : List B) (more steps number : ℕ) → ends_within references bodies steps number ≡ true → meaning_within meant nothing bodies (more + steps) number ≡ meaning_within meant nothing bodies steps number
means_the_same_later references meant nothing looks bodies zero steps number e =
    let sum : zero + steps ≡ steps = omega arith in ap (λ (n : ℕ). meaning_within meant nothing bodies n number) sum
means_the_same_later references meant nothing looks bodies (suc more) steps number e =
    let later : suc more + steps ≡ suc (more + steps) = omega arith in
    ap (λ (n : ℕ). meaning_within meant nothing bodies n number) later
    ∙ means_the_same_one_later references meant nothing looks bodies (more + steps) number (ends_later references bodies more steps number e)
    ∙ means_the_same_later references meant nothing looks bodies more steps number e

pub means_the_same_by : {B M : Type 0} (references : B → List ℕ) (meant : (ℕ → M) → B → M) (nothing : M) → LooksAtReferences references meant → (bodies : List B) (steps limit number : ℕ) → steps ≤ limit → ends_within references bodies steps number ≡ true → meaning_within meant nothing bodies limit number ≡ meaning_within meant nothing bodies steps number
means_the_same_by references meant nothing looks bodies steps limit number within e =
    let sum : limit ≡ (limit - steps) + steps = omega arith in
    ap (λ (n : ℕ). meaning_within meant nothing bodies n number) sum ∙ means_the_same_later references meant nothing looks bodies (limit - steps) steps number e
