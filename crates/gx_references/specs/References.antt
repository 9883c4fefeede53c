-- Declarations that name each other by their numbers, and what they mean.
use Rattle.std.specs.Prelude.{◌≡◌, ℕ, zero, suc, ◌<◌, Bool, true, false, List, [], ◌∷◌, length, Option, None, Some, slice_get, slice_index_or}
use Rattle.std.specs.List.{list_all}

-- the numbers that a declaration names; what is no declaration names its own number
abbrev pub numbers_named : {B : Type 0} → (B → List ℕ) → Option B → ℕ → List ℕ
numbers_named references None number = number ∷ []
numbers_named references (Some body) number = references body

abbrev pub named_by : {B : Type 0} → (B → List ℕ) → List B → ℕ → List ℕ
named_by references bodies number = numbers_named references (slice_get bodies number) number

-- the references from a declaration come to an end within so many steps
abbrev pub ends_within : {B : Type 0} → (B → List ℕ) → List B → (steps number : ℕ) → Bool
ends_within references bodies zero number = false
ends_within references bodies (suc steps) number = list_all (ends_within references bodies steps) (named_by references bodies number)

-- what a declaration means, over the meanings of those that it names
abbrev pub meaning_in : {B M : Type 0} → ((ℕ → M) → B → M) → M → Option B → (ℕ → M) → M
meaning_in meant nothing None meanings = nothing
meaning_in meant nothing (Some body) meanings = meant meanings body

abbrev pub meaning_over : {B M : Type 0} → ((ℕ → M) → B → M) → M → List B → (ℕ → M) → ℕ → M
meaning_over meant nothing bodies meanings number = meaning_in meant nothing (slice_get bodies number) meanings

-- what a declaration means where references are followed for so many steps
abbrev pub meaning_within : {B M : Type 0} → ((ℕ → M) → B → M) → M → List B → (steps number : ℕ) → M
meaning_within meant nothing bodies zero number = nothing
meaning_within meant nothing bodies (suc steps) number = meaning_over meant nothing bodies (meaning_within meant nothing bodies steps) number

-- the references from a declaration come to an end: it is followed by no more steps than there are declarations
abbrev pub ends : {B : Type 0} → (B → List ℕ) → List B → ℕ → Bool
ends references bodies number = ends_within references bodies (length bodies) number

-- what a declaration means, where its references come to an end
abbrev pub meaning_of : {B M : Type 0} → ((ℕ → M) → B → M) → M → List B → ℕ → M
meaning_of meant nothing bodies number = meaning_within meant nothing bodies (length bodies) number

-- all references come to an end, and a table has the meaning of each declaration
pub record AreMeanings {B M : Type 0} (references : B → List ℕ) (meant : (ℕ → M) → B → M) (nothing : M) (bodies : List B) (table : List (Option M)) : Type 0 where
  pub sized : length table ≡ length bodies
  pub ended : (number : ℕ) → number < length bodies → ends references bodies number ≡ true
  pub meanings : (number : ℕ) → number < length bodies → slice_index_or table number None ≡ Some (meaning_of meant nothing bodies number)

-- the references from some declaration come to no end
abbrev pub AreEndless : {B : Type 0} → (B → List ℕ) → List B → Type 0
AreEndless references bodies = (number : ℕ) × (number < length bodies) × (ends references bodies number ≡ false)
