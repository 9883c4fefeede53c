-- The laws of references.
use Rattle.std.specs.Prelude.{◌≡◌, ℕ, ◌≤◌, ◌<◌, IsTrue, ◌↔◌, true, false, List, length, ◌⊎◌}
use Rattle.gx_references.specs.References.{meaning_over, meaning_within, meaning_of, ends, ends_within}
use Rattle.gx_references.specs.Known.{SameMeaningsOn}
use Rattle.gx_references.specs.Circles.{RefersTo, IsPartOfItself, is_circular_among}

-- what a declaration means is told by the meanings of those that it names
abbrev pub LooksAtReferences : {B M : Type 0} → (B → List ℕ) → ((ℕ → M) → B → M) → Type 0
LooksAtReferences {B} {M} references meant = (f g : ℕ → M) (body : B) → SameMeaningsOn f g (references body) → meant f body ≡ meant g body

-- a way to give meanings gives each declaration whose references come to an end what it says, over the meanings of those that it names
abbrev pub Solves : {B M : Type 0} → (B → List ℕ) → ((ℕ → M) → B → M) → M → List B → (ℕ → M) → Type 0
Solves references meant nothing bodies meanings =
    (number : ℕ) → ends references bodies number ≡ true → meanings number ≡ meaning_over meant nothing bodies meanings number

-- meanings are as declarations say
abbrev pub MeaningsSolve : {B M : Type 0} → (B → List ℕ) → ((ℕ → M) → B → M) → M → Type 0
MeaningsSolve {B} references meant nothing = (bodies : List B) → Solves references meant nothing bodies (meaning_of meant nothing bodies)

-- there is no other way to give meanings where references come to an end
abbrev pub OneSolution : {B M : Type 0} → (B → List ℕ) → ((ℕ → M) → B → M) → M → Type 0
OneSolution {B} {M} references meant nothing = (bodies : List B) (meanings : ℕ → M) → Solves references meant nothing bodies meanings →
    (number : ℕ) → ends references bodies number ≡ true → meanings number ≡ meaning_of meant nothing bodies number

-- where references come to an end, they may be followed for more steps
abbrev pub MoreStepsChangeNothing : {B M : Type 0} → (B → List ℕ) → ((ℕ → M) → B → M) → M → Type 0
MoreStepsChangeNothing {B} references meant nothing = (bodies : List B) (steps number : ℕ) → length bodies ≤ steps →
    ends references bodies number ≡ true → meaning_within meant nothing bodies steps number ≡ meaning_of meant nothing bodies number

-- references that end within some number of steps end within as many as there are declarations
abbrev pub EndsAreSoon : {B : Type 0} → (B → List ℕ) → Type 0
EndsAreSoon {B} references = (bodies : List B) (steps number : ℕ) → ends_within references bodies steps number ≡ true → ends references bodies number ≡ true

-- where the references from a declaration come to no end, it is part of itself, or it refers to one that is
abbrev pub CircleIfEndless : {B : Type 0} → (B → List ℕ) → Type 0
CircleIfEndless {B} references = (bodies : List B) (number : ℕ) → ends references bodies number ≡ false →
    (other : ℕ) × ((other ≡ number) ⊎ RefersTo references bodies number other) × IsPartOfItself references bodies other

-- the references from a declaration that is part of itself come to no end, and from those that refer to it neither
abbrev pub EndlessIfCircle : {B : Type 0} → (B → List ℕ) → Type 0
EndlessIfCircle {B} references = (bodies : List B) (number other : ℕ) → RefersTo references bodies number other → IsPartOfItself references bodies other →
    ends references bodies number ≡ false

-- a declaration is part of itself exactly where a way of no more steps than there are declarations leads back to it
abbrev pub WaysBackAreShort : {B : Type 0} → (B → List ℕ) → Type 0
WaysBackAreShort {B} references = (bodies : List B) (number : ℕ) → number < length bodies → IsTrue (is_circular_among references bodies number) ↔ IsPartOfItself references bodies number
