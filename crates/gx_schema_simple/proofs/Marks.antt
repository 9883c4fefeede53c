-- Tables of marks.
use Rattle.std.proofs.Common.{◌≡◌, ℕ, zero, suc, ◌<◌, ◌+◌, ◌⊎◌, inl, inr, Bool, true, false, List, [], ◌∷◌, length, Option, None, Some, get_or, refl, ◌∙◌, ap, arith}
use Rattle.std.proofs.Math.ListN.{set}
use Rattle.std.proofs.lemmas.List.{get_or-set_same, get_or-set_other}
use Rattle.std.proofs.lemmas.Bool.Decides.{eqb_tells}
use Rattle.gx_schema_simple.specs.Walk.{has_mark}

-- what stands in a table in which one entry was set is that entry, or stood there before
pub set_entry : {A : Type 0} (xs : List A) (place : ℕ) (a d : A) (number : ℕ) → place < length xs → ((number ≡ place) × (get_or (set xs place a) number d ≡ a)) ⊎ (get_or (set xs place a) number d ≡ get_or xs number d)
set_entry xs place a d number within = elim (eqb_tells number place) [
  | inl (_, same) ↦ inl (same, ap (λ (n : ℕ). get_or (set xs place a) n d) same ∙ get_or-set_same xs place a d within)
  | inr (_, different) ↦ inr (get_or-set_other xs place number a d different)
]

-- how many entries are not marked
abbrev pub unmarked : List Bool → ℕ
unmarked [] = 0
unmarked (true ∷ marks) = unmarked marks
unmarked (false ∷ marks) = unmarked marks + 1

pub unmarked-set : (marks : List Bool) (place : ℕ) → place < length marks → has_mark marks place ≡ false → unmarked (set marks place true) + 1 ≡ unmarked marks
unmarked-set [] place within is_not = absurd (omega arith)
unmarked-set (true ∷ marks) zero within is_not = absurd (cc)
unmarked-set (false ∷ marks) zero within is_not = refl
unmarked-set (true ∷ marks) (suc place) within is_not = unmarked-set marks place (omega arith) is_not
unmarked-set (false ∷ marks) (suc place) within is_not = let e = unmarked-set marks place (omega arith) is_not in omega arith

-- no entry is marked
abbrev pub no_marks : {A : Type 0} → List A → List Bool
no_marks [] = []
no_marks (x ∷ xs) = false ∷ no_marks xs

pub length-no_marks : {A : Type 0} (xs : List A) → length (no_marks xs) ≡ length xs
length-no_marks [] = refl
length-no_marks (x ∷ xs) = ap suc (length-no_marks xs)

pub unmarked-no_marks : {A : Type 0} (xs : List A) → unmarked (no_marks xs) ≡ length xs
unmarked-no_marks [] = refl
unmarked-no_marks (x ∷ xs) = let e = unmarked-no_marks xs in omega arith

pub has_mark-no_marks : {A : Type 0} (xs : List A) (number : ℕ) → has_mark (no_marks xs) number ≡ false
has_mark-no_marks [] number = refl
has_mark-no_marks (x ∷ xs) zero = refl
has_mark-no_marks (x ∷ xs) (suc number) = has_mark-no_marks xs number

-- how many entries are none
abbrev pub unreached : List (Option ℕ) → ℕ
unreached [] = 0
unreached (Some start ∷ walks) = unreached walks
unreached (None ∷ walks) = unreached walks + 1

pub unreached-set : (walks : List (Option ℕ)) (place start : ℕ) → place < length walks → get_or walks place None ≡ None → unreached (set walks place (Some start)) + 1 ≡ unreached walks
unreached-set [] place start within none = absurd (omega arith)
unreached-set (Some from ∷ walks) zero start within none = absurd (cc)
unreached-set (None ∷ walks) zero start within none = refl
unreached-set (Some from ∷ walks) (suc place) start within none = unreached-set walks place start (omega arith) none
unreached-set (None ∷ walks) (suc place) start within none = let e = unreached-set walks place start (omega arith) none in omega arith
