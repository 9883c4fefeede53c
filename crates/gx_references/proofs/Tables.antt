-- Tables of meanings.
use Rattle.std.proofs.Common.{◌≡◌, ℕ, zero, suc, ◌+◌, ◌≤◌, ◌<◌, Bool, true, false, List, [], ◌∷◌, ◌++◌, length, Option, None, Some, get_or, refl, arith}
use Rattle.std.proofs.Math.ListN.{set}
use Rattle.std.specs.Prelude.{is_some, slice_get}
use Rattle.gx_references.specs.Search.{count_known, unopened_work}

-- one more of what a list has past its end
pub get_or-push_default : {A : Type 0} (xs : List A) (d : A) (n : ℕ) → get_or (xs ++ d ∷ []) n d ≡ get_or xs n d
get_or-push_default [] d zero = refl
get_or-push_default [] d (suc n) = refl
get_or-push_default (x ∷ xs) d zero = refl
get_or-push_default (x ∷ xs) d (suc n) = get_or-push_default xs d n

-- a new meaning is one more
pub count_known-set : {M : Type 0} (table : List (Option M)) (number : ℕ) (meaning : M) → number < length table → get_or table number None ≡ None → count_known (set table number (Some meaning)) ≡ count_known table + 1
count_known-set [] number meaning within empty = absurd (omega arith)
count_known-set (None ∷ table) zero meaning within empty = refl
count_known-set (Some m ∷ table) zero meaning within empty = absurd (cc)
count_known-set (None ∷ table) (suc number) meaning within empty = count_known-set table number meaning (omega arith) empty
count_known-set (Some m ∷ table) (suc number) meaning within empty = let e = count_known-set table number meaning (omega arith) empty in omega arith

pub count_known-le-length : {M : Type 0} (table : List (Option M)) → count_known table ≤ length table
count_known-le-length [] = omega arith
count_known-le-length (None ∷ table) = omega (arith, count_known-le-length table)
count_known-le-length (Some meaning ∷ table) = omega (arith, count_known-le-length table)

-- what is opened is no more to be done
pub unopened_work-set : {B : Type 0} (references : B → List ℕ) (bodies : List B) (opened : List Bool) (number : ℕ) (body : B) → slice_get bodies number ≡ Some body → number < length opened → get_or opened number false ≡ false → unopened_work references bodies (set opened number true) + (length (references body) + 1) ≡ unopened_work references bodies opened
unopened_work-set references [] opened number body here within closed = absurd (cc)
unopened_work-set references (b ∷ bodies) [] number body here within closed = absurd (omega arith)
unopened_work-set references (b ∷ bodies) (true ∷ opened) zero body here within closed = absurd (cc)
unopened_work-set references (b ∷ bodies) (false ∷ opened) zero body here within closed = let e : length (references b) ≡ length (references body) = cc in omega arith
unopened_work-set references (b ∷ bodies) (true ∷ opened) (suc number) body here within closed =
    let e = unopened_work-set references bodies opened number body here (omega arith) closed in omega arith
unopened_work-set references (b ∷ bodies) (false ∷ opened) (suc number) body here within closed =
    let e = unopened_work-set references bodies opened number body here (omega arith) closed in omega arith

pub no_entry : {M : Type 0} (found : Option M) → is_some found ≡ false → found ≡ None
no_entry None e = refl
no_entry (Some meaning) e = absurd (cc)

pub empty_by_length : {A : Type 0} (xs : List A) → length xs ≡ 0 → xs ≡ []
empty_by_length [] e = refl
empty_by_length (x ∷ xs) e = absurd (omega arith)
