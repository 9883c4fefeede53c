-- Tests that all members of a list pass.
use Rattle.std.proofs.Common.{◌≡◌, zero, suc, Bool, true, false, ◌&&◌, List, [], ◌∷◌, refl, sym, ◌∙◌, ap, arith, inl, inr}
use Rattle.std.specs.Prelude.{Result, Ok, Err, IfOk}
use Rattle.std.specs.Bool.{MatchBool}
use Rattle.std.specs.List.{Contains, list_all}
use Rattle.std.proofs.lemmas.Bool.{cases_Bool, true≢false}
use Rattle.std.proofs.lemmas.List.Folds.{list_all_at}

-- what all members of a list pass, a member passes
pub member_passes : {A : Type 0} (p : A → Bool) (xs : List A) (x : A) → list_all p xs ≡ true → Contains xs x → p x ≡ true
member_passes p xs x all (k, within, here) = elim (cases_Bool (p x)) [
  | inl is_so ↦ is_so
  | inr is_not ↦ absurd (true≢false (sym all ∙ list_all_at p xs k x within (ap p here ∙ is_not)))
]

-- what a member of a list fails, not all pass
pub member_fails : {A : Type 0} (p : A → Bool) (xs : List A) (x : A) → Contains xs x → p x ≡ false → list_all p xs ≡ false
member_fails p xs x (k, within, here) is_not = list_all_at p xs k x within (ap p here ∙ is_not)

pub member_of_rest : {A : Type 0} (x y : A) (xs : List A) → Contains xs y → Contains (x ∷ xs) y
member_of_rest x y xs (k, within, here) = (suc k, omega arith, here)

pub first_member : {A : Type 0} (x : A) (xs : List A) → Contains (x ∷ xs) x
first_member x xs = (zero, omega arith, refl)

-- what each member of a list passes, all pass
pub all_members_pass : {A : Type 0} (p : A → Bool) (xs : List A) → ((x : A) → Contains xs x → p x ≡ true) → list_all p xs ≡ true
all_members_pass p [] each = refl
all_members_pass p (x ∷ xs) each =
    ap (λ (b : Bool). b && list_all p xs) (each x (first_member x xs)) ∙ all_members_pass p xs (λ y here. each y (member_of_rest x y xs here))

-- what all members pass, they pass in a weaker test too
pub weaker_test_passes : {A : Type 0} (p q : A → Bool) (xs : List A) → list_all p xs ≡ true → ((x : A) → Contains xs x → p x ≡ true → q x ≡ true) → list_all q xs ≡ true
weaker_test_passes p q xs all weaker = all_members_pass q xs (λ x here. weaker x here (member_passes p xs x all here))

-- a decision that is made, with what follows from it
pub decided_so : {E : Type 0} (P Q A B : Type 0) (known : Bool) (r : Result Bool E) → IfOk r (λ d. d ≡ known) → IfOk r (λ d. MatchBool d A B) →
    (known ≡ true → A → P) → (known ≡ false → B → Q) → IfOk r (λ d. MatchBool d P Q)
decided_so P Q A B known (Ok true) e a is_so is_not = is_so (sym e) a
decided_so P Q A B known (Ok false) e b is_so is_not = is_not (sym e) b
decided_so P Q A B known (Err x) e a is_so is_not = tt
