-- Circles of references have no end.
use Rattle.std.proofs.Common.{◌≡◌, ℕ, zero, suc, false, List, [], Option, None, slice_get, refl, sym, subst}
use Rattle.std.specs.List.{Contains}
use Rattle.gx_references.specs.References.{numbers_named, named_by, ends_within}
use Rattle.gx_references.specs.Circles.{RefersTo, directly, through}
use Rattle.gx_references.proofs.Passing.{member_fails, first_member}

-- what refers to a part of itself ends within no number of steps
pub circle_has_no_end : {B : Type 0} (references : B → List ℕ) (bodies : List B) (steps from to : ℕ) → RefersTo references bodies from to → RefersTo references bodies to to → ends_within references bodies steps from ≡ false
circle_has_no_end references bodies zero from to way circle = refl
circle_has_no_end references bodies (suc steps) from to (directly here) circle =
    member_fails (ends_within references bodies steps) (named_by references bodies from) to here (circle_has_no_end references bodies steps to to circle circle)
circle_has_no_end references bodies (suc steps) from to (through {between = between} here way) circle =
    member_fails (ends_within references bodies steps) (named_by references bodies from) between here (circle_has_no_end references bodies steps between to way circle)

-- a way of references goes on
pub refers_on : {B : Type 0} (references : B → List ℕ) (bodies : List B) (from between to : ℕ) → RefersTo references bodies from between → Contains (named_by references bodies between) to → RefersTo references bodies from to
refers_on references bodies from between to (directly here) next = through here (directly next)
refers_on references bodies from between to (through {between = middle} here way) next = through here (refers_on references bodies middle between to way next)

-- what is no declaration refers to itself
pub outside_is_circular : {B : Type 0} (references : B → List ℕ) (bodies : List B) (number : ℕ) → slice_get bodies number ≡ None → RefersTo references bodies number number
outside_is_circular references bodies number outside =
    directly (subst (λ (b : Option _). Contains (numbers_named references b number) number) (sym outside) (first_member number []))
