-- Where references come to no end there is a circle.
use Rattle.std.proofs.Common.{◌≡◌, ℕ, zero, suc, ◌+◌, Bool, true, false, ◌&&◌, ◌⊎◌, inl, inr, List, [], ◌∷◌, length, Option, None, Some, slice_get, refl, sym, ◌∙◌, ap, subst, arith}
use Rattle.std.proofs.Math.ListN.{set, length-set}
use Rattle.std.specs.Prelude.{is_some}
use Rattle.std.specs.List.{Contains, list_all}
use Rattle.std.proofs.lemmas.Bool.{cases_Bool, true≢false}
use Rattle.std.proofs.lemmas.Bool.Decides.{eqb_tells}
use Rattle.std.proofs.lemmas.List.{get_or-set_other}
use Rattle.std.proofs.lemmas.Option.{slice_get_within}
use Rattle.gx_references.specs.References.{named_by, ends_within}
use Rattle.gx_references.specs.Circles.{RefersTo, directly, through}
use Rattle.gx_references.specs.Known.{table_entry, has_entry}
use Rattle.gx_references.specs.Search.{count_known}
use Rattle.gx_references.proofs.Passing.{first_member, member_of_rest}
use Rattle.gx_references.proofs.CircleLemmas.{refers_on, outside_is_circular}
use Rattle.gx_references.proofs.Tables.{count_known-set, count_known-le-length, no_entry}

-- where not all members pass, one fails
failing_member : {A : Type 0} (p : A → Bool) (xs : List A) → list_all p xs ≡ false → (x : A) × Contains xs x × (p x ≡ false)
failing_member p [] e = absurd (true≢false e)
failing_member p (x ∷ xs) e = elim (cases_Bool (p x)) [
  | inr is_not ↦ (x, first_member x xs, is_not)
  | inl is_so ↦
      let rest = failing_member p xs (sym (ap (λ (b : Bool). b && list_all p xs) is_so) ∙ e) in
      (rest.0, member_of_rest x rest.0 xs rest.1, rest.2)
]

body_or_none : {B : Type 0} (found : Option B) → (found ≡ None) ⊎ ((body : B) × (found ≡ Some body))
body_or_none None = inl refl
body_or_none (Some body) = inr (body, refl)

-- the numbers that were seen refer to the one that is looked at; one that was seen before is part of itself
circle_ahead : {B : Type 0} (references : B → List ℕ) (bodies : List B) (steps number : ℕ) (seen : List (Option ℕ)) →
    length seen ≡ length bodies → count_known seen + steps ≡ length bodies → ((n : ℕ) → has_entry seen n ≡ true → RefersTo references bodies n number) →
    ends_within references bodies steps number ≡ false →
    (other : ℕ) × ((other ≡ number) ⊎ RefersTo references bodies number other) × RefersTo references bodies other other
circle_ahead references bodies zero number seen sized count refer fails =
    elim (body_or_none (slice_get bodies number)) [
      | inl outside ↦ (number, inl refl, outside_is_circular references bodies number outside)
      | inr (body, here) ↦ elim (cases_Bool (has_entry seen number)) [
        | inl is_so ↦ (number, inl refl, refer number is_so)
        | inr is_not ↦
            let within = slice_get_within bodies number body here in
            let more = count_known-set seen number 0 (omega arith) (no_entry (table_entry seen number) is_not) in
            let few = count_known-le-length (set seen number (Some 0)) in
            let same = length-set seen number (Some 0) in
            absurd (omega arith)
      ]
    ]
circle_ahead references bodies (suc steps) number seen sized count refer fails =
    elim (body_or_none (slice_get bodies number)) [
      | inl outside ↦ (number, inl refl, outside_is_circular references bodies number outside)
      | inr (body, here) ↦ elim (cases_Bool (has_entry seen number)) [
        | inl is_so ↦ (number, inl refl, refer number is_so)
        | inr is_not ↦
            let within = slice_get_within bodies number body here in
            let more = count_known-set seen number 0 (omega arith) (no_entry (table_entry seen number) is_not) in
            let next = failing_member (ends_within references bodies steps) (named_by references bodies number) fails in
            let refers_there : ((n : ℕ) → has_entry (set seen number (Some 0)) n ≡ true → RefersTo references bodies n next.0) = λ n is_so. elim (eqb_tells n number) [
              | inl (_, same) ↦ subst (λ (m : ℕ). RefersTo references bodies m next.0) (sym same) (directly next.1)
              | inr (_, different) ↦ refers_on references bodies n number next.0 (refer n (sym (ap is_some (get_or-set_other seen number n (Some 0) None different)) ∙ is_so)) next.1
            ] in
            let found = circle_ahead references bodies steps next.0 (set seen number (Some 0)) (length-set seen number (Some 0) ∙ sized) (omega arith) refers_there next.2 in (
              found.0,
              elim found.1 [
                | inl same ↦ inr (directly (subst (λ (m : ℕ). Contains (named_by references bodies number) m) (sym same) next.1))
                | inr way ↦ inr (through next.1 way)
              ],
              found.2,
            )
      ]
    ]

-- nothing was seen
none_seen : {B : Type 0} → List B → List (Option ℕ)
none_seen [] = []
none_seen (body ∷ bodies) = None ∷ none_seen bodies

length-none_seen : {B : Type 0} (bodies : List B) → length (none_seen bodies) ≡ length bodies
unfolding none_seen
length-none_seen [] = refl
length-none_seen (body ∷ bodies) = ap suc (length-none_seen bodies)

count_known-none_seen : {B : Type 0} (bodies : List B) → count_known (none_seen bodies) ≡ 0
unfolding none_seen
count_known-none_seen [] = refl
count_known-none_seen (body ∷ bodies) = count_known-none_seen bodies

entry-none_seen : {B : Type 0} (bodies : List B) (n : ℕ) → table_entry (none_seen bodies) n ≡ None
unfolding none_seen
entry-none_seen [] n = refl
entry-none_seen (body ∷ bodies) zero = refl
entry-none_seen (body ∷ bodies) (suc n) = entry-none_seen bodies n

pub circle_if_endless : {B : Type 0} (references : B → List ℕ) (bodies : List B) (number : ℕ) → ends_within references bodies (length bodies) number ≡ false →
    (other : ℕ) × ((other ≡ number) ⊎ RefersTo references bodies number other) × RefersTo references bodies other other
circle_if_endless references bodies number fails =
    let count = count_known-none_seen bodies in
    circle_ahead references bodies (length bodies) number (none_seen bodies) (length-none_seen bodies) (omega arith)
    (λ n is_so. absurd (true≢false (sym is_so ∙ ap is_some (entry-none_seen bodies n)))) fails
