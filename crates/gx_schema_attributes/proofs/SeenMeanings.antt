-- What is seen of meanings, by a table of them.
use Rattle.std.proofs.Common.{◌≡◌, ℕ, zero, suc, ◌<◌, Bool, true, false, ◌&&◌, List, length, Option, None, slice_get, unwrap_or, inl, inr, refl, sym, ◌∙◌, ap, arith, if◌then◌else◌}
use Rattle.std.proofs.lemmas.Bool.{cases_lt, cases_Bool}
use Rattle.std.proofs.lemmas.Bool.Decides.{eqb_tells}
use Rattle.std.proofs.lemmas.List.{get_or_past}
use Rattle.std.proofs.lemmas.Option.{slice_get_past}
use Rattle.gx_references.specs.References.{ends, meaning_in, meaning_within, meaning_of, AreMeanings, AreEndless}
use Rattle.gx_references.specs.Known.{known}
use Rattle.gx_schema_attributes.specs.AllEnd.{every_number_ends, meaning_if_all_end, passes_below}

all_pass_below : (passes : ℕ → Bool) (count : ℕ) → ((number : ℕ) → number < count → passes number ≡ true) → passes_below passes count ≡ true
all_pass_below passes zero each = refl
all_pass_below passes (suc count) each =
    ap (λ (b : Bool). b && passes_below passes count) (each count (omega arith)) ∙ all_pass_below passes count (λ number within. each number (omega arith))

one_fails_below : (passes : ℕ → Bool) (count number : ℕ) → number < count → passes number ≡ false → passes_below passes count ≡ false
one_fails_below passes zero number within fails = absurd (omega arith)
one_fails_below passes (suc count) number within fails = elim (eqb_tells number count) [
  | inl (_, same) ↦ ap (λ (b : Bool). b && passes_below passes count) (sym (ap passes same) ∙ fails)
  | inr (_, different) ↦ elim (cases_Bool (passes count)) [
    | inl is_so ↦ ap (λ (b : Bool). b && passes_below passes count) is_so ∙ one_fails_below passes count number (omega arith) fails
    | inr is_not ↦ ap (λ (b : Bool). b && passes_below passes count) is_not
  ]
]

means_nothing_outside : {B M : Type 0} (meant : (ℕ → M) → B → M) (nothing : M) (bodies : List B) (steps number : ℕ) → slice_get bodies number ≡ None → meaning_within meant nothing bodies steps number ≡ nothing
means_nothing_outside meant nothing bodies zero number outside = refl
means_nothing_outside meant nothing bodies (suc steps) number outside = ap (λ (b : Option _). meaning_in meant nothing b (meaning_within meant nothing bodies steps)) outside

-- a table of all meanings
pub table_means : {B M : Type 0} (references : B → List ℕ) (meant : (ℕ → M) → B → M) (nothing : M) (bodies : List B) (table : List (Option M)) →
    AreMeanings references meant nothing bodies table → (number : ℕ) → known nothing table number ≡ meaning_if_all_end references meant nothing bodies number
table_means references meant nothing bodies table are number =
    let ended : every_number_ends references bodies ≡ true = all_pass_below (ends references bodies) (length bodies) are.ended in
    let seen : meaning_if_all_end references meant nothing bodies number ≡ meaning_of meant nothing bodies number =
    ap (λ (b : Bool). if b then meaning_of meant nothing bodies number else nothing) ended in
    elim (cases_lt number (length bodies)) [
      | inl within ↦ ap (λ (found : Option _). unwrap_or found nothing) (are.meanings number within) ∙ sym seen
      | inr outside ↦
          ap (λ (found : Option _). unwrap_or found nothing) (get_or_past table number None (omega (arith, are.sized)))
          ∙ sym (means_nothing_outside meant nothing bodies (length bodies) number (slice_get_past bodies number outside)) ∙ sym seen
    ]

-- where some references come to no end
pub endless_means : {B M : Type 0} (references : B → List ℕ) (meant : (ℕ → M) → B → M) (nothing : M) (bodies : List B) →
    AreEndless references bodies → (number : ℕ) → nothing ≡ meaning_if_all_end references meant nothing bodies number
endless_means references meant nothing bodies (other, within, fails) number =
    let endless : every_number_ends references bodies ≡ false = one_fails_below (ends references bodies) (length bodies) other within fails in
    sym (ap (λ (b : Bool). if b then meaning_of meant nothing bodies number else nothing) endless)
