-- Where there is no first fault, there is none.
use Rattle.std.proofs.Common.{◌≡◌, ℕ, zero, suc, ◌+◌, inl, inr, Bool, true, false, ◌||◌, List, [], ◌∷◌, ◌++◌, Option, None, Some, slice_get, refl, ◌∙◌, ap, arith}
use Rattle.std.proofs.lemmas.Bool.Decides.{leb_tells}
use Rattle.gx_schema_simple.specs.Faults.{Seen, earlier_fault, facet_faults, fault_if, faults_from, first_type_fault, is_list, values_seen_among, simple_faults, type_faults}
use Rattle.gx_schema_simple.specs.Laws.{is_complex_among, NoFirstFault}
use Rattle.gx_schema_simple.specs.Varieties.{variety_of, variety_of_base}
use Rattle.gx_schema_simple.specs.declared.faults.Fault.{Fault}
use Rattle.gx_schema_simple.specs.declared.type_form.TypeForm.{TypeForm}
use Rattle.gx_schema_simple.specs.declared.type_form.TypeForm.TheVariants as forms
use Rattle.gx_schema_simple.proofs.FaultLemmas.{earlier_left, earlier_right}

earlier_is_some : (fault : Fault) (other : Option Fault) → earlier_fault (Some fault) other ≡ None → ⊥
earlier_is_some fault None none = cc
earlier_is_some fault (Some other) none = elim (leb_tells fault.place other.place) [
  | inl (_, before) ↦ let some = earlier_left fault other before in cc
  | inr (_, behind) ↦ let some = earlier_right fault other behind in cc
]

empty_by_first : (faults : List Fault) → first_type_fault faults ≡ None → faults ≡ []
empty_by_first [] none = refl
empty_by_first (fault ∷ faults) none = absurd (earlier_is_some fault (first_type_fault faults) none)

both_empty : {A : Type 0} (xs ys : List A) → xs ++ ys ≡ [] → (xs ≡ []) × (ys ≡ [])
both_empty [] ys empty = (refl, empty)
both_empty (x ∷ xs) ys empty = absurd (cc)

none_of_type : (types : List TypeForm) (seen : Seen) (number : ℕ) (rest : List TypeForm) (k : ℕ) (form : TypeForm) → faults_from types seen number rest ≡ [] → slice_get rest k ≡ Some form → type_faults types seen (number + k) form ≡ []
none_of_type types seen number [] k form empty here = absurd (cc)
none_of_type types seen number (other ∷ rest) zero form empty here =
    let it : form ≡ other = cc in
    let same : number + 0 ≡ number = omega arith in
    ap (λ (f : TypeForm). type_faults types seen (number + 0) f) it ∙ ap (λ (n : ℕ). type_faults types seen n other) same
    ∙ (both_empty (type_faults types seen number other) (faults_from types seen (suc number) rest) empty).0
none_of_type types seen number (other ∷ rest) (suc k) form empty here =
    let same : number + suc k ≡ suc number + k = omega arith in
    ap (λ (n : ℕ). type_faults types seen n form) same
    ∙ none_of_type types seen (suc number) rest k form (both_empty (type_faults types seen number other) (faults_from types seen (suc number) rest) empty).1 here

no_fault : (t : Bool) (place number : ℕ) → fault_if t place number ≡ [] → t ≡ false
no_fault true place number empty = absurd (cc)
no_fault false place number empty = refl

neither : (a b : Bool) → (a || b) ≡ false → (a ≡ false) × (b ≡ false)
neither true b e = absurd (cc)
neither false b e = (refl, e)

none_by_first : (types : List TypeForm) → first_type_fault (simple_faults types) ≡ None → (number : ℕ) (form : TypeForm) → slice_get types number ≡ Some form → type_faults types (values_seen_among types) number form ≡ []
none_by_first types none number form here =
    let same : number ≡ 0 + number = omega arith in
    ap (λ (n : ℕ). type_faults types (values_seen_among types) n form) same ∙ none_of_type types (values_seen_among types) 0 types number form (empty_by_first (simple_faults types) none) here

pub no_first_fault : NoFirstFault
no_first_fault types none = record {
  faults = none_by_first types none;
  items = λ number place item here.
      neither (is_complex_among types item) (is_list (variety_of_base (variety_of types) item))
      (no_fault (is_complex_among types item || is_list (variety_of_base (variety_of types) item)) place number (none_by_first types none number (forms.List place item) here));
  bases = λ number place base facets here.
      no_fault (is_complex_among types base) place number
      (both_empty (fault_if (is_complex_among types base) place number) (facet_faults (variety_of_base (variety_of types) base) ((values_seen_among types).meaning base) number facets)
      (none_by_first types none number (forms.Restriction place base facets) here)).0;
}
