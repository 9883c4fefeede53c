-- What bodies mean is what they stand for means.
use mathlib.Core.Path.{fun_ext}
use Rattle.std.proofs.Common.{◌≡◌, ℕ, zero, suc, ◌<◌, Bool, true, false, ◌&&◌, inl, inr, List, [], length, map, Option, None, Some, slice_get, unwrap_or, option_map, if◌then◌else◌, refl, sym, ◌∙◌, ap, subst, arith}
use Rattle.std.specs.List.{list_all}
use Rattle.std.specs.Prelude.{IfOk, Result}
use Rattle.std.proofs.lemmas.Result.{IfOk-weaker}
use Rattle.std.proofs.lemmas.Bool.{cases_Bool, cases_lt}
use Rattle.std.proofs.lemmas.List.{get_or_past, length-map}
use Rattle.std.proofs.lemmas.Option.{slice_get-map, slice_get_past}
use Rattle.gx_references.specs.References.{numbers_named, named_by, ends, ends_within, meaning_in, meaning_over, meaning_within, meaning_of, AreMeanings, AreEndless}
use Rattle.gx_references.specs.Known.{known, table_entry}
use Rattle.gx_schema_content.specs.Knots.{holds_below, all_end, meaning_at_ends, IsListBelow}

-- ---- a list of bodies and the list of what they stand for

named_by_view : {B C : Type 0} (view : B → C) (references : C → List ℕ) (bodies : List B) (number : ℕ) → named_by (λ (b : B). references (view b)) bodies number ≡ named_by references (map view bodies) number
named_by_view view references bodies number =
    elim (slice_get bodies number) as (λ (b : Option _). numbers_named (λ (x : _). references (view x)) b number ≡ numbers_named references (option_map view b) number) [
      | None ↦ refl
      | Some body ↦ refl
    ]
    ∙ sym (ap (λ (c : Option _). numbers_named references c number) (slice_get-map view bodies number))

ends_by_view : {B C : Type 0} (view : B → C) (references : C → List ℕ) (bodies : List B) (steps number : ℕ) → ends_within (λ (b : B). references (view b)) bodies steps number ≡ ends_within references (map view bodies) steps number
ends_by_view view references bodies zero number = refl
ends_by_view view references bodies (suc steps) number =
    ap (list_all (ends_within (λ (b : _). references (view b)) bodies steps)) (named_by_view view references bodies number)
    ∙ ap (λ (test : ℕ → Bool). list_all test (named_by references (map view bodies) number)) (fun_ext (ends_by_view view references bodies steps))

meaning_by_view : {B C M : Type 0} (view : B → C) (meant : (ℕ → M) → C → M) (nothing : M) (bodies : List B) (steps number : ℕ) →
    meaning_within (λ (f : ℕ → M) (b : B). meant f (view b)) nothing bodies steps number ≡ meaning_within meant nothing (map view bodies) steps number
meaning_by_view view meant nothing bodies zero number = refl
meaning_by_view {B} {C} {M} view meant nothing bodies (suc steps) number =
    let meanings = meaning_within (λ (f : ℕ → M) (b : B). meant f (view b)) nothing bodies steps in
    elim (slice_get bodies number) as (λ (b : Option B). meaning_in (λ (f : ℕ → M) (x : B). meant f (view x)) nothing b meanings ≡ meaning_in meant nothing (option_map view b) meanings) [
      | None ↦ refl
      | Some body ↦ refl
    ]
    ∙ sym (ap (λ (c : Option C). meaning_in meant nothing c meanings) (slice_get-map view bodies number))
    ∙ ap (λ (f : ℕ → M). meaning_over meant nothing (map view bodies) f number) (fun_ext (meaning_by_view view meant nothing bodies steps))

pub meant_by_view : {B C M : Type 0} (view : B → C) (references : C → List ℕ) (meant : (ℕ → M) → C → M) (nothing : M) (bodies : List B) (number : ℕ) →
    meaning_at_ends (λ (b : B). references (view b)) (λ (f : ℕ → M) (b : B). meant f (view b)) nothing bodies number ≡ meaning_at_ends references meant nothing (map view bodies) number
meant_by_view {B} {C} {M} view references meant nothing bodies number =
    let sized : length bodies ≡ length (map view bodies) = sym (length-map bodies view) in
    let tests : ends (λ (b : B). references (view b)) bodies ≡ ends references (map view bodies) =
    fun_ext (λ (n : ℕ). ends_by_view view references bodies (length bodies) n ∙ ap (λ (steps : ℕ). ends_within references (map view bodies) steps n) sized) in
    let same : all_end (λ (b : B). references (view b)) bodies ≡ all_end references (map view bodies) =
    ap (λ (count : ℕ). holds_below count (ends (λ (b : B). references (view b)) bodies)) sized ∙ ap (holds_below (length (map view bodies))) tests in
    let means : meaning_of (λ (f : ℕ → M) (b : B). meant f (view b)) nothing bodies number ≡ meaning_of meant nothing (map view bodies) number =
    meaning_by_view view meant nothing bodies (length bodies) number ∙ ap (λ (steps : ℕ). meaning_within meant nothing (map view bodies) steps number) sized in
    ap (λ (test : Bool). if test then meaning_of (λ (f : ℕ → M) (b : B). meant f (view b)) nothing bodies number else nothing) same
    ∙ ap (λ (m : M). if all_end references (map view bodies) then m else nothing) means

-- ---- tables

all_hold : (count : ℕ) (test : ℕ → Bool) → ((number : ℕ) → number < count → test number ≡ true) → holds_below count test ≡ true
all_hold zero test holds = refl
all_hold (suc count) test holds =
    let below = all_hold count test (λ number within. holds number (omega arith)) in
    let last = holds count (omega arith) in
    rw (below, last) refl

one_fails : (count : ℕ) (test : ℕ → Bool) (number : ℕ) → number < count → test number ≡ false → holds_below count test ≡ false
one_fails zero test number within fails = absurd (omega arith)
one_fails (suc count) test number within fails = elim (cases_lt number count) [
  | inl below ↦ let before = one_fails count test number below fails in rw before refl
  | inr above ↦
      let here : count ≡ number = omega arith in
      let last : test count ≡ false = ap test here ∙ fails in
      elim (cases_Bool (holds_below count test)) [
        | inl holds ↦ ap (λ (b : Bool). b && test count) holds ∙ last
        | inr breaks ↦ ap (λ (b : Bool). b && test count) breaks
      ]
]

pub outside : {B M : Type 0} (meant : (ℕ → M) → B → M) (nothing : M) (bodies : List B) (steps number : ℕ) → slice_get bodies number ≡ None → meaning_within meant nothing bodies steps number ≡ nothing
outside meant nothing bodies zero number past = refl
outside {B} meant nothing bodies (suc steps) number past = ap (λ (b : Option B). meaning_in meant nothing b (meaning_within meant nothing bodies steps)) past

pub table_knows : {B M : Type 0} (references : B → List ℕ) (meant : (ℕ → M) → B → M) (nothing : M) (bodies : List B) (table : List (Option M)) → AreMeanings references meant nothing bodies table → (number : ℕ) →
    known nothing table number ≡ meaning_at_ends references meant nothing bodies number
table_knows {B} {M} references meant nothing bodies table are number =
    let here : known nothing table number ≡ meaning_of meant nothing bodies number = elim (cases_lt number (length bodies)) [
      | inl within ↦ ap (λ (m : Option M). unwrap_or m nothing) (are.meanings number within)
      | inr past ↦
          let empty : table_entry table number ≡ None = let size = are.sized in get_or_past table number None (omega arith) in
          ap (λ (m : Option M). unwrap_or m nothing) empty ∙ sym (outside meant nothing bodies (length bodies) number (slice_get_past bodies number past))
    ] in
    here ∙ sym (ap (λ (test : Bool). if test then meaning_of meant nothing bodies number else nothing) (all_hold (length bodies) (ends references bodies) are.ended))

pub nothing_known : {B M : Type 0} (references : B → List ℕ) (meant : (ℕ → M) → B → M) (nothing : M) (bodies : List B) (table : List (Option M)) → table ≡ [] → AreEndless references bodies → (number : ℕ) →
    known nothing table number ≡ meaning_at_ends references meant nothing bodies number
nothing_known {B} {M} references meant nothing bodies table empty endless number =
    let (n, within, fails) = endless in
    ap (λ (t : List (Option M)). known nothing t number) empty
    ∙ sym (ap (λ (test : Bool). if test then meaning_of meant nothing bodies number else nothing) (one_fails (length bodies) (ends references bodies) n within fails))

-- ---- tables that a call returns

pub table_means : {T E M : Type 0} (r : Result T E) (read : T → ℕ → M) (f g : ℕ → M) → ((number : ℕ) → f number ≡ g number) →
    IfOk r (λ (table : T). (number : ℕ) → read table number ≡ f number) → IfOk r (λ (table : T). (number : ℕ) → read table number ≡ g number)
table_means {T} r read f g same means =
    IfOk-weaker r (λ (table : T). (number : ℕ) → read table number ≡ f number) (λ (table : T). (number : ℕ) → read table number ≡ g number) (λ table here number. here number ∙ same number) means

pub list_means : {T E M : Type 0} (r : Result T E) (read : T → List M) (count : ℕ) (f g : ℕ → M) → ((number : ℕ) → f number ≡ g number) →
    IfOk r (λ (table : T). IsListBelow count f (read table)) → IfOk r (λ (table : T). IsListBelow count g (read table))
list_means {T} r read count f g same means = subst (λ (h : ℕ → _). IfOk r (λ (table : T). IsListBelow count h (read table))) (fun_ext same) means
