-- Facts of lists and options.
use Rattle.std.proofs.Common.{◌≡◌, ◌∙◌, ℕ, zero, suc, ◌+◌, ◌<◌, ◌≤◌, Bool, true, false, List, [], ◌∷◌, ◌++◌, length, map, slice_get, Option, None, Some, refl, sym, ap, subst, arith, if◌then◌else◌, ◌&&◌, ◌||◌}
use Rattle.std.specs.Prelude.{option_map, IfOk, Result, Ok, Err}
use Rattle.std.specs.Option.{option_or}
use Rattle.std.specs.List.{flat_map, list_all, list_any}
use Rattle.std.proofs.lemmas.Bool.Decides.{nat_tests}
use Rattle.std.proofs.lemmas.List.{append_assoc}
use Rattle.gx_types.specs.SchemaInvariant.{AreDistinctBy, HoldsOfEach}
use Rattle.gx_schema.specs.Doubled.{doubled_from, is_number}

-- ---- options

pub mapped_none : {A B : Type 0} (f : A → B) (found : Option A) → option_map f found ≡ None → found ≡ None
mapped_none f None e = refl
mapped_none f (Some x) e = absurd (cc)

pub first_none : {A : Type 0} (one other : Option A) → option_or one other ≡ None → one ≡ None
first_none None other e = refl
first_none (Some x) other e = absurd (cc)

pub second_none : {A : Type 0} (one other : Option A) → option_or one other ≡ None → other ≡ None
second_none None other e = e
second_none (Some x) other e = absurd (cc)

-- ---- results

pub if_ok_along : {T E : Type 0} (r : Result T E) {P Q : T → Type 0} → ((t : T) → P t → Q t) → IfOk r P → IfOk r Q
if_ok_along (Ok t) along told = along t told
if_ok_along (Err e) along told = tt

-- ---- what holds of each

pub holds_append : {A : Type 0} (Fact : A → Type 0) (xs ys : List A) → HoldsOfEach Fact xs → HoldsOfEach Fact ys → HoldsOfEach Fact (xs ++ ys)
holds_append Fact [] ys h k = k
holds_append Fact (x ∷ xs) ys h k = (h.0, holds_append Fact xs ys h.1 k)

pub holds_front : {A : Type 0} (Fact : A → Type 0) (xs ys : List A) → HoldsOfEach Fact (xs ++ ys) → HoldsOfEach Fact xs
holds_front Fact [] ys h = tt
holds_front Fact (x ∷ xs) ys h = (h.0, holds_front Fact xs ys h.1)

pub holds_behind : {A : Type 0} (Fact : A → Type 0) (xs ys : List A) → HoldsOfEach Fact (xs ++ ys) → HoldsOfEach Fact ys
holds_behind Fact [] ys h = h
holds_behind Fact (x ∷ xs) ys h = holds_behind Fact xs ys h.1

one_value : {A : Type 0} (one other : A) → ◌≡◌ {A = Option A} (Some one) (Some other) → one ≡ other
one_value one other e = cc

pub holds_at : {A : Type 0} (Fact : A → Type 0) (xs : List A) (number : ℕ) (x : A) → HoldsOfEach Fact xs → slice_get xs number ≡ Some x → Fact x
holds_at Fact [] number x h e = absurd (cc)
holds_at {A} Fact (y ∷ ys) zero x h e = subst Fact (one_value y x e) h.0
holds_at Fact (y ∷ ys) (suc number) x h e = holds_at Fact ys number x h.1 e

pub holds_mapped : {A B : Type 0} (Fact : B → Type 0) (f : A → B) (xs : List A) → HoldsOfEach (λ x. Fact (f x)) xs → HoldsOfEach Fact (map f xs)
holds_mapped Fact f [] h = tt
holds_mapped Fact f (x ∷ xs) h = (h.0, holds_mapped Fact f xs h.1)

pub holds_joined : {A B : Type 0} (Fact : B → Type 0) (f : A → List B) (xs : List A) → HoldsOfEach (λ x. HoldsOfEach Fact (f x)) xs → HoldsOfEach Fact (flat_map f xs)
holds_joined Fact f [] h = tt
holds_joined Fact f (x ∷ xs) h = holds_append Fact (f x) (flat_map f xs) h.0 (holds_joined Fact f xs h.1)

pub holds_parted : {A B : Type 0} (Fact : B → Type 0) (f : A → List B) (xs : List A) → HoldsOfEach Fact (flat_map f xs) → HoldsOfEach (λ x. HoldsOfEach Fact (f x)) xs
holds_parted Fact f [] h = tt
holds_parted Fact f (x ∷ xs) h = (holds_front Fact (f x) (flat_map f xs) h, holds_parted Fact f xs (holds_behind Fact (f x) (flat_map f xs) h))

pub holds_both : {A : Type 0} (Fact Other : A → Type 0) (xs : List A) → HoldsOfEach Fact xs → HoldsOfEach Other xs → HoldsOfEach (λ x. Fact x × Other x) xs
holds_both Fact Other [] h k = tt
holds_both Fact Other (x ∷ xs) h k = ((h.0, k.0), holds_both Fact Other xs h.1 k.1)

-- what passes a test, and what holds of each

pub all_pass : {A : Type 0} (test : A → Bool) (xs : List A) → HoldsOfEach (λ x. test x ≡ true) xs → list_all test xs ≡ true
all_pass test [] h = refl
all_pass test (x ∷ xs) h = rw h.0 (all_pass test xs h.1)

passes_and : (test rest : Bool) → (test && rest) ≡ true → (test ≡ true) × (rest ≡ true)
passes_and true rest e = (refl, e)
passes_and false rest e = absurd (cc)

pub each_passes : {A : Type 0} (test : A → Bool) (xs : List A) → list_all test xs ≡ true → HoldsOfEach (λ x. test x ≡ true) xs
each_passes test [] all = tt
each_passes test (x ∷ xs) all = let told = passes_and (test x) (list_all test xs) all in (told.0, each_passes test xs told.1)

-- ---- names that differ

-- whatever equals a name is found, no later than the name
abbrev pub FindsBefore : {N : Type 0} → (same : N → N → Bool) → (first : N → Option ℕ) → (number : ℕ) → N → Type 0
FindsBefore {N} same first number name = (other : N) → same name other ≡ true → (found : ℕ) × (first other ≡ Some found) × (found ≤ number)

is_number_only : (number found : ℕ) → is_number number (Some found) ≡ true → found ≡ number
is_number_only number found e = grind (arith, nat_tests, e)

told_by : {N : Type 0} (first : N → Option ℕ) (number : ℕ) (names : List N) (t : Bool) → (if t then doubled_from first (suc number) names else Some number) ≡ None →
    (t ≡ true) × (doubled_from first (suc number) names ≡ None)
told_by first number names true e = (refl, e)
told_by first number names false e = absurd (cc)

pub number_told : {N : Type 0} (first : N → Option ℕ) (number : ℕ) (name : N) (names : List N) → doubled_from first number (name ∷ names) ≡ None →
    (is_number number (first name) ≡ true) × (doubled_from first (suc number) names ≡ None)
number_told first number name names e = told_by first number names (is_number number (first name)) e

found_itself : {N : Type 0} (first : N → Option ℕ) (number found behind : ℕ) (other : N) → first other ≡ Some found → is_number behind (first other) ≡ true → found ≤ number → number < behind → ⊥
found_itself first number found behind other e f at_most less =
    let same : found ≡ behind = is_number_only behind found (sym (ap (is_number behind) e) ∙ f) in omega arith

not_equal : {N : Type 0} (same : N → N → Bool) (first : N → Option ℕ) (number behind : ℕ) (name other : N) → FindsBefore same first number name → number < behind →
    is_number behind (first other) ≡ true → (t : Bool) → same name other ≡ t → same name other ≡ false
not_equal same first number behind name other before less e true f =
    let found = before other f in absurd (found_itself first number found.0 behind other found.1 e found.2 less)
not_equal same first number behind name other before less e false f = f

none_equal : {N : Type 0} (same : N → N → Bool) (first : N → Option ℕ) (number behind : ℕ) (name : N) (names : List N) → FindsBefore same first number name → number < behind →
    doubled_from first behind names ≡ None → list_any (same name) names ≡ false
none_equal same first number behind name [] before less e = refl
none_equal same first number behind name (other ∷ others) before less e =
    let told = number_told first behind other others e in
    ap (λ (b : Bool). b || list_any (same name) others) (not_equal same first number behind name other before less told.0 (same name other) refl)
    ∙ none_equal same first number (suc behind) name others before (omega arith) told.1

-- where each is found no later than itself, none is doubled
abbrev pub FindsAll : {N : Type 0} → (same : N → N → Bool) → (first : N → Option ℕ) → (number : ℕ) → List N → Type 0
FindsAll same first number [] = Unit {0}
FindsAll same first number (name ∷ names) = FindsBefore same first number name × FindsAll same first (suc number) names

pub distinct_where_none : {N : Type 0} (same : N → N → Bool) (first : N → Option ℕ) (number : ℕ) (names : List N) → FindsAll same first number names → doubled_from first number names ≡ None →
    AreDistinctBy same names
distinct_where_none same first number [] finds e = tt
distinct_where_none same first number (name ∷ names) finds e =
    let told = number_told first number name names e in
    (none_equal same first number (suc number) name names finds.0 (omega arith) told.1, distinct_where_none same first (suc number) names finds.1 told.1)

-- ---- the first of equal ones in a list

abbrev pub number_by : {N : Type 0} → (same : N → N → Bool) → ℕ → List N → N → Option ℕ
number_by same number [] name = None
number_by same number (other ∷ others) name = if same other name then Some number else number_by same (suc number) others name

found_or_later : {N : Type 0} (same : N → N → Bool) (number : ℕ) (others : List N) (name : N) (t : Bool) (bound : ℕ) →
    (t ≡ true → number ≤ bound) → (t ≡ false → (found : ℕ) × (number_by same (suc number) others name ≡ Some found) × (found ≤ bound)) →
    (found : ℕ) × ((if t then Some number else number_by same (suc number) others name) ≡ Some found) × (found ≤ bound)
found_or_later same number others name true bound h k = (number, refl, h refl)
found_or_later same number others name false bound h k = k refl

true_or_false : (t : Bool) → t ≡ true → t ≡ false → ⊥
true_or_false t e f = cc

finds_in : {N : Type 0} (same : N → N → Bool) (number : ℕ) (before : List N) (name : N) (others : List N) (other : N) → same name other ≡ true →
    (found : ℕ) × (number_by same number (before ++ name ∷ others) other ≡ Some found) × (found ≤ length before + number)
finds_in same number [] name others other e =
    let found = found_or_later same number others other (same name other) number (λ _. omega arith) (λ f. absurd (true_or_false (same name other) e f)) in (found.0, found.1, omega (arith, found.2))
finds_in same number (one ∷ ones) name others other e =
    found_or_later same number (ones ++ name ∷ others) other (same one other) (suc (length ones) + number) (λ _. omega arith)
    (λ _. let rest = finds_in same (suc number) ones name others other e in (rest.0, rest.1, omega (arith, rest.2)))

length_snoc : {N : Type 0} (before : List N) (name : N) → length (before ++ name ∷ []) ≡ suc (length before)
length_snoc [] name = refl
length_snoc (one ∷ ones) name = ap suc (length_snoc ones name)

finds_all : {N : Type 0} (same : N → N → Bool) (before names : List N) → FindsAll same (number_by same 0 (before ++ names)) (length before) names
finds_all same before [] = tt
finds_all same before (name ∷ names) =
    let whole = append_assoc before (name ∷ []) names in (
      (λ other e. let found = finds_in same 0 before name names other e in (found.0, found.1, omega (arith, found.2))),
      subst (λ (all : List _). FindsAll same (number_by same 0 all) (suc (length before)) names) whole
          (subst (λ (count : ℕ). FindsAll same (number_by same 0 ((before ++ name ∷ []) ++ names)) count names) (length_snoc before name) (finds_all same (before ++ name ∷ []) names)),
    )

pub distinct_by_numbers : {N : Type 0} (same : N → N → Bool) (names : List N) → doubled_from (number_by same 0 names) 0 names ≡ None → AreDistinctBy same names
distinct_by_numbers same names e = distinct_where_none same (number_by same 0 names) 0 names (finds_all same [] names) e
