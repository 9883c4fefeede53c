-- How a search from a declaration goes on.
use Rattle.std.proofs.Common.{◌≡◌, ◌≢◌, ℕ, zero, suc, ◌+◌, ◌≤◌, ◌<◌, Bool, true, false, ◌&&◌, ◌⊎◌, inl, inr, List, [], ◌∷◌, ◌++◌, length, Option, None, Some, slice_get, get_or, refl, sym, ◌∙◌, ap, subst, arith, length-append}
use Rattle.std.proofs.Math.ListN.{set, length-set, replicate}
use Rattle.std.specs.Global.{Global}
use Rattle.std.specs.List.{Contains}
use Rattle.std.specs.Prelude.{MatchOption, Vec, is_some}
use Rattle.std.proofs.lemmas.Bool.{cases_lt, cases_Bool, true≢false, lt-ltb, le-ltb}
use Rattle.std.proofs.lemmas.Bool.Decides.{eqb_tells}
use Rattle.std.proofs.lemmas.List.{get_or-set_same, get_or-set_other, get_or-replicate, length-replicate, get_or_past}
use Rattle.std.proofs.lemmas.List.Elements.{Contains-append_left, Contains-append_right, Contains-append_cases}
use Rattle.std.proofs.lemmas.Option.{slice_get_past, slice_get_within}
use Rattle.gx_references.specs.References.{numbers_named, named_by, ends, AreMeanings, AreEndless}
use Rattle.gx_references.specs.Circles.{RefersTo, directly, through, refers_within, is_circular_among}
use Rattle.gx_references.specs.Reach.{count_marked, IsAccountedFor, IsReach}
use Rattle.gx_references.specs.Search.{work}
use Rattle.gx_references.specs.Laws.{WaysBackAreShort}
use Rattle.gx_references.proofs.Tables.{unopened_work-set, empty_by_length}
use Rattle.gx_references.proofs.Passing.{first_member}
use Rattle.gx_references.proofs.CircleLemmas.{circle_has_no_end}
use Rattle.gx_references.proofs.Ways.{way_of_one, way_goes_on, way_at, way_by, way_refers}

-- ---- marks

-- a new mark is one more
count_marked-set : (marks : List Bool) (number : ℕ) → number < length marks → get_or marks number false ≡ false → count_marked (set marks number true) ≡ count_marked marks + 1
count_marked-set [] number within unmarked = absurd (omega arith)
count_marked-set (false ∷ marks) zero within unmarked = refl
count_marked-set (true ∷ marks) zero within unmarked = absurd (true≢false unmarked)
count_marked-set (false ∷ marks) (suc number) within unmarked = count_marked-set marks number (omega arith) unmarked
count_marked-set (true ∷ marks) (suc number) within unmarked = let e = count_marked-set marks number (omega arith) unmarked in omega arith

count_marked-le-length : (marks : List Bool) → count_marked marks ≤ length marks
count_marked-le-length [] = omega arith
count_marked-le-length (false ∷ marks) = omega (arith, count_marked-le-length marks)
count_marked-le-length (true ∷ marks) = omega (arith, count_marked-le-length marks)

-- there is room for one more
unmarked_room : (marks : List Bool) (number : ℕ) → number < length marks → get_or marks number false ≡ false → count_marked marks + 1 ≤ length marks
unmarked_room marks number within unmarked =
    let more = count_marked-set marks number within unmarked in
    let few = count_marked-le-length (set marks number true) in
    let same = length-set marks number true in
    omega arith

-- ---- members of lists that a search makes

only_member : (number other : ℕ) → Contains (number ∷ []) other → other ≡ number
only_member number other (zero, within, here) = sym here
only_member number other (suc k, within, here) = absurd (omega arith)

last_member : (rest : List ℕ) (number : ℕ) → Contains (rest ++ number ∷ []) number
last_member rest number = Contains-append_right rest (number ∷ []) number (first_member number [])

pub nothing_marked : (count number : ℕ) → get_or (replicate count false) number false ≡ false
nothing_marked count number = elim (cases_lt number count) [
  | inl within ↦ get_or-replicate count number false false within
  | inr outside ↦ let size = length-replicate count false in get_or_past (replicate count false) number false (omega arith)
]

declaration_or_none : {B : Type 0} (found : Option B) → (found ≡ None) ⊎ ((body : B) × (found ≡ Some body))
declaration_or_none None = inl refl
declaration_or_none (Some body) = inr (body, refl)

past_by_get : {B : Type 0} (bodies : List B) (number : ℕ) → slice_get bodies number ≡ None → length bodies ≤ number
past_by_get [] number none = omega arith
past_by_get (body ∷ bodies) zero none = absurd (cc)
past_by_get (body ∷ bodies) (suc number) none = omega (arith, past_by_get bodies number none)

-- ---- the steps

pub reach_begins : {B : Type 0} (references : B → List ℕ) (bodies : List B) (start : ℕ) (marks : List Bool) (pending : List ℕ) →
    length marks ≡ length bodies → ((number : ℕ) → get_or marks number false ≡ false) → pending ≡ named_by references bodies start → IsReach references bodies start marks pending
reach_begins references bodies start marks pending sized unmarked begun = record {
  sized = sized;
  unmarked = unmarked start;
  awaited = λ number here. way_by references bodies (suc zero) (count_marked marks + 1) start number (omega arith)
      (way_of_one references bodies zero start number (subst (λ (ns : List ℕ). Contains ns number) begun here));
  begun = λ number here. inr (inr (subst (λ (ns : List ℕ). Contains ns number) (sym begun) here));
  followed = λ from to marked here. absurd (true≢false (sym marked ∙ unmarked from));
}

-- the last pending number is that of no declaration, or of one that is marked
found_when_passed : (marks : List Bool) (rest : List ℕ) (number : ℕ) → (length marks ≤ number) ⊎ (get_or marks number false ≡ true) →
    (other : ℕ) → IsAccountedFor marks (rest ++ number ∷ []) other → IsAccountedFor marks rest other
found_when_passed marks rest number done other (inl outside) = inl outside
found_when_passed marks rest number done other (inr (inl marked)) = inr (inl marked)
found_when_passed marks rest number done other (inr (inr here)) = elim (Contains-append_cases rest (number ∷ []) other here) [
  | inl before ↦ inr (inr before)
  | inr last ↦ let same = only_member number other last in elim done [
    | inl outside ↦ inl (omega arith)
    | inr marked ↦ inr (inl (ap (λ (n : ℕ). get_or marks n false) same ∙ marked))
  ]
]

pub reach_passes : {B : Type 0} (references : B → List ℕ) (bodies : List B) (start : ℕ) (marks : List Bool) (rest : List ℕ) (number : ℕ) →
    (length marks ≤ number) ⊎ (get_or marks number false ≡ true) → IsReach references bodies start marks (rest ++ number ∷ []) → IsReach references bodies start marks rest
reach_passes references bodies start marks rest number done r = record {
  sized = r.sized;
  unmarked = r.unmarked;
  awaited = λ other here. r.awaited other (Contains-append_left rest (number ∷ []) other here);
  begun = λ other here. found_when_passed marks rest number done other (r.begun other here);
  followed = λ from to marked here. found_when_passed marks rest number done to (r.followed from to marked here);
}

-- the last pending number is marked, and what it names is pending
found_when_marked : (marks : List Bool) (rest named : List ℕ) (number : ℕ) → number < length marks →
    (other : ℕ) → IsAccountedFor marks (rest ++ number ∷ []) other → IsAccountedFor (set marks number true) (rest ++ named) other
found_when_marked marks rest named number within other (inl outside) = let same = length-set marks number true in inl (omega arith)
found_when_marked marks rest named number within other (inr (inl marked)) = elim (eqb_tells other number) [
  | inl (_, same) ↦ inr (inl (ap (λ (n : ℕ). get_or (set marks number true) n false) same ∙ get_or-set_same marks number true false within))
  | inr (_, different) ↦ inr (inl (get_or-set_other marks number other true false different ∙ marked))
]
found_when_marked marks rest named number within other (inr (inr here)) = elim (Contains-append_cases rest (number ∷ []) other here) [
  | inl before ↦ inr (inr (Contains-append_left rest named other before))
  | inr last ↦ inr (inl (ap (λ (n : ℕ). get_or (set marks number true) n false) (only_member number other last) ∙ get_or-set_same marks number true false within))
]

pub reach_follows : {B : Type 0} (references : B → List ℕ) (bodies : List B) (start : ℕ) (marks : List Bool) (rest : List ℕ) (number : ℕ) →
    number ≢ start → number < length marks → get_or marks number false ≡ false → IsReach references bodies start marks (rest ++ number ∷ []) →
    IsReach references bodies start (set marks number true) (rest ++ named_by references bodies number)
reach_follows references bodies start marks rest number different within unmarked r =
    let count : count_marked (set marks number true) ≡ count_marked marks + 1 = count_marked-set marks number within unmarked in
    let named = named_by references bodies number in
    let way = r.awaited number (last_member rest number) in
    let found = found_when_marked marks rest named number within in
    record {
      sized = length-set marks number true ∙ r.sized;
      unmarked = get_or-set_other marks number start true false (λ same. different (sym same)) ∙ r.unmarked;
      awaited = λ other here. elim (Contains-append_cases rest named other here) [
        | inl before ↦ way_by references bodies (count_marked marks + 1) (count_marked (set marks number true) + 1) start other (omega arith)
            (r.awaited other (Contains-append_left rest (number ∷ []) other before))
        | inr next ↦ way_at references bodies (suc (count_marked marks + 1)) (count_marked (set marks number true) + 1) start other (omega arith)
            (way_goes_on references bodies (count_marked marks + 1) start number other way next)
      ];
      begun = λ other here. found other (r.begun other here);
      followed = λ from to marked here. elim (eqb_tells from number) [
        | inl (_, same) ↦ inr (inr (Contains-append_right rest named to (subst (λ (n : ℕ). Contains (named_by references bodies n) to) same here)))
        | inr (_, other) ↦ found to (r.followed from to (sym (get_or-set_other marks number from true false other) ∙ marked) here)
      ];
    }

-- ---- the ends

-- the search comes back to its start
pub reach_comes_back : {B : Type 0} (references : B → List ℕ) (bodies : List B) (start : ℕ) (marks : List Bool) (rest : List ℕ) →
    start < length bodies → IsReach references bodies start marks (rest ++ start ∷ []) → refers_within references bodies (length bodies) start start ≡ true
reach_comes_back references bodies start marks rest within r =
    let room = unmarked_room marks start (omega (arith, r.sized)) r.unmarked in
    way_by references bodies (count_marked marks + 1) (length bodies) start start (omega (arith, room, r.sized)) (r.awaited start (last_member rest start))

-- a declaration is the start, or was reached, or is none
IsInside : (start : ℕ) → List Bool → ℕ → Type 0
IsInside start marks number = (number ≡ start) ⊎ (length marks ≤ number) ⊎ (get_or marks number false ≡ true)

nothing_contained : (number : ℕ) → Contains {X = ℕ} [] number → ⊥
nothing_contained number (k, within, here) = absurd (omega arith)

-- a step from there stays there, and does not come to the start
step_stays : {B : Type 0} (references : B → List ℕ) (bodies : List B) (start : ℕ) (marks : List Bool) → IsReach references bodies start marks [] →
    (from to : ℕ) → IsInside start marks from → Contains (named_by references bodies from) to → (length marks ≤ to) ⊎ (get_or marks to false ≡ true)
unfolding IsInside
step_stays references bodies start marks r from to (inl same) here = elim (r.begun to (subst (λ (n : ℕ). Contains (named_by references bodies n) to) same here)) [
  | inl outside ↦ inl outside
  | inr (inl marked) ↦ inr marked
  | inr (inr none) ↦ absurd (nothing_contained to none)
]
step_stays references bodies start marks r from to (inr (inl outside)) here =
    let past : slice_get bodies from ≡ None = slice_get_past bodies from (omega (arith, r.sized)) in
    let named : named_by references bodies from ≡ from ∷ [] = ap (λ (b : Option _). numbers_named references b from) past in
    let same = only_member from to (subst (λ (ns : List ℕ). Contains ns to) named here) in
    inl (omega arith)
step_stays references bodies start marks r from to (inr (inr marked)) here = elim (r.followed from to marked here) [
  | inl outside ↦ inl outside
  | inr (inl is_so) ↦ inr is_so
  | inr (inr none) ↦ absurd (nothing_contained to none)
]

way_stays : {B : Type 0} (references : B → List ℕ) (bodies : List B) (start : ℕ) (marks : List Bool) → IsReach references bodies start marks [] →
    (from to : ℕ) → IsInside start marks from → RefersTo references bodies from to → (length marks ≤ to) ⊎ (get_or marks to false ≡ true)
unfolding IsInside
way_stays references bodies start marks r from to inside (directly here) = step_stays references bodies start marks r from to inside here
way_stays references bodies start marks r from to inside (through {between = between} here way) =
    way_stays references bodies start marks r between to (inr (step_stays references bodies start marks r from between inside here)) way

pub reach_misses : {B : Type 0} (references : B → List ℕ) (bodies : List B) (start : ℕ) (marks : List Bool) →
    start < length bodies → IsReach references bodies start marks [] → RefersTo references bodies start start → ⊥
unfolding IsInside
reach_misses references bodies start marks within r circle = elim (way_stays references bodies start marks r start start (inl refl) circle) [
  | inl outside ↦ absurd (omega (arith, r.sized))
  | inr marked ↦ true≢false (sym marked ∙ r.unmarked)
]

-- the search ends without its start
pub reach_ends : {B : Type 0} (references : B → List ℕ) (bodies : List B) (start : ℕ) (marks : List Bool) →
    start < length bodies → IsReach references bodies start marks [] → refers_within references bodies (length bodies) start start ≡ false
reach_ends references bodies start marks within r = elim (cases_Bool (refers_within references bodies (length bodies) start start)) [
  | inr is_not ↦ is_not
  | inl is_so ↦ absurd (reach_misses references bodies start marks within r (way_refers references bodies (length bodies) start start is_so))
]

-- a declaration is circular where a way of no more steps than there are declarations leads back to it
pub circular_by_ways : {B : Type 0} (references : B → List ℕ) (bodies : List B) (number : ℕ) (found : Bool) → number < length bodies → refers_within references bodies (length bodies) number number ≡ found → is_circular_among references bodies number ≡ found
circular_by_ways references bodies number found within e = ap (λ (b : Bool). b && refers_within references bodies (length bodies) number number) (lt-ltb number (length bodies) within) ∙ e

-- where all references come to an end
ended_is_not_circular : {B : Type 0} (references : B → List ℕ) (bodies : List B) → ((number : ℕ) → number < length bodies → ends references bodies number ≡ true) → (number : ℕ) → is_circular_among references bodies number ≡ false
ended_is_not_circular references bodies ended number = elim (cases_lt number (length bodies)) [
  | inr outside ↦ ap (λ (b : Bool). b && refers_within references bodies (length bodies) number number) (le-ltb number (length bodies) outside)
  | inl within ↦ circular_by_ways references bodies number false within (elim (cases_Bool (refers_within references bodies (length bodies) number number)) [
    | inr is_not ↦ is_not
    | inl is_so ↦
        let circle = way_refers references bodies (length bodies) number number is_so in
        absurd (true≢false (sym (ended number within) ∙ circle_has_no_end references bodies (length bodies) number number circle circle))
  ])
]

pub none_is_circular : {B M : Type 0} (references : B → List ℕ) (meant : (ℕ → M) → B → M) (nothing : M) (bodies : List B) (found : Option (Vec (Option M) Global)) →
    MatchOption found (AreEndless references bodies) (λ table. AreMeanings references meant nothing bodies table.items) → is_some found ≡ true → (number : ℕ) → is_circular_among references bodies number ≡ false
none_is_circular references meant nothing bodies None endless e number = absurd (true≢false (sym e))
none_is_circular references meant nothing bodies (Some table) meanings e number = ended_is_not_circular references bodies meanings.ended number

-- ---- the search, without its code

-- what is pending is nothing, or there is a last one
nothing_or_last : (pending : List ℕ) → (pending ≡ []) ⊎ ((rest : List ℕ) × (number : ℕ) × (pending ≡ rest ++ number ∷ []))
nothing_or_last [] = inl refl
nothing_or_last (first ∷ others) = elim (nothing_or_last others) [
  | inl none ↦ inr ([], first, ap (λ (ns : List ℕ). first ∷ ns) none)
  | inr (rest, number, e) ↦ inr (first ∷ rest, number, ap (λ (ns : List ℕ). first ∷ ns) e)
]

-- a search comes back to its start, or ends without it
Decides : {B : Type 0} → (B → List ℕ) → List B → ℕ → Type 0
Decides references bodies start = (refers_within references bodies (length bodies) start start ≡ true) ⊎ ((marks : List Bool) × IsReach references bodies start marks [])

-- the last pending number is looked at, and the search goes on
search_steps : {B : Type 0} (references : B → List ℕ) (bodies : List B) (start : ℕ) → start < length bodies → (fuel : ℕ) →
    ((marks : List Bool) (pending : List ℕ) → work references bodies marks pending ≤ fuel → IsReach references bodies start marks pending → Decides references bodies start) →
    (marks : List Bool) (rest : List ℕ) (number : ℕ) → work references bodies marks (rest ++ number ∷ []) ≤ suc fuel → IsReach references bodies start marks (rest ++ number ∷ []) → Decides references bodies start
unfolding Decides
search_steps references bodies start within fuel goes_on marks rest number enough r =
    let size = length-append rest (number ∷ []) in
    let passes : ((length marks ≤ number) ⊎ (get_or marks number false ≡ true) → Decides references bodies start) =
    λ done. goes_on marks rest (omega arith) (reach_passes references bodies start marks rest number done r) in
    elim (eqb_tells number start) [
      | inl (_, same) ↦ inl (reach_comes_back references bodies start marks rest within (subst (λ (n : ℕ). IsReach references bodies start marks (rest ++ n ∷ [])) same r))
      | inr (_, different) ↦ elim (declaration_or_none (slice_get bodies number)) [
        | inl none ↦ passes (inl (omega (arith, past_by_get bodies number none, r.sized)))
        | inr (body, here) ↦ elim (cases_Bool (get_or marks number false)) [
          | inl marked ↦ passes (inr marked)
          | inr unmarked ↦
              let inside : number < length marks = omega (arith, slice_get_within bodies number body here, r.sized) in
              let done = unopened_work-set references bodies marks number body here inside unmarked in
              let named : named_by references bodies number ≡ references body = ap (λ (b : Option _). numbers_named references b number) here in
              let more = length-append rest (named_by references bodies number) in
              goes_on (set marks number true) (rest ++ named_by references bodies number) (omega (arith, ap length named))
              (reach_follows references bodies start marks rest number different inside unmarked r)
        ]
      ]
    ]

search_decides : {B : Type 0} (references : B → List ℕ) (bodies : List B) (start : ℕ) → start < length bodies → (fuel : ℕ) (marks : List Bool) (pending : List ℕ) →
    work references bodies marks pending ≤ fuel → IsReach references bodies start marks pending → Decides references bodies start
unfolding Decides
search_decides references bodies start within zero marks pending enough r =
    inr (marks, subst (λ (ns : List ℕ). IsReach references bodies start marks ns) (empty_by_length pending (omega arith)) r)
search_decides references bodies start within (suc fuel) marks pending enough r = elim (nothing_or_last pending) [
  | inl none ↦ inr (marks, subst (λ (ns : List ℕ). IsReach references bodies start marks ns) none r)
  | inr (rest, number, e) ↦ search_steps references bodies start within fuel (search_decides references bodies start within fuel) marks rest number
      (subst (λ (ns : List ℕ). work references bodies marks ns ≤ suc fuel) e enough) (subst (λ (ns : List ℕ). IsReach references bodies start marks ns) e r)
]

-- a way that leads back to a declaration need not be long
pub ways_back_are_short : {B : Type 0} (references : B → List ℕ) → WaysBackAreShort references
unfolding Decides
ways_back_are_short references bodies number within = (
  λ is_so. way_refers references bodies (length bodies) number number
      (sym (circular_by_ways references bodies number (refers_within references bodies (length bodies) number number) within refl) ∙ is_so),
  λ circle.
      let marks = replicate (length bodies) false in
      let begins = reach_begins references bodies number marks (named_by references bodies number) (length-replicate (length bodies) false) (nothing_marked (length bodies)) refl in
      elim (search_decides references bodies number within (work references bodies marks (named_by references bodies number)) marks (named_by references bodies number) (omega arith) begins) [
        | inl is_so ↦ circular_by_ways references bodies number true within is_so
        | inr (reached, r) ↦ absurd (reach_misses references bodies number reached within r circle)
      ],
)
