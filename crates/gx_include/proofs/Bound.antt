-- How many pairs are reached where the right type is deterministic.
use Rattle.std.proofs.Common.{◌≡◌, ℕ, zero, suc, ◌+◌, ◌*◌, ◌≤◌, Bool, true, false, ◌&&◌, ◌||◌, List, [], ◌∷◌, ◌++◌, map, ◌⊎◌, inl, inr, Some, refl, sym, ◌∙◌, ap, subst, get_or, length, length-append, drop, slice_get, arith}
use Rattle.std.specs.List.{flat_map}
use Rattle.std.proofs.Math.ListN.{replicate}
use Rattle.std.proofs.lemmas.Bool.{cases_lt}
use Rattle.std.proofs.lemmas.List.{get_or-drop}
use Rattle.gx_types.specs.SchemaSet.{SchemaSet}
use Rattle.gx_types.specs.SequenceType.{SequenceType, never, nothing, item, both, either, optional, star, plus}
use Rattle.gx_types.specs.TypeRules.{positions_of}
use Rattle.gx_include_letters.specs.declared.letter.Letter.{Letter}
use Rattle.gx_include_positions.specs.Positions.{is_nullable, may_end, next_of, tests_of, both_set}
use Rattle.gx_include_positions.specs.Step.{single, has_start, all_next, step_over}
use Rattle.gx_include_positions.specs.Test.{is_taken}
use Rattle.gx_include.specs.Pairs.{start_pair, pair_step}
use Rattle.gx_include.specs.Walk.{leads_to}
use Rattle.gx_include_letters.specs.Letters.{IsLetter, AreLetters}
use Rattle.gx_include_letters.specs.WellFormed.{IsWellFormedShape}
use Rattle.gx_include.specs.Verdict.{IsReached}
use Rattle.gx_include.specs.Laws.{IsDeterministic, FewPairsAreReached}
use Rattle.gx_include_positions.proofs.SetReads.{length_tests, single_has, both_set_length, next_length}
use Rattle.gx_include.proofs.PairRuns.{both_set_parts, gone_by, moved_parts}
use Rattle.gx_include_positions.proofs.Lists.{In, in_map, in_flat, set_within, got_in}
use Rattle.gx_include.proofs.Counts.{fits_in, different, in_place}
use Rattle.gx_include_letters.proofs.Alphabets.{are_letters}
use Rattle.gx_include_letters.proofs.FormedLetters.{letter_is}

-- flags that say the same

abbrev Agree : List Bool → List Bool → Type 0
Agree xs ys = (j : ℕ) → get_or xs j false ≡ get_or ys j false

drop_agrees : (n : ℕ) (xs ys : List Bool) → Agree xs ys → Agree (drop n xs) (drop n ys)
drop_agrees n xs ys f j = get_or-drop n xs j false ∙ f (n + j) ∙ sym (get_or-drop n ys j false)

end_agrees : (t : SequenceType) (xs ys : List Bool) → Agree xs ys → may_end t xs ≡ may_end t ys
end_agrees never xs ys f = refl
end_agrees nothing xs ys f = refl
end_agrees (item kind) xs ys f = f 0
end_agrees (both a b) xs ys f =
    ap (λ x. (x && is_nullable b) || may_end b (drop (positions_of a) xs)) (end_agrees a xs ys f)
    ∙ ap (λ x. (may_end a ys && is_nullable b) || x) (end_agrees b (drop (positions_of a) xs) (drop (positions_of a) ys) (drop_agrees (positions_of a) xs ys f))
end_agrees (either a b) xs ys f =
    ap (λ x. x || may_end b (drop (positions_of a) xs)) (end_agrees a xs ys f)
    ∙ ap (λ x. may_end a ys || x) (end_agrees b (drop (positions_of a) xs) (drop (positions_of a) ys) (drop_agrees (positions_of a) xs ys f))
end_agrees (optional a) xs ys f = end_agrees a xs ys f
end_agrees (star a) xs ys f = end_agrees a xs ys f
end_agrees (plus a) xs ys f = end_agrees a xs ys f

next_agrees : (t : SequenceType) (xs ys : List Bool) → Agree xs ys → (begins : Bool) → next_of t begins xs ≡ next_of t begins ys
next_agrees never xs ys f begins = refl
next_agrees nothing xs ys f begins = refl
next_agrees (item kind) xs ys f begins = refl
next_agrees (both a b) xs ys f begins =
    ap (λ x. next_of a begins xs ++ next_of b ((begins && is_nullable a) || x) (drop (positions_of a) xs)) (end_agrees a xs ys f)
    ∙ ap (λ zs. zs ++ next_of b ((begins && is_nullable a) || may_end a ys) (drop (positions_of a) xs)) (next_agrees a xs ys f begins)
    ∙ ap (λ zs. next_of a begins ys ++ zs) (next_agrees b (drop (positions_of a) xs) (drop (positions_of a) ys) (drop_agrees (positions_of a) xs ys f) ((begins && is_nullable a) || may_end a ys))
next_agrees (either a b) xs ys f begins =
    ap (λ zs. zs ++ next_of b begins (drop (positions_of a) xs)) (next_agrees a xs ys f begins)
    ∙ ap (λ zs. next_of a begins ys ++ zs) (next_agrees b (drop (positions_of a) xs) (drop (positions_of a) ys) (drop_agrees (positions_of a) xs ys f) begins)
next_agrees (optional a) xs ys f begins = next_agrees a xs ys f begins
next_agrees (star a) xs ys f begins = ap (λ x. next_of a (begins || x) xs) (end_agrees a xs ys f) ∙ next_agrees a xs ys f (begins || may_end a ys)
next_agrees (plus a) xs ys f begins = ap (λ x. next_of a (begins || x) xs) (end_agrees a xs ys f) ∙ next_agrees a xs ys f (begins || may_end a ys)

all_next_agrees : (t : SequenceType) (xs ys : List Bool) → Agree xs ys → all_next t xs ≡ all_next t ys
all_next_agrees t xs ys f =
    ap (λ x. false ∷ next_of t x (drop 1 xs)) (f 0) ∙ ap (λ zs. false ∷ zs) (next_agrees t (drop 1 xs) (drop 1 ys) (drop_agrees 1 xs ys f) (has_start ys))

-- from no position none follows

drop_none : (n : ℕ) → (let none : List Bool = [] in drop n none ≡ none)
drop_none zero = refl
drop_none (suc n) = refl

no_end : (t : SequenceType) → may_end t [] ≡ false
no_end never = refl
no_end nothing = refl
no_end (item kind) = refl
no_end (both a b) = ap (λ xs. (may_end a [] && is_nullable b) || may_end b xs) (drop_none (positions_of a)) ∙ ap (λ x. (x && is_nullable b) || may_end b []) (no_end a) ∙ no_end b
no_end (either a b) = ap (λ xs. may_end a [] || may_end b xs) (drop_none (positions_of a)) ∙ ap (λ x. x || may_end b []) (no_end a) ∙ no_end b
no_end (optional a) = no_end a
no_end (star a) = no_end a
no_end (plus a) = no_end a

append_none : (xs ys : List Bool) → Agree xs [] → Agree ys [] → Agree (xs ++ ys) []
append_none [] ys f g j = g j
append_none (x ∷ xs) ys f g zero = f zero
append_none (x ∷ xs) ys f g (suc j) = append_none xs ys (λ k. f (suc k) ∙ refl) g j

no_next : (t : SequenceType) → Agree (next_of t false []) []
no_next never j = refl
no_next nothing j = refl
no_next (item kind) zero = refl
no_next (item kind) (suc j) = refl
no_next (both a b) j =
    ap (λ xs. get_or (next_of a false [] ++ next_of b (may_end a []) xs) j false) (drop_none (positions_of a))
    ∙ ap (λ x. get_or (next_of a false [] ++ next_of b x []) j false) (no_end a)
    ∙ append_none (next_of a false []) (next_of b false []) (no_next a) (no_next b) j
no_next (either a b) j =
    ap (λ xs. get_or (next_of a false [] ++ next_of b false xs) j false) (drop_none (positions_of a)) ∙ append_none (next_of a false []) (next_of b false []) (no_next a) (no_next b) j
no_next (optional a) j = no_next a j
no_next (star a) j = ap (λ x. get_or (next_of a x []) j false) (no_end a) ∙ no_next a j
no_next (plus a) j = ap (λ x. get_or (next_of a x []) j false) (no_end a) ∙ no_next a j

nothing_follows : (t : SequenceType) (set : List Bool) → Agree set [] → (i : ℕ) → get_or (all_next t set) i false ≡ true → ⊥
nothing_follows t set f zero h = cc
nothing_follows t set f (suc i) h =
    let e = ap (λ xs. get_or xs (suc i) false) (all_next_agrees t set [] f) in let g = no_next t i in absurd (cc)

-- sets with one member at most

abbrev HasOneAtMost : List Bool → Type 0
HasOneAtMost set = (i j : ℕ) → get_or set i false ≡ true → get_or set j false ≡ true → i ≡ j

none_more : (xs : List Bool) → Agree xs [] → Agree (false ∷ xs) []
none_more xs f zero = refl
none_more xs f (suc j) = f j

has_member : (set : List Bool) → ((u : ℕ) × (get_or set u false ≡ true)) ⊎ Agree set []
has_member [] = inr (λ j. refl)
has_member (true ∷ xs) = inl (0, refl)
has_member (false ∷ xs) = elim (has_member xs) [ inl k ↦ inl (suc k.0, k.1) | inr k ↦ inr (none_more xs k) ]

single_set : (u : ℕ) → get_or (single u) u false ≡ true
single_set zero = refl
single_set (suc u) = single_set u

same_flags : (x y : Bool) → (x ≡ true → y ≡ true) → (y ≡ true → x ≡ true) → x ≡ y
same_flags true y f g = sym (f refl)
same_flags false true f g = g refl
same_flags false false f g = refl

is_single : (set : List Bool) (u : ℕ) → HasOneAtMost set → get_or set u false ≡ true → Agree set (single u)
is_single set u one h j =
    same_flags (get_or set j false) (get_or (single u) j false)
    (λ k. subst (λ n. get_or (single u) n false ≡ true) (one u j h k) (single_set u))
    (λ k. subst (λ n. get_or set n false ≡ true) (sym (single_has u j k)) h)

-- reached sets

one_more : (s : SchemaSet) (a b : SequenceType) → IsDeterministic s b → (set : List Bool) (l : Letter) → IsLetter s a b l → IsWellFormedShape s l.shape → HasOneAtMost set → HasOneAtMost (both_set (all_next b set) l.takers)
one_more s a b det set l is formed one i j h k =
    elim (has_member set) [
      | inl u ↦
          let same : both_set (all_next b set) l.takers ≡ step_over b (is_taken s l.shape) (single u.0) =
          ap (λ xs. both_set xs l.takers) (all_next_agrees b set (single u.0) (is_single set u.0 one u.1)) ∙ ap (λ ys. both_set (all_next b (single u.0)) ys) is.takers in
          det l.shape formed u.0 i j (subst (λ xs. get_or xs i false ≡ true) same h) (subst (λ xs. get_or xs j false ≡ true) same k)
      | inr none ↦ absurd (nothing_follows b set none i ((both_set_parts (all_next b set) l.takers i h).0))
    ]

start_one : HasOneAtMost (single 0)
start_one i j h k = single_has 0 i h ∙ sym (single_has 0 j k)

-- each letter has a well-formed shape
abbrev AreFormed : SchemaSet → List Letter → Type 0
AreFormed s letters = (number : ℕ) (letter : Letter) → slice_get letters number ≡ Some letter → IsWellFormedShape s letter.shape

reached_one : (s : SchemaSet) (a b : SequenceType) (letters : List Letter) → AreLetters s a b letters → AreFormed s letters → IsDeterministic s b → (run : List ℕ) (pair : ℕ × List Bool)
    → IsReached a b letters run pair → HasOneAtMost pair.1
reached_one s a b letters are formed det [] pair e = let is : start_pair ≡ pair = cc in subst (λ (p : ℕ × List Bool). HasOneAtMost p.1) is start_one
reached_one s a b letters are formed det (number ∷ run) pair e =
    let g = gone_by (pair_step a b letters) number (leads_to (pair_step a b letters) start_pair run) pair e in
    let m = moved_parts (all_next a (single g.0.0)) (all_next b g.0.1) (slice_get letters number) pair g.2 in
    subst (λ (p : ℕ × List Bool). HasOneAtMost p.1) m.3 (one_more s a b det g.0.1 m.0 (are number m.0 m.1) (formed number m.0 m.1) (reached_one s a b letters are formed det run g.0 g.1))

-- the sets of a length with one member at most

sets : ℕ → List (List Bool)
sets zero = [] ∷ []
sets (suc n) = (true ∷ replicate n false) ∷ map (λ xs. false ∷ xs) (sets n)

map_length : {X Y : Type 0} (f : X → Y) (xs : List X) → length (map f xs) ≡ length xs
map_length f [] = refl
map_length f (x ∷ xs) = ap (λ n. suc n) (map_length f xs)

sets_length : (n : ℕ) → length (sets n) ≡ n + 1
unfolding sets
sets_length zero = refl
sets_length (suc n) = omega (arith, map_length (λ xs. false ∷ xs) (sets n), sets_length n)

all_false : (xs : List Bool) → Agree xs [] → replicate (length xs) false ≡ xs
all_false [] f = refl
all_false (x ∷ xs) f = ap (λ ys. false ∷ ys) (all_false xs (λ j. f (suc j))) ∙ ap (λ y. y ∷ xs) (sym (f 0))

false_from : (x : Bool) → (x ≡ true → ⊥) → x ≡ false
false_from true h = absurd (h refl)
false_from false h = refl

zero_suc : (n : ℕ) → 0 ≡ suc n → ⊥
zero_suc n e = omega arith

in_sets : (xs : List Bool) → HasOneAtMost xs → In xs (sets (length xs))
unfolding sets
in_sets [] one = inl refl
in_sets (true ∷ xs) one = inl (ap (λ ys. true ∷ ys) (all_false xs (λ j. false_from (get_or xs j false) (λ h. zero_suc j (one 0 (suc j) refl h)))))
in_sets (false ∷ xs) one = inr (in_map (λ ys. false ∷ ys) xs (sets (length xs)) (in_sets xs (λ i j h k. let e = one (suc i) (suc j) h k in omega arith)))

-- the places of a type

places : ℕ → List ℕ
places zero = []
places (suc n) = suc n ∷ places n

places_length : (n : ℕ) → length (places n) ≡ n
unfolding places
places_length zero = refl
places_length (suc n) = ap (λ m. suc m) (places_length n)

or_last : (p n : ℕ) → p ≤ suc n → (p ≡ suc n) ⊎ (p ≤ n)
or_last p n h = elim (cases_lt p (suc n)) [ inl l ↦ inr (omega arith) | inr l ↦ inl (omega arith) ]

in_places : (n p : ℕ) → 1 ≤ p → p ≤ n → In p (places n)
unfolding places
in_places zero p h k = absurd (omega arith)
in_places (suc n) p h k = elim (or_last p n k) [ inl e ↦ inl (sym e) | inr l ↦ inr (in_places n p h l) ]

-- the pairs that there may be

pairs_at : ℕ → ℕ → List (ℕ × List Bool)
pairs_at n place = map (λ xs. let p : ℕ × List Bool = (place, false ∷ xs) in p) (sets n)

pairs_at_length : (n place : ℕ) → length (pairs_at n place) ≡ n + 1
unfolding pairs_at
pairs_at_length n place = map_length (λ xs. let p : ℕ × List Bool = (place, false ∷ xs) in p) (sets n) ∙ sets_length n

possible : (left right : ℕ) → List (ℕ × List Bool)
possible left right = start_pair ∷ flat_map (pairs_at right) (places left)

flat_length : {X Y : Type 0} (f : X → List Y) (k : ℕ) → ((x : X) → length (f x) ≡ k) → (xs : List X) → length (flat_map f xs) ≡ length xs * k
flat_length f k e [] = omega arith
flat_length f k e (x ∷ xs) = omega (arith, length-append (f x) (flat_map f xs), e x, flat_length f k e xs)

possible_length : (left right : ℕ) → length (possible left right) ≡ 1 + left * (right + 1)
unfolding possible
possible_length left right =
    let flat = flat_length (pairs_at right) (right + 1) (pairs_at_length right) (places left) in
    let few : length (places left) * (right + 1) ≡ left * (right + 1) = ap (λ n. n * (right + 1)) (places_length left) in
    omega (arith, flat, few)

in_possible : (left right place : ℕ) (xs : List Bool) → 1 ≤ place → place ≤ left → length xs ≡ right → HasOneAtMost xs
    → (let p : ℕ × List Bool = (place, false ∷ xs) in In p (possible left right))
unfolding possible pairs_at
in_possible left right place xs h k e one =
    let p : ℕ × List Bool = (place, false ∷ xs) in
    inr (in_flat (pairs_at right) place p (places left) (in_places left place h k)
    (in_map (λ ys. let q : ℕ × List Bool = (place, false ∷ ys) in q) xs (sets right) (subst (λ n. In xs (sets n)) e (in_sets xs one))))

-- the pairs that are reached are among them

tail_one : (xs : List Bool) → HasOneAtMost (false ∷ xs) → HasOneAtMost xs
tail_one xs one i j h k = let e = one (suc i) (suc j) h k in omega arith

place_bounds : (t : SequenceType) (set : List Bool) (place : ℕ) → get_or (all_next t set) place false ≡ true → (1 ≤ place) × (place ≤ positions_of t)
place_bounds t set zero h = absurd (cc)
place_bounds t set (suc place) h =
    let k = set_within (all_next t set) (suc place) h in let n = next_length t (drop 1 set) (has_start set) in (omega arith, omega (arith, k, n))

reached_possible : (s : SchemaSet) (a b : SequenceType) (letters : List Letter) → AreLetters s a b letters → AreFormed s letters → IsDeterministic s b → (run : List ℕ) (pair : ℕ × List Bool)
    → IsReached a b letters run pair → In pair (possible (positions_of a) (positions_of b))
unfolding possible
reached_possible s a b letters are formed det [] pair e = let is : start_pair ≡ pair = cc in inl is
reached_possible s a b letters are formed det (number ∷ run) pair e =
    let one = reached_one s a b letters are formed det (number ∷ run) pair e in
    let g = gone_by (pair_step a b letters) number (leads_to (pair_step a b letters) start_pair run) pair e in
    let m = moved_parts (all_next a (single g.0.0)) (all_next b g.0.1) (slice_get letters number) pair g.2 in
    let l = m.0 in
    let bounds = place_bounds a (single g.0.0) l.place m.2 in
    let rest = both_set (next_of b (has_start g.0.1) (drop 1 g.0.1)) (tests_of b (is_taken s l.shape)) in
    let made : ℕ × List Bool = (l.place, false ∷ rest) in
    let same : made ≡ pair = ap (λ ys. let p : ℕ × List Bool = (l.place, both_set (all_next b g.0.1) ys) in p) (sym (are number l m.1).takers) ∙ m.3 in
    let long = both_set_length (next_of b (has_start g.0.1) (drop 1 g.0.1)) (tests_of b (is_taken s l.shape)) (positions_of b) (next_length b (drop 1 g.0.1) (has_start g.0.1)) (length_tests b (is_taken s l.shape)) in
    subst (λ p. In p (possible (positions_of a) (positions_of b))) same
    (in_possible (positions_of a) (positions_of b) l.place rest bounds.0 bounds.1 long (tail_one rest (subst (λ (p : ℕ × List Bool). HasOneAtMost p.1) (sym same) one)))

pub few_pairs_are_reached : FewPairsAreReached
few_pairs_are_reached s a b letters g is det pairs distinct reached =
    subst (λ n. length pairs ≤ n) (possible_length (positions_of a) (positions_of b))
    (fits_in pairs (possible (positions_of a) (positions_of b)) (different pairs distinct)
    (λ p h.
    let i = in_place pairs p h in
    let r = reached i.0 p i.1 in
    reached_possible s a b letters (are_letters s a b g letters is) (λ number l e. letter_is s a b letters is l (got_in letters number l e)) det r.0 p r.1))
