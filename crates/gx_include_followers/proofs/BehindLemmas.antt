-- What may come next behind a set is what may come next behind its members.
use Rattle.std.proofs.Common.{◌≡◌, ℕ, zero, suc, ◌+◌, ◌<◌, Bool, true, false, ◌&&◌, ◌||◌, nat_eq, List, [], ◌∷◌, ◌++◌, drop, length, get_or, refl, sym, ap, ◌∙◌, arith, if◌then◌else◌}
use Rattle.std.specs.List.{list_any, flat_map}
use Rattle.std.proofs.lemmas.List.{length-append}
use Rattle.std.proofs.lemmas.List.Folds.{list_any-append}
use Rattle.gx_types.specs.SequenceType.{SequenceType, never, nothing, item, both, either, optional, star, plus}
use Rattle.gx_types.specs.TypeRules.{positions_of}
use Rattle.gx_include_positions.specs.Positions.{is_nullable, may_end, next_of}
use Rattle.gx_include_positions.specs.Step.{has_start, all_next, is_end}
use Rattle.gx_include_positions.proofs.SetReads.{next_length}
use Rattle.gx_include_followers.specs.Behind.{firsts_from, behind_each, ends_of}
use Rattle.gx_include_followers.specs.NumberSet.{flagged_from, flagged}
use Rattle.gx_include_followers.proofs.Booleans.{always, same_tests}
use Rattle.gx_include_followers.proofs.NumberSetLemmas.{flag_is, same_flags}
use mathlib.Core.Bool.{beq}

-- a number is in a list
abbrev pub is_in : ℕ → List ℕ → Bool
is_in q ns = list_any (λ m. nat_eq m q) ns

-- a marked one passes a test
abbrev pub any_marked : {X : Type 0} → (X → Bool) → List Bool → List X → Bool
any_marked test [] xs = false
any_marked test (m ∷ ms) [] = false
any_marked test (m ∷ ms) (x ∷ xs) = (m && test x) || any_marked test ms xs

grouped : (a b c : Bool) → (a || (b || c)) ≡ ((a || b) || c)
grouped true b c = refl
grouped false b c = refl

pub or_false : (a : Bool) → (a || false) ≡ a
or_false true = refl
or_false false = refl

pub marked_append : {X : Type 0} (test : X → Bool) (ms : List Bool) (xs ys : List X) → any_marked test ms (xs ++ ys) ≡ (any_marked test ms xs || any_marked test (drop (length xs) ms) ys)
marked_append test [] [] ys = refl
marked_append test [] (x ∷ xs) ys = refl
marked_append test (m ∷ ms) [] ys = refl
marked_append test (m ∷ ms) (x ∷ xs) ys =
    ap (λ b. (m && test x) || b) (marked_append test ms xs ys) ∙ grouped (m && test x) (any_marked test ms xs) (any_marked test (drop (length xs) ms) ys)

members_append : (first : ℕ) (xs ys : List Bool) → flagged_from first (xs ++ ys) ≡ flagged_from first xs ++ flagged_from (first + length xs) ys
members_append first [] ys = ap (λ n. flagged_from n ys) (let e : first ≡ first + 0 = omega arith in e)
members_append first (true ∷ xs) ys =
    ap (λ ns. first ∷ ns) (members_append (suc first) xs ys ∙ ap (λ n. flagged_from (suc first) xs ++ flagged_from n ys) (let e : suc first + length xs ≡ first + suc (length xs) = omega arith in e))
members_append first (false ∷ xs) ys =
    members_append (suc first) xs ys ∙ ap (λ n. flagged_from (suc first) xs ++ flagged_from n ys) (let e : suc first + length xs ≡ first + suc (length xs) = omega arith in e)

in_next_two : (q first : ℕ) (a : SequenceType) (xs ys : List Bool) → length xs ≡ positions_of a
    → is_in q (flagged_from first (xs ++ ys)) ≡ (is_in q (flagged_from first xs) || is_in q (flagged_from (first + positions_of a) ys))
in_next_two q first a xs ys e =
    ap (is_in q) (members_append first xs ys) ∙ list_any-append (λ m. nat_eq m q) (flagged_from first xs) (flagged_from (first + length xs) ys)
    ∙ ap (λ n. is_in q (flagged_from first xs) || is_in q (flagged_from (first + n) ys)) e

pub length_behind : (first : ℕ) (t : SequenceType) (after : List ℕ) → length (behind_each first t after) ≡ positions_of t
length_behind first never after = refl
length_behind first nothing after = refl
length_behind first (item kind) after = refl
length_behind first (both a b) after =
    let one = firsts_from (first + positions_of a) b ++ (if is_nullable b then after else []) in
    omega (arith, length-append (behind_each first a one) (behind_each (first + positions_of a) b after), length_behind first a one, length_behind (first + positions_of a) b after)
length_behind first (either a b) after =
    omega (arith, length-append (behind_each first a after) (behind_each (first + positions_of a) b after), length_behind first a after, length_behind (first + positions_of a) b after)
length_behind first (optional a) after = length_behind first a after
length_behind first (star a) after = length_behind first a (firsts_from first a ++ after)
length_behind first (plus a) after = length_behind first a (firsts_from first a ++ after)

marked_two : (q first : ℕ) (a b : SequenceType) (marks : List Bool) (one other : List ℕ)
    → any_marked (is_in q) marks (behind_each first a one ++ behind_each (first + positions_of a) b other)
    ≡ (any_marked (is_in q) marks (behind_each first a one) || any_marked (is_in q) (drop (positions_of a) marks) (behind_each (first + positions_of a) b other))
marked_two q first a b marks one other =
    marked_append (is_in q) marks (behind_each first a one) (behind_each (first + positions_of a) b other)
    ∙ ap (λ n. any_marked (is_in q) marks (behind_each first a one) || any_marked (is_in q) (drop n marks) (behind_each (first + positions_of a) b other)) (length_behind first a one)

in_two : (q : ℕ) (ms ns : List ℕ) → is_in q (ms ++ ns) ≡ (is_in q ms || is_in q ns)
in_two q ms ns = list_any-append (λ m. nat_eq m q) ms ns

in_chosen : (q : ℕ) (b : Bool) (ns : List ℕ) → is_in q (if b then ns else []) ≡ (b && is_in q ns)
in_chosen q true ns = refl
in_chosen q false ns = refl

-- what may come behind the whole comes behind the positions at which it may end

more_in_two : (ma ea nb fb k mb eb : Bool) → ((ma || (ea && (fb || (nb && k)))) || (mb || (eb && k))) ≡ (((ma || (ea && (fb || (nb && false)))) || mb) || (((ea && nb) || eb) && k))
more_in_two ma ea nb fb k mb eb =
    same_tests _ _
    (always 7 (λ ma ea nb fb k mb eb. beq ((ma || (ea && (fb || (nb && k)))) || (mb || (eb && k))) (((ma || (ea && (fb || (nb && false)))) || mb) || (((ea && nb) || eb) && k))) refl ma ea nb fb k mb eb)

more_in_choice : (ma ea k mb eb : Bool) → ((ma || (ea && k)) || (mb || (eb && k))) ≡ ((ma || mb) || ((ea || eb) && k))
more_in_choice ma ea k mb eb =
    same_tests _ _ (always 5 (λ ma ea k mb eb. beq ((ma || (ea && k)) || (mb || (eb && k))) ((ma || mb) || ((ea || eb) && k))) refl ma ea k mb eb)

more_in_star : (m e f k : Bool) → (m || (e && (f || k))) ≡ ((m || (e && (f || false))) || (e && k))
more_in_star m e f k = same_tests _ _ (always 4 (λ m e f k. beq (m || (e && (f || k))) ((m || (e && (f || false))) || (e && k))) refl m e f k)

-- what is in the list of one position
marked_one : (q : ℕ) (marks : List Bool) (after : List ℕ) → any_marked (is_in q) marks (after ∷ []) ≡ (get_or marks 0 false && is_in q after)
marked_one q [] after = refl
marked_one q (m ∷ ms) after = ap (λ b. (m && is_in q after) || b) (none ms) ∙ or_false (m && is_in q after)
  where
    none : (ms : List Bool) → any_marked (is_in q) ms [] ≡ false
    none [] = refl
    none (m ∷ ms) = refl

no_more : (b k : Bool) → b ≡ (b || (false && k))
no_more true k = refl
no_more false k = refl

nothing_marked : (q : ℕ) (marks : List Bool) → any_marked (is_in q) marks [] ≡ false
nothing_marked q [] = refl
nothing_marked q (m ∷ ms) = refl

in_repetition : (q : ℕ) (a : SequenceType) (first : ℕ) (marks : List Bool) (after : List ℕ)
    → ((k : List ℕ) → any_marked (is_in q) marks (behind_each first a (firsts_from first a ++ k)) ≡ (any_marked (is_in q) marks (behind_each first a []) || (may_end a marks && is_in q (firsts_from first a ++ k))))
    → any_marked (is_in q) marks (behind_each first a (firsts_from first a ++ after)) ≡ (any_marked (is_in q) marks (behind_each first a (firsts_from first a ++ [])) || (may_end a marks && is_in q after))
in_repetition q a first marks after more =
    let m = any_marked (is_in q) marks (behind_each first a []) in
    let said = λ (k : List ℕ). more k ∙ ap (λ c. m || (may_end a marks && c)) (in_two q (firsts_from first a) k) in
    said after ∙ more_in_star m (may_end a marks) (is_in q (firsts_from first a)) (is_in q after) ∙ sym (ap (λ c. c || (may_end a marks && is_in q after)) (said []))

pub behind_more : (q : ℕ) (t : SequenceType) (first : ℕ) (marks : List Bool) (after : List ℕ)
    → any_marked (is_in q) marks (behind_each first t after) ≡ (any_marked (is_in q) marks (behind_each first t []) || (may_end t marks && is_in q after))
behind_more q never first marks after = no_more (any_marked (is_in q) marks []) (is_in q after)
behind_more q nothing first marks after = no_more (any_marked (is_in q) marks []) (is_in q after)
behind_more q (item kind) first marks after =
    marked_one q marks after ∙ sym (ap (λ b. b || (get_or marks 0 false && is_in q after)) (marked_one q marks [] ∙ and_false (get_or marks 0 false)))
  where
    and_false : (b : Bool) → (b && false) ≡ false
    and_false true = refl
    and_false false = refl
behind_more q (both a b) first marks after =
    let fb = firsts_from (first + positions_of a) b in
    let rest = drop (positions_of a) marks in
    let ma = any_marked (is_in q) marks (behind_each first a []) in
    let mb = any_marked (is_in q) rest (behind_each (first + positions_of a) b []) in
    let one = λ (k : List ℕ). behind_more q a first marks (fb ++ (if is_nullable b then k else [])) ∙ ap (λ c. ma || (may_end a marks && c)) (in_two q fb (if is_nullable b then k else []) ∙ ap (λ c. is_in q fb || c) (in_chosen q (is_nullable b) k)) in
    marked_two q first a b marks (fb ++ (if is_nullable b then after else [])) after
    ∙ ap (λ c. c || any_marked (is_in q) rest (behind_each (first + positions_of a) b after)) (one after)
    ∙ ap (λ c. (ma || (may_end a marks && (is_in q fb || (is_nullable b && is_in q after)))) || c) (behind_more q b (first + positions_of a) rest after)
    ∙ more_in_two ma (may_end a marks) (is_nullable b) (is_in q fb) (is_in q after) mb (may_end b rest)
    ∙ sym (ap (λ c. c || (((may_end a marks && is_nullable b) || may_end b rest) && is_in q after)) (marked_two q first a b marks (fb ++ (if is_nullable b then [] else [])) [] ∙ ap (λ c. c || mb) (one [])))
behind_more q (either a b) first marks after =
    let rest = drop (positions_of a) marks in
    marked_two q first a b marks after after
    ∙ ap (λ c. c || any_marked (is_in q) rest (behind_each (first + positions_of a) b after)) (behind_more q a first marks after)
    ∙ ap (λ c. (any_marked (is_in q) marks (behind_each first a []) || (may_end a marks && is_in q after)) || c) (behind_more q b (first + positions_of a) rest after)
    ∙ more_in_choice (any_marked (is_in q) marks (behind_each first a [])) (may_end a marks) (is_in q after) (any_marked (is_in q) rest (behind_each (first + positions_of a) b [])) (may_end b rest)
    ∙ sym (ap (λ c. c || ((may_end a marks || may_end b rest) && is_in q after)) (marked_two q first a b marks [] []))
behind_more q (optional a) first marks after = behind_more q a first marks after
behind_more q (star a) first marks after = in_repetition q a first marks after (λ k. behind_more q a first marks (firsts_from first a ++ k))
behind_more q (plus a) first marks after = in_repetition q a first marks after (λ k. behind_more q a first marks (firsts_from first a ++ k))

-- the positions that may come next

next_in_two : (b fa ma na ea fb mb : Bool)
    → (((b && fa) || ma) || ((((b && na) || ea) && fb) || mb)) ≡ ((b && (fa || (na && fb))) || ((ma || (ea && (fb || false))) || mb))
next_in_two b fa ma na ea fb mb =
    same_tests _ _
    (always 7 (λ b fa ma na ea fb mb. beq (((b && fa) || ma) || ((((b && na) || ea) && fb) || mb)) ((b && (fa || (na && fb))) || ((ma || (ea && (fb || false))) || mb))) refl b fa ma na ea fb mb)

next_in_choice : (b fa ma fb mb : Bool) → (((b && fa) || ma) || ((b && fb) || mb)) ≡ ((b && (fa || fb)) || (ma || mb))
next_in_choice b fa ma fb mb = same_tests _ _ (always 5 (λ b fa ma fb mb. beq (((b && fa) || ma) || ((b && fb) || mb)) ((b && (fa || fb)) || (ma || mb))) refl b fa ma fb mb)

next_in_star : (b e f m : Bool) → (((b || e) && f) || m) ≡ ((b && f) || (m || (e && (f || false))))
next_in_star b e f m = same_tests _ _ (always 4 (λ b e f m. beq (((b || e) && f) || m) ((b && f) || (m || (e && (f || false))))) refl b e f m)

next_of_one : (q first : ℕ) (begins : Bool) (marks : List Bool) → is_in q (flagged_from first (begins ∷ [])) ≡ ((begins && is_in q (first ∷ [])) || any_marked (is_in q) marks ([] ∷ []))
next_of_one q first true marks = sym (ap (λ b. is_in q (first ∷ []) || b) (marked_one q marks [] ∙ and_false (get_or marks 0 false)) ∙ or_false (is_in q (first ∷ [])))
  where
    and_false : (b : Bool) → (b && false) ≡ false
    and_false true = refl
    and_false false = refl
next_of_one q first false marks = sym (marked_one q marks [] ∙ and_false (get_or marks 0 false))
  where
    and_false : (b : Bool) → (b && false) ≡ false
    and_false true = refl
    and_false false = refl

nothing_next : (q : ℕ) (begins : Bool) (marks : List Bool) → false ≡ ((begins && false) || any_marked (is_in q) marks [])
nothing_next q true marks = sym (nothing_marked q marks)
nothing_next q false marks = sym (nothing_marked q marks)

repeated : (q : ℕ) (a : SequenceType) (first : ℕ) (begins : Bool) (marks : List Bool)
    → is_in q (flagged_from first (next_of a (begins || may_end a marks) marks)) ≡ (((begins || may_end a marks) && is_in q (firsts_from first a)) || any_marked (is_in q) marks (behind_each first a []))
    → is_in q (flagged_from first (next_of a (begins || may_end a marks) marks)) ≡ ((begins && is_in q (firsts_from first a)) || any_marked (is_in q) marks (behind_each first a (firsts_from first a ++ [])))
repeated q a first begins marks e =
    let fa = firsts_from first a in
    e ∙ next_in_star begins (may_end a marks) (is_in q fa) (any_marked (is_in q) marks (behind_each first a []))
    ∙ sym (ap (λ c. (begins && is_in q fa) || c) (behind_more q a first marks (fa ++ []) ∙ ap (λ c. any_marked (is_in q) marks (behind_each first a []) || (may_end a marks && c)) (in_two q fa [])))

pub next_in : (q : ℕ) (t : SequenceType) (first : ℕ) (begins : Bool) (marks : List Bool)
    → is_in q (flagged_from first (next_of t begins marks)) ≡ ((begins && is_in q (firsts_from first t)) || any_marked (is_in q) marks (behind_each first t []))
next_in q never first begins marks = nothing_next q begins marks
next_in q nothing first begins marks = nothing_next q begins marks
next_in q (item kind) first begins marks = next_of_one q first begins marks
next_in q (both a b) first begins marks =
    let second = first + positions_of a in
    let rest = drop (positions_of a) marks in
    let behind = (begins && is_nullable a) || may_end a marks in
    let fa = firsts_from first a in
    let fb = firsts_from second b in
    let ma = any_marked (is_in q) marks (behind_each first a []) in
    let mb = any_marked (is_in q) rest (behind_each second b []) in
    in_next_two q first a (next_of a begins marks) (next_of b behind rest) (next_length a marks begins)
    ∙ ap (λ c. c || is_in q (flagged_from second (next_of b behind rest))) (next_in q a first begins marks)
    ∙ ap (λ c. ((begins && is_in q fa) || ma) || c) (next_in q b second behind rest)
    ∙ next_in_two begins (is_in q fa) ma (is_nullable a) (may_end a marks) (is_in q fb) mb
    ∙ sym (
    ap (λ c. (begins && c) || any_marked (is_in q) marks (behind_each first (both a b) [])) (in_two q fa (if is_nullable a then fb else []) ∙ ap (λ c. is_in q fa || c) (in_chosen q (is_nullable a) fb))
    ∙ ap (λ c. (begins && (is_in q fa || (is_nullable a && is_in q fb))) || c)
    (marked_two q first a b marks (fb ++ (if is_nullable b then [] else [])) []
    ∙ ap (λ c. c || mb) (behind_more q a first marks (fb ++ (if is_nullable b then [] else []))
    ∙ ap (λ c. ma || (may_end a marks && c)) (in_two q fb (if is_nullable b then [] else []) ∙ ap (λ c. is_in q fb || c) (none_chosen q (is_nullable b))))))
  where
    none_chosen : (q : ℕ) (b : Bool) → is_in q (if b then [] else []) ≡ false
    none_chosen q true = refl
    none_chosen q false = refl
next_in q (either a b) first begins marks =
    let second = first + positions_of a in
    let rest = drop (positions_of a) marks in
    let fa = firsts_from first a in
    let fb = firsts_from second b in
    let ma = any_marked (is_in q) marks (behind_each first a []) in
    let mb = any_marked (is_in q) rest (behind_each second b []) in
    in_next_two q first a (next_of a begins marks) (next_of b begins rest) (next_length a marks begins)
    ∙ ap (λ c. c || is_in q (flagged_from second (next_of b begins rest))) (next_in q a first begins marks)
    ∙ ap (λ c. ((begins && is_in q fa) || ma) || c) (next_in q b second begins rest)
    ∙ next_in_choice begins (is_in q fa) ma (is_in q fb) mb
    ∙ sym (ap (λ c. (begins && c) || any_marked (is_in q) marks (behind_each first (either a b) [])) (in_two q fa fb) ∙ ap (λ c. (begins && (is_in q fa || is_in q fb)) || c) (marked_two q first a b marks [] []))
next_in q (optional a) first begins marks = next_in q a first begins marks
next_in q (star a) first begins marks = repeated q a first begins marks (next_in q a first (begins || may_end a marks) marks)
next_in q (plus a) first begins marks = repeated q a first begins marks (next_in q a first (begins || may_end a marks) marks)
