-- The rows of a type.
use Rattle.std.proofs.Common.{◌≡◌, ℕ, zero, suc, ◌+◌, ◌-◌, ◌<◌, ◌≤◌, Bool, true, false, ◌&&◌, ◌||◌, nat_eq, List, [], ◌∷◌, ◌++◌, map, drop, reverse, length, get_or, slice_get, Option, Some, None, refl, sym, ap, ◌∙◌, arith, inl, inr, ◌⊎◌, if◌then◌else◌}
use mathlib.Core.Bool.{beq}
use Rattle.std.specs.List.{list_any, flat_map}
use Rattle.std.proofs.lemmas.Bool.{cases_lt}
use Rattle.std.proofs.lemmas.List.{get_or_past, length-append, length-reverse, length-map, reverse-reverse, reverse-append, map-append}
use Rattle.std.proofs.lemmas.List.Folds.{list_any-append}
use Rattle.gx_types.specs.SequenceType.{SequenceType, never, nothing, item, both, either, optional, star, plus}
use Rattle.gx_types.specs.TypeRules.{positions_of}
use Rattle.gx_include_positions.specs.Positions.{is_nullable, may_end, next_of}
use Rattle.gx_include_positions.specs.Step.{has_start, all_next, is_end}
use Rattle.gx_include_positions.proofs.SetReads.{next_length}
use Rattle.gx_include_followers.specs.declared.followers.Outline.{Outline}
use Rattle.gx_include_followers.specs.declared.followers.Row.{Row}
use Rattle.gx_include_followers.specs.Behind.{firsts_from, behind_each, ends_of}
use Rattle.gx_include_followers.specs.NumberSet.{flagged_from, flagged}
use Rattle.gx_include_followers.specs.Rope.{numbers_of}
use Rattle.gx_include_followers.specs.Rows.{IsOutline, AreFollowers, behind_row, end_row, said_of}
use Rattle.gx_include_followers.proofs.BehindLemmas.{is_in, any_marked, marked_append, or_false, next_in, length_behind}
use Rattle.gx_include_followers.proofs.Booleans.{always, same_tests}
use Rattle.gx_include_followers.proofs.NumberSetLemmas.{flag_is, same_flags}

-- members and marks

drop_more : {X : Type 0} (k : ℕ) (xs : List X) (default : X) → k < length xs → drop k xs ≡ get_or xs k default ∷ drop (suc k) xs
drop_more k [] default h = absurd (omega arith)
drop_more zero (x ∷ xs) default h = refl
drop_more (suc k) (x ∷ xs) default h = drop_more k xs default (omega arith)

drop_none : {X : Type 0} (k : ℕ) (xs : List X) → length xs ≤ k → drop k xs ≡ []
drop_none zero [] h = refl
drop_none (suc k) [] h = refl
drop_none zero (x ∷ xs) h = absurd (omega arith)
drop_none (suc k) (x ∷ xs) h = drop_none k xs (omega arith)

module _ {X : Type 0} (test : X → Bool) (default : X) (differs : test default ≡ false) where
  -- what is said of the start or a position passes a test
  abbrev said : X → List X → ℕ → Bool
  said start rows n = test (said_of start (reverse rows) default n)

  none_marked : (m : Bool) (ms : List Bool) → ((m && false) || any_marked test ms []) ≡ false
  none_marked true [] = refl
  none_marked false [] = refl
  none_marked true (n ∷ ms) = refl
  none_marked false (n ∷ ms) = refl

  marked_here : (m : Bool) (ms : List Bool) (xs : List X) (k : ℕ) → any_marked test (m ∷ ms) (drop k xs) ≡ ((m && test (get_or xs k default)) || any_marked test ms (drop (suc k) xs))
  marked_here m ms xs k = by_place (cases k)
    where
      cases : (k : ℕ) → (k < length xs) ⊎ (length xs ≤ k)
      cases k = cases_lt k (length xs)

      by_place : (k < length xs) ⊎ (length xs ≤ k) → any_marked test (m ∷ ms) (drop k xs) ≡ ((m && test (get_or xs k default)) || any_marked test ms (drop (suc k) xs))
      by_place (inl l) = ap (any_marked test (m ∷ ms)) (drop_more k xs default l)
      by_place (inr l) =
          ap (any_marked test (m ∷ ms)) (drop_none k xs l)
          ∙ sym (ap (λ b. (m && b) || any_marked test ms (drop (suc k) xs)) (ap test (get_or_past xs k default l) ∙ differs) ∙ ap (λ (ys : List X). (m && false) || any_marked test ms ys) (drop_none (suc k) xs (omega arith)) ∙ none_marked m ms)

  members_marked : (start : X) (xs : List X) (flags : List Bool) (k : ℕ)
      → list_any (λ n. test (said_of start (reverse xs) default n)) (flagged_from (suc k) flags) ≡ any_marked test flags (drop k (reverse (reverse xs)))
  members_marked start xs [] k = refl
  members_marked start xs (true ∷ flags) k =
      ap (λ b. test (get_or (reverse (reverse xs)) k default) || b) (members_marked start xs flags (suc k)) ∙ sym (marked_here true flags (reverse (reverse xs)) k)
  members_marked start xs (false ∷ flags) k = members_marked start xs flags (suc k) ∙ sym (marked_here false flags (reverse (reverse xs)) k)

  -- of the members of flags, the first of which is that of the start
  pub said_marked : (start : X) (xs : List X) (flags : List Bool)
      → list_any (λ n. test (said_of start (reverse xs) default n)) (flagged flags) ≡ ((has_start flags && test start) || any_marked test (drop 1 flags) xs)
  said_marked start xs [] = none xs
    where
      none : (xs : List X) → false ≡ ((false && test start) || any_marked test [] xs)
      none [] = refl
      none (x ∷ xs) = refl
  said_marked start xs (true ∷ flags) = ap (λ b. test start || b) (members_marked start xs flags 0 ∙ ap (any_marked test flags) (reverse-reverse xs))
  said_marked start xs (false ∷ flags) = members_marked start xs flags 0 ∙ ap (any_marked test flags) (reverse-reverse xs)

pub any_flat : (q : ℕ) (f : ℕ → List ℕ) (ns : List ℕ) → is_in q (flat_map f ns) ≡ list_any (λ n. is_in q (f n)) ns
any_flat q f [] = refl
any_flat q f (n ∷ ns) = list_any-append (λ m. nat_eq m q) (f n) (flat_map f ns) ∙ ap (λ b. is_in q (f n) || b) (any_flat q f ns)

-- what is found from rows is what may come next

pub next_is : (t : SequenceType) (outline : Outline) (rows : List Row) (members : List ℕ) (numbers : List ℕ) (set next : List Bool) (count : ℕ) → AreFollowers t outline rows → members ≡ flagged set
    → numbers ≡ flat_map (said_of (numbers_of outline.firsts.value) (map behind_row rows) []) members → count ≡ length rows + 1 → length next ≡ count
    → ((n : ℕ) → n < count → get_or next n false ≡ is_in n numbers) → next ≡ all_next t set
next_is t outline rows members numbers set next count is m found c long flags =
    same_flags next (all_next t set) (omega (arith, long, c, rows_count, next_length t (drop 1 set) (has_start set))) (λ i l.
    flags i (omega (arith, long))
    ∙ ap (is_in i) (found ∙ ap (flat_map (said_of (numbers_of outline.firsts.value) (map behind_row rows) [])) m)
    ∙ any_flat i (said_of (numbers_of outline.firsts.value) (map behind_row rows) []) (flagged set)
    ∙ ap (λ (behind : List (List ℕ)). list_any (λ n. is_in i (said_of (numbers_of outline.firsts.value) behind [] n)) (flagged set)) is.behind
    ∙ said_marked (is_in i) [] refl (numbers_of outline.firsts.value) (behind_each 1 t []) set
    ∙ ap (λ (ns : List ℕ). (has_start set && is_in i ns) || any_marked (is_in i) (drop 1 set) (behind_each 1 t [])) (is.whole.firsts ∙ ap (λ n. firsts_from n t) first)
    ∙ sym (next_in i t 1 (has_start set) (drop 1 set))
    ∙ sym (flag_is 0 i (all_next t set) ∙ ap (λ n. is_in n (flagged_from 0 (all_next t set))) (let e : 0 + i ≡ i = omega arith in e)))
  where
    rows_count : length rows ≡ positions_of t
    rows_count = sym (length-map rows behind_row) ∙ ap length is.behind ∙ length-reverse (behind_each 1 t []) ∙ length_behind 1 t []

    first : outline.first ≡ 1
    first = let e = is.whole.first in omega arith

-- one row

get_mapped : {X : Type 0} (f : Row → X) (rows : List Row) (i : ℕ) (default : X) (row : Row) → slice_get rows i ≡ Some row → get_or (map f rows) i default ≡ f row
get_mapped f [] i default row e = absurd (cc)
get_mapped f (r ∷ rows) zero default row e = ap f (some_injective r row e)
  where
    some_injective : (one other : Row) → Some one ≡ Some other → one ≡ other
    some_injective one other e = cc
get_mapped f (r ∷ rows) (suc i) default row e = get_mapped f rows i default row e

get_unmapped : {X : Type 0} (f : Row → X) (rows : List Row) (i : ℕ) (default : X) → slice_get rows i ≡ None → get_or (map f rows) i default ≡ default
get_unmapped f [] i default e = refl
get_unmapped f (r ∷ rows) zero default e = absurd (cc)
get_unmapped f (r ∷ rows) (suc i) default e = get_unmapped f rows i default e

map_reverse : {X : Type 0} (f : Row → X) (rows : List Row) → map f (reverse rows) ≡ reverse (map f rows)
map_reverse f [] = refl
map_reverse f (r ∷ rows) =
    ap (map f) (reverse-append (r ∷ []) rows) ∙ map-append f (reverse rows) (r ∷ []) ∙ ap (λ xs. xs ++ f r ∷ []) (map_reverse f rows) ∙ sym (reverse-append (f r ∷ []) (map f rows))

at_position : {X : Type 0} (start : X) (f : Row → X) (rows : List Row) (default : X) (place : ℕ) → (place ≡ 0 → ⊥) → said_of start (map f rows) default place ≡ get_or (map f (reverse rows)) (place - 1) default
at_position start f rows default zero differs = absurd (differs refl)
at_position start f rows default (suc position) differs =
    let e : position ≡ suc position - 1 = omega arith in
    ap (λ (xs : List _). get_or xs position default) (sym (map_reverse f rows)) ∙ ap (λ n. get_or (map f (reverse rows)) n default) e

pub said_there : {X : Type 0} (start : X) (f : Row → X) (rows : List Row) (default : X) (place : ℕ) (row : Row) → (place ≡ 0 → ⊥) → slice_get (reverse rows) (place - 1) ≡ Some row
    → said_of start (map f rows) default place ≡ f row
said_there start f rows default place row differs e = at_position start f rows default place differs ∙ get_mapped f (reverse rows) (place - 1) default row e

pub said_not : {X : Type 0} (start : X) (f : Row → X) (rows : List Row) (default : X) (place : ℕ) → (place ≡ 0 → ⊥) → slice_get (reverse rows) (place - 1) ≡ None
    → said_of start (map f rows) default place ≡ default
said_not start f rows default place differs e = at_position start f rows default place differs ∙ get_unmapped f (reverse rows) (place - 1) default e

-- where a list may end

end_of_one : (marks : List Bool) (end : Bool) → any_marked (λ b. b) marks (end ∷ []) ≡ (get_or marks 0 false && end)
end_of_one [] end = refl
end_of_one (m ∷ ms) end = ap (λ b. (m && end) || b) (none ms) ∙ or_false (m && end)
  where
    none : (ms : List Bool) → any_marked (λ (b : Bool). b) ms [] ≡ false
    none [] = refl
    none (m ∷ ms) = refl

no_end : (marks : List Bool) → any_marked (λ (b : Bool). b) marks [] ≡ false
no_end [] = refl
no_end (m ∷ ms) = refl

end_in_two : (e f n k : Bool) → ((e && (k && n)) || (f && k)) ≡ (((e && n) || f) && k)
end_in_two e f n k = same_tests _ _ (always 4 (λ e f n k. beq ((e && (k && n)) || (f && k)) (((e && n) || f) && k)) refl e f n k)

end_in_choice : (e f k : Bool) → ((e && k) || (f && k)) ≡ ((e || f) && k)
end_in_choice e f k = same_tests _ _ (always 3 (λ e f k. beq ((e && k) || (f && k)) ((e || f) && k)) refl e f k)

length_ends : (t : SequenceType) (end : Bool) → length (ends_of t end) ≡ positions_of t
length_ends never end = refl
length_ends nothing end = refl
length_ends (item kind) end = refl
length_ends (both a b) end = omega (arith, length-append (ends_of a (end && is_nullable b)) (ends_of b end), length_ends a (end && is_nullable b), length_ends b end)
length_ends (either a b) end = omega (arith, length-append (ends_of a end) (ends_of b end), length_ends a end, length_ends b end)
length_ends (optional a) end = length_ends a end
length_ends (star a) end = length_ends a end
length_ends (plus a) end = length_ends a end

ends_of_two : (a b : SequenceType) (one other : Bool) (marks : List Bool)
    → any_marked (λ b. b) marks (ends_of a one ++ ends_of b other) ≡ (any_marked (λ b. b) marks (ends_of a one) || any_marked (λ b. b) (drop (positions_of a) marks) (ends_of b other))
ends_of_two a b one other marks =
    marked_append (λ b. b) marks (ends_of a one) (ends_of b other) ∙ ap (λ n. any_marked (λ b. b) marks (ends_of a one) || any_marked (λ b. b) (drop n marks) (ends_of b other)) (length_ends a one)

pub ends_are : (t : SequenceType) (end : Bool) (marks : List Bool) → any_marked (λ b. b) marks (ends_of t end) ≡ (may_end t marks && end)
ends_are never end marks = no_end marks
ends_are nothing end marks = no_end marks
ends_are (item kind) end marks = end_of_one marks end
ends_are (both a b) end marks =
    ends_of_two a b (end && is_nullable b) end marks
    ∙ ap (λ c. c || any_marked (λ b. b) (drop (positions_of a) marks) (ends_of b end)) (ends_are a (end && is_nullable b) marks)
    ∙ ap (λ c. (may_end a marks && (end && is_nullable b)) || c) (ends_are b end (drop (positions_of a) marks))
    ∙ end_in_two (may_end a marks) (may_end b (drop (positions_of a) marks)) (is_nullable b) end
ends_are (either a b) end marks =
    ends_of_two a b end end marks
    ∙ ap (λ c. c || any_marked (λ b. b) (drop (positions_of a) marks) (ends_of b end)) (ends_are a end marks)
    ∙ ap (λ c. (may_end a marks && end) || c) (ends_are b end (drop (positions_of a) marks))
    ∙ end_in_choice (may_end a marks) (may_end b (drop (positions_of a) marks)) end
ends_are (optional a) end marks = ends_are a end marks
ends_are (star a) end marks = ends_are a end marks
ends_are (plus a) end marks = ends_are a end marks

pub end_is : (t : SequenceType) (outline : Outline) (rows : List Row) (members : List ℕ) (set : List Bool) → AreFollowers t outline rows → members ≡ flagged set
    → list_any (said_of outline.nullable (map end_row rows) false) members ≡ is_end t set
end_is t outline rows members set is m =
    ap (list_any (said_of outline.nullable (map end_row rows) false)) m
    ∙ ap (λ (ends : List Bool). list_any (λ n. said_of outline.nullable ends false n) (flagged set)) is.ends
    ∙ said_marked (λ b. b) false refl outline.nullable (ends_of t true) set
    ∙ ap (λ b. (has_start set && b) || any_marked (λ b. b) (drop 1 set) (ends_of t true)) is.whole.nullable
    ∙ ap (λ b. (has_start set && is_nullable t) || b) (ends_are t true (drop 1 set) ∙ and_true (may_end t (drop 1 set)))
  where
    and_true : (b : Bool) → (b && true) ≡ b
    and_true true = refl
    and_true false = refl
