-- What a set of positions reads: the lists of shapes that go on behind one of them to the end of a list of the type.
use Rattle.std.proofs.Common.{◌≡◌, ℕ, zero, suc, ◌+◌, ◌-◌, ◌<◌, ◌≤◌, Bool, true, false, ◌&&◌, List, [], ◌∷◌, ◌++◌, inl, inr, refl, sym, ◌∙◌, ap, subst, ◌↔◌, drop, get_or, length, map, arith, append_assoc, length-append}
use Rattle.std.specs.Bool.{IsTrue}
use Rattle.std.proofs.Math.ListN.{replicate}
use Rattle.std.proofs.Math.Seq.{drop-append_seam}
use Rattle.std.proofs.lemmas.Bool.{or_cases, and_from, and_parts}
use Rattle.std.proofs.lemmas.List.{append-nil, get_or-drop, drop-append-le, drop-replicate, length-replicate, map-append}
use Rattle.gx_types.specs.declared.item_type.ItemType.{ItemType}
use Rattle.gx_types.specs.declared.shape.Shape.{Shape}
use Rattle.gx_types.specs.SchemaSet.{SchemaSet}
use Rattle.gx_types.specs.Takes.{Takes}
use Rattle.gx_types.specs.Prime.{items_of}
use Rattle.gx_types.specs.TypeRules.{positions_of}
use Rattle.gx_types.specs.SequenceType.{SequenceType, never, nothing, item, both, either, optional, star, plus}
use Rattle.gx_include_positions.specs.Positions.{is_nullable, may_end, next_of, tests_of, both_set}
use Rattle.gx_include_positions.proofs.Marks.{Marks, marked_next, kept, flags_of, marks_from, end_is, next_is}
use Rattle.gx_include_positions.specs.Test.{is_taken, IsDecided}
use Rattle.gx_include_positions.specs.Step.{single, has_start, step_over, is_end}
use Rattle.gx_include_positions.proofs.MarksTake.{GoesOn, GoesOrBegins, or_left, or_right, nullable_takes, takes_nullable, ends_go_on, goes_on_ends, step_forward, step_back}

pair_is : {A B : Type 0} (p q : A × B) → p.0 ≡ q.0 → p.1 ≡ q.1 → p ≡ q
pair_is {A} {B} p q e f =
    let one : A → A × B = λ u. (u, p.1) in let other : B → A × B = λ v. (q.0, v) in ap one e ∙ ap other f

pub length_flags : (t : SequenceType) (m : Marks t) → length (flags_of t m) ≡ positions_of t
length_flags never m = refl
length_flags nothing m = refl
length_flags (item kind) m = refl
length_flags (both a b) m = omega (arith, length-append (flags_of a m.0) (flags_of b m.1), length_flags a m.0, length_flags b m.1)
length_flags (either a b) m = omega (arith, length-append (flags_of a m.0) (flags_of b m.1), length_flags a m.0, length_flags b m.1)
length_flags (optional a) m = length_flags a m
length_flags (star a) m = length_flags a m
length_flags (plus a) m = length_flags a m

pub length_tests : (t : SequenceType) (test : ItemType → Bool) → length (tests_of t test) ≡ positions_of t
length_tests never test = refl
length_tests nothing test = refl
length_tests (item kind) test = refl
length_tests (both a b) test = omega (arith, length-append (tests_of a test) (tests_of b test), length_tests a test, length_tests b test)
length_tests (either a b) test = omega (arith, length-append (tests_of a test) (tests_of b test), length_tests a test, length_tests b test)
length_tests (optional a) test = length_tests a test
length_tests (star a) test = length_tests a test
length_tests (plus a) test = length_tests a test

pub both_set_length : (xs ys : List Bool) (n : ℕ) → length xs ≡ n → length ys ≡ n → length (both_set xs ys) ≡ n
both_set_length [] ys n e f = e
both_set_length (x ∷ xs) [] n e f = absurd (omega arith)
both_set_length (x ∷ xs) (y ∷ ys) zero e f = absurd (omega arith)
both_set_length (x ∷ xs) (y ∷ ys) (suc n) e f = ap (λ m. suc m) (both_set_length xs ys n (omega arith) (omega arith))

pub next_length : (t : SequenceType) (set : List Bool) (begins : Bool) → length (next_of t begins set) ≡ positions_of t
next_length t set begins = ap (λ xs. length xs) (next_is t set begins) ∙ length_flags t (marked_next t begins (marks_from t set))

-- flags say the marks that they were made of
read_second : (a b : SequenceType) (m : Marks a) (n : Marks b) (rest : List Bool)
    → marks_from b (flags_of b n ++ rest) ≡ n → marks_from b (drop (positions_of a) ((flags_of a m ++ flags_of b n) ++ rest)) ≡ n
read_second a b m n rest e =
    ap (λ xs. marks_from b (drop (positions_of a) xs)) (append_assoc (flags_of a m) (flags_of b n) rest)
    ∙ ap (λ k. marks_from b (drop k (flags_of a m ++ (flags_of b n ++ rest)))) (sym (length_flags a m))
    ∙ ap (λ xs. marks_from b xs) (drop-append_seam (flags_of a m) (flags_of b n ++ rest))
    ∙ e

read_first : (a b : SequenceType) (m : Marks a) (n : Marks b) (rest : List Bool)
    → marks_from a (flags_of a m ++ (flags_of b n ++ rest)) ≡ m → marks_from a ((flags_of a m ++ flags_of b n) ++ rest) ≡ m
read_first a b m n rest e = ap (λ xs. marks_from a xs) (append_assoc (flags_of a m) (flags_of b n) rest) ∙ e

read_back : (t : SequenceType) (m : Marks t) (rest : List Bool) → marks_from t (flags_of t m ++ rest) ≡ m
read_back never m rest = refl
read_back nothing m rest = refl
read_back (item kind) m rest = refl
read_back (both a b) m rest =
    pair_is _ m (read_first a b m.0 m.1 rest (read_back a m.0 (flags_of b m.1 ++ rest))) (read_second a b m.0 m.1 rest (read_back b m.1 rest))
read_back (either a b) m rest =
    pair_is _ m (read_first a b m.0 m.1 rest (read_back a m.0 (flags_of b m.1 ++ rest))) (read_second a b m.0 m.1 rest (read_back b m.1 rest))
read_back (optional a) m rest = read_back a m rest
read_back (star a) m rest = read_back a m rest
read_back (plus a) m rest = read_back a m rest

pub flags_say : (t : SequenceType) (m : Marks t) → marks_from t (flags_of t m) ≡ m
flags_say t m = ap (λ xs. marks_from t xs) (sym (append-nil (flags_of t m))) ∙ read_back t m []

-- the flags that are kept
pub both_set_append : (xs ys us vs : List Bool) → length xs ≡ length us → both_set (xs ++ ys) (us ++ vs) ≡ both_set xs us ++ both_set ys vs
both_set_append [] ys [] vs e = refl
both_set_append (x ∷ xs) ys (u ∷ us) vs e = ap (λ zs. (x && u) ∷ zs) (both_set_append xs ys us vs (omega arith))
both_set_append [] ys (u ∷ us) vs e = absurd (omega arith)
both_set_append (x ∷ xs) ys [] vs e = absurd (omega arith)

kept_in_two : (a b : SequenceType) (m : Marks a) (n : Marks b) (test : ItemType → Bool)
    → flags_of a (kept a test m) ≡ both_set (flags_of a m) (tests_of a test) → flags_of b (kept b test n) ≡ both_set (flags_of b n) (tests_of b test)
    → flags_of a (kept a test m) ++ flags_of b (kept b test n) ≡ both_set (flags_of a m ++ flags_of b n) (tests_of a test ++ tests_of b test)
kept_in_two a b m n test e f =
    ap (λ xs. xs ++ flags_of b (kept b test n)) e ∙ ap (λ ys. both_set (flags_of a m) (tests_of a test) ++ ys) f
    ∙ sym (both_set_append (flags_of a m) (flags_of b n) (tests_of a test) (tests_of b test) (length_flags a m ∙ sym (length_tests a test)))

pub flags_kept : (t : SequenceType) (test : ItemType → Bool) (m : Marks t) → flags_of t (kept t test m) ≡ both_set (flags_of t m) (tests_of t test)
flags_kept never test m = refl
flags_kept nothing test m = refl
flags_kept (item kind) test m = refl
flags_kept (both a b) test m = kept_in_two a b m.0 m.1 test (flags_kept a test m.0) (flags_kept b test m.1)
flags_kept (either a b) test m = kept_in_two a b m.0 m.1 test (flags_kept a test m.0) (flags_kept b test m.1)
flags_kept (optional a) test m = flags_kept a test m
flags_kept (star a) test m = flags_kept a test m
flags_kept (plus a) test m = flags_kept a test m

-- the positions in a set
abbrev pub positions_in : (t : SequenceType) → List Bool → Marks t
positions_in t set = marks_from t (drop 1 set)

-- a set reads a list of shapes
abbrev pub Reads : SchemaSet → SequenceType → List Bool → List Shape → Type 0
Reads s t set shapes = GoesOrBegins s t (has_start set) (positions_in t set) shapes

step_is : (t : SequenceType) (test : ItemType → Bool) (set : List Bool) → positions_in t (step_over t test set) ≡ kept t test (marked_next t (has_start set) (positions_in t set))
step_is t test set =
    ap (λ xs. marks_from t (both_set xs (tests_of t test))) (next_is t (drop 1 set) (has_start set))
    ∙ ap (λ xs. marks_from t xs) (sym (flags_kept t test (marked_next t (has_start set) (positions_in t set))))
    ∙ flags_say t (kept t test (marked_next t (has_start set) (positions_in t set)))

pub reads_forward : (s : SchemaSet) (x : Shape) (t : SequenceType) (set : List Bool) (shapes : List Shape) → IsDecided s x t
    → Reads s t (step_over t (is_taken s x) set) shapes → Reads s t set (x ∷ shapes)
reads_forward s x t set shapes d (inl h) =
    step_forward s x t (has_start set) (positions_in t set) shapes d (subst (λ m. GoesOn s t m shapes) (step_is t (is_taken s x) set) h)
reads_forward s x t set shapes d (inr h) = let e = h.0 in absurd (cc)

pub reads_back : (s : SchemaSet) (x : Shape) (t : SequenceType) (set : List Bool) (shapes : List Shape) → IsDecided s x t
    → Reads s t set (x ∷ shapes) → Reads s t (step_over t (is_taken s x) set) shapes
reads_back s x t set shapes d h =
    inl (subst (λ m. GoesOn s t m shapes) (sym (step_is t (is_taken s x) set)) (step_back s x t (positions_in t set) d (has_start set) shapes h))

pub end_reads : (s : SchemaSet) (t : SequenceType) (set : List Bool) → is_end t set ≡ true → Reads s t set []
end_reads s t set h =
    elim (or_cases (has_start set && is_nullable t) (may_end t (drop 1 set)) h) [
      | inl k ↦ let p = and_parts (has_start set) (is_nullable t) k in inr (p.0, nullable_takes s t p.1)
      | inr k ↦ inl (ends_go_on s t (positions_in t set) (sym (end_is t (drop 1 set)) ∙ k))
    ]

pub reads_end : (s : SchemaSet) (t : SequenceType) (set : List Bool) → Reads s t set [] → is_end t set ≡ true
reads_end s t set (inl h) = or_right (has_start set && is_nullable t) (may_end t (drop 1 set)) (end_is t (drop 1 set) ∙ goes_on_ends s t (positions_in t set) h)
reads_end s t set (inr h) =
    or_left (has_start set && is_nullable t) (may_end t (drop 1 set)) (and_from (has_start set) (is_nullable t) h.0 (takes_nullable s t h.1))

-- one position alone

drop_single : (n i : ℕ) → drop n (single (n + i)) ≡ single i
drop_single n i =
    let long : n ≤ length (replicate (n + i) false) = omega (arith, length-replicate (n + i) false) in
    let same : (n + i) - n ≡ i = omega arith in
    drop-append-le n (replicate (n + i) false) (true ∷ []) long
    ∙ ap (λ xs. xs ++ true ∷ []) (drop-replicate n (n + i) false)
    ∙ ap (λ k. replicate k false ++ true ∷ []) same

pub single_has : (i j : ℕ) → get_or (single i) j false ≡ true → j ≡ i
single_has zero zero h = refl
single_has zero (suc j) h = absurd (cc)
single_has (suc i) zero h = absurd (cc)
single_has (suc i) (suc j) h = ap (λ n. suc n) (single_has i j h)

-- a marked position that a list goes on behind
abbrev MarkedAt : SchemaSet → (t : SequenceType) → List Bool → List Shape → Type 0
MarkedAt s t flags shapes = (i : ℕ) × (i < positions_of t) × (get_or flags i false ≡ true) × GoesOn s t (marks_from t (single i)) shapes

in_second : (s : SchemaSet) (a b : SequenceType) (flags : List Bool) (shapes : List Shape) (i : ℕ)
    → get_or (drop (positions_of a) flags) i false ≡ true → GoesOn s b (marks_from b (single i)) shapes
    → (get_or flags (positions_of a + i) false ≡ true) × GoesOn s b (marks_from b (drop (positions_of a) (single (positions_of a + i)))) shapes
in_second s a b flags shapes i h g =
    (sym (get_or-drop (positions_of a) flags i false) ∙ h, subst (λ xs. GoesOn s b (marks_from b xs) shapes) (sym (drop_single (positions_of a) i)) g)

one_mark : (s : SchemaSet) (t : SequenceType) (flags : List Bool) (shapes : List Shape) → GoesOn s t (marks_from t flags) shapes → MarkedAt s t flags shapes
one_mark s never flags shapes h = absurd h
one_mark s nothing flags shapes h = absurd h
one_mark s (item kind) flags shapes h = (0, omega arith, h.0, (refl, h.1))
one_mark s (both a b) flags shapes (inl h) =
    let q = one_mark s a flags h.0 h.3 in (q.0, omega (arith, q.1), q.2, inl (h.0, h.1, h.2, q.3, h.4))
one_mark s (both a b) flags shapes (inr h) =
    let q = one_mark s b (drop (positions_of a) flags) shapes h in
    let r = in_second s a b flags shapes q.0 q.2 q.3 in (positions_of a + q.0, omega (arith, q.1), r.0, inr r.1)
one_mark s (either a b) flags shapes (inl h) =
    let q = one_mark s a flags shapes h in (q.0, omega (arith, q.1), q.2, inl q.3)
one_mark s (either a b) flags shapes (inr h) =
    let q = one_mark s b (drop (positions_of a) flags) shapes h in
    let r = in_second s a b flags shapes q.0 q.2 q.3 in (positions_of a + q.0, omega (arith, q.1), r.0, inr r.1)
one_mark s (optional a) flags shapes h = one_mark s a flags shapes h
one_mark s (star a) flags shapes h = let q = one_mark s a flags h.0 h.3 in (q.0, q.1, q.2, (h.0, h.1, h.2, q.3, h.4))
one_mark s (plus a) flags shapes h = let q = one_mark s a flags h.0 h.3 in (q.0, q.1, q.2, (h.0, h.1, h.2, q.3, h.4))

-- all that is marked in one list is marked in another one
abbrev pub IsWithin : List Bool → List Bool → Type 0
IsWithin flags others = (j : ℕ) → get_or flags j false ≡ true → get_or others j false ≡ true

drop_within : (n : ℕ) (flags others : List Bool) → IsWithin flags others → IsWithin (drop n flags) (drop n others)
drop_within n flags others w j h = get_or-drop n others j false ∙ w (n + j) (sym (get_or-drop n flags j false) ∙ h)

more_marks : (s : SchemaSet) (t : SequenceType) (flags others : List Bool) → IsWithin flags others → (shapes : List Shape)
    → GoesOn s t (marks_from t flags) shapes → GoesOn s t (marks_from t others) shapes
more_marks s never flags others w shapes h = absurd h
more_marks s nothing flags others w shapes h = absurd h
more_marks s (item kind) flags others w shapes h = (w 0 h.0, h.1)
more_marks s (both a b) flags others w shapes (inl h) = inl (h.0, h.1, h.2, more_marks s a flags others w h.0 h.3, h.4)
more_marks s (both a b) flags others w shapes (inr h) =
    inr (more_marks s b (drop (positions_of a) flags) (drop (positions_of a) others) (drop_within (positions_of a) flags others w) shapes h)
more_marks s (either a b) flags others w shapes (inl h) = inl (more_marks s a flags others w shapes h)
more_marks s (either a b) flags others w shapes (inr h) =
    inr (more_marks s b (drop (positions_of a) flags) (drop (positions_of a) others) (drop_within (positions_of a) flags others w) shapes h)
more_marks s (optional a) flags others w shapes h = more_marks s a flags others w shapes h
more_marks s (star a) flags others w shapes h = (h.0, h.1, h.2, more_marks s a flags others w h.0 h.3, h.4)
more_marks s (plus a) flags others w shapes h = (h.0, h.1, h.2, more_marks s a flags others w h.0 h.3, h.4)

-- what a larger set reads
pub larger_reads : (s : SchemaSet) (t : SequenceType) (set others : List Bool) → IsWithin set others → (shapes : List Shape)
    → Reads s t set shapes → Reads s t others shapes
larger_reads s t set others w shapes (inl h) = inl (more_marks s t (drop 1 set) (drop 1 others) (drop_within 1 set others w) shapes h)
larger_reads s t set others w shapes (inr h) = inr (w 0 h.0, h.1)

pub single_within : (i : ℕ) (set : List Bool) → get_or set i false ≡ true → IsWithin (single i) set
single_within i set h j k = subst (λ n. get_or set n false ≡ true) (sym (single_has i j k)) h

behind_first : (set : List Bool) (i : ℕ) → get_or (drop 1 set) i false ≡ true → get_or set (suc i) false ≡ true
behind_first [] i h = h
behind_first (x ∷ xs) i h = h

-- a set reads what one of its members reads
pub member_reads : (s : SchemaSet) (t : SequenceType) (set : List Bool) (shapes : List Shape)
    → Reads s t set shapes → (place : ℕ) × (get_or set place false ≡ true) × Reads s t (single place) shapes
member_reads s t set shapes (inl h) =
    let q = one_mark s t (drop 1 set) shapes h in (suc q.0, behind_first set q.0 q.2, inl q.3)
member_reads s t set shapes (inr h) = (0, h.0, inr (refl, h.1))

-- the start alone reads what the type takes
pub start_reads : (s : SchemaSet) (t : SequenceType) (shapes : List Shape) → Takes s t shapes → Reads s t (single 0) shapes
start_reads s t shapes h = inr (refl, h)

pub reads_start : (s : SchemaSet) (t : SequenceType) (shapes : List Shape) → Reads s t (single 0) shapes → Takes s t shapes
reads_start s t shapes (inl h) = let q = one_mark s t [] shapes h in let e = q.2 in absurd (cc)
reads_start s t shapes (inr h) = h.1

-- a walk along a list

pub starts : (s : SchemaSet) (t : SequenceType) (set : List Bool) (list : List Shape) → set ≡ single 0 → Reads s t set list ↔ Takes s t list
starts s t set list e =
    (λ h. reads_start s t list (subst (λ xs. Reads s t xs list) e h), λ h. subst (λ xs. Reads s t xs list) (sym e) (start_reads s t list h))

pub goes_on : {Taken : Type 0} (s : SchemaSet) (t : SequenceType) (set next : List Bool) (list rest others : List Shape) (x : Shape)
    → rest ≡ x ∷ others → next ≡ step_over t (is_taken s x) set → IsDecided s x t → Reads s t set rest ↔ Taken → Reads s t next others ↔ Taken
goes_on s t set next list rest others x front e d w = (
  λ h. w.0 (subst (λ xs. Reads s t set xs) (sym front) (reads_forward s x t set others d (subst (λ xs. Reads s t xs others) e h))),
  λ h. subst (λ xs. Reads s t xs others) (sym e) (reads_back s x t set others d (subst (λ xs. Reads s t set xs) front (w.1 h))),
)

pub comes_to : {Taken : Type 0} (s : SchemaSet) (t : SequenceType) (set : List Bool) (rest : List Shape) (answer : Bool)
    → rest ≡ [] → answer ≡ is_end t set → Reads s t set rest ↔ Taken → IsTrue answer ↔ Taken
comes_to s t set rest answer none e w = (
  λ h. w.0 (subst (λ xs. Reads s t set xs) (sym none) (end_reads s t set (sym e ∙ h))),
  λ h. e ∙ reads_end s t set (subst (λ xs. Reads s t set xs) none (w.1 h)),
)

-- the tests of a type are those of its item types
pub tests_are : (t : SequenceType) (test : ItemType → Bool) → tests_of t test ≡ map test (items_of t)
tests_are never test = refl
tests_are nothing test = refl
tests_are (item kind) test = refl
tests_are (both a b) test = ap (λ xs. xs ++ tests_of b test) (tests_are a test) ∙ ap (λ ys. map test (items_of a) ++ ys) (tests_are b test) ∙ sym (map-append test (items_of a) (items_of b))
tests_are (either a b) test = ap (λ xs. xs ++ tests_of b test) (tests_are a test) ∙ ap (λ ys. map test (items_of a) ++ ys) (tests_are b test) ∙ sym (map-append test (items_of a) (items_of b))
tests_are (optional a) test = tests_are a test
tests_are (star a) test = tests_are a test
tests_are (plus a) test = tests_are a test
