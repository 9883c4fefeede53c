-- Columns of letters, by place.
use Rattle.std.proofs.Common.{◌≡◌, ℕ, zero, suc, ◌+◌, ◌<◌, ◌≤◌, Bool, true, false, nat_eq, append_assoc, List, [], ◌∷◌, ◌++◌, ◌⊎◌, map, inl, inr, Some, refl, sym, ◌∙◌, ap, subst, get_or, length, take, slice_get, add-one, length-append, arith, if◌then◌else◌}
use Rattle.std.specs.Prelude.{Vec, slice_set}
use Rattle.std.specs.List.{flat_map, list_any}
use Rattle.std.proofs.lemmas.Bool.{eqb-true, eq-eqb, false≢true, or_parts}
use Rattle.std.proofs.lemmas.Grind.{flat_map-append}
use Rattle.std.proofs.lemmas.List.{append-nil, get_or_default, length-set, take_all}
use Rattle.std.proofs.lemmas.Option.{slice_get_within, get_or_from_slice_get}
use Rattle.gx_base.specs.declared.name.Name.{Name}
use Rattle.gx_types.specs.declared.item_type.ItemType.{ItemType}
use Rattle.gx_types.specs.declared.shape.Shape.{Shape}
use Rattle.gx_types.specs.SchemaSet.{SchemaSet}
use Rattle.gx_types.specs.SequenceType.{SequenceType, never, nothing, item, both, either, optional, star, plus}
use Rattle.gx_types.specs.TypeRules.{positions_of}
use Rattle.gx_include_letters.specs.declared.letter.Letter.{Letter}
use Rattle.gx_include_letters.specs.WellFormed.{plain_types}
use Rattle.gx_types.specs.Prime.{items_of}
use Rattle.gx_include_letters.specs.ItemIndex.{tests_at}
use Rattle.gx_include_positions.specs.Step.{all_tests}
use Rattle.gx_include_positions.specs.Test.{is_taken}
use Rattle.gx_include_positions.specs.Names.{with_names}
use Rattle.gx_include_letters.specs.Trials.{IsOther, trial_shapes}
use Rattle.gx_include_letters.specs.Alphabet.{LetterEntry, entry_of_letter, entry_if, entry_only, entries_at, entries_below, entries_over, entries_up_to, entries_of_column, shapes_asked, AreColumns, AreColumnsMore, IsAlphabet}
use Rattle.gx_include_followers.specs.NumberSet.{flagged_from, flagged}
use Rattle.gx_include_letters.proofs.AskedShapes.{asked_enough}
use Rattle.gx_include_positions.proofs.Lists.{flat_step}
use Rattle.gx_include_positions.proofs.SetReads.{tests_are}

-- a member of a list
there : {X : Type 0} (xs : List X) (i : ℕ) → i < length xs → (x : X) × (slice_get xs i ≡ Some x)
there [] i h = absurd (omega arith)
there (x ∷ xs) zero h = (x, refl)
there (x ∷ xs) (suc i) h = there xs i (omega arith)

pub get_set_here : {X : Type 0} (xs : List X) (i : ℕ) (x : X) → i < length xs → slice_get (slice_set xs i x) i ≡ Some x
get_set_here [] i x h = absurd (omega arith)
get_set_here (y ∷ xs) zero x h = refl
get_set_here (y ∷ xs) (suc i) x h = get_set_here xs i x (omega arith)

pub get_set_other : {X : Type 0} (xs : List X) (i j : ℕ) (x : X) → (j ≡ i → ⊥) → slice_get (slice_set xs i x) j ≡ slice_get xs j
get_set_other [] i j x h = refl
get_set_other (y ∷ xs) zero zero x h = absurd (h refl)
get_set_other (y ∷ xs) zero (suc j) x h = refl
get_set_other (y ∷ xs) (suc i) zero x h = refl
get_set_other (y ∷ xs) (suc i) (suc j) x h = get_set_other xs i j x (λ e. h (ap (λ n. suc n) e))

at_push : {X : Type 0} (xs : List X) (y : X) (i : ℕ) (x : X) → slice_get (xs ++ y ∷ []) i ≡ Some x → (slice_get xs i ≡ Some x) ⊎ (y ≡ x)
at_push [] y zero x h = inr (cc)
at_push [] y (suc i) x h = absurd (cc)
at_push (z ∷ xs) y zero x h = inl h
at_push (z ∷ xs) y (suc i) x h = at_push xs y i x h

some_injective : {X : Type 0} (x y : X) → Some x ≡ Some y → x ≡ y
some_injective x y e = cc

not_equal : (m n : ℕ) → (m ≡ n → ⊥) → nat_eq m n ≡ false
not_equal m n apart = by_test (nat_eq m n) refl
  where
    by_test : (b : Bool) → nat_eq m n ≡ b → nat_eq m n ≡ false
    by_test true e = absurd (apart (eqb-true m n e))
    by_test false e = e

-- a test that no item type passes is passed at no place
not_passed : (test : ItemType → Bool) (kinds : List ItemType) (i : ℕ) → list_any test kinds ≡ false → get_or (map test kinds) i false ≡ false
not_passed test [] i h = refl
not_passed test (kind ∷ kinds) zero h = (or_parts (test kind) (list_any test kinds) h).0
not_passed test (kind ∷ kinds) (suc i) h = not_passed test kinds i (or_parts (test kind) (list_any test kinds) h).1

none_passes : (test : ItemType → Bool) (kinds : List ItemType) (i : ℕ) → list_any test kinds ≡ false → get_or (tests_at kinds test) i false ≡ false
none_passes test kinds zero h = refl
none_passes test kinds (suc i) h = not_passed test kinds i h

-- the item types of a type

pub length_items : (t : SequenceType) → length (items_of t) ≡ positions_of t
length_items never = refl
length_items nothing = refl
length_items (item kind) = refl
length_items (both a b) = omega (arith, length-append (items_of a) (items_of b), length_items a, length_items b)
length_items (either a b) = omega (arith, length-append (items_of a) (items_of b), length_items a, length_items b)
length_items (optional a) = length_items a
length_items (star a) = length_items a
length_items (plus a) = length_items a

over_is : (s : SchemaSet) (a b : SequenceType) (shapes : List Shape) (place : ℕ) → entries_over s (items_of a) (items_of b) shapes place ≡ entries_at s a b shapes place
over_is s a b [] place = refl
over_is s a b (x ∷ shapes) place =
    ap (λ es. es ++ entries_over s (items_of a) (items_of b) shapes place)
    (ap (λ ts. entry_if place x (false ∷ ts) (tests_at (items_of b) (is_taken s x))) (sym (tests_are a (is_taken s x)))
    ∙ ap (λ ts. entry_if place x (all_tests a (is_taken s x)) (false ∷ ts)) (sym (tests_are b (is_taken s x))))
    ∙ ap (λ es. entry_if place x (all_tests a (is_taken s x)) (all_tests b (is_taken s x)) ++ es) (over_is s a b shapes place)

module _ {A : Type 0} where
  -- one column has a letter more, and the others stayed
  pub one_more : (old after : List (Vec Letter A)) (entry : LetterEntry) (here column : Vec Letter A) → entry.0 < length old → slice_get old entry.0 ≡ Some here → after ≡ slice_set old entry.0 column
      → entries_of_column column ≡ entries_of_column here ++ entry ∷ [] → AreColumnsMore old after (entry_only entry)
  one_more old after entry here column within at e grown =
      subst (λ cs. AreColumnsMore old cs (entry_only entry)) (sym e) (record {
        count_is = length-set old entry.0 column;
        are = λ place before end was now. by_place place before end (nat_eq entry.0 place) refl was now;
      })
    where
      by_place : (place : ℕ) (before end : Vec Letter A) (b : Bool) → nat_eq entry.0 place ≡ b → slice_get old place ≡ Some before → slice_get (slice_set old entry.0 column) place ≡ Some end
          → entries_of_column end ≡ entries_of_column before ++ (if b then entry ∷ [] else [])
      by_place place before end true same was now =
          let here_is : entry.0 ≡ place = eqb-true entry.0 place same in
          let last_is : column ≡ end =
          some_injective column end (sym (get_set_here old entry.0 column within) ∙ ap (λ i. slice_get (slice_set old entry.0 column) i) here_is ∙ now) in
          let was_here : here ≡ before = some_injective here before (sym at ∙ ap (λ i. slice_get old i) here_is ∙ was) in
          ap entries_of_column (sym last_is) ∙ grown ∙ ap (λ (v : Vec Letter A). entries_of_column v ++ entry ∷ []) was_here
      by_place place before end false other was now =
          let apart : place ≡ entry.0 → ⊥ = λ f. false≢true (sym other ∙ eq-eqb entry.0 place (sym f)) in
          let stays : end ≡ before = some_injective end before (sym now ∙ get_set_other old entry.0 place column apart ∙ was) in
          ap entries_of_column stays ∙ sym (append-nil (entries_of_column before))

  pub same_columns : (columns : List (Vec Letter A)) (more : ℕ → List LetterEntry) → ((place : ℕ) → place < length columns → more place ≡ []) → AreColumnsMore columns columns more
  same_columns columns more none = record {
    count_is = refl;
    are = λ place before after was now.
        ap entries_of_column (some_injective after before (sym now ∙ was)) ∙ sym (append-nil (entries_of_column before))
        ∙ ap (λ es. entries_of_column before ++ es) (sym (none place (slice_get_within columns place before was)));
  }

  -- no column for an entry
  pub past_columns : (columns : List (Vec Letter A)) (entry : LetterEntry) → length columns ≤ entry.0 → AreColumnsMore columns columns (entry_only entry)
  past_columns columns entry past =
      same_columns columns (entry_only entry) (λ place within. by_test place within (nat_eq entry.0 place) refl)
    where
      by_test : (place : ℕ) → place < length columns → (b : Bool) → nat_eq entry.0 place ≡ b → (if b then entry ∷ [] else []) ≡ []
      by_test place within true same = let e = eqb-true entry.0 place same in absurd (omega arith)
      by_test place within false other = refl

  pub more_and_more : (old columns after : List (Vec Letter A)) (one other whole : ℕ → List LetterEntry) → ((place : ℕ) → whole place ≡ one place ++ other place) → AreColumnsMore old columns one
      → AreColumnsMore columns after other → AreColumnsMore old after whole
  more_and_more old columns after one other whole is first second = record {
    count_is = second.count_is ∙ first.count_is;
    are = λ place before end was now.
        let between = there columns place (let k = slice_get_within after place end now in omega (arith, second.count_is)) in
        second.are place between.0 end between.1 now ∙ ap (λ es. es ++ other place) (first.are place before between.0 was between.1)
        ∙ append_assoc (entries_of_column before) (one place) (other place) ∙ ap (λ es. entries_of_column before ++ es) (sym (is place));
  }

  pub more_alike : (old after : List (Vec Letter A)) (one other : ℕ → List LetterEntry) → ((place : ℕ) → one place ≡ other place) → AreColumnsMore old after one → AreColumnsMore old after other
  more_alike old after one other same more = record {
    count_is = more.count_is;
    are = λ place before end was now. more.are place before end was now ∙ ap (λ es. entries_of_column before ++ es) (same place);
  }

  -- a shape that no place takes has no letters
  pub none_more : (columns : List (Vec Letter A)) (shape : Shape) (test : ItemType → Bool) (kinds : List ItemType) (takers : List Bool) → list_any test kinds ≡ false
      → AreColumnsMore columns columns (λ place. entry_if place shape (tests_at kinds test) takers)
  none_more columns shape test kinds takers none = record {
    count_is = refl;
    are = λ place before after was now.
        ap entries_of_column (some_injective after before (sym now ∙ was)) ∙ sym (append-nil (entries_of_column before))
        ∙ ap (λ b. entries_of_column before ++ (if b then (place, shape, takers) ∷ [] else [])) (sym (none_passes test kinds place none));
  }

  -- one shape more
  pub columns_more : (s : SchemaSet) (left right : List ItemType) (shapes : List Shape) (count i : ℕ) (shape : Shape) (columns after : List (Vec Letter A)) → i < length shapes
      → shape ≡ get_or shapes i shape → AreColumns count (entries_over s left right (take i shapes)) columns
      → AreColumnsMore columns after (λ place. entry_if place shape (tests_at left (is_taken s shape)) (tests_at right (is_taken s shape)))
      → AreColumns count (entries_over s left right (take (i + 1) shapes)) after
  columns_more s left right shapes count i shape columns after within is old more = record {
    count_is = more.count_is ∙ old.count_is;
    are = λ place column at.
        let was = there columns place (let k = slice_get_within after place column at in omega (arith, more.count_is)) in
        more.are place was.0 column was.1 at
        ∙ ap (λ es. es ++ entry_if place shape (tests_at left (is_taken s shape)) (tests_at right (is_taken s shape))) (old.are place was.0 was.1)
        ∙ flat_step (λ x. entry_if place x (tests_at left (is_taken s x)) (tests_at right (is_taken s x))) shapes i shape within is []
        (entries_over s left right (take i shapes) place) (entries_over s left right (take i shapes) place ++ entry_if place shape (tests_at left (is_taken s shape)) (tests_at right (is_taken s shape)))
        refl refl;
  }

  pub columns_end : (s : SchemaSet) (left right : List ItemType) (shapes : List Shape) (count i : ℕ) (columns : List (Vec Letter A)) → length shapes ≤ i
      → AreColumns count (entries_over s left right (take i shapes)) columns → AreColumns count (entries_over s left right shapes) columns
  columns_end s left right shapes count i columns past is = subst (λ xs. AreColumns count (entries_over s left right xs) columns) (take_all i shapes past) is

  pub columns_begin : (s : SchemaSet) (left right : List ItemType) (count : ℕ) (columns : List (Vec Letter A)) → AreColumns count (λ place. []) columns
      → AreColumns count (entries_over s left right []) columns
  columns_begin s left right count columns is = record { count_is = is.count_is; are = is.are }

  -- an empty column more
  pub empty_more : (count : ℕ) (columns after : List (Vec Letter A)) (column : Vec Letter A) → column.items ≡ [] → after ≡ columns ++ column ∷ []
      → AreColumns count (λ place. []) columns → AreColumns (count + 1) (λ place. []) after
  empty_more count columns after column none e is =
      subst (λ cs. AreColumns (count + 1) (λ place. []) cs) (sym e) (record {
        count_is = length-append columns (column ∷ []) ∙ omega (arith, is.count_is);
        are = λ place other at. elim (at_push columns column place other at) [
          | inl h ↦ is.are place other h
          | inr f ↦ ap entries_of_column (sym f) ∙ ap (λ ls. map entry_of_letter ls) none
        ];
      })

  pub one_empty : (after : List (Vec Letter A)) (column : Vec Letter A) → column.items ≡ [] → after ≡ [] ++ column ∷ [] → AreColumns 1 (λ place. []) after
  one_empty after column none e = empty_more 0 [] after column none e (record { count_is = refl; are = λ place other h. absurd (cc) })

  -- the columns one behind another

  pub column_behind : (letters after : List Letter) (columns : List (Vec Letter A)) (column : Vec Letter A) → map entry_of_letter letters ≡ flat_map entries_of_column columns
      → map entry_of_letter after ≡ map entry_of_letter letters ++ entries_of_column column → map entry_of_letter after ≡ flat_map entries_of_column (columns ++ column ∷ [])
  column_behind letters after columns column e f =
      f ∙ ap (λ es. es ++ entries_of_column column) e ∙ ap (λ es. flat_map entries_of_column columns ++ es) (sym (append-nil (entries_of_column column)))
      ∙ sym (flat_map-append entries_of_column columns (column ∷ []))

  pub below_are : (entries : ℕ → List LetterEntry) (count : ℕ) (columns : List (Vec Letter A)) → AreColumns count entries columns → (k : ℕ) → k ≤ length columns
      → flat_map entries_of_column (take k columns) ≡ entries_up_to entries k
  below_are entries count columns is zero h = refl
  below_are entries count columns is (suc k) h =
      let q = there columns k (omega arith) in
      ap (λ n. flat_map entries_of_column (take n columns)) (sym (add-one k))
      ∙ sym (flat_step entries_of_column columns k q.0 (omega arith) (sym (get_or_from_slice_get columns k q.0 q.0 q.1)) [] (flat_map entries_of_column (take k columns))
      (flat_map entries_of_column (take k columns) ++ entries_of_column q.0) refl refl)
      ∙ ap (λ es. es ++ entries_of_column q.0) (below_are entries count columns is k (omega arith))
      ∙ ap (λ es. entries_up_to entries k ++ es) (is.are k q.0 q.1)

  -- the letters are those of the columns
  pub letters_are : (entries : ℕ → List LetterEntry) (count : ℕ) (letters : List Letter) (columns : List (Vec Letter A)) → AreColumns count entries columns
      → map entry_of_letter letters ≡ flat_map entries_of_column columns → map entry_of_letter letters ≡ entries_up_to entries count
  letters_are entries count letters columns is e =
      e ∙ ap (λ cs. flat_map entries_of_column cs) (sym (take_all count columns (omega (arith, is.count_is)))) ∙ below_are entries count columns is count (omega (arith, is.count_is))

-- the answer of the program

below_is : (s : SchemaSet) (a b : SequenceType) (names : List Name) (k : ℕ)
    → entries_up_to (entries_over s (items_of a) (items_of b) (shapes_asked s (items_of a) names)) k ≡ entries_below s a b (trial_shapes (plain_types s) names) k
below_is s a b names zero = refl
below_is s a b names (suc k) =
    ap (λ es. es ++ entries_over s (items_of a) (items_of b) (shapes_asked s (items_of a) names) k) (below_is s a b names k)
    ∙ ap (λ es. entries_below s a b (trial_shapes (plain_types s) names) k ++ es)
    (asked_enough s (items_of a) (items_of b) names k ∙ over_is s a b (trial_shapes (plain_types s) names) k)

pub alphabet_is : (s : SchemaSet) (a b : SequenceType) (letters : List Letter) (left right : List ItemType) (other : Name) → IsOther (with_names (with_names [] a) b) other → left ≡ items_of a → right ≡ items_of b
    → map entry_of_letter letters ≡ entries_up_to (entries_over s left right (shapes_asked s left (with_names (with_names [] a) b ++ other ∷ []))) (length left + 1) → IsAlphabet s a b letters
alphabet_is s a b letters left right other fresh f g is = record {
  other = other;
  fresh = fresh;
  are =
      let names = with_names (with_names [] a) b ++ other ∷ [] in
      is ∙ ap (λ ks. entries_up_to (entries_over s ks right (shapes_asked s ks names)) (length ks + 1)) f
      ∙ ap (λ ks. entries_up_to (entries_over s (items_of a) ks (shapes_asked s (items_of a) names)) (length (items_of a) + 1)) g
      ∙ ap (λ n. entries_up_to (entries_over s (items_of a) (items_of b) (shapes_asked s (items_of a) names)) (n + 1)) (length_items a)
      ∙ below_is s a b names (positions_of a + 1);
}

-- the entries of the members of a set

abbrev pub entries_of_members : Shape → List Bool → List ℕ → ℕ → List LetterEntry
entries_of_members shape takers members place = flat_map (λ m. entry_only (m, shape, takers) place) members

none_of_members : (shape : Shape) (takers flags : List Bool) (first place : ℕ) → place < first → entries_of_members shape takers (flagged_from first flags) place ≡ []
none_of_members shape takers [] first place h = refl
none_of_members shape takers (true ∷ flags) first place h =
    ap (λ b. (if b then (first, shape, takers) ∷ [] else []) ++ entries_of_members shape takers (flagged_from (suc first) flags) place) (not_equal first place (λ e. omega arith))
    ∙ none_of_members shape takers flags (suc first) place (omega arith)
none_of_members shape takers (false ∷ flags) first place h = none_of_members shape takers flags (suc first) place (omega arith)

entries_from : (shape : Shape) (takers flags : List Bool) (first i : ℕ)
    → entries_of_members shape takers (flagged_from first flags) (first + i) ≡ (if get_or flags i false then (first + i, shape, takers) ∷ [] else [])
entries_from shape takers [] first i = refl
entries_from shape takers (true ∷ flags) first zero =
    let e : first ≡ first + 0 = omega arith in
    ap (λ b. (if b then (first, shape, takers) ∷ [] else []) ++ entries_of_members shape takers (flagged_from (suc first) flags) (first + 0)) (eq-eqb first (first + 0) e)
    ∙ ap (λ es. (first, shape, takers) ∷ es) (none_of_members shape takers flags (suc first) (first + 0) (omega arith))
    ∙ ap (λ n. let entry : LetterEntry = (n, shape, takers) in entry ∷ []) e
entries_from shape takers (false ∷ flags) first zero = none_of_members shape takers flags (suc first) (first + 0) (omega arith)
entries_from shape takers (true ∷ flags) first (suc i) =
    let e : suc first + i ≡ first + suc i = omega arith in
    ap (λ b. (if b then (first, shape, takers) ∷ [] else []) ++ entries_of_members shape takers (flagged_from (suc first) flags) (first + suc i)) (not_equal first (first + suc i) (λ f. omega arith))
    ∙ ap (entries_of_members shape takers (flagged_from (suc first) flags)) (sym e) ∙ entries_from shape takers flags (suc first) i
    ∙ ap (λ n. if get_or flags i false then (n, shape, takers) ∷ [] else []) e
entries_from shape takers (false ∷ flags) first (suc i) =
    let e : suc first + i ≡ first + suc i = omega arith in
    ap (entries_of_members shape takers (flagged_from (suc first) flags)) (sym e) ∙ entries_from shape takers flags (suc first) i
    ∙ ap (λ n. if get_or flags i false then (n, shape, takers) ∷ [] else []) e

pub entries_are : (shape : Shape) (taking takers : List Bool) (place : ℕ) → entries_of_members shape takers (flagged taking) place ≡ entry_if place shape taking takers
entries_are shape taking takers place =
    let e : 0 + place ≡ place = omega arith in
    ap (entries_of_members shape takers (flagged taking)) (sym e) ∙ entries_from shape takers taking 0 place ∙ ap (λ n. if get_or taking place false then (n, shape, takers) ∷ [] else []) e

pub letters_more : {A : Type 0} (shape : Shape) (taking takers : List Bool) (members : List ℕ) (i place : ℕ) (old columns after : List (Vec Letter A)) → members ≡ flagged taking → i < length members
    → place ≡ get_or members i 0 → AreColumnsMore old columns (entries_of_members shape takers (take i (flagged taking))) → AreColumnsMore columns after (entry_only (place, shape, takers))
    → AreColumnsMore old after (entries_of_members shape takers (take (i + 1) (flagged taking)))
letters_more shape taking takers members i place old columns after e within is first second =
    subst (λ ms. AreColumnsMore old after (entries_of_members shape takers (take (i + 1) ms))) e
    (more_and_more old columns after (entries_of_members shape takers (take i members)) (entry_only (place, shape, takers)) (entries_of_members shape takers (take (i + 1) members))
    (λ p. sym (flat_step (λ m. entry_only (m, shape, takers) p) members i place within (is ∙ get_or_default members i 0 place within) [] (entries_of_members shape takers (take i members) p)
    (entries_of_members shape takers (take i members) p ++ entry_only (place, shape, takers) p) refl refl))
    (subst (λ ms. AreColumnsMore old columns (entries_of_members shape takers (take i ms))) (sym e) first) second)

pub letters_end : {A : Type 0} (shape : Shape) (taking takers : List Bool) (members : List ℕ) (i : ℕ) (old after : List (Vec Letter A)) → members ≡ flagged taking → length members ≤ i
    → AreColumnsMore old after (entries_of_members shape takers (take i (flagged taking))) → AreColumnsMore old after (λ place. entry_if place shape taking takers)
letters_end shape taking takers members i old after e past more =
    more_alike old after (entries_of_members shape takers (take i (flagged taking))) (λ place. entry_if place shape taking takers)
    (λ p. ap (λ ms. entries_of_members shape takers ms p) (take_all i (flagged taking) (let f = ap length e in omega (arith, f, past))) ∙ entries_are shape taking takers p) more
