-- Lists of the numbers of item types, and the tests that are made of them.
use Rattle.std.proofs.Common.{◌≡◌, ℕ, zero, suc, ◌+◌, ◌<◌, ◌≤◌, Bool, true, false, ◌||◌, not, cond, List, [], ◌∷◌, ◌++◌, ◌⊎◌, map, inl, inr, Option, None, Some, refl, sym, ◌∙◌, ap, subst, get_or, length, slice_get, nat_eq, add-one, arith, if◌then◌else◌}
use Rattle.std.specs.Prelude.{Vec}
use Rattle.std.specs.List.{list_any, flat_map, position_or_len}
use Rattle.std.proofs.lemmas.Bool.{and_parts, cases_lt, eqb-true, eq-eqb, false≢true, or_cases, or_left, or_parts, or_right}
use Rattle.std.proofs.lemmas.Grind.{flat_map-append}
use Rattle.std.proofs.lemmas.List.{same_lists, get_or_default, length-map}
use Rattle.std.proofs.lemmas.List.Folds.{list_any-append}
use Rattle.std.proofs.lemmas.Option.{slice_get_within, get_or_from_slice_get}
use Rattle.gx_base.specs.Name.{same_name}
use Rattle.gx_base.specs.declared.name.Name.{Name}
use Rattle.gx_types.specs.declared.item_type.ItemType.{ItemType}
use Rattle.gx_types.specs.declared.item_type.ItemType.TheVariants as items
use Rattle.gx_types.specs.declared.shape.Shape.{Shape}
use Rattle.gx_types.specs.declared.shape.Shape.TheVariants as shapes
use Rattle.gx_types.specs.SchemaSet.{SchemaSet}
use Rattle.gx_types.specs.Derivation.{is_derived}
use Rattle.gx_types.specs.ItemTakes.{name_fits}
use Rattle.gx_types.proofs.EqualNames.{names_are_equivalent}
use Rattle.gx_include_letters.specs.ItemIndex.{tests_at, numbers_at, numbers_asking, place_if, IsListed, HasFitting, IsItemIndex}
use Rattle.gx_include_positions.specs.Names.{name_given, may_fit, name_of}
use Rattle.gx_include_positions.specs.Test.{is_taken}

-- numbers in lists

pub listed_before : (n : ℕ) (ms ks : List ℕ) → IsListed n ms → IsListed n (ms ++ ks)
listed_before n [] ks h = absurd h
listed_before n (m ∷ ms) ks (inl e) = inl e
listed_before n (m ∷ ms) ks (inr h) = inr (listed_before n ms ks h)

pub listed_last : (n : ℕ) (ms : List ℕ) → IsListed n (ms ++ n ∷ [])
listed_last n [] = inl refl
listed_last n (m ∷ ms) = inr (listed_last n ms)

-- a test that is passed is passed by an item type
pub passes : (test : ItemType → Bool) (kinds : List ItemType) (n : ℕ) → get_or (map test kinds) n false ≡ true → (kind : ItemType) × (slice_get kinds n ≡ Some kind) × (test kind ≡ true)
passes test [] n h = absurd (cc)
passes test (kind ∷ kinds) zero h = (kind, refl, h)
passes test (kind ∷ kinds) (suc n) h = passes test kinds n h

-- a shape that an item type takes may be taken by its name

fits_given : (wanted : Option Name) (name : Name) → name_fits wanted name ≡ true → may_fit wanted (Some name) ≡ true
fits_given None name h = refl
fits_given (Some wanted) name h = h

pub taken_fits : (s : SchemaSet) (x : Shape) (kind : ItemType) → is_taken s x kind ≡ true → may_fit (name_of kind) (name_given x) ≡ true
taken_fits s (shapes.Elem name t) (items.Element wanted kind) h = fits_given wanted name (and_parts (name_fits wanted name) (is_derived s t kind) h).0
taken_fits s (shapes.Attr name t) (items.Attribute wanted kind) h = fits_given wanted name (and_parts (name_fits wanted name) (is_derived s t kind) h).0
taken_fits s (shapes.Doc (Some child)) (items.Document (Some element)) h = fits_given element.0 child.0 (and_parts (name_fits element.0 child.0) (is_derived s child.1 element.1) h).0
taken_fits s x items.Text h = refl
taken_fits s x (items.Document None) h = refl
taken_fits s x (items.Atom kind) h = refl
taken_fits s (shapes.Doc None) (items.Document (Some element)) h = absurd (false≢true h)
taken_fits s (shapes.Doc None) (items.Element wanted kind) h = absurd (false≢true h)
taken_fits s (shapes.Doc None) (items.Attribute wanted kind) h = absurd (false≢true h)
taken_fits s (shapes.Doc (Some child)) (items.Element wanted kind) h = absurd (false≢true h)
taken_fits s (shapes.Doc (Some child)) (items.Attribute wanted kind) h = absurd (false≢true h)
taken_fits s _ _ h = absurd (false≢true h)

-- places that are put down

only_passing : (kinds : List ItemType) (test : ItemType → Bool) (i : ℕ) (ns : List ℕ) → list_any (λ m. nat_eq m i) (flat_map (place_if kinds test) ns) ≡ true → get_or (tests_at kinds test) i false ≡ true
only_passing kinds test i [] h = absurd (false≢true h)
only_passing kinds test i (n ∷ ns) h =
    elim (or_cases (list_any (λ m. nat_eq m i) (place_if kinds test n)) (list_any (λ m. nat_eq m i) (flat_map (place_if kinds test) ns))
    (sym (list_any-append (λ m. nat_eq m i) (place_if kinds test n) (flat_map (place_if kinds test) ns)) ∙ h)) [
      | inl k ↦ here (get_or (tests_at kinds test) (n + 1) false) refl k
      | inr k ↦ only_passing kinds test i ns k
    ]
  where
    here : (b : Bool) → get_or (tests_at kinds test) (n + 1) false ≡ b → list_any (λ m. nat_eq m i) (if b then (n + 1) ∷ [] else []) ≡ true → get_or (tests_at kinds test) i false ≡ true
    here true e k = elim (or_cases (nat_eq (n + 1) i) false k) [ inl f ↦ ap (λ j. get_or (tests_at kinds test) j false) (sym (eqb-true (n + 1) i f)) ∙ e | inr f ↦ absurd (false≢true f) ]
    here false e k = absurd (false≢true k)

passing_there : (kinds : List ItemType) (test : ItemType → Bool) (n : ℕ) (ns : List ℕ) → IsListed n ns → get_or (tests_at kinds test) (n + 1) false ≡ true
    → list_any (λ m. nat_eq m (n + 1)) (flat_map (place_if kinds test) ns) ≡ true
passing_there kinds test n [] h e = absurd h
passing_there kinds test n (m ∷ ns) (inl f) e =
    list_any-append (λ k. nat_eq k (n + 1)) (place_if kinds test m) (flat_map (place_if kinds test) ns)
    ∙ or_left (list_any (λ k. nat_eq k (n + 1)) (place_if kinds test m)) (list_any (λ k. nat_eq k (n + 1)) (flat_map (place_if kinds test) ns))
    (ap (λ b. list_any (λ k. nat_eq k (n + 1)) (if b then (m + 1) ∷ [] else [])) (ap (λ j. get_or (tests_at kinds test) (j + 1) false) f ∙ e) ∙ or_left (nat_eq (m + 1) (n + 1)) false (eq-eqb (m + 1) (n + 1) (ap (λ j. j + 1) f)))
passing_there kinds test n (m ∷ ns) (inr h) e =
    list_any-append (λ k. nat_eq k (n + 1)) (place_if kinds test m) (flat_map (place_if kinds test) ns)
    ∙ or_right (list_any (λ k. nat_eq k (n + 1)) (place_if kinds test m)) (list_any (λ k. nat_eq k (n + 1)) (flat_map (place_if kinds test) ns)) (passing_there kinds test n ns h e)

same_bits : (x y : Bool) → (x ≡ true → y ≡ true) → (y ≡ true → x ≡ true) → x ≡ y
same_bits true y f g = sym (f refl)
same_bits false true f g = g refl
same_bits false false f g = refl

-- the places of all item types that take a shape, where those that may take it are listed
pub all_taken : (s : SchemaSet) (x : Shape) (kinds : List ItemType) (flags : List Bool) (places ms ns : List ℕ) → HasFitting kinds (name_given x) (ms ++ ns)
    → places ≡ flat_map (place_if kinds (is_taken s x)) ms ++ flat_map (place_if kinds (is_taken s x)) ns → length flags ≡ length kinds + 1
    → ((n : ℕ) → n < length kinds + 1 → get_or flags n false ≡ list_any (λ m. nat_eq m n) places) → flags ≡ tests_at kinds (is_taken s x)
all_taken s x kinds flags places ms ns has e long says = same_lists flags (tests_at kinds (is_taken s x)) (omega (arith, long, length-map kinds (is_taken s x))) within
  where
    all : List ℕ
    all = ms ++ ns

    said : places ≡ flat_map (place_if kinds (is_taken s x)) (ms ++ ns)
    said = e ∙ sym (flat_map-append (place_if kinds (is_taken s x)) ms ns)

    by_number : (k : ℕ) → get_or (tests_at kinds (is_taken s x)) k false ≡ true → list_any (λ m. nat_eq m k) places ≡ true
    by_number zero h = absurd (cc)
    by_number (suc n) h =
        let q = passes (is_taken s x) kinds n h in
        ap (list_any (λ m. nat_eq m (suc n))) said ∙ ap (λ k. list_any (λ m. nat_eq m k) (flat_map (place_if kinds (is_taken s x)) (ms ++ ns))) (sym (add-one n))
        ∙ passing_there kinds (is_taken s x) n (ms ++ ns) (has n q.0 q.1 (taken_fits s x q.0 q.2)) (ap (λ k. get_or (tests_at kinds (is_taken s x)) k false) (add-one n) ∙ h)

    within : (k : ℕ) (d : Bool) → k < length flags → get_or flags k d ≡ get_or (tests_at kinds (is_taken s x)) k d
    within k d h =
        get_or_default flags k d false h ∙ says k (omega (arith, long))
        ∙ same_bits (list_any (λ m. nat_eq m k) places) (get_or (tests_at kinds (is_taken s x)) k false)
        (λ t. only_passing kinds (is_taken s x) k (ms ++ ns) (sym (ap (list_any (λ m. nat_eq m k)) said) ∙ t)) (by_number k)
        ∙ get_or_default (tests_at kinds (is_taken s x)) k false d (omega (arith, long, length-map kinds (is_taken s x)))

-- whether an item type passes a test, by the numbers that are listed

some_passes : (kinds : List ItemType) (test : ItemType → Bool) (n : ℕ) → get_or (map test kinds) n false ≡ true → list_any test kinds ≡ true
some_passes [] test n h = absurd (cc)
some_passes (kind ∷ kinds) test zero h = or_left (test kind) (list_any test kinds) h
some_passes (kind ∷ kinds) test (suc n) h = or_right (test kind) (list_any test kinds) (some_passes kinds test n h)

listed_passes : (kinds : List ItemType) (test : ItemType → Bool) (ns : List ℕ) → list_any (λ n. get_or (map test kinds) n false) ns ≡ true → list_any test kinds ≡ true
listed_passes kinds test [] h = absurd (false≢true h)
listed_passes kinds test (n ∷ ns) h =
    elim (or_cases (get_or (map test kinds) n false) (list_any (λ k. get_or (map test kinds) k false) ns) h) [ inl e ↦ some_passes kinds test n e | inr e ↦ listed_passes kinds test ns e ]

a_passing : (kinds : List ItemType) (test : ItemType → Bool) → list_any test kinds ≡ true → (n : ℕ) × (get_or (map test kinds) n false ≡ true)
a_passing [] test h = absurd (false≢true h)
a_passing (kind ∷ kinds) test h = elim (or_cases (test kind) (list_any test kinds) h) [ inl e ↦ (0, e) | inr e ↦ let q = a_passing kinds test e in (suc q.0, q.1) ]

listed_any : (test : ℕ → Bool) (n : ℕ) (ns : List ℕ) → IsListed n ns → test n ≡ true → list_any test ns ≡ true
listed_any test n [] h e = absurd h
listed_any test n (m ∷ ns) (inl f) e = or_left (test m) (list_any test ns) (ap test f ∙ e)
listed_any test n (m ∷ ns) (inr h) e = or_right (test m) (list_any test ns) (listed_any test n ns h e)

pub any_listed : (s : SchemaSet) (x : Shape) (kinds : List ItemType) (ms ns : List ℕ) → HasFitting kinds (name_given x) (ms ++ ns)
    → (list_any (λ n. get_or (map (is_taken s x) kinds) n false) ms || list_any (λ n. get_or (map (is_taken s x) kinds) n false) ns) ≡ list_any (is_taken s x) kinds
any_listed s x kinds ms ns has =
    sym (list_any-append (λ n. get_or (map (is_taken s x) kinds) n false) ms ns)
    ∙ same_bits (list_any (λ n. get_or (map (is_taken s x) kinds) n false) (ms ++ ns)) (list_any (is_taken s x) kinds) (listed_passes kinds (is_taken s x) (ms ++ ns)) (λ t.
    let p = a_passing kinds (is_taken s x) t in
    let q = passes (is_taken s x) kinds p.0 p.1 in
    listed_any (λ n. get_or (map (is_taken s x) kinds) n false) p.0 (ms ++ ns) (has p.0 q.0 q.1 (taken_fits s x q.0 q.2)) p.1)

-- the index

listed_behind : (n : ℕ) (ms ns : List ℕ) → IsListed n ns → IsListed n (ms ++ ns)
listed_behind n [] ns h = h
listed_behind n (m ∷ ms) ns h = inr (listed_behind n ms ns h)

here_is : (kinds : List ItemType) (n k : ℕ) (kind here : ItemType) → k ≤ n → n < k + 1 → slice_get kinds n ≡ Some kind → here ≡ get_or kinds k here → (n ≡ k) × (kind ≡ here)
here_is kinds n k kind here l h at is =
    let last : n ≡ k = omega arith in (last, sym (get_or_from_slice_get kinds n kind here at) ∙ ap (λ i. get_or kinds i here) last ∙ sym is)

-- names that stood there stay where they are
stays_there : (name other : Name) (names : List Name) → list_any (same_name name) names ≡ true → position_or_len (same_name name) (names ++ other ∷ []) ≡ position_or_len (same_name name) names
stays_there name other [] h = absurd (false≢true h)
stays_there name other (x ∷ names) h = by_test (same_name name x) h (λ k. stays_there name other names k)
  where
    by_test : (b : Bool) → (b || list_any (same_name name) names) ≡ true → (list_any (same_name name) names ≡ true → position_or_len (same_name name) (names ++ other ∷ []) ≡ position_or_len (same_name name) names)
        → cond (not b) (1 + position_or_len (same_name name) (names ++ other ∷ [])) 0 ≡ cond (not b) (1 + position_or_len (same_name name) names) 0
    by_test true k rest = refl
    by_test false k rest = ap (λ n. 1 + n) (rest k)

last_there : (name : Name) (names : List Name) → list_any (same_name name) names ≡ false → position_or_len (same_name name) (names ++ name ∷ []) ≡ position_or_len (same_name name) names
last_there name [] h = ap (λ b. cond (not b) 1 0) (names_are_equivalent.refl name)
last_there name (x ∷ names) h =
    let p = or_parts (same_name name x) (list_any (same_name name) names) h in
    ap (λ b. cond (not b) (1 + position_or_len (same_name name) (names ++ name ∷ [])) 0) p.0 ∙ ap (λ n. 1 + n) (last_there name names p.1)
    ∙ sym (ap (λ b. cond (not b) (1 + position_or_len (same_name name) names) 0) p.0)

-- the names after one more, which may stand there already
abbrev with_one : List Name → Name → List Name
with_one names name = if list_any (same_name name) names then names else names ++ name ∷ []

kept_there : (name other : Name) (names : List Name) → list_any (same_name name) names ≡ true
    → (position_or_len (same_name name) (with_one names other) ≡ position_or_len (same_name name) names) × (list_any (same_name name) (with_one names other) ≡ true)
kept_there name other names h = by_test (list_any (same_name other) names)
  where
    by_test : (b : Bool) → (position_or_len (same_name name) (if b then names else names ++ other ∷ []) ≡ position_or_len (same_name name) names) × (list_any (same_name name) (if b then names else names ++ other ∷ []) ≡ true)
    by_test true = (refl, h)
    by_test false = (stays_there name other names h, list_any-append (same_name name) names (other ∷ []) ∙ or_left (list_any (same_name name) names) (list_any (same_name name) (other ∷ [])) h)

new_there : (name : Name) (names : List Name) → (position_or_len (same_name name) (with_one names name) ≡ position_or_len (same_name name) names) × (list_any (same_name name) (with_one names name) ≡ true)
new_there name names = by_test (list_any (same_name name) names) refl
  where
    by_test : (b : Bool) → list_any (same_name name) names ≡ b
        → (position_or_len (same_name name) (if b then names else names ++ name ∷ []) ≡ position_or_len (same_name name) names) × (list_any (same_name name) (if b then names else names ++ name ∷ []) ≡ true)
    by_test true e = (refl, e)
    by_test false e = (last_there name names e, list_any-append (same_name name) names (name ∷ []) ∙ or_right (list_any (same_name name) names) (list_any (same_name name) (name ∷ [])) (or_left (same_name name name) false (names_are_equivalent.refl name)))

same_place : (name other : Name) (names : List Name) → same_name name other ≡ true → position_or_len (same_name other) names ≡ position_or_len (same_name name) names
same_place name other [] e = refl
same_place name other (x ∷ names) e =
    ap (λ b. cond (not b) (1 + position_or_len (same_name other) names) 0) (sym (names_are_equivalent.congr name other x e)) ∙ ap (λ n. cond (not (same_name name x)) (1 + n) 0) (same_place name other names e)

same_asked : (name other : Name) (names : List Name) → same_name name other ≡ true → list_any (same_name other) names ≡ list_any (same_name name) names
same_asked name other [] e = refl
same_asked name other (x ∷ names) e =
    ap (λ b. b || list_any (same_name other) names) (sym (names_are_equivalent.congr name other x e)) ∙ ap (λ b. same_name name x || b) (same_asked name other names e)

module _ {A : Type 0} where
  -- the numbers of those that ask for a name
  abbrev pub asking_for : List Name → List (Vec ℕ A) → Name → List ℕ
  asking_for names asking name = numbers_at asking (position_or_len (same_name name) names)

  -- the item types before a bound have their numbers, with their names or without
  pub record AreIndexedBelow (kinds : List ItemType) (names : List Name) (asking : List (Vec ℕ A)) (unnamed : List ℕ) (bound : ℕ) : Type 0 where
    pub without : (n : ℕ) (kind : ItemType) → n < bound → slice_get kinds n ≡ Some kind → name_of kind ≡ None → IsListed n unnamed
    pub named : (n : ℕ) (kind : ItemType) (name : Name) → n < bound → slice_get kinds n ≡ Some kind → name_of kind ≡ Some name
        → (list_any (same_name name) names ≡ true) × IsListed n (asking_for names asking name)

  pub none_indexed : (kinds : List ItemType) (names : List Name) (asking : List (Vec ℕ A)) (unnamed : List ℕ) → AreIndexedBelow kinds names asking unnamed 0
  none_indexed kinds names asking unnamed = record { without = λ n kind h. absurd (omega arith); named = λ n kind name h. absurd (omega arith) }

  pub unnamed_more : (kinds : List ItemType) (names : List Name) (asking : List (Vec ℕ A)) (unnamed after : List ℕ) (k : ℕ) (here : ItemType) → here ≡ get_or kinds k here → name_of here ≡ None
      → after ≡ unnamed ++ k ∷ [] → AreIndexedBelow kinds names asking unnamed k → AreIndexedBelow kinds names asking after (k + 1)
  unnamed_more kinds names asking unnamed after k here is none e all = record {
    without = λ n kind h at asks.
        subst (λ ns. IsListed n ns) (sym e)
        (elim (cases_lt n k) [
          | inl l ↦ listed_before n unnamed (k ∷ []) (all.without n kind l at asks)
          | inr l ↦ let q = here_is kinds n k kind here l h at is in subst (λ m. IsListed n (unnamed ++ m ∷ [])) q.0 (listed_last n unnamed)
        ]);
    named = λ n kind name h at asks.
        elim (cases_lt n k) [
          | inl l ↦ all.named n kind name l at asks
          | inr l ↦ let q = here_is kinds n k kind here l h at is in let f = ap name_of q.1 in absurd (cc)
        ];
  }

  pub named_more : (kinds : List ItemType) (names names2 : List Name) (asking asking2 : List (Vec ℕ A)) (unnamed : List ℕ) (k : ℕ) (here : ItemType) (new : Name) → here ≡ get_or kinds k here
      → name_of here ≡ Some new → names2 ≡ (if list_any (same_name new) names then names else names ++ new ∷ [])
      → ((p : ℕ) → numbers_at asking2 p ≡ numbers_at asking p ++ (if nat_eq (position_or_len (same_name new) names) p then k ∷ [] else [])) → AreIndexedBelow kinds names asking unnamed k
      → AreIndexedBelow kinds names2 asking2 unnamed (k + 1)
  named_more kinds names names2 asking asking2 unnamed k here new is has e more all = record {
    without = λ n kind h at asks.
        elim (cases_lt n k) [
          | inl l ↦ all.without n kind l at asks
          | inr l ↦ let q = here_is kinds n k kind here l h at is in let f = ap name_of q.1 in absurd (cc)
        ];
    named = λ n kind name h at asks.
        elim (cases_lt n k) [
          | inl l ↦
              let old = all.named n kind name l at asks in
              let stays = kept_there name new names old.0 in (
                ap (list_any (same_name name)) e ∙ stays.1,
                subst (λ ns. IsListed n ns) (sym (more (position_or_len (same_name name) names2)))
                    (listed_before n (numbers_at asking (position_or_len (same_name name) names2)) (if nat_eq (position_or_len (same_name new) names) (position_or_len (same_name name) names2) then k ∷ [] else [])
                    (subst (λ p. IsListed n (numbers_at asking p)) (sym (ap (position_or_len (same_name name)) e ∙ stays.0)) old.1)),
              )
          | inr l ↦
              let q = here_is kinds n k kind here l h at is in
              let same : new ≡ name = some_injective new name (sym has ∙ ap name_of (sym q.1) ∙ asks) in
              let there = new_there new names in
              subst (λ m. (list_any (same_name m) names2 ≡ true) × IsListed n (asking_for names2 asking2 m)) same (
                ap (list_any (same_name new)) e ∙ there.1,
                subst (λ ns. IsListed n ns) (sym (more (position_or_len (same_name new) names2)))
                    (listed_behind n (numbers_at asking (position_or_len (same_name new) names2)) (if nat_eq (position_or_len (same_name new) names) (position_or_len (same_name new) names2) then k ∷ [] else [])
                    (subst (λ b. IsListed n (if b then k ∷ [] else [])) (sym (eq-eqb (position_or_len (same_name new) names) (position_or_len (same_name new) names2) (sym (ap (position_or_len (same_name new)) e ∙ there.0)))) (inl (sym q.0)))),
              )
        ];
  }
    where
      some_injective : (one other : Name) → Some one ≡ Some other → one ≡ other
      some_injective one other e = cc

  -- the index of a list of item types
  pub index_is : (kinds ones : List ItemType) (names : List Name) (asking : List (Vec ℕ A)) (unnamed : List ℕ) (bound : ℕ) → ones ≡ kinds → length ones ≤ bound → AreIndexedBelow ones names asking unnamed bound
      → IsItemIndex kinds names asking unnamed
  index_is kinds ones names asking unnamed bound e past all = subst (λ ks. IsItemIndex ks names asking unnamed) e (record {
    without = λ n kind at fits. all.without n kind (omega (arith, slice_get_within ones n kind at)) at (no_name (name_of kind) fits);
    named = λ name n kind at fits. by_name n kind at name (name_of kind) refl fits;
  })
    where
      no_name : (asked : Option Name) → may_fit asked None ≡ true → asked ≡ None
      no_name None h = refl
      no_name (Some name) h = absurd (false≢true h)

      by_name : (n : ℕ) (kind : ItemType) → slice_get ones n ≡ Some kind → (name : Name) (asked : Option Name) → name_of kind ≡ asked → may_fit asked (Some name) ≡ true
          → IsListed n (numbers_asking names asking name ++ unnamed)
      by_name n kind at name None f fits =
          listed_behind n (numbers_asking names asking name) unnamed (all.without n kind (omega (arith, slice_get_within ones n kind at)) at f)
      by_name n kind at name (Some other) f fits =
          let old = all.named n kind other (omega (arith, slice_get_within ones n kind at)) at f in
          let asked : numbers_asking names asking name ≡ asking_for names asking other =
          ap (λ b. if b then numbers_at asking (position_or_len (same_name name) names) else []) (same_asked other name names fits ∙ old.0) ∙ ap (numbers_at asking) (same_place other name names fits) in
          listed_before n (numbers_asking names asking name) unnamed (subst (λ ns. IsListed n ns) (sym asked) old.1)
