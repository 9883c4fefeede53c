-- The test of inclusion is exact.
use Rattle.std.proofs.Common.{◌≡◌, ℕ, zero, suc, ◌+◌, ◌≤◌, Bool, true, false, ◌&&◌, not, List, [], ◌∷◌, ◌++◌, map, inl, inr, refl, sym, ◌∙◌, ap, subst, length, arith}
use Rattle.std.specs.List.{list_any, flat_map}
use Rattle.std.proofs.lemmas.Bool.{or_cases, and_parts}
use Rattle.std.proofs.lemmas.List.{length-append}
use Rattle.std.specs.Cmp.Lexicographic.{same_text as same_letters}
use Rattle.gx_base.specs.declared.name.Name.{Name}
use Rattle.gx_base.specs.Name.{same_name}
use Rattle.gx_base.specs.Text.{same_text}
use Rattle.gx_types.specs.declared.item_type.ItemType.{ItemType}
use Rattle.gx_types.specs.declared.shape.Shape.{Shape}
use Rattle.gx_types.specs.SchemaSet.{SchemaSet}
use Rattle.gx_types.specs.Grounded.{Grounded}
use Rattle.gx_types.specs.SequenceType.{SequenceType}
use Rattle.gx_types.specs.Takes.{EachShape}
use Rattle.gx_types.specs.TypeRules.{positions_of}
use Rattle.gx_types.specs.Derivation.{bases_of}
use Rattle.gx_include.specs.Decision.{leads_to_bad, BothSets, sets_behind, refutes, longer_name, shapes_tried, flag_lists, start_sets, all_sets, is_included, InclusionIsDecided}
use Rattle.gx_include_letters.specs.WellFormed.{IsWellFormedShape}
use Rattle.gx_include.specs.Inclusion.{IsIncluded}
use Rattle.gx_include_positions.specs.Positions.{both_set}
use Rattle.gx_include_positions.specs.Step.{has_start, all_next, all_tests, step_over, is_end}
use Rattle.gx_include_positions.specs.Test.{is_taken}
use Rattle.gx_include_positions.specs.Names.{is_named, with_names}
use Rattle.gx_include_positions.proofs.SetReads.{both_set_length, next_length, Reads, reads_forward, reads_back, end_reads, reads_end, start_reads, reads_start, length_tests}
use Rattle.gx_include_positions.proofs.Decided.{decided}
use Rattle.gx_include_positions.proofs.Lists.{In, in_map, of_map, in_flat}
use Rattle.gx_include.proofs.Searching.{any_has, any_of, found_in_time}
use Rattle.gx_include_positions.proofs.MarksTake.{or_right}
use Rattle.gx_include_letters.proofs.Stand.{shape_stands, tests_alike}
use Rattle.gx_include_positions.proofs.KnownNames.{both_known}
use Rattle.gx_include_letters.proofs.FormedLetters.{tried_is_well_formed}

-- ---- a name that is none of a list

shorter : (n : Name) (names : List Name) → In n names → length n.local ≤ length (flat_map (λ (name : Name). name.local) names)
shorter n [] h = absurd h
shorter n (m ∷ names) (inl e) =
    let same : length m.local ≡ length n.local = ap (λ (x : Name). length x.local) e in omega (arith, same, length-append m.local (flat_map (λ (name : Name). name.local) names))
shorter n (m ∷ names) (inr h) = omega (arith, shorter n names h, length-append m.local (flat_map (λ (name : Name). name.local) names))

pub false_unless : (b : Bool) → (b ≡ true → ⊥) → b ≡ false
false_unless true h = absurd (h refl)
false_unless false h = refl

longer_is_new : (names : List Name) → is_named names (longer_name names) ≡ false
longer_is_new names =
    false_unless (is_named names (longer_name names)) (λ h.
    let q = any_of (same_name (longer_name names)) names h in
    let parts = and_parts (same_text [] q.0.uri) (same_text (longer_name names).local q.0.local) q.2 in
    let same = ap (λ (cs : List ℕ). length cs) (same_letters (longer_name names).local q.0.local (sym parts.1)) in
    omega (arith, shorter q.0 names q.1, same))

-- ---- lists of flags

in_flag_lists : (flags : List Bool) → In flags (flag_lists (length flags))
in_flag_lists [] = inl refl
in_flag_lists (true ∷ flags) = in_flat (λ fs. (true ∷ fs) ∷ (false ∷ fs) ∷ []) flags (true ∷ flags) (flag_lists (length flags)) (in_flag_lists flags) (inl refl)
in_flag_lists (false ∷ flags) = in_flat (λ fs. (true ∷ fs) ∷ (false ∷ fs) ∷ []) flags (false ∷ flags) (flag_lists (length flags)) (in_flag_lists flags) (inr (inl refl))

in_all_sets : (a b : SequenceType) (left right : List Bool) → length left ≡ positions_of a + 1 → length right ≡ positions_of b + 1 → (let sets : BothSets = (left, right) in In sets (all_sets a b))
in_all_sets a b left right e f =
    let sets : BothSets = (left, right) in
    inr (in_flat (λ xs. map (λ ys. let made : BothSets = (xs, ys) in made) (flag_lists (positions_of b + 1))) left sets (flag_lists (positions_of a + 1))
    (subst (λ n. In left (flag_lists n)) e (in_flag_lists left))
    (in_map (λ ys. let made : BothSets = (left, ys) in made) right (flag_lists (positions_of b + 1)) (subst (λ n. In right (flag_lists n)) f (in_flag_lists right))))

step_length : (t : SequenceType) (test : ItemType → Bool) (set : List Bool) → length (step_over t test set) ≡ positions_of t + 1
step_length t test set =
    both_set_length (all_next t set) (all_tests t test) (positions_of t + 1) (omega (arith, next_length t (drop_one set) (has_start set))) (omega (arith, length_tests t test))
  where
    drop_one : List Bool → List Bool
    drop_one [] = []
    drop_one (x ∷ xs) = xs

-- ---- lists of shapes

module _ (s : SchemaSet) (g : Grounded (bases_of s)) (a b : SequenceType) where
  abbrev next : BothSets → List BothSets
  next sets = map (sets_behind s a b sets) (shapes_tried s a b)

  closed : (p q : BothSets) → In p (all_sets a b) → In q (next p) → In q (all_sets a b)
  closed p q h k =
      let m = of_map (sets_behind s a b p) q (shapes_tried s a b) k in
      subst (λ x. In x (all_sets a b)) m.2
      (in_all_sets a b (step_over a (is_taken s m.0) p.0) (step_over b (is_taken s m.0) p.1) (step_length a (is_taken s m.0) p.0) (step_length b (is_taken s m.0) p.1))

  after : List Shape → BothSets → BothSets
  after [] sets = sets
  after (x ∷ xs) sets = after xs (sets_behind s a b sets x)

  left_of : (xs : List Shape) (sets : BothSets) → Reads s a sets.0 xs → is_end a (after xs sets).0 ≡ true
  unfolding after
  left_of [] sets h = reads_end s a sets.0 h
  left_of (x ∷ xs) sets h = left_of xs (sets_behind s a b sets x) (reads_back s x a sets.0 xs (decided s g x a) h)

  left_back : (xs : List Shape) (sets : BothSets) → is_end a (after xs sets).0 ≡ true → Reads s a sets.0 xs
  unfolding after
  left_back [] sets h = end_reads s a sets.0 h
  left_back (x ∷ xs) sets h = reads_forward s x a sets.0 xs (decided s g x a) (left_back xs (sets_behind s a b sets x) h)

  right_of : (xs : List Shape) (sets : BothSets) → Reads s b sets.1 xs → is_end b (after xs sets).1 ≡ true
  unfolding after
  right_of [] sets h = reads_end s b sets.1 h
  right_of (x ∷ xs) sets h = right_of xs (sets_behind s a b sets x) (reads_back s x b sets.1 xs (decided s g x b) h)

  right_back : (xs : List Shape) (sets : BothSets) → is_end b (after xs sets).1 ≡ true → Reads s b sets.1 xs
  unfolding after
  right_back [] sets h = end_reads s b sets.1 h
  right_back (x ∷ xs) sets h = reads_forward s x b sets.1 xs (decided s g x b) (right_back xs (sets_behind s a b sets x) h)

  -- a step over a well-formed shape is one over a tried shape
  step_is_tried : (x : Shape) (sets : BothSets) → IsWellFormedShape s x → In (sets_behind s a b sets x) (next sets)
  step_is_tried x sets w =
      let names : List Name = with_names (with_names [] a) b in
      let q = shape_stands s names (longer_name names) (longer_is_new names) x w in
      let known = both_known a b in
      let left : all_tests a (is_taken s q.0) ≡ all_tests a (is_taken s x) = ap (λ ts. false ∷ ts) (tests_alike s names q.0 x q.2 a known.0) in
      let right : all_tests b (is_taken s q.0) ≡ all_tests b (is_taken s x) = ap (λ ts. false ∷ ts) (tests_alike s names q.0 x q.2 b known.1) in
      let same : sets_behind s a b sets q.0 ≡ sets_behind s a b sets x =
      ap (λ ts. let p : BothSets = (both_set (all_next a sets.0) ts, step_over b (is_taken s q.0) sets.1) in p) left
      ∙ ap (λ ts. let p : BothSets = (step_over a (is_taken s x) sets.0, both_set (all_next b sets.1) ts) in p) right in
      subst (λ p. In p (next sets)) same (in_map (sets_behind s a b sets) q.0 (shapes_tried s a b) q.1)

  found : (xs : List Shape) (sets : BothSets) → EachShape (IsWellFormedShape s) xs → refutes a b (after xs sets) ≡ true → leads_to_bad (refutes a b) next (length xs) sets ≡ true
  unfolding after
  found [] sets w h = h
  found (x ∷ xs) sets w h =
      or_right (refutes a b sets) (list_any (leads_to_bad (refutes a b) next (length xs)) (next sets))
      (any_has (leads_to_bad (refutes a b) next (length xs)) (sets_behind s a b sets x) (next sets) (step_is_tried x sets w.0) (found xs (sets_behind s a b sets x) w.1 h))

  abbrev Refutation : BothSets → Type 0
  Refutation sets = (xs : List Shape) × EachShape (IsWellFormedShape s) xs × (refutes a b (after xs sets) ≡ true)

  refutation : (n : ℕ) (sets : BothSets) → leads_to_bad (refutes a b) next n sets ≡ true → Refutation sets
  unfolding after
  refutation zero sets h = ([], tt, h)
  refutation (suc n) sets h =
      elim (or_cases (refutes a b sets) (list_any (leads_to_bad (refutes a b) next n) (next sets)) h) [
        | inl k ↦ ([], tt, k)
        | inr k ↦
            let names : List Name = with_names (with_names [] a) b in
            let q = any_of (leads_to_bad (refutes a b) next n) (next sets) k in
            let m = of_map (sets_behind s a b sets) q.0 (shapes_tried s a b) q.1 in
            let r = refutation n (sets_behind s a b sets m.0) (subst (λ p. leads_to_bad (refutes a b) next n p ≡ true) (sym m.2) q.2) in
            (m.0 ∷ r.0, (tried_is_well_formed s (names ++ longer_name names ∷ []) m.0 m.1, r.1), r.2)
      ]

  not_both : (x y : Bool) → x ≡ true → (x && not y) ≡ false → y ≡ true
  not_both true true h k = refl
  not_both true false h k = absurd (cc)
  not_both false y h k = absurd (cc)

  false_from_not : (x : Bool) → not x ≡ true → x ≡ false
  false_from_not true h = absurd (cc)
  false_from_not false h = refl

  true_from_not : (x : Bool) → (x ≡ true → ⊥) → not x ≡ true
  true_from_not true h = absurd (h refl)
  true_from_not false h = refl

  not_true : (y : Bool) → y ≡ true → not y ≡ true → ⊥
  not_true true h k = absurd (cc)
  not_true false h k = absurd (cc)

  included_when_tested : is_included s a b ≡ true → IsIncluded s a b
  unfolding is_included
  included_when_tested h list w taken =
      let none = false_from_not (leads_to_bad (refutes a b) next (suc (length (all_sets a b))) start_sets) h in
      let ends = left_of list start_sets (start_reads s a list taken) in
      let good : refutes a b (after list start_sets) ≡ false =
      false_unless (refutes a b (after list start_sets)) (λ bad.
      let f = found_in_time (refutes a b) next (all_sets a b) closed (length list) start_sets (inl refl) (found list start_sets w bad) in
      let contradiction : true ≡ false = sym f ∙ none in cc) in
      reads_start s b list (right_back list start_sets (not_both (is_end a (after list start_sets).0) (is_end b (after list start_sets).1) ends good))

  tested_when_included : IsIncluded s a b → is_included s a b ≡ true
  unfolding is_included
  tested_when_included included =
      true_from_not (leads_to_bad (refutes a b) next (suc (length (all_sets a b))) start_sets) (λ h.
      let r = refutation (suc (length (all_sets a b))) start_sets h in
      let p = and_parts (is_end a (after r.0 start_sets).0) (not (is_end b (after r.0 start_sets).1)) r.2 in
      let taken = reads_start s a r.0 (left_back r.0 start_sets p.0) in
      not_true (is_end b (after r.0 start_sets).1) (right_of r.0 start_sets (start_reads s b r.0 (included r.0 r.1 taken))) p.1)

pub inclusion_is_decided : InclusionIsDecided
inclusion_is_decided s a b g = (included_when_tested s g a b, tested_when_included s g a b)
