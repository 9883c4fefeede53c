-- The search through what a value calls finds what it should.
use Rattle.std.proofs.Common.{◌≡◌, ℕ, Bool, true, false, ◌&&◌, ◌||◌, List, [], ◌∷◌, ◌++◌, map, Option, None, Some, is_some, is_none, unwrap_or, ◌⊎◌, inl, inr, refl, sym, ap, subst, ◌∙◌, arith, rules, if◌then◌else◌}
use Rattle.std.specs.List.{Contains, slice_index_or, list_all, filter}
use Rattle.std.specs.Cmp.{IsEquivalence}
use Rattle.std.specs.Cmp.Rules.{comparing}
use Rattle.std.proofs.lemmas.List.Elements.{Contains-append_left, Contains-append_right, Contains-append_cases}
use Rattle.std.proofs.lemmas.List.Folds.{list_all-append}
use Rattle.std.proofs.lemmas.Map.Views.{any-filter_same}
use Rattle.gx_names_scope.specs.declared.signature.Signature.{Signature}
use Rattle.gx_names_uses.specs.declared.uses.Use.{Use}
use Rattle.gx_names_uses.specs.declared.uses.Use.TheVariants as uses
use Rattle.gx_resolved.specs.NestedMap.{innermost_value}
use Rattle.gx_names_scope.specs.Signature.{same_signature}
use Rattle.gx_names_scope.specs.Environment.{Variables}
use Rattle.gx_names_uses.specs.Reaching.{Bodies, uses_in, is_function_of, is_at_hand, are_at_hand, are_settled, some_pass, is_call, calls_are_settled}
use Rattle.gx_names_uses.specs.Searching.{Settled, is_looked_at, is_met, IsSettled, Searches}
use Rattle.gx_resolved.proofs.NestedLemmas.{equal_keys}

laws : IsEquivalence same_signature
laws = search (comparing, rules)

-- ---- truth values

both : (a b : Bool) → a ≡ true → b ≡ true → (a && b) ≡ true
both true true h k = refl
both true false h k = k
both false b h k = h

left_of : (a b : Bool) → (a && b) ≡ true → a ≡ true
left_of true b h = refl
left_of false b h = h

right_of : (a b : Bool) → (a && b) ≡ true → b ≡ true
right_of true b h = h
right_of false b h = absurd (cc)

or_left : (a b : Bool) → a ≡ true → (a || b) ≡ true
or_left true b h = refl
or_left false b h = absurd (cc)

or_right : (a b : Bool) → b ≡ true → (a || b) ≡ true
or_right true b h = refl
or_right false b h = h

neither : (a b : Bool) → a ≡ false → b ≡ false → (a || b) ≡ false
neither true b h k = absurd (cc)
neither false b h k = k

-- ---- lists

at_front : {A : Type 0} (x : A) (xs : List A) → Contains (x ∷ xs) x
at_front x xs = Contains-append_left (x ∷ []) xs x (0, omega arith, refl)

none_inside : {A : Type 0} (x : A) → Contains [] x → ⊥
none_inside x c = omega (arith, c.1)

only_one : {A : Type 0} (x y : A) → Contains (x ∷ []) y → y ≡ x
only_one x y c =
    let first : c.0 ≡ 0 = omega (arith, c.1) in
    sym (subst (λ (k : ℕ). slice_index_or (x ∷ []) k y ≡ y) first c.2)

all_pass : {A : Type 0} (p : A → Bool) (xs : List A) → ((x : A) → Contains xs x → p x ≡ true) → list_all p xs ≡ true
all_pass p [] h = refl
all_pass {A} p (x ∷ xs) h = both (p x) (list_all p xs) (h x (at_front x xs)) (all_pass p xs (λ y c. h y (Contains-append_right (x ∷ []) xs y c)))

filtered_pass : {A : Type 0} (p q : A → Bool) (xs : List A) → ((x : A) → q x ≡ true → p x ≡ true) → list_all p (filter q xs) ≡ true
filtered_pass p q [] h = refl
filtered_pass p q (x ∷ xs) h = by (q x) refl (filtered_pass p q xs h)
  where
    by : (b : Bool) → q x ≡ b → list_all p (filter q xs) ≡ true → list_all p (filter q (x ∷ xs)) ≡ true
    by true e behind = rw e (both (p x) (list_all p (filter q xs)) (h x e) behind)
    by false e behind = rw e behind

-- ---- choices

some_passes : {A : Type 0} (q : A → Bool) (test : List A → Bool) (xs : List A) → test (filter q xs) ≡ true → some_pass test xs ≡ true
some_passes q test [] h = h
some_passes {A} q test (x ∷ xs) h = by (q x) refl (some_passes q (λ (chosen : List A). test (x ∷ chosen)) xs) (some_passes q test xs)
  where
    by : (b : Bool) → q x ≡ b → (test (x ∷ filter q xs) ≡ true → some_pass (λ (chosen : List A). test (x ∷ chosen)) xs ≡ true)
        → (test (filter q xs) ≡ true → some_pass test xs ≡ true) → some_pass test (x ∷ xs) ≡ true
    by true e with_it without_it =
        let chosen : test (x ∷ filter q xs) ≡ true = rw e at h in
        or_right (some_pass test xs) (some_pass (λ (chosen : List A). test (x ∷ chosen)) xs) (with_it chosen)
    by false e with_it without_it =
        let chosen : test (filter q xs) ≡ true = rw e at h in
        or_left (some_pass test xs) (some_pass (λ (chosen : List A). test (x ∷ chosen)) xs) (without_it chosen)

none_passes : {A : Type 0} (test : List A → Bool) (xs : List A) → ((chosen : List A) → test chosen ≡ false) → some_pass test xs ≡ false
none_passes test [] h = h []
none_passes {A} test (x ∷ xs) h =
    neither (some_pass test xs) (some_pass (λ (chosen : List A). test (x ∷ chosen)) xs) (none_passes test xs h) (none_passes (λ (chosen : List A). test (x ∷ chosen)) xs (λ chosen. h (x ∷ chosen)))

-- ---- the search

-- what a value calls is left at first
pub search_begins : (variables : Variables) (bodies : Bodies) (settled : Settled) (calls : List Use) → IsSettled variables bodies settled → Searches variables bodies calls settled calls
search_begins variables bodies settled calls h = record {
  in_bodies = λ f s u c. inl (h f s u c);
  in_calls = λ u c. inr c;
  kept = λ functions s c. c;
}

module _ (variables : Variables) (bodies : Bodies) where
  -- what is left in front of a use is at hand where all of it is
  front_at_hand : (functions : List Signature) (left : List Use) (one : Use) → are_at_hand variables bodies functions (left ++ one ∷ []) ≡ true → are_at_hand variables bodies functions left ≡ true
  front_at_hand functions left one h =
      left_of (are_at_hand variables bodies functions left) (are_at_hand variables bodies functions (one ∷ []))
      (sym (list_all-append (is_at_hand variables bodies functions) left (one ∷ [])) ∙ h)

  last_at_hand : (functions : List Signature) (left : List Use) (one : Use) → are_at_hand variables bodies functions (left ++ one ∷ []) ≡ true → is_at_hand variables bodies functions one ≡ true
  last_at_hand functions left one h =
      left_of (is_at_hand variables bodies functions one) true
      (right_of (are_at_hand variables bodies functions left) (are_at_hand variables bodies functions (one ∷ []))
      (sym (list_all-append (is_at_hand variables bodies functions) left (one ∷ [])) ∙ h))

  -- a use that is met need not be left
  met_or_left : (settled : Settled) (left : List Use) (one u : Use) → is_met variables settled one ≡ true → Contains (left ++ one ∷ []) u → (is_met variables settled u ≡ true) ⊎ Contains left u
  met_or_left settled left one u met c = by (Contains-append_cases left (one ∷ []) u c)
    where
      by : Contains left u ⊎ Contains (one ∷ []) u → (is_met variables settled u ≡ true) ⊎ Contains left u
      by (inl k) = inr k
      by (inr k) = inl (ap (is_met variables settled) (only_one one u k) ∙ met)

  pub one_is_met : (calls : List Use) (settled : Settled) (left : List Use) (one : Use) → is_met variables settled one ≡ true
      → Searches variables bodies calls settled (left ++ one ∷ []) → Searches variables bodies calls settled left
  one_is_met calls settled left one met searches = record {
    in_bodies = λ f s u c. by u (searches.in_bodies f s u c);
    in_calls = λ u c. by u (searches.in_calls u c);
    kept = λ functions s c. front_at_hand functions left one (searches.kept functions s c);
  }
    where
      by : (u : Use) → (is_met variables settled u ≡ true) ⊎ Contains (left ++ one ∷ []) u → (is_met variables settled u ≡ true) ⊎ Contains left u
      by u (inl m) = inl m
      by u (inr c) = met_or_left settled left one u met c

  -- a function more is settled
  still_met : (settled : Settled) (f : Signature) (u : Use) → is_met variables settled u ≡ true → is_met variables ((f, true) ∷ settled) u ≡ true
  still_met settled f (uses.Variable name) h = h
  still_met settled f (uses.Function g) h = by (same_signature f g)
    where
      by : (b : Bool) → is_some (if b then Some true else innermost_value same_signature settled g) ≡ true
      by true = refl
      by false = h

  same_uses : (f g : Signature) → same_signature f g ≡ true → uses_in bodies f ≡ uses_in bodies g
  same_uses f g e = ap (λ (found : Option (List Use)). unwrap_or found []) (equal_keys same_signature laws bodies f g e)

  -- functions that are settled have with a function all that it uses
  with_its_uses : (f : Signature) (all functions : List Signature)
      → list_all (λ g. are_at_hand variables bodies all (uses_in bodies g)) functions ≡ true → is_function_of functions f ≡ true
      → are_at_hand variables bodies all (uses_in bodies f) ≡ true
  with_its_uses f all [] h k = absurd (cc)
  with_its_uses f all (g ∷ gs) h k = by (same_signature f g) refl (with_its_uses f all gs)
    where
      by : (b : Bool) → same_signature f g ≡ b
          → (list_all (λ g. are_at_hand variables bodies all (uses_in bodies g)) gs ≡ true → is_function_of gs f ≡ true → are_at_hand variables bodies all (uses_in bodies f) ≡ true)
          → are_at_hand variables bodies all (uses_in bodies f) ≡ true
      by true e further =
          ap (are_at_hand variables bodies all) (same_uses f g e)
          ∙ left_of (are_at_hand variables bodies all (uses_in bodies g)) (list_all (λ g. are_at_hand variables bodies all (uses_in bodies g)) gs) h
      by false e further =
          let behind : is_function_of gs f ≡ true = rw e at k in
          further (right_of (are_at_hand variables bodies all (uses_in bodies g)) (list_all (λ g. are_at_hand variables bodies all (uses_in bodies g)) gs) h) behind

  its_uses_at_hand : (f : Signature) (functions : List Signature) → are_settled variables bodies functions ≡ true
      → is_at_hand variables bodies functions (uses.Function f) ≡ true → are_at_hand variables bodies functions (uses_in bodies f) ≡ true
  its_uses_at_hand f functions h k = by (is_function_of functions f) refl
    where
      of_none : (found : Option (List Use)) → is_none found ≡ true → are_at_hand variables bodies functions (unwrap_or found []) ≡ true
      of_none None e = refl
      of_none (Some used) e = absurd (cc)

      by : (b : Bool) → is_function_of functions f ≡ b → are_at_hand variables bodies functions (uses_in bodies f) ≡ true
      by true e = with_its_uses f functions functions h e
      by false e =
          let undeclared : is_none (innermost_value same_signature bodies f) ≡ true = rw e at k in
          of_none (innermost_value same_signature bodies f) undeclared

  pub one_is_settled : (calls : List Use) (settled : Settled) (left : List Use) (f : Signature)
      → Searches variables bodies calls settled (left ++ uses.Function f ∷ []) → Searches variables bodies calls ((f, true) ∷ settled) (left ++ uses_in bodies f)
  one_is_settled calls settled left f searches = record {
    in_bodies = λ g s u c. of_body g u c (same_signature f g) refl s;
    in_calls = λ u c. by u (searches.in_calls u c);
    kept = λ functions s c.
        list_all-append (is_at_hand variables bodies functions) left (uses_in bodies f)
        ∙ both (are_at_hand variables bodies functions left) (are_at_hand variables bodies functions (uses_in bodies f))
        (front_at_hand functions left (uses.Function f) (searches.kept functions s c))
        (its_uses_at_hand f functions s (last_at_hand functions left (uses.Function f) (searches.kept functions s c)));
  }
    where
      itself : is_met variables ((f, true) ∷ settled) (uses.Function f) ≡ true
      itself = rw (laws.refl f) refl

      with_uses : (u : Use) → (is_met variables ((f, true) ∷ settled) u ≡ true) ⊎ Contains left u → (is_met variables ((f, true) ∷ settled) u ≡ true) ⊎ Contains (left ++ uses_in bodies f) u
      with_uses u (inl m) = inl m
      with_uses u (inr c) = inr (Contains-append_left left (uses_in bodies f) u c)

      by : (u : Use) → (is_met variables settled u ≡ true) ⊎ Contains (left ++ uses.Function f ∷ []) u → (is_met variables ((f, true) ∷ settled) u ≡ true) ⊎ Contains (left ++ uses_in bodies f) u
      by u (inl m) = inl (still_met settled f u m)
      by u (inr c) = with_uses u (met_or_left ((f, true) ∷ settled) left (uses.Function f) u itself c)

      of_body : (g : Signature) (u : Use) → Contains (uses_in bodies g) u → (b : Bool) → same_signature f g ≡ b → is_looked_at ((f, true) ∷ settled) g ≡ true
          → (is_met variables ((f, true) ∷ settled) u ≡ true) ⊎ Contains (left ++ uses_in bodies f) u
      of_body g u c true e s =
          inr (Contains-append_right left (uses_in bodies f) u (subst (λ (used : List Use). Contains used u) (sym (same_uses f g e)) c))
      of_body g u c false e s =
          let before : is_looked_at settled g ≡ true = rw e at s in
          by u (searches.in_bodies g before u c)

  -- ---- the end

  pub search_settles : (calls : List Use) (settled : Settled) → Searches variables bodies calls settled [] → IsSettled variables bodies settled
  search_settles calls settled searches f s u c = by (searches.in_bodies f s u c)
    where
      by : (is_met variables settled u ≡ true) ⊎ Contains [] u → is_met variables settled u ≡ true
      by (inl m) = m
      by (inr k) = absurd (none_inside u k)

  declared_among : (bodies' : Bodies) (f : Signature) (found : List Use) → innermost_value same_signature bodies' f ≡ Some found → is_function_of (map (λ b. b.0) bodies') f ≡ true
  declared_among [] f found h = absurd (cc)
  declared_among (b ∷ bs) f found h = by (same_signature b.0 f) refl (declared_among bs f found)
    where
      by : (c : Bool) → same_signature b.0 f ≡ c → (innermost_value same_signature bs f ≡ Some found → is_function_of (map (λ b. b.0) bs) f ≡ true) → is_function_of (map (λ b. b.0) (b ∷ bs)) f ≡ true
      by true e further = or_left (same_signature f b.0) (is_function_of (map (λ b. b.0) bs) f) (laws.symm f b.0 ∙ e)
      by false e further =
          let behind : innermost_value same_signature bs f ≡ Some found = rw e at h in
          or_right (same_signature f b.0) (is_function_of (map (λ b. b.0) bs) f) (further behind)

  ended : (settled : Settled) (u : Use) → (is_met variables settled u ≡ true) ⊎ Contains [] u → is_met variables settled u ≡ true
  ended settled u (inl m) = m
  ended settled u (inr k) = absurd (none_inside u k)

  met_at_hand : (settled : Settled) (u : Use) → is_met variables settled u ≡ true
      → is_at_hand variables bodies (filter (is_looked_at settled) (map (λ b. b.0) bodies)) u ≡ true
  met_at_hand settled (uses.Variable name) h = h
  met_at_hand settled (uses.Function f) h = by (innermost_value same_signature bodies f) refl
    where
      by : (found : Option (List Use)) → innermost_value same_signature bodies f ≡ found
          → (is_function_of (filter (is_looked_at settled) (map (λ b. b.0) bodies)) f || is_none (innermost_value same_signature bodies f)) ≡ true
      by None e = or_right (is_function_of (filter (is_looked_at settled) (map (λ b. b.0) bodies)) f) (is_none (innermost_value same_signature bodies f)) (ap is_none e)
      by (Some used) e =
          or_left (is_function_of (filter (is_looked_at settled) (map (λ b. b.0) bodies)) f) (is_none (innermost_value same_signature bodies f))
          (any-filter_same (same_signature f) (is_looked_at settled) true (λ g k. ap is_some (sym (equal_keys same_signature laws settled f g k)) ∙ h) (map (λ b. b.0) bodies)
          ∙ declared_among bodies f used e)

  pub all_settled : (used : List Use) (settled : Settled) → Searches variables bodies (filter is_call used) settled []
      → calls_are_settled variables bodies used ≡ true
  all_settled used settled searches =
      let chosen : List Signature = filter (is_looked_at settled) (map (λ b. b.0) bodies) in
      some_passes (is_looked_at settled) (λ (functions : List Signature). are_settled variables bodies functions && are_at_hand variables bodies functions (filter is_call used)) (map (λ b. b.0) bodies)
      (both (are_settled variables bodies chosen) (are_at_hand variables bodies chosen (filter is_call used))
      (filtered_pass (λ f. are_at_hand variables bodies chosen (uses_in bodies f)) (is_looked_at settled) (map (λ b. b.0) bodies)
      (λ f s. all_pass (is_at_hand variables bodies chosen) (uses_in bodies f) (λ u c. met_at_hand settled u (ended settled u (searches.in_bodies f s u c)))))
      (all_pass (is_at_hand variables bodies chosen) (filter is_call used) (λ u c. met_at_hand settled u (ended settled u (searches.in_calls u c)))))

  -- what is left has a use that no functions have at hand
  pub none_settled : (used : List Use) (settled : Settled) (left : List Use) (one : Use) → Searches variables bodies (filter is_call used) settled (left ++ one ∷ [])
      → ((functions : List Signature) → is_at_hand variables bodies functions one ≡ false) → calls_are_settled variables bodies used ≡ false
  none_settled used settled left one searches missing =
      none_passes (λ (functions : List Signature). are_settled variables bodies functions && are_at_hand variables bodies functions (filter is_call used)) (map (λ b. b.0) bodies)
      (λ functions. by functions (are_settled variables bodies functions) refl (are_at_hand variables bodies functions (filter is_call used)) refl)
    where
      by : (functions : List Signature) (a : Bool) → are_settled variables bodies functions ≡ a → (b : Bool) → are_at_hand variables bodies functions (filter is_call used) ≡ b
          → (a && b) ≡ false
      by functions true e true k =
          absurd (let there : is_at_hand variables bodies functions one ≡ true = last_at_hand functions left one (searches.kept functions e k) in let gone : is_at_hand variables bodies functions one ≡ false = missing functions in cc)
      by functions true e false k = refl
      by functions false e b k = refl
