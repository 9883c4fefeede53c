-- The prefixes of a tag, and the search for a free one.
use Rattle.std.proofs.Common.{◌≡◌, ℕ, zero, suc, ◌+◌, ◌-◌, ◌<◌, ◌≤◌, List, [], ◌∷◌, ◌++◌, length, get_or, take, map, Bool, true, false, cond, refl, sym, ap, ◌∙◌, arith, add-one, length-append, ⊎_elim}
use Rattle.std.specs.Prelude.{Option, Some, None, is_some, bytes_eq, option_map, ◌||◌}
use Rattle.std.specs.Borrow.{Bor}
use Rattle.std.specs.BTreeSet.{BTreeSet, contains, UpdatesBy}
use Rattle.std.proofs.lemmas.Bool.{cases_lt}
use Rattle.std.proofs.lemmas.List.{map-append, length-map, take_more}
use Rattle.std.proofs.lemmas.Map.Text.{is_eq-slice_cmp}
use Rattle.gx_base.specs.Text.{text_cmp}
use Rattle.gx_tree.specs.declared.attribute.Attribute.{Attribute}
use Rattle.gx_serial.specs.Binding.{Binding, bound_to, last_of, is_prefix_among, numbered_prefix, free_number}
use Rattle.gx_serial.specs.Marked.{prefixes_of}
use Rattle.gx_serial.specs.View.{all_prefixes, IsSearchStart}
use Rattle.gx_serial.specs.declared.prefix.Prefixes.TheInside.{Inside}
use Rattle.gx_serial.specs.PrefixSet.{HoldsAll, prefixes_seen, IsPrepared}
use Rattle.gx_serial.proofs.BindingLemmas.{free_here, free_next, free_end}

is_some-last_of : (b : Bool) (uri : List ℕ) (o : Option (List ℕ)) → is_some (last_of (cond b (Some uri) None) o) ≡ (b || is_some o)
is_some-last_of true uri None = refl
is_some-last_of true uri (Some v) = refl
is_some-last_of false uri None = refl
is_some-last_of false uri (Some v) = refl

-- a prefix is bound where a binding has it
is_some-bound_to : (bs : List Binding) (p : List ℕ) → is_some (bound_to bs p) ≡ is_prefix_among (map (λ (b : Binding). b.0) bs) p
is_some-bound_to [] p = refl
is_some-bound_to (b ∷ bs) p = is_some-last_of (bytes_eq b.0 p) b.1 (bound_to bs p) ∙ ap (λ t. bytes_eq b.0 p || t) (is_some-bound_to bs p)

-- a prefix is in two lists where it is in one of them
is_prefix_among-append : (xs ys : List (List ℕ)) (p : List ℕ) → is_prefix_among (xs ++ ys) p ≡ (is_prefix_among xs p || is_prefix_among ys p)
is_prefix_among-append [] ys p = refl
is_prefix_among-append (x ∷ xs) ys p = ap (λ t. bytes_eq x p || t) (is_prefix_among-append xs ys p) ∙ or_assoc (bytes_eq x p) (is_prefix_among xs p) (is_prefix_among ys p)
  where
    or_assoc : (a b c : Bool) → (a || (b || c)) ≡ ((a || b) || c)
    or_assoc true b c = refl
    or_assoc false b c = refl

-- a used number is passed over
pub IsSearchStart-next : (ps : List (List ℕ)) (n : ℕ) → IsSearchStart ps n → n ≤ length ps → is_prefix_among ps (numbered_prefix n) ≡ true → IsSearchStart ps (n + 1)
IsSearchStart-next ps n h below used = record {
  at_least_one = omega arith;
  last = omega arith;
  used = λ k from until. ⊎_elim (λ less. h.used k from less)
      (λ more. let same : k ≡ n = omega arith in ap (λ j. is_prefix_among ps (numbered_prefix j)) same ∙ used) (cases_lt k n);
}

-- where the search may begin
passed_over : (ps : List (List ℕ)) (m : ℕ) → m ≤ length ps → ((k : ℕ) → 1 ≤ k → k < m + 1 → is_prefix_among ps (numbered_prefix k) ≡ true)
    → free_number ps (length ps) 1 ≡ free_number ps (length ps - m) (m + 1)
passed_over ps zero below h = let e : length ps - 0 ≡ length ps = omega arith in rw e refl
passed_over ps (suc m) below h =
    passed_over ps m (omega arith) (λ k from until. h k from (omega arith))
    ∙ free_next ps (length ps) m (omega arith) (h (m + 1) (omega arith) (omega arith))
    ∙ ap (λ j. free_number ps (length ps - j) (j + 1)) (add-one m)

passed : (ps : List (List ℕ)) (n : ℕ) → IsSearchStart ps n → free_number ps (length ps) 1 ≡ free_number ps (length ps - (n - 1)) ((n - 1) + 1)
passed ps n h = passed_over ps (n - 1) (omega (arith, h.last)) (λ k from until. h.used k from (omega (arith, h.at_least_one)))

-- the search ends at a free number
pub found_free : (ps : List (List ℕ)) (n : ℕ) → IsSearchStart ps n → is_prefix_among ps (numbered_prefix n) ≡ false → n ≡ free_number ps (length ps) 1
found_free ps n h free =
    let same : (n - 1) + 1 ≡ n = omega (arith, h.at_least_one) in
    let here : is_prefix_among ps (numbered_prefix ((n - 1) + 1)) ≡ false = rw same free in
    sym same ∙ sym (passed ps n h ∙ free_here ps (length ps - (n - 1)) ((n - 1) + 1) here)

-- the search has passed as many numbers as there are prefixes
pub found_last : (ps : List (List ℕ)) (n : ℕ) → IsSearchStart ps n → length ps < n → n ≡ free_number ps (length ps) 1
found_last ps n h past =
    let same : (n - 1) + 1 ≡ n = omega (arith, h.at_least_one) in
    sym same ∙ sym (passed ps n h ∙ free_end ps (length ps) (n - 1) (omega (arith, h.last)))

-- a set after one more prefix
pub HoldsAll-next : (attributes : List Attribute) (i : ℕ) (a : Attribute) (old new : BTreeSet (List ℕ)) (key : List ℕ)
    → i < length attributes → a ≡ get_or attributes i a → key ≡ a.name.prefix → UpdatesBy text_cmp (text_cmp key) old new true
    → HoldsAll (map (λ (b : Attribute). b.name.prefix) (take i attributes)) old → HoldsAll (map (λ (b : Attribute). b.name.prefix) (take (i + 1) attributes)) new
HoldsAll-next attributes i a old new key below here own u h p =
    let prefixes = λ (bs : List Attribute). map (λ (b : Attribute). b.name.prefix) bs in
    let more : take (i + 1) attributes ≡ take i attributes ++ (a ∷ []) = take_more attributes i a below ∙ ap (λ b. take i attributes ++ (b ∷ [])) (sym here) in
    let all : prefixes (take (i + 1) attributes) ≡ prefixes (take i attributes) ++ (key ∷ []) =
    ap prefixes more ∙ map-append (λ (b : Attribute). b.name.prefix) (take i attributes) (a ∷ []) ∙ ap (λ q. prefixes (take i attributes) ++ (q ∷ [])) (sym own) in
    u.0 p ∙ ap (λ t. cond t true (contains text_cmp old p)) (is_eq-slice_cmp key p) ∙ ap (cond (bytes_eq key p) true) (h p)
    ∙ swapped (bytes_eq key p) (is_prefix_among (prefixes (take i attributes)) p)
    ∙ sym (ap (λ ps. is_prefix_among ps p) all ∙ is_prefix_among-append (prefixes (take i attributes)) (key ∷ []) p)
  where
    swapped : (a b : Bool) → cond a true b ≡ (b || (a || false))
    swapped true true = refl
    swapped true false = refl
    swapped false true = refl
    swapped false false = refl

-- how many prefixes there are
pub length-seen : (p : Inside) → length (all_prefixes (prefixes_seen p)) ≡ 1 + length p.attributes.now + length p.taken_bindings
length-seen p =
    omega (
      arith,
      length-append (prefixes_of p.name.now p.attributes.now) (map (λ (b : Binding). b.0) p.taken_bindings),
      length-map p.attributes.now (λ (a : Attribute). a.name.prefix),
      length-map p.taken_bindings (λ (b : Binding). b.0),
    )

is_some-texts : (o : Option (Bor (List ℕ))) → is_some o ≡ is_some (option_map (λ u. u.now) o)
is_some-texts None = refl
is_some-texts (Some u) = refl

-- a prefix that no name has is used where it was taken
pub used_taken : (p : Inside) (q : List ℕ) (found : Option (Bor (List ℕ))) → IsPrepared p → bytes_eq p.name.now.prefix q ≡ false
    → contains text_cmp p.attribute_prefixes q ≡ false → option_map (λ u. u.now) found ≡ bound_to p.taken_bindings q
    → is_some found ≡ is_prefix_among (all_prefixes (prefixes_seen p)) q
used_taken p q found h other none e =
    let others = map (λ (a : Attribute). a.name.prefix) p.attributes.now in
    let taken = map (λ (b : Binding). b.0) p.taken_bindings in
    let among : is_prefix_among others q ≡ false = sym (h.set q) ∙ none in
    let all : is_prefix_among ((p.name.now.prefix ∷ others) ++ taken) q ≡ is_prefix_among taken q =
    is_prefix_among-append (p.name.now.prefix ∷ others) taken q ∙ (rw (other, among) refl) in
    is_some-texts found ∙ ap is_some e ∙ is_some-bound_to p.taken_bindings q ∙ sym all
