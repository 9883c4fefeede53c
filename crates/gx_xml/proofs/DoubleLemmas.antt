-- A search for two equal keys, with a set of those before.
use Rattle.std.proofs.Common.{◌≡◌, ℕ, suc, ◌+◌, ◌<◌, ◌≤◌, Bool, true, false, cond, List, [], ◌∷◌, ◌++◌, length, take, drop, get_or, map, refl, sym, ap, ◌∙◌, subst, add-one, drop-cons, arith}
use Rattle.std.specs.Prelude.{◌||◌, ◌&&◌, bytes_eq}
use Rattle.std.specs.List.{list_any}
use Rattle.std.specs.declared.cmp.Ordering.{Ordering}
use Rattle.std.specs.declared.cmp.Ordering.TheVariants.{Less, Equal, Greater}
use Rattle.std.specs.Ordering.{is_eq, ordering_then}
use Rattle.std.specs.BTreeSet.{BTreeSet, contains, UpdatesBy}
use Rattle.std.proofs.lemmas.List.{drop_all, map-append, take_more}
use Rattle.std.proofs.lemmas.Map.Text.{is_eq-slice_cmp}
use Rattle.gx_base.specs.declared.name.Name.{Name}
use Rattle.gx_base.specs.Name.{name_cmp, same_name}
use Rattle.gx_base.specs.Text.{text_cmp}
use Rattle.gx_xml.specs.Tags.{repeats_behind}

pub texts_agree : (a b : List ℕ) → is_eq (text_cmp a b) ≡ bytes_eq a b
texts_agree a b = is_eq-slice_cmp a b

both_equal : (o p : Ordering) → is_eq (ordering_then o p) ≡ (is_eq o && is_eq p)
both_equal Less p = refl
both_equal Equal p = refl
both_equal Greater p = refl

pub names_agree : (a b : Name) → is_eq (name_cmp a b) ≡ same_name a b
names_agree a b = both_equal (text_cmp a.uri b.uri) (text_cmp a.local b.local) ∙ ap (λ x. x && is_eq (text_cmp a.local b.local)) (texts_agree a.uri b.uri) ∙ ap (λ x. bytes_eq a.uri b.uri && x) (texts_agree a.local b.local)

swapped : (a b : Bool) → cond a true b ≡ (b || (a || false))
swapped true true = refl
swapped true false = refl
swapped false true = refl
swapped false false = refl

or_assoc : (a b c : Bool) → (a || (b || c)) ≡ ((a || b) || c)
or_assoc true b c = refl
or_assoc false b c = refl

pub any-append : {K : Type 0} (p : K → Bool) (xs ys : List K) → list_any p (xs ++ ys) ≡ (list_any p xs || list_any p ys)
any-append p [] ys = refl
any-append p (x ∷ xs) ys = ap (λ t. p x || t) (any-append p xs ys) ∙ or_assoc (p x) (list_any p xs) (list_any p ys)

module _ {K X : Type 0} (cmp : K → K → Ordering) (eq : K → K → Bool) (agree : (a b : K) → is_eq (cmp a b) ≡ eq a b) (key : X → K) where
  -- the set has these keys and no others
  abbrev pub Holds : List K → BTreeSet K → Type 0
  Holds ks set = (k : K) → contains cmp set k ≡ list_any (λ y. eq y k) ks

  holds_next : (ks : List K) (k : K) (old new : BTreeSet K) → UpdatesBy cmp (cmp k) old new true → Holds ks old → Holds (ks ++ k ∷ []) new
  holds_next ks k old new u h q =
      u.0 q ∙ ap (λ t. cond t true (contains cmp old q)) (agree k q) ∙ ap (cond (eq k q) true) (h q) ∙ swapped (eq k q) (list_any (λ y. eq y q) ks) ∙ sym (any-append (λ y. eq y q) ks (k ∷ []))

  -- the first i are no two equal, and the set has their keys
  pub record Searched (xs : List X) (i : ℕ) (set : BTreeSet K) : Type 0 where
    pub held : Holds (map key (take i xs)) set
    pub rest : repeats_behind eq (map key (take i xs)) (map key (drop i xs)) ≡ repeats_behind eq [] (map key xs)

  here : (xs : List X) (i : ℕ) (x : X) → i < length xs → x ≡ get_or xs i x → drop i xs ≡ x ∷ drop (i + 1) xs
  here xs i x below at = drop-cons xs i x below ∙ ap (λ y. y ∷ drop (suc i) xs) (sym at) ∙ ap (λ k. x ∷ drop k xs) (sym (add-one i))

  more : (xs : List X) (i : ℕ) (x : X) → i < length xs → x ≡ get_or xs i x → map key (take (i + 1) xs) ≡ map key (take i xs) ++ key x ∷ []
  more xs i x below at = ap (map key) (take_more xs i x below ∙ ap (λ y. take i xs ++ y ∷ []) (sym at)) ∙ map-append key (take i xs) (x ∷ [])

  pub searched_none : (xs : List X) (set : BTreeSet K) → ((k : K) → contains cmp set k ≡ false) → Searched xs 0 set
  searched_none xs set h = record { held = h; rest = refl }

  pub searched_hit : (xs : List X) (i : ℕ) (x : X) (set : BTreeSet K) → i < length xs → x ≡ get_or xs i x → contains cmp set (key x) ≡ true → Searched xs i set → repeats_behind eq [] (map key xs) ≡ true
  searched_hit xs i x set below at found s =
      sym s.rest ∙ ap (λ r. repeats_behind eq (map key (take i xs)) (map key r)) (here xs i x below at)
      ∙ ap (λ b. b || repeats_behind eq (map key (take i xs) ++ key x ∷ []) (map key (drop (i + 1) xs))) (sym (s.held (key x)) ∙ found)

  pub searched_next : (xs : List X) (i : ℕ) (x : X) (k : K) (old new : BTreeSet K) → i < length xs → x ≡ get_or xs i x → k ≡ key x → contains cmp old (key x) ≡ false
      → UpdatesBy cmp (cmp k) old new true → Searched xs i old → Searched xs (i + 1) new
  searched_next xs i x k old new below at own none u s = record {
    held = subst (λ ks. Holds ks new) (sym (more xs i x below at)) (holds_next (map key (take i xs)) (key x) old new (subst (λ (q : K). UpdatesBy cmp (cmp q) old new true) own u) s.held);
    rest = ap (λ ks. repeats_behind eq ks (map key (drop (i + 1) xs))) (more xs i x below at)
        ∙ ap (λ b. b || repeats_behind eq (map key (take i xs) ++ key x ∷ []) (map key (drop (i + 1) xs))) (sym none ∙ s.held (key x))
        ∙ sym (ap (λ r. repeats_behind eq (map key (take i xs)) (map key r)) (here xs i x below at)) ∙ s.rest;
  }

  pub searched_all : (xs : List X) (i : ℕ) (set : BTreeSet K) → length xs ≤ i → Searched xs i set → repeats_behind eq [] (map key xs) ≡ false
  searched_all xs i set past s = sym s.rest ∙ ap (λ r. repeats_behind eq (map key (take i xs)) (map key r)) (drop_all i xs past)

-- one name repeats none
pub few_repeat_not : {A B : Type 0} (same : B → B → Bool) (f : A → B) (xs : List A) → length xs < 2 → repeats_behind same [] (map f xs) ≡ false
few_repeat_not same f [] h = refl
few_repeat_not same f (x ∷ []) h = refl
few_repeat_not same f (x ∷ y ∷ xs) h = absurd (omega arith)
