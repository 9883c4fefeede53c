-- Where the nodes on the far axes stand, and as how many.
use Rattle.std.proofs.Common.{◌≡◌, ℕ, suc, ◌+◌, Bool, true, false, ◌&&◌, ◌||◌, cond, nat_eq, List, [], ◌∷◌, ◌++◌, map, filter, length, Option, None, Some, is_some, refl, sym, ◌∙◌, ap, subst, arith, if◌then◌else◌}
use Rattle.std.specs.Option.{option_map, is_none}
use Rattle.std.proofs.lemmas.Bool.{eqb-true, true≢false}
use Rattle.std.proofs.lemmas.List.Elements.{filter-append, filter_agree}
use Rattle.gx_types.specs.declared.shape.Shape.{Shape}
use Rattle.gx_types.specs.declared.step.Axis.TheVariants as axes
use Rattle.gx_types.specs.Takes.{EachShape}
use Rattle.gx_tree.specs.PlainTree.{PlainTree}
use Rattle.gx_model.specs.Forest.{then_found, children_of, own_attributes, tree_at, attribute_at}
use Rattle.gx_model.specs.Belongs.{shape_of}
use Rattle.gx_model.specs.Location.{Location, along, in_child, attribute_locations, all_locations, located}
use Rattle.gx_model.specs.Axes.{way_down, on_way, no_step, some_steps, same_position, leads_down, to_self, to_descendant, is_itself, is_ancestor, leads_to, passes_there, locations_on}
use Rattle.gx_model.specs.Stepping.{kept_if}
use Rattle.gx_model.proofs.ListLemmas.{filter_mapped, append_none, map_appended}
use Rattle.gx_model.proofs.LocationLemmas.{listed, all_are, no_attribute, under, under_found, down_is_local, nat_is_itself}
use Rattle.gx_steptype.proofs.FoundNodes.{Found, tree_behind}

abbrev pub at : List ℕ → Option ℕ → Location
at path own = record { path = path; attribute = own }

-- nodes that are found one by one

-- a fact of each shape
pub record FoundEach (Fact : Shape → Type 0) (t : PlainTree) (ls : List Location) : Type 0 where
  pub out : List Shape
  pub found : Found t ls out
  pub each : EachShape Fact out

pub each_found : (Fact : Shape → Type 0) (leads : Location → Bool) (p : PlainTree → Bool) (t : PlainTree)
    → ((to : Location) (v : PlainTree) → leads to ≡ true → located t to ≡ Some v → p v ≡ true → Fact (shape_of v))
    → (ls : List Location) → FoundEach Fact t (filter (λ to. leads to && passes_there p (located t to)) ls)
each_found Fact leads p t h [] = record { out = []; found = tt; each = tt }
each_found Fact leads p t h (to ∷ ls) = by (each_found Fact leads p t h ls) (leads to) refl (located t to) refl
  where
    kept_first : (rest : FoundEach Fact t (filter (λ to. leads to && passes_there p (located t to)) ls)) (v : PlainTree) → leads to ≡ true → located t to ≡ Some v → (b : Bool) → p v ≡ b
        → FoundEach Fact t (cond b (to ∷ filter (λ to. leads to && passes_there p (located t to)) ls) (filter (λ to. leads to && passes_there p (located t to)) ls))
    kept_first rest v e f true k = record { out = shape_of v ∷ rest.out; found = (ap (option_map shape_of) f, rest.found); each = (h to v e f k, rest.each) }
    kept_first rest v e f false k = rest

    by : (rest : FoundEach Fact t (filter (λ to. leads to && passes_there p (located t to)) ls)) → (b : Bool) → leads to ≡ b → (o : Option PlainTree) → located t to ≡ o
        → FoundEach Fact t (cond (b && passes_there p o) (to ∷ filter (λ to. leads to && passes_there p (located t to)) ls) (filter (λ to. leads to && passes_there p (located t to)) ls))
    by rest false e o f = rest
    by rest true e None f = rest
    by rest true e (Some v) f = kept_first rest v e f (p v) refl

pub as_many_found : (t : PlainTree) (ls : List Location) (ss : List Shape) → Found t ls ss → length ls ≡ length ss
as_many_found t [] [] f = refl
as_many_found t (l ∷ ls) (x ∷ ss) f = ap suc (as_many_found t ls ss f.1)
as_many_found t [] (x ∷ ss) f = absurd f
as_many_found t (l ∷ ls) [] f = absurd f

-- ways

pub way_is : (from to way : List ℕ) → way_down from to ≡ Some way → to ≡ from ++ way
way_is [] to way e = cc
way_is (m ∷ from) [] way e = absurd (cc)
way_is (m ∷ from) (n ∷ to) way e = by (λ k. way_is from to way k) (nat_eq m n) refl e
  where
    by : (way_down from to ≡ Some way → to ≡ from ++ way) → (b : Bool) → nat_eq m n ≡ b → (if b then way_down from to else None) ≡ Some way → n ∷ to ≡ m ∷ (from ++ way)
    by rest true f k = let first : m ≡ n = eqb-true m n f in let more = rest k in cc
    by rest false f k = absurd (cc)

way_to_itself : (path : List ℕ) → way_down path path ≡ Some []
way_to_itself [] = refl
way_to_itself (n ∷ path) = ap (λ (b : Bool). if b then way_down path path else None) (nat_is_itself n) ∙ way_to_itself path

none_is : (a : Option ℕ) → is_none a ≡ true → a ≡ None
none_is None e = refl
none_is (Some n) e = absurd (true≢false (sym e))

false_second : (b : Bool) → b && false ≡ false
false_second true = refl
false_second false = refl

both_true : (a b : Bool) → a && b ≡ true → (a ≡ true) × (b ≡ true)
both_true true b e = (refl, e)
both_true false b e = absurd (true≢false (sym e))

-- a location below a path
pub record IsBelow (path : List ℕ) (to : Location) : Type 0 where
  pub first : ℕ
  pub way : List ℕ
  pub is : to.path ≡ path ++ first ∷ way
  pub alone : to.attribute ≡ None

pub descendant_is_below : (path : List ℕ) (to : Location) → leads_to axes.Descendant (at path None) to ≡ true → IsBelow path to
descendant_is_below path to e = by (way_down path to.path) refl e
  where
    by : (o : Option (List ℕ)) → way_down path to.path ≡ o → on_way (λ way. to_descendant way to.attribute) o ≡ true → IsBelow path to
    by None f k = absurd (true≢false (sym k))
    by (Some []) f k = absurd (true≢false (sym k))
    by (Some (n ∷ way)) f k = record { first = n; way = way; is = way_is path to.path (n ∷ way) f; alone = none_is to.attribute k }

-- a location above a path, or that of the element of an attribute
pub record IsAbove (path : List ℕ) (own : Option ℕ) (to : Location) : Type 0 where
  pub way : List ℕ
  pub is : path ≡ to.path ++ way
  pub alone : to.attribute ≡ None
  pub farther : (is_some own || some_steps way) ≡ true

pub ancestor_is_above : (path : List ℕ) (own : Option ℕ) (to : Location) → leads_to axes.Ancestor (at path own) to ≡ true → IsAbove path own to
ancestor_is_above path own to e =
    let k = both_true (is_none to.attribute) (on_way (λ way. is_some own || some_steps way) (way_down to.path path)) e in by (none_is to.attribute k.0) (way_down to.path path) refl k.1
  where
    by : to.attribute ≡ None → (o : Option (List ℕ)) → way_down to.path path ≡ o → on_way (λ way. is_some own || some_steps way) o ≡ true → IsAbove path own to
    by alone None f k = absurd (true≢false (sym k))
    by alone (Some way) f k = record { way = way; is = way_is to.path path way f; alone = alone; farther = k }

same_place : (own a : Option ℕ) → same_position own a ≡ true → a ≡ own
same_place None None e = refl
same_place None (Some n) e = absurd (true≢false (sym e))
same_place (Some m) None e = absurd (true≢false (sym e))
same_place (Some m) (Some n) e = ap (λ (i : ℕ). Some i) (sym (eqb-true m n e))

-- the location itself
pub itself_is_there : (t : PlainTree) (path : List ℕ) (own : Option ℕ) (to : Location) → is_itself (at path own) to ≡ true → located t to ≡ located t (at path own)
itself_is_there t path own to e = by (way_down path to.path) refl e
  where
    by : (o : Option (List ℕ)) → way_down path to.path ≡ o → on_way (λ way. to_self own way to.attribute) o ≡ true → located t to ≡ located t (at path own)
    by None f k = absurd (true≢false (sym k))
    by (Some (n ∷ way)) f k = absurd (true≢false (sym k))
    by (Some []) f k =
        let along_path : to.path ≡ path = way_is path to.path [] f ∙ append_none path in
        ap (λ (q : List ℕ). then_found (tree_at t q) (attribute_at to.attribute)) along_path ∙ ap (λ (a : Option ℕ). then_found (tree_at t path) (attribute_at a)) (same_place own to.attribute k)

-- what stands there

no_attribute_there : (o : Option PlainTree) (a : Option ℕ) (v : PlainTree) → a ≡ None → then_found o (attribute_at a) ≡ Some v → o ≡ Some v
no_attribute_there None None v e k = absurd (cc)
no_attribute_there (Some u) None v e k = k
no_attribute_there o (Some n) v e k = absurd (cc)

pub seen_below : (t u v : PlainTree) (path : List ℕ) (to : Location) → tree_at t path ≡ Some u → (b : IsBelow path to) → located t to ≡ Some v → tree_at u (b.first ∷ b.way) ≡ Some v
seen_below t u v path to e b f =
    sym (ap (λ (o : Option PlainTree). then_found o (λ w. tree_at w (b.first ∷ b.way))) e) ∙ sym (tree_behind path (b.first ∷ b.way) t) ∙ ap (tree_at t) (sym b.is)
    ∙ no_attribute_there (tree_at t to.path) to.attribute v b.alone f

pub record SeenAbove (t u v : PlainTree) (path : List ℕ) (own : Option ℕ) (to : Location) : Type 0 where
  pub above : IsAbove path own to
  pub there : tree_at t to.path ≡ Some v
  pub below : tree_at v above.way ≡ Some u

pub seen_above : (t u v : PlainTree) (path : List ℕ) (own : Option ℕ) (to : Location) → tree_at t path ≡ Some u → IsAbove path own to → located t to ≡ Some v → SeenAbove t u v path own to
seen_above t u v path own to e a f =
    let there = no_attribute_there (tree_at t to.path) to.attribute v a.alone f in
    record {
      above = a;
      there = there;
      below =
          sym (ap (λ (o : Option PlainTree). then_found o (λ w. tree_at w a.way)) there) ∙ sym (tree_behind to.path a.way t) ∙ ap (tree_at t) (sym a.is) ∙ e;
    }

-- the node itself comes before its descendants

abbrev to_both : List ℕ → Option ℕ → Bool
to_both way attribute = to_self None way attribute || to_descendant way attribute

either_way : (a : Option ℕ) (o : Option (List ℕ)) → (on_way (λ way. to_self None way a) o || on_way (λ way. to_descendant way a) o) ≡ on_way (λ way. to_both way a) o
either_way a None = refl
either_way a (Some way) = refl

kept_before : (b : Bool) (x : Location) (ls : List Location) → cond b (x ∷ ls) ls ≡ kept_if b x ++ ls
kept_before true x ls = refl
kept_before false x ls = refl

kept_under : (path : List ℕ) (b : Bool) (l : Location) → map (under path) (kept_if b l) ≡ kept_if b (under path l)
kept_under path true l = refl
kept_under path false l = refl

behind_root : (p : PlainTree → Bool) (u : PlainTree) (k : ℕ) (us : List PlainTree)
    → filter (λ to. leads_down to_both [] to && passes_there p (located u to)) (listed k us) ≡ filter (λ to. leads_down to_descendant [] to && passes_there p (located u to)) (listed k us)
behind_root p u k [] = refl
behind_root p u k (c ∷ us) =
    let f : Location → Bool = λ to. leads_down to_both [] to && passes_there p (located u to) in
    let g : Location → Bool = λ to. leads_down to_descendant [] to && passes_there p (located u to) in
    filter-append f (map (in_child k) (all_locations c)) (listed (suc k) us)
    ∙ ap (λ ls. ls ++ filter f (listed (suc k) us)) (
    filter_mapped f (in_child k) (all_locations c)
    ∙ ap (map (in_child k)) (filter_agree (λ to. f (in_child k to)) (λ to. g (in_child k to)) (λ to. refl) (all_locations c))
    ∙ sym (filter_mapped g (in_child k) (all_locations c))
    )
    ∙ ap (λ ls. filter g (map (in_child k) (all_locations c)) ++ ls) (behind_root p u (suc k) us)
    ∙ sym (filter-append g (map (in_child k) (all_locations c)) (listed (suc k) us))

root_first : (p : PlainTree → Bool) (u : PlainTree) → locations_on (leads_down to_both []) p u ≡ kept_if (p u) (along []) ++ locations_on (leads_down to_descendant []) p u
root_first p u =
    let f : Location → Bool = λ to. leads_down to_both [] to && passes_there p (located u to) in
    let g : Location → Bool = λ to. leads_down to_descendant [] to && passes_there p (located u to) in
    let rest : filter f (attribute_locations 0 (own_attributes u) ++ listed 0 (children_of u)) ≡ filter g (attribute_locations 0 (own_attributes u) ++ listed 0 (children_of u)) =
    filter-append f (attribute_locations 0 (own_attributes u)) (listed 0 (children_of u))
    ∙ ap (λ ls. ls ++ filter f (listed 0 (children_of u))) (no_attribute f (λ i. refl) 0 (own_attributes u) ∙ sym (no_attribute g (λ i. refl) 0 (own_attributes u)))
    ∙ ap (λ ls. filter g (attribute_locations 0 (own_attributes u)) ++ ls) (behind_root p u 0 (children_of u))
    ∙ sym (filter-append g (attribute_locations 0 (own_attributes u)) (listed 0 (children_of u))) in
    ap (filter f) (all_are u)
    ∙ kept_before (p u) (along []) (filter f (attribute_locations 0 (own_attributes u) ++ listed 0 (children_of u)))
    ∙ ap (λ ls. kept_if (p u) (along []) ++ ls) (rest ∙ sym (ap (filter g) (all_are u)))

self_under : (p : PlainTree → Bool) (path : List ℕ) (u : PlainTree) (o : Option PlainTree) → o ≡ Some u
    → under_found path o (locations_on (leads_down to_both []) p) ≡ kept_if (p u) (at path None) ++ under_found path o (locations_on (leads_down to_descendant []) p)
self_under p path u o e =
    subst (λ (f : Option PlainTree). under_found path f (locations_on (leads_down to_both []) p) ≡ kept_if (p u) (at path None) ++ under_found path f (locations_on (leads_down to_descendant []) p)) (sym e)
    (ap (map (under path)) (root_first p u) ∙ map_appended (under path) (kept_if (p u) (along [])) (locations_on (leads_down to_descendant []) p u)
    ∙ ap (λ ls. ls ++ map (under path) (locations_on (leads_down to_descendant []) p u)) (kept_under path (p u) (along []) ∙ ap (λ q. kept_if (p u) (at q None)) (append_none path)))

pub self_comes_first : (p : PlainTree → Bool) (path : List ℕ) (t u : PlainTree) → tree_at t path ≡ Some u
    → locations_on (leads_to axes.DescendantOrSelf (at path None)) p t ≡ kept_if (p u) (at path None) ++ locations_on (leads_to axes.Descendant (at path None)) p t
self_comes_first p path t u e =
    filter_agree (λ to. leads_to axes.DescendantOrSelf (at path None) to && passes_there p (located t to)) (λ to. leads_down to_both path to && passes_there p (located t to))
    (λ to. ap (λ (b : Bool). b && passes_there p (located t to)) (either_way to.attribute (way_down path to.path))) (all_locations t)
    ∙ down_is_local to_both p path t
    ∙ self_under p path u (tree_at t path) e
    ∙ ap (λ ls. kept_if (p u) (at path None) ++ ls) (sym (down_is_local to_descendant p path t))

-- an attribute is alone

or_false : (b : Bool) → b || false ≡ b
or_false true = refl
or_false false = refl

pub attribute_alone : (p : PlainTree → Bool) (path : List ℕ) (n : ℕ) (t : PlainTree)
    → locations_on (leads_to axes.DescendantOrSelf (at path (Some n))) p t ≡ locations_on (leads_to axes.SelfAxis (at path (Some n))) p t
attribute_alone p path n t =
    filter_agree (λ to. leads_to axes.DescendantOrSelf (at path (Some n)) to && passes_there p (located t to)) (λ to. leads_to axes.SelfAxis (at path (Some n)) to && passes_there p (located t to))
    (λ to. ap (λ (b : Bool). b && passes_there p (located t to)) (or_false (is_itself (at path (Some n)) to))) (all_locations t)

-- a node is not its own ancestor, so the ancestors and the node itself are as many as both together

never_on_way : (a : Option ℕ) (o : Option (List ℕ)) → on_way (λ way. no_step way && false) o ≡ false
never_on_way a None = refl
never_on_way a (Some way) = false_second (no_step way)

at_itself : (path q : List ℕ) (o : Option (List ℕ)) → way_down path q ≡ o → (on_way (λ way. no_step way && true) o && on_way some_steps (way_down q path)) ≡ false
at_itself path q None e = refl
at_itself path q (Some []) e =
    let same : path ≡ q = sym (append_none path) ∙ sym (way_is path q [] e) in
    ap (on_way some_steps) (subst (λ (r : List ℕ). way_down r path ≡ Some []) same (way_to_itself path))
at_itself path q (Some (n ∷ way)) e = refl

not_its_own : (path : List ℕ) (own : Option ℕ) (to : Location) → (is_itself (at path own) to && is_ancestor (at path own) to) ≡ false
not_its_own path own to = by own to.attribute
  where
    by : (own a : Option ℕ)
        → (on_way (λ way. no_step way && same_position own a) (way_down path to.path) && (is_none a && on_way (λ way. is_some own || some_steps way) (way_down to.path path))) ≡ false
    by own (Some i) = false_second (on_way (λ way. no_step way && same_position own (Some i)) (way_down path to.path))
    by None None = at_itself path to.path (way_down path to.path) refl
    by (Some n) None = ap (λ (b : Bool). b && on_way (λ way. true) (way_down to.path path)) (never_on_way None (way_down path to.path))

counted : (f g h : Location → Bool) → ((x : Location) → (f x && g x) ≡ false) → (ls : List Location)
    → length (filter (λ x. (f x || g x) && h x) ls) ≡ length (filter (λ x. f x && h x) ls) + length (filter (λ x. g x && h x) ls)
counted f g h apart [] = omega arith
counted f g h apart (x ∷ ls) =
    by (f x) (g x) (h x) (apart x) (filter (λ y. (f y || g y) && h y) ls) (filter (λ y. f y && h y) ls) (filter (λ y. g y && h y) ls) (counted f g h apart ls)
  where
    by : (a b c : Bool) → (a && b) ≡ false → (both first second : List Location) → length both ≡ length first + length second
        → length (cond ((a || b) && c) (x ∷ both) both) ≡ length (cond (a && c) (x ∷ first) first) + length (cond (b && c) (x ∷ second) second)
    by true true c e both first second n = absurd (true≢false e)
    by true false true e both first second n = omega arith
    by true false false e both first second n = omega arith
    by false true true e both first second n = omega arith
    by false true false e both first second n = omega arith
    by false false c e both first second n = omega arith

pub as_many_with_itself : (p : PlainTree → Bool) (path : List ℕ) (own : Option ℕ) (t : PlainTree)
    → length (locations_on (leads_to axes.AncestorOrSelf (at path own)) p t) ≡ length (locations_on (leads_to axes.SelfAxis (at path own)) p t) + length (locations_on (leads_to axes.Ancestor (at path own)) p t)
as_many_with_itself p path own t = counted (is_itself (at path own)) (is_ancestor (at path own)) (λ to. passes_there p (located t to)) (not_its_own path own) (all_locations t)
