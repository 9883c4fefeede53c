-- Steps to children, to attributes and to the node itself: from nodes that ascend and stand beside one another they give nodes that do.
use Rattle.std.proofs.Common.{◌≡◌, ℕ, ◌+◌, ◌==◌, Bool, true, false, ◌&&◌, nat_eq, nat_lt, cond, List, [], ◌∷◌, ◌++◌, length, map, filter, Option, None, Some, is_some, refl, sym, ◌∙◌, ap, subst, arith, if◌then◌else◌}
use Rattle.std.specs.List.{slice_get}
use Rattle.std.specs.Option.{is_none}
use Rattle.std.proofs.lemmas.Bool.{and_parts, eqb-true}
use Rattle.std.proofs.lemmas.List.{append-nil, length-append}
use Rattle.gx_types.specs.declared.step.Axis.{Axis}
use Rattle.gx_types.specs.declared.step.Axis.TheVariants as axes
use Rattle.gx_types.specs.declared.step.Test.{Test}
use Rattle.gx_types.specs.SchemaSet.{SchemaSet}
use Rattle.gx_tree.specs.PlainTree.{PlainTree}
use Rattle.gx_model.specs.Axes.{way_down, on_way, no_step, one_step, same_position, to_self, to_child, to_attribute, leads_down, leads_to, passes, passes_there, locations_on, nodes_in_tree, on_axis}
use Rattle.gx_model.specs.DocumentOrder.{path_comes_first, comes_before}
use Rattle.gx_model.specs.Forest.{Forest, PlainNode}
use Rattle.gx_model.specs.Location.{Location, all_locations, located, location_of, node_of_tree}
use Rattle.gx_model.specs.OrderLaws.{Every, Ascends}
use Rattle.gx_model.specs.PathLaws.{on_axis_from_each}
use Rattle.gx_rules.specs.Guards.{is_near}

-- ---- the way from a node to one beside it

record Way (test : List ℕ → Bool) (from to : List ℕ) : Type 0 where
  steps : List ℕ
  leads : to ≡ from ++ steps
  passes : test steps ≡ true

way_of : (test : List ℕ → Bool) (from to : List ℕ) → on_way test (way_down from to) ≡ true → Way test from to
way_of test [] to e = record { steps = to; leads = refl; passes = e }
way_of test (m ∷ from) [] e = absurd (cc)
way_of test (m ∷ from) (n ∷ to) e = if_same (nat_eq m n) refl (way_of test from to) e
  where
    if_same : (b : Bool) → nat_eq m n ≡ b → (on_way test (way_down from to) ≡ true → Way test from to)
        → on_way test (if b then way_down from to else None) ≡ true → Way test (m ∷ from) (n ∷ to)
    if_same true same below f =
        let way = below f in
        let number : m ≡ n = eqb-true m n same in
        record { steps = way.steps; leads = ap (λ (ns : List ℕ). n ∷ ns) way.leads ∙ ap (λ (k : ℕ). k ∷ from ++ way.steps) (sym number); passes = way.passes }
    if_same false same below f = absurd (cc)

-- how many levels such a step goes down, and whether it gives attributes
abbrev pub levels_down : Axis → ℕ
levels_down axes.Child = 1
levels_down _ = 0

abbrev pub gives_attributes : Axis → (from_attributes : Bool) → Bool
gives_attributes axes.Child from_attributes = false
gives_attributes axes.Attribute from_attributes = true
gives_attributes _ from_attributes = from_attributes

-- a node that such a step gives: from an attribute it is the attribute itself
pub record IsNearTo (axis : Axis) (from to : PlainNode) : Type 0 where
  pub tree : to.tree ≡ from.tree
  pub steps : List ℕ
  pub leads : to.path ≡ from.path ++ steps
  pub levels : length steps ≡ levels_down axis
  pub attribute : is_some to.attribute ≡ gives_attributes axis (is_some from.attribute)
  pub itself : is_some from.attribute ≡ true → to ≡ from

none_is_not_some : {A : Type 0} (a : Option A) → is_none a ≡ true → is_some a ≡ false
none_is_not_some None e = refl
none_is_not_some (Some x) e = absurd (cc)

some_is_not_none : {A : Type 0} (a : Option A) → is_none a ≡ true → is_some a ≡ true → ⊥
some_is_not_none None e f = cc
some_is_not_none (Some x) e f = cc

one_step_long : (steps : List ℕ) → one_step steps ≡ true → length steps ≡ 1
one_step_long [] e = absurd (cc)
one_step_long (n ∷ []) e = refl
one_step_long (m ∷ n ∷ steps) e = absurd (cc)

no_step_none : (steps : List ℕ) → no_step steps ≡ true → steps ≡ []
no_step_none [] e = refl
no_step_none (n ∷ steps) e = absurd (cc)

positions_same : (a b : Option ℕ) → same_position a b ≡ true → a ≡ b
positions_same None None e = refl
positions_same (Some m) (Some n) e = ap Some (eqb-true m n e)
positions_same None (Some n) e = absurd (cc)
positions_same (Some m) None e = absurd (cc)

same_when_all_same : (tree : ℕ) (path other : List ℕ) (a b : Option ℕ) → path ≡ other → a ≡ b
    → (let x : PlainNode = record { tree = tree; path = path; attribute = a } in x) ≡ record { tree = tree; path = other; attribute = b }
same_when_all_same tree path other a b e f = cc

near_of : (axis : Axis) (from : PlainNode) (to : Location) → is_near axis ≡ true → leads_to axis (location_of from) to ≡ true
    → IsNearTo axis from (node_of_tree from.tree to)
near_of axes.Child from to e h =
    let both = and_parts (is_none from.attribute) (leads_down to_child from.path to) h in
    let way = way_of (λ steps. to_child steps to.attribute) from.path to.path both.1 in
    let passed = and_parts (one_step way.steps) (is_none to.attribute) way.passes in record {
      tree = refl;
      steps = way.steps;
      leads = way.leads;
      levels = one_step_long way.steps passed.0;
      attribute = none_is_not_some to.attribute passed.1;
      itself = λ f. absurd (some_is_not_none from.attribute both.0 f);
    }
near_of axes.Attribute from to e h =
    let both = and_parts (is_none from.attribute) (leads_down to_attribute from.path to) h in
    let way = way_of (λ steps. to_attribute steps to.attribute) from.path to.path both.1 in
    let passed = and_parts (no_step way.steps) (is_some to.attribute) way.passes in record {
      tree = refl;
      steps = way.steps;
      leads = way.leads;
      levels = ap length (no_step_none way.steps passed.0);
      attribute = passed.1;
      itself = λ f. absurd (some_is_not_none from.attribute both.0 f);
    }
near_of axes.SelfAxis from to e h =
    let way = way_of (λ steps. to_self from.attribute steps to.attribute) from.path to.path h in
    let passed = and_parts (no_step way.steps) (same_position from.attribute to.attribute) way.passes in
    let none : way.steps ≡ [] = no_step_none way.steps passed.0 in
    let own : to.attribute ≡ from.attribute = sym (positions_same from.attribute to.attribute passed.1) in record {
      tree = refl;
      steps = way.steps;
      leads = way.leads;
      levels = ap length none;
      attribute = ap is_some own;
      itself = λ f. same_when_all_same from.tree to.path from.path to.attribute from.attribute
          (way.leads ∙ ap (λ (steps : List ℕ). from.path ++ steps) none ∙ append-nil from.path) own;
    }
near_of _ from to e h = absurd (cc)

every_chosen : {A B : Type 0} (make : A → B) (test : A → Bool) (P : B → Type 0) (xs : List A) → ((x : A) → test x ≡ true → P (make x))
    → Every P (map make (filter test xs))
every_chosen make test P [] f = tt
every_chosen {A = A} {B = B} make test P (x ∷ xs) f = if_kept (test x) refl (every_chosen make test P xs f)
  where
    if_kept : (b : Bool) → test x ≡ b → Every P (map make (filter test xs)) → Every P (map make (cond b (x ∷ filter test xs) (filter test xs)))
    if_kept true e rest = (f x e, rest)
    if_kept false e rest = rest

pub near_on_axis : (s : SchemaSet) (forest : Forest) (from : PlainNode) (axis : Axis) (asks : Test) → is_near axis ≡ true
    → Every (IsNearTo axis from) (on_axis s forest from axis asks)
near_on_axis s forest from axis asks e = in_tree (slice_get forest from.tree)
  where
    in_tree : (found : Option PlainTree)
        → Every (IsNearTo axis from) (nodes_in_tree found from.tree (locations_on (leads_to axis (location_of from)) (passes s axis asks)))
    in_tree None = tt
    in_tree (Some t) =
        every_chosen (node_of_tree from.tree) (λ to. leads_to axis (location_of from) to && passes_there (passes s axis asks) (located t to)) (IsNearTo axis from)
        (all_locations t)
        (λ to h. near_of axis from to e (and_parts (leads_to axis (location_of from) to) (passes_there (passes s axis asks) (located t to)) h).0)

-- ---- what stands below one comes before what stands below a later one

path_goes_on : (p q v w : List ℕ) (a b : Option ℕ) → length p ≡ length q → path_comes_first p None q None ≡ true
    → path_comes_first (p ++ v) a (q ++ w) b ≡ true
path_goes_on [] [] v w a b l e = absurd (cc)
path_goes_on [] (n ∷ q) v w a b l e = absurd (omega (arith, l))
path_goes_on (m ∷ p) [] v w a b l e = absurd (omega (arith, l))
path_goes_on (m ∷ p) (n ∷ q) v w a b l e = by_test (nat_eq m n) (path_goes_on p q v w a b (omega (arith, l))) e
  where
    by_test : (c : Bool) → (path_comes_first p None q None ≡ true → path_comes_first (p ++ v) a (q ++ w) b ≡ true)
        → (if c then path_comes_first p None q None else nat_lt m n) ≡ true → (if c then path_comes_first (p ++ v) a (q ++ w) b else nat_lt m n) ≡ true
    by_test true below f = below f
    by_test false below f = f

is_none_where : {A : Type 0} (a : Option A) → is_some a ≡ false → a ≡ None
is_none_where None e = refl
is_none_where (Some x) e = absurd (cc)

-- nodes of one depth, all of them attributes, or none
abbrev pub IsAtLevel : (depth : ℕ) → (attributes : Bool) → PlainNode → Type 0
IsAtLevel depth attributes n = (length n.path ≡ depth) × (is_some n.attribute ≡ attributes)

near_come_before : (axis : Axis) (depth : ℕ) (attributes : Bool) (a b x y : PlainNode) → IsAtLevel depth attributes a → IsAtLevel depth attributes b
    → IsNearTo axis a x → IsNearTo axis b y → comes_before a b ≡ true → comes_before x y ≡ true
near_come_before axis depth true a b x y here there first second e =
    subst (λ (n : PlainNode). comes_before n y ≡ true) (sym (first.itself here.1))
    (subst (λ (n : PlainNode). comes_before a n ≡ true) (sym (second.itself there.1)) e)
near_come_before axis depth false a b x y here there first second e =
    subst (λ (t : ℕ). (if t == y.tree then path_comes_first x.path x.attribute y.path y.attribute else nat_lt t y.tree) ≡ true) (sym first.tree)
    (subst (λ (t : ℕ). (if a.tree == t then path_comes_first x.path x.attribute y.path y.attribute else nat_lt a.tree t) ≡ true) (sym second.tree)
    (by_tree (a.tree == b.tree) e))
  where
    paths : path_comes_first a.path a.attribute b.path b.attribute ≡ true → path_comes_first x.path x.attribute y.path y.attribute ≡ true
    paths f =
        subst (λ (p : List ℕ). path_comes_first p x.attribute y.path y.attribute ≡ true) (sym first.leads)
        (subst (λ (p : List ℕ). path_comes_first (a.path ++ first.steps) x.attribute p y.attribute ≡ true) (sym second.leads)
        (path_goes_on a.path b.path first.steps second.steps x.attribute y.attribute (here.0 ∙ sym there.0)
        (subst (λ (o : Option ℕ). path_comes_first a.path o b.path None ≡ true) (is_none_where a.attribute here.1)
        (subst (λ (o : Option ℕ). path_comes_first a.path a.attribute b.path o ≡ true) (is_none_where b.attribute there.1) f))))

    by_tree : (c : Bool) → (if c then path_comes_first a.path a.attribute b.path b.attribute else nat_lt a.tree b.tree) ≡ true
        → (if c then path_comes_first x.path x.attribute y.path y.attribute else nat_lt a.tree b.tree) ≡ true
    by_tree true f = paths f
    by_tree false f = f

-- ---- steps from several nodes

every_joined : {A : Type 0} (P : A → Type 0) (xs ys : List A) → Every P xs → Every P ys → Every P (xs ++ ys)
every_joined P [] ys h g = g
every_joined P (x ∷ xs) ys h g = (h.0, every_joined P xs ys h.1 g)

every_so : {A : Type 0} (P Q : A → Type 0) (xs : List A) → ((x : A) → P x → Q x) → Every P xs → Every Q xs
every_so P Q [] f h = tt
every_so P Q (x ∷ xs) f h = (f x h.0, every_so P Q xs f h.1)

ascend_joined : {A : Type 0} (before : A → A → Bool) (xs ys : List A) → Ascends before xs → Ascends before ys
    → Every (λ x. Every (λ y. before x y ≡ true) ys) xs → Ascends before (xs ++ ys)
ascend_joined before [] ys h g e = g
ascend_joined before (x ∷ xs) ys h g e = (every_joined (λ y. before x y ≡ true) xs ys h.0 e.0, ascend_joined before xs ys h.1 g e.1)

-- nodes of one level that ascend
pub record IsFlat (depth : ℕ) (attributes : Bool) (nodes : List PlainNode) : Type 0 where
  pub level : Every (IsAtLevel depth attributes) nodes
  pub ascends : Ascends comes_before nodes

near_level : (axis : Axis) (depth : ℕ) (attributes : Bool) (from to : PlainNode) → IsAtLevel depth attributes from → IsNearTo axis from to
    → IsAtLevel (depth + levels_down axis) (gives_attributes axis attributes) to
near_level axis depth attributes from to level near = (
  ap length near.leads ∙ length-append from.path near.steps ∙ ap (λ (n : ℕ). n + length near.steps) level.0 ∙ ap (λ (n : ℕ). depth + n) near.levels,
  near.attribute ∙ ap (gives_attributes axis) level.1,
)

module _ (s : SchemaSet) (forest : Forest) (axis : Axis) (asks : Test) (near : is_near axis ≡ true)
    (ascending : (from : PlainNode) → Ascends comes_before (on_axis s forest from axis asks)) where
  every_from_each : (P Q : PlainNode → Type 0) (nodes : List PlainNode) → ((from to : PlainNode) → P from → IsNearTo axis from to → Q to) → Every P nodes
      → Every Q (on_axis_from_each s forest axis asks nodes)
  every_from_each P Q [] f h = tt
  every_from_each P Q (n ∷ nodes) f h =
      every_joined Q (on_axis s forest n axis asks) (on_axis_from_each s forest axis asks nodes)
      (every_so (IsNearTo axis n) Q (on_axis s forest n axis asks) (λ to k. f n to h.0 k) (near_on_axis s forest n axis asks near))
      (every_from_each P Q nodes f h.1)

  every_both : (P Q : PlainNode → Type 0) (nodes : List PlainNode) → Every P nodes → Every Q nodes → Every (λ n. P n × Q n) nodes
  every_both P Q [] h g = tt
  every_both P Q (n ∷ nodes) h g = ((h.0, g.0), every_both P Q nodes h.1 g.1)

  pub flat_from_each : (depth : ℕ) (attributes : Bool) (nodes : List PlainNode) → IsFlat depth attributes nodes
      → IsFlat (depth + levels_down axis) (gives_attributes axis attributes) (on_axis_from_each s forest axis asks nodes)
  flat_from_each depth attributes [] flat = record { level = tt; ascends = tt }
  flat_from_each depth attributes (n ∷ nodes) flat =
      let rest = flat_from_each depth attributes nodes (record { level = flat.level.1; ascends = flat.ascends.1 }) in record {
        level = every_joined (IsAtLevel (depth + levels_down axis) (gives_attributes axis attributes)) (on_axis s forest n axis asks)
            (on_axis_from_each s forest axis asks nodes)
            (every_so (IsNearTo axis n) (IsAtLevel (depth + levels_down axis) (gives_attributes axis attributes)) (on_axis s forest n axis asks)
            (λ to k. near_level axis depth attributes n to flat.level.0 k) (near_on_axis s forest n axis asks near))
            rest.level;
        ascends = ascend_joined comes_before (on_axis s forest n axis asks) (on_axis_from_each s forest axis asks nodes) (ascending n) rest.ascends
            (every_so (IsNearTo axis n) (λ x. Every (λ y. comes_before x y ≡ true) (on_axis_from_each s forest axis asks nodes)) (on_axis s forest n axis asks)
            (λ x k. every_from_each (λ m. (comes_before n m ≡ true) × IsAtLevel depth attributes m) (λ y. comes_before x y ≡ true) nodes
            (λ m y h l. near_come_before axis depth attributes n m x y flat.level.0 h.1 k l h.0)
            (every_both (λ m. comes_before n m ≡ true) (IsAtLevel depth attributes) nodes flat.ascends.0 flat.level.1))
            (near_on_axis s forest n axis asks near));
      }
