-- What the item types of a type say of the items of its values.
use Rattle.std.proofs.Common.{◌≡◌, ℕ, suc, ◌≤◌, Bool, true, false, List, [], ◌∷◌, ◌++◌, length, Option, None, Some, refl, sym, ◌∙◌, ap, subst, inl, inr, nat_le, arith}
use Rattle.std.specs.Option.{option_map}
use Rattle.std.proofs.Math.Dec.{T, leb→le}
use Rattle.std.proofs.lemmas.Bool.{and_parts}
use Rattle.gx_base.specs.declared.type_name.Builtin.{Builtin}
use Rattle.gx_base.specs.declared.type_name.TypeName.{TypeName}
use Rattle.gx_base.specs.declared.type_name.TypeName.TheVariants as names
use Rattle.gx_facets.specs.declared.Atomic.{Atomic}
use Rattle.gx_types.specs.declared.item_type.ItemType.{ItemType}
use Rattle.gx_types.specs.declared.item_type.ItemType.TheVariants as items
use Rattle.gx_types.specs.declared.shape.Shape.{Shape}
use Rattle.gx_types.specs.declared.shape.Shape.TheVariants as shapes
use Rattle.gx_types.specs.SchemaSet.{SchemaSet}
use Rattle.gx_types.specs.Derivation.{DerivesFrom}
use Rattle.gx_types.specs.Occurrence.{occurrence_of}
use Rattle.gx_types.specs.SequenceType.{SequenceType, never, nothing, item, both, either, optional, star, plus}
use Rattle.gx_types.specs.Prime.{items_of}
use Rattle.gx_types.specs.ItemTakes.{ItemTakes}
use Rattle.gx_types.specs.Takes.{Takes, EachShape, SomeItemTakes}
use Rattle.gx_types.specs.Laws.{Allows}
use Rattle.gx_types.proofs.PublicLaws.{occurrence_bounds_length, items_take_each_shape}
use Rattle.gx_types.proofs.DerivationOrder.{derivation_is_a_preorder}
use Rattle.gx_types.proofs.DerivationTest.{derives_when_tested}
use Rattle.gx_tree.specs.PlainTree.{PlainTree, document, element, attribute, text}
use Rattle.gx_model.specs.Forest.{Forest, PlainNode, node_in}
use Rattle.gx_model.specs.Item.{Item, atom, node, Items}
use Rattle.gx_model.specs.Belongs.{shape_of, item_shape, ItemFits, HaveShapes, Belongs}
use Rattle.gx_static.specs.Rule.{all_items, is_atomic, is_atomic_in, is_all_in, is_at_least_one, is_at_most_one}

-- each item type of a list passes a test
abbrev AllPass : (ItemType → Bool) → List ItemType → Type 0
AllPass test [] = Unit {0}
AllPass test (kind ∷ kinds) = (test kind ≡ true) × AllPass test kinds

all_pass_joined : (test : ItemType → Bool) (ks ls : List ItemType) → AllPass test ks → AllPass test ls → AllPass test (ks ++ ls)
all_pass_joined test [] ls h k = k
all_pass_joined test (kind ∷ ks) ls h k = (h.0, all_pass_joined test ks ls h.1 k)

all_pass : (test : ItemType → Bool) (t : SequenceType) → all_items test t ≡ true → AllPass test (items_of t)
all_pass test never e = tt
all_pass test nothing e = tt
all_pass test (item kind) e = (e, tt)
all_pass test (both a b) e =
    let p = and_parts (all_items test a) (all_items test b) e in all_pass_joined test (items_of a) (items_of b) (all_pass test a p.0) (all_pass test b p.1)
all_pass test (either a b) e =
    let p = and_parts (all_items test a) (all_items test b) e in all_pass_joined test (items_of a) (items_of b) (all_pass test a p.0) (all_pass test b p.1)
all_pass test (optional a) e = all_pass test a e
all_pass test (star a) e = all_pass test a e
all_pass test (plus a) e = all_pass test a e

some_passed : (s : SchemaSet) (test : ItemType → Bool) (Fact : Shape → Type 0) (kinds : List ItemType) (shape : Shape)
    → ((kind : ItemType) (shape : Shape) → test kind ≡ true → ItemTakes s kind shape → Fact shape) → AllPass test kinds → SomeItemTakes s kinds shape → Fact shape
some_passed s test Fact [] shape f h k = absurd k
some_passed s test Fact (kind ∷ kinds) shape f h (inl k) = f kind shape h.0 k
some_passed s test Fact (kind ∷ kinds) shape f h (inr k) = some_passed s test Fact kinds shape f h.1 k

each_shape : (P Q : Shape → Type 0) (ss : List Shape) → ((shape : Shape) → P shape → Q shape) → EachShape P ss → EachShape Q ss
each_shape P Q [] f h = tt
each_shape P Q (shape ∷ ss) f h = (f shape h.0, each_shape P Q ss f h.1)

-- a fact of each shape, where each item type passes a test that gives the fact
shapes_passed : (s : SchemaSet) (test : ItemType → Bool) (Fact : Shape → Type 0) (t : SequenceType) (ss : List Shape)
    → ((kind : ItemType) (shape : Shape) → test kind ≡ true → ItemTakes s kind shape → Fact shape) → all_items test t ≡ true → Takes s t ss → EachShape Fact ss
shapes_passed s test Fact t ss f e h =
    each_shape (SomeItemTakes s (items_of t)) Fact ss (λ shape k. some_passed s test Fact (items_of t) shape f (all_pass test t e) k) (items_take_each_shape s t ss h)

-- each item of a value
abbrev pub EachItem : (Item → Type 0) → Items → Type 0
EachItem Fact [] = Unit {0}
EachItem Fact (x ∷ xs) = Fact x × EachItem Fact xs

pub each_so : (P Q : Item → Type 0) (xs : Items) → ((x : Item) → P x → Q x) → EachItem P xs → EachItem Q xs
each_so P Q [] f h = tt
each_so P Q (x ∷ xs) f h = (f x h.0, each_so P Q xs f h.1)

-- the one item of a value
pub the_item : (P : Item → Type 0) (xs : Items) (x : Item) → xs ≡ x ∷ [] → EachItem P xs → P x
the_item P xs x e h = (subst (EachItem P) e h).0

each_item : (s : SchemaSet) (forest : Forest) (P : Shape → Type 0) (Q : Item → Type 0) (xs : Items) (ss : List Shape)
    → ((x : Item) (shape : Shape) → item_shape forest x ≡ Some shape → ItemFits s x → P shape → Q x) → HaveShapes s forest xs ss → EachShape P ss → EachItem Q xs
each_item s forest P Q [] [] f h k = tt
each_item s forest P Q [] (shape ∷ ss) f h k = absurd h
each_item s forest P Q (x ∷ xs) [] f h k = absurd h
each_item s forest P Q (x ∷ xs) (shape ∷ ss) f h k = (f x shape h.0 h.1 k.0, each_item s forest P Q xs ss f h.2 k.1)

no_node_is_atomic : (t : PlainTree) (kind : TypeName) → shape_of t ≡ shapes.Atom kind → ⊥
no_node_is_atomic (document ts) kind e = cc
no_node_is_atomic (element name k list ts) kind e = cc
no_node_is_atomic (attribute a) kind e = cc
no_node_is_atomic (text t) kind e = cc

shown_is_atomic : (found : Option PlainTree) (kind : TypeName) → option_map shape_of found ≡ Some (shapes.Atom kind) → ⊥
shown_is_atomic None kind e = cc
shown_is_atomic (Some t) kind e = let same : shape_of t ≡ shapes.Atom kind = cc in no_node_is_atomic t kind same

-- an atomic value with this type
pub record IsAtomWith (kind : TypeName) (x : Item) : Type 0 where
  pub value : Atomic
  pub is : x ≡ atom value
  pub typed : value.kind ≡ kind

atom_of_shape : (forest : Forest) (x : Item) (shape : Shape) (kind : TypeName) → item_shape forest x ≡ Some shape → shape ≡ shapes.Atom kind → IsAtomWith kind x
atom_of_shape forest (atom a) shape kind e h =
    let same : Some (shapes.Atom a.kind) ≡ Some (shapes.Atom kind) = e ∙ ap Some h in
    record { value = a; is = refl; typed = cc }
atom_of_shape forest (node place) shape kind e h = absurd (shown_is_atomic (node_in forest place) kind (e ∙ ap Some h))

-- values of atomic types
abbrev IsAtomShape : Shape → Type 0
IsAtomShape shape = (kind : TypeName) × (shape ≡ shapes.Atom kind)

atomic_taken : (s : SchemaSet) (kind : ItemType) (shape : Shape) → is_atomic kind ≡ true → ItemTakes s kind shape → IsAtomShape shape
atomic_taken s (items.Atom k) (shapes.Atom t) e h = (t, refl)
atomic_taken s (items.Atom k) _ e h = absurd h
atomic_taken s _ _ e h = absurd (cc)

abbrev pub IsAtom : Item → Type 0
IsAtom x = (a : Atomic) × (x ≡ atom a)

pub items_are_atoms : (s : SchemaSet) (forest : Forest) (xs : Items) (t : SequenceType) → all_items is_atomic t ≡ true → Belongs s forest xs t → EachItem IsAtom xs
items_are_atoms s forest xs t e b =
    each_item s forest IsAtomShape IsAtom xs b.seen (λ x shape shown fits k. let a = atom_of_shape forest x shape k.0 shown k.1 in (a.value, a.is)) b.shaped
    (shapes_passed s is_atomic IsAtomShape t b.seen (atomic_taken s) e b.taken)

-- values of node types

abbrev pub is_node_item : ItemType → Bool
is_node_item (items.Atom kind) = false
is_node_item _ = true

abbrev IsNodeShape : Shape → Type 0
IsNodeShape (shapes.Atom kind) = ⊥
IsNodeShape _ = Unit {0}

node_taken : (s : SchemaSet) (kind : ItemType) (shape : Shape) → is_node_item kind ≡ true → ItemTakes s kind shape → IsNodeShape shape
node_taken s (items.Atom k) shape e h = absurd (cc)
node_taken s (items.Element name k) (shapes.Atom t) e h = h
node_taken s (items.Attribute name k) (shapes.Atom t) e h = h
node_taken s items.Text (shapes.Atom t) e h = h
node_taken s (items.Document None) (shapes.Atom t) e h = h
node_taken s (items.Document (Some named)) (shapes.Atom t) e h = h
node_taken s kind _ e h = tt

abbrev pub IsNode : Item → Type 0
IsNode x = (place : PlainNode) × (x ≡ node place)

node_of_shape : (forest : Forest) (x : Item) (shape : Shape) → item_shape forest x ≡ Some shape → IsNodeShape shape → IsNode x
node_of_shape forest (atom a) shape e h = let same : shape ≡ shapes.Atom a.kind = cc in absurd (subst IsNodeShape same h)
node_of_shape forest (node place) shape e h = (place, refl)

pub items_are_nodes : (s : SchemaSet) (forest : Forest) (xs : Items) (t : SequenceType) → all_items is_node_item t ≡ true → Belongs s forest xs t → EachItem IsNode xs
items_are_nodes s forest xs t e b =
    each_item s forest IsNodeShape IsNode xs b.seen (λ x shape shown fits k. node_of_shape forest x shape shown k) b.shaped
    (shapes_passed s is_node_item IsNodeShape t b.seen (node_taken s) e b.taken)

-- values of types that are derived from a built-in type
abbrev pub IsShapeIn : SchemaSet → Builtin → Shape → Type 0
IsShapeIn s b shape = (kind : TypeName) × (shape ≡ shapes.Atom kind) × DerivesFrom s kind (names.Builtin b)

pub derived_taken : (s : SchemaSet) (b : Builtin) (kind : ItemType) (shape : Shape) → is_atomic_in s b kind ≡ true → ItemTakes s kind shape → IsShapeIn s b shape
derived_taken s b (items.Atom k) (shapes.Atom t) e h =
    (t, refl, derivation_is_a_preorder.transitive s t k (names.Builtin b) h (derives_when_tested s k (names.Builtin b) e))
derived_taken s b (items.Atom k) _ e h = absurd h
derived_taken s b _ _ e h = absurd (cc)

-- an atomic value that fits its type, which is derived from a built-in type
pub record IsAtomIn (s : SchemaSet) (b : Builtin) (x : Item) : Type 0 where
  pub value : Atomic
  pub is : x ≡ atom value
  pub derived : DerivesFrom s value.kind (names.Builtin b)
  pub fits : ItemFits s (atom value)

pub atom_in : (s : SchemaSet) (forest : Forest) (b : Builtin) (x : Item) (shape : Shape) (kind : ItemType) → is_atomic_in s b kind ≡ true → ItemTakes s kind shape → item_shape forest x ≡ Some shape → ItemFits s x → IsAtomIn s b x
atom_in s forest b x shape kind passes takes shown fits =
    let k = derived_taken s b kind shape passes takes in
    let a = atom_of_shape forest x shape k.0 shown k.1 in record {
      value = a.value;
      is = a.is;
      derived = subst (λ (kind : TypeName). DerivesFrom s kind (names.Builtin b)) (sym a.typed) k.2;
      fits = subst (ItemFits s) a.is fits;
    }

-- an item that an item type takes which passes a test
pub record Meets (s : SchemaSet) (forest : Forest) (test : ItemType → Bool) (x : Item) : Type 0 where
  pub kind : ItemType
  pub shape : Shape
  pub passes : test kind ≡ true
  pub takes : ItemTakes s kind shape
  pub shown : item_shape forest x ≡ Some shape
  pub fits : ItemFits s x

abbrev IsTaken : SchemaSet → (ItemType → Bool) → Shape → Type 0
IsTaken s test shape = (kind : ItemType) × (test kind ≡ true) × ItemTakes s kind shape

pub items_meet : (s : SchemaSet) (forest : Forest) (test : ItemType → Bool) (xs : Items) (t : SequenceType) → all_items test t ≡ true → Belongs s forest xs t → EachItem (Meets s forest test) xs
items_meet s forest test xs t e belongs =
    each_item s forest (IsTaken s test) (Meets s forest test) xs belongs.seen
    (λ x shape shown fits k. record { kind = k.0; shape = shape; passes = k.1; takes = k.2; shown = shown; fits = fits })
    belongs.shaped (shapes_passed s test (IsTaken s test) t belongs.seen (λ kind shape passes takes. (kind, passes, takes)) e belongs.taken)

pub items_are_in : (s : SchemaSet) (forest : Forest) (b : Builtin) (xs : Items) (t : SequenceType) → is_all_in s b t ≡ true → Belongs s forest xs t → EachItem (IsAtomIn s b) xs
items_are_in s forest b xs t e belongs = each_so (Meets s forest (is_atomic_in s b)) (IsAtomIn s b) xs
    (λ x m. atom_in s forest b x m.shape m.kind m.passes m.takes m.shown m.fits) (items_meet s forest (is_atomic_in s b) xs t e belongs)

-- how many items a value of a type has
have_length : (s : SchemaSet) (forest : Forest) (xs : Items) (ss : List Shape) → HaveShapes s forest xs ss → length ss ≡ length xs
have_length s forest [] [] h = refl
have_length s forest [] (shape ∷ ss) h = absurd h
have_length s forest (x ∷ xs) [] h = absurd h
have_length s forest (x ∷ xs) (shape ∷ ss) h = ap suc (have_length s forest xs ss h.2)

pub belongs_within : (s : SchemaSet) (forest : Forest) (t : SequenceType) (xs : Items) → Belongs s forest xs t → Allows (occurrence_of t) (length xs)
belongs_within s forest t xs b =
    subst (λ (n : ℕ). Allows (occurrence_of t) n) (have_length s forest xs b.seen b.shaped) (occurrence_bounds_length s t b.seen b.taken)

pub at_most_one : (n : ℕ) → nat_le n 1 ≡ true → n ≤ 1
at_most_one n e = leb→le n 1 (subst (λ (b : Bool). T b) (sym e) tt)

pub at_least_one : (n : ℕ) → nat_le 1 n ≡ true → 1 ≤ n
at_least_one n e = leb→le 1 n (subst (λ (b : Bool). T b) (sym e) tt)

-- the item of a value of exactly one
pub one_item : (s : SchemaSet) (forest : Forest) (t : SequenceType) (xs : Items) → is_at_least_one t ≡ true → is_at_most_one t ≡ true → Belongs s forest xs t → (x : Item) × (xs ≡ x ∷ [])
one_item s forest t xs low high b =
    let v = belongs_within s forest t xs b in
    let g = at_most_one (occurrence_of t).greatest high in
    let l = at_least_one (occurrence_of t).least low in
    let w = v.greatest (omega (arith, g)) in
    alone xs (omega (arith, v.least, l)) (omega (arith, w, g))
  where
    alone : (ys : Items) → 1 ≤ length ys → length ys ≤ 1 → (x : Item) × (ys ≡ x ∷ [])
    alone [] l h = absurd (omega (arith, l))
    alone (x ∷ []) l h = (x, refl)
    alone (x ∷ y ∷ ys) l h = absurd (omega (arith, h))
