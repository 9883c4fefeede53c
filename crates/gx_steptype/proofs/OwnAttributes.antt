-- Attributes of an element that keeps to its type, in the order in which the type declares them.
use Rattle.std.proofs.Common.{◌≡◌, Bool, true, false, ◌||◌, List, [], ◌∷◌, ◌++◌, map, cond, fold, Option, None, Some, ◌⊎◌, inl, inr, refl, sym, ◌∙◌, ap, subst, append_assoc, if◌then◌else◌}
use Rattle.std.specs.List.{list_any}
use Rattle.std.proofs.lemmas.Bool.{true≢false, or_parts}
use Rattle.gx_base.specs.Name.{same_name}
use Rattle.gx_base.specs.declared.name.Name.{Name}
use Rattle.gx_base.specs.declared.type_name.Builtin.TheVariants.{AnySimple, UntypedAtomic}
use Rattle.gx_base.specs.declared.type_name.TypeName.{TypeName}
use Rattle.gx_base.specs.declared.type_name.TypeName.TheVariants as names
use Rattle.gx_types.specs.declared.declaration.AttributeUse.{AttributeUse}
use Rattle.gx_types.specs.declared.declaration.Declared.{Declared}
use Rattle.gx_types.specs.declared.item_type.ItemType.TheVariants as items
use Rattle.gx_types.specs.declared.shape.Shape.{Shape}
use Rattle.gx_types.specs.declared.shape.Shape.TheVariants as shapes
use Rattle.gx_types.specs.SchemaSet.{SchemaSet, declaration_of}
use Rattle.gx_types.specs.SchemaInvariant.{HoldsOfEach, AreDistinctBy, IsSchemaSet}
use Rattle.gx_types.specs.Derivation.{DerivesFrom}
use Rattle.gx_types.specs.SequenceType.{SequenceType, nothing, item, optional}
use Rattle.gx_types.specs.Takes.{Takes}
use Rattle.gx_types.specs.TypeRules.{joined_types}
use Rattle.gx_types.proofs.PublicLaws.{joined_types_are_a_sequence, derivation_is_a_preorder}
use Rattle.gx_types.proofs.EqualNames.{names_are_equivalent}
use Rattle.gx_tree.specs.declared.attribute.Attribute.{Attribute}
use Rattle.gx_tree.specs.PlainTree.{PlainTrees}
use Rattle.gx_tree.specs.OwnNames.{has_attribute, HaveOwnNames}
use Rattle.gx_tree.specs.Erasure.{AreUntypedAtomic}
use Rattle.gx_model.specs.DeclaredContent.{uses_allowed, use_named}
use Rattle.gx_model.specs.TypedTree.{IsAllowedAttribute, IsGivenWhereRequired, KeepsToType}
use Rattle.gx_steptype.specs.StepType.{use_type, uses_type, declared_attributes, attributes_of_type}
use Rattle.gx_steptype.proofs.Arrangements.{Rearranged}
use Rattle.gx_steptype.proofs.FormedShapes.{derives_along}
use Rattle.gx_steptype.proofs.Replacing.{append_nil}
use Rattle.gx_steptype.proofs.Declarations.{declared_is, builtin_is_undeclared}
use Rattle.gx_steptype.proofs.SimpleKinds.{simple_is_derived}

abbrev pub attribute_shape : Attribute → Shape
attribute_shape a = shapes.Attr a.name a.kind

abbrev pub has_name : Name → List Attribute → Bool
has_name w l = list_any (λ (b : Attribute). same_name w b.name) l

-- a list and the list with one member more

none_behind : {A : Type 0} (p : A → Bool) (front : List A) (x : A) (rest : List A) → p x ≡ false → list_any p (front ++ x ∷ rest) ≡ list_any p (front ++ rest)
none_behind p [] x rest e = ap (λ b. b || list_any p rest) e
none_behind p (y ∷ front) x rest e = ap (λ b. p y || b) (none_behind p front x rest e)

not_there : {A : Type 0} (p : A → Bool) (front : List A) (x : A) (rest : List A) → list_any p (front ++ x ∷ rest) ≡ false → p x ≡ false
not_there p [] x rest e = (or_parts (p x) (list_any p rest) e).0
not_there p (y ∷ front) x rest e = not_there p front x rest (or_parts (p y) (list_any p (front ++ x ∷ rest)) e).1

holds_there : {A : Type 0} (Fact : A → Type 0) (front : List A) (x : A) (rest : List A) → HoldsOfEach Fact (front ++ x ∷ rest) → Fact x
holds_there Fact [] x rest h = h.0
holds_there Fact (y ∷ front) x rest h = holds_there Fact front x rest h.1

holds_without : {A : Type 0} (Fact : A → Type 0) (front : List A) (x : A) (rest : List A) → HoldsOfEach Fact (front ++ x ∷ rest) → HoldsOfEach Fact (front ++ rest)
holds_without Fact [] x rest h = h.1
holds_without Fact (y ∷ front) x rest h = (h.0, holds_without Fact front x rest h.1)

own_without : (front : List Attribute) (a : Attribute) (rest : List Attribute) → HaveOwnNames (front ++ a ∷ rest) → HaveOwnNames (front ++ rest)
own_without [] a rest h = h.1
own_without (b ∷ front) a rest h =
    let p = λ (c : Attribute). same_name b.name c.name in
    (sym (none_behind p front a rest (not_there p front a rest h.0)) ∙ h.0, own_without front a rest h.1)

-- an attribute of a name in a list

record TakenOut (w : Name) (l : List Attribute) : Type 0 where
  pub front : List Attribute
  pub found : Attribute
  pub rest : List Attribute
  pub is : l ≡ front ++ found ∷ rest
  pub named : same_name w found.name ≡ true

found_behind : (w : Name) (a : Attribute) (l : List Attribute) → same_name w a.name ≡ false → TakenOut w l ⊎ (has_name w l ≡ false) → TakenOut w (a ∷ l) ⊎ (has_name w (a ∷ l) ≡ false)
found_behind w a l e (inl t) = inl (record { front = a ∷ t.front; found = t.found; rest = t.rest; is = ap (λ bs. a ∷ bs) t.is; named = t.named })
found_behind w a l e (inr n) = inr (ap (λ b. b || has_name w l) e ∙ n)

found_here : (w : Name) (a : Attribute) (l : List Attribute) → TakenOut w l ⊎ (has_name w l ≡ false) → (here : Bool) → same_name w a.name ≡ here → TakenOut w (a ∷ l) ⊎ (has_name w (a ∷ l) ≡ false)
found_here w a l next true e = inl (record { front = []; found = a; rest = l; is = refl; named = e })
found_here w a l next false e = found_behind w a l e next

taken_out : (w : Name) (l : List Attribute) → TakenOut w l ⊎ (has_name w l ≡ false)
taken_out w [] = inr refl
taken_out w (a ∷ l) = found_here w a l (taken_out w l) (same_name w a.name) refl

-- no other attribute has the name of one

pub same_owner : (w : Name) (a : Attribute) (l : List Attribute) → same_name w a.name ≡ true → has_name w l ≡ has_attribute l a
same_owner w a [] e = refl
same_owner w a (b ∷ l) e =
    ap (λ c. c || has_name w l) (names_are_equivalent.congr w a.name b.name e) ∙ ap (λ c. same_name a.name b.name || c) (same_owner w a l e)

-- a name that is equal to one of two names is equal to the other as the two are
same_as_two : (w m n : Name) → same_name w m ≡ true → same_name w n ≡ same_name n m
same_as_two w m n e = names_are_equivalent.congr w m n e ∙ names_are_equivalent.symm m n

no_other : (w : Name) (front : List Attribute) (a : Attribute) (rest : List Attribute) → same_name w a.name ≡ true → HaveOwnNames (front ++ a ∷ rest) → has_name w (front ++ rest) ≡ false
no_other w [] a rest e h = same_owner w a rest e ∙ h.0
no_other w (b ∷ front) a rest e h =
    ap (λ c. c || has_name w (front ++ rest)) (same_as_two w a.name b.name e ∙ not_there (λ (c : Attribute). same_name b.name c.name) front a rest h.0)
    ∙ no_other w front a rest e h.1

-- attributes that keep to uses

record Keeping (s : SchemaSet) (uses : List AttributeUse) (l : List Attribute) : Type 0 where
  pub allowed : HoldsOfEach (IsAllowedAttribute s uses) l
  pub required : HoldsOfEach (IsGivenWhereRequired l) uses
  pub names : HaveOwnNames l
  pub distinct : AreDistinctBy same_name (map (λ (u : AttributeUse). u.name) uses)

allowed_behind : (s : SchemaSet) (u : AttributeUse) (us : List AttributeUse) (a : Attribute) → same_name u.name a.name ≡ false → IsAllowedAttribute s (u ∷ us) a → IsAllowedAttribute s us a
allowed_behind s u us a e k = record {
  use_of_it = k.use_of_it;
  allowed = sym (ap (λ b. cond b (Some u) (use_named us a.name)) e) ∙ k.allowed;
  kind = k.kind;
  typed = k.typed;
}

all_allowed_behind : (s : SchemaSet) (u : AttributeUse) (us : List AttributeUse) (l : List Attribute) → has_name u.name l ≡ false → HoldsOfEach (IsAllowedAttribute s (u ∷ us)) l → HoldsOfEach (IsAllowedAttribute s us) l
all_allowed_behind s u us [] e h = tt
all_allowed_behind s u us (a ∷ l) e h =
    let apart = or_parts (same_name u.name a.name) (has_name u.name l) e in (allowed_behind s u us a apart.0 h.0, all_allowed_behind s u us l apart.1 h.1)

-- without the attribute of the first use the others are as they were required
required_without : (u : AttributeUse) (us : List AttributeUse) (front : List Attribute) (a : Attribute) (rest : List Attribute) → same_name u.name a.name ≡ true
    → list_any (same_name u.name) (map (λ (v : AttributeUse). v.name) us) ≡ false → HoldsOfEach (IsGivenWhereRequired (front ++ a ∷ rest)) us → HoldsOfEach (IsGivenWhereRequired (front ++ rest)) us
required_without u [] front a rest e d h = tt
required_without u (v ∷ us) front a rest e d h =
    let apart = or_parts (same_name u.name v.name) (list_any (same_name u.name) (map (λ (w : AttributeUse). w.name) us)) d in (
      λ r. sym (none_behind (λ (b : Attribute). same_name v.name b.name) front a rest (sym (same_as_two u.name a.name v.name e) ∙ apart.0)) ∙ h.0 r,
      required_without u us front a rest e apart.1 h.1,
    )

keeping_without : (s : SchemaSet) (u : AttributeUse) (us : List AttributeUse) (front : List Attribute) (a : Attribute) (rest : List Attribute) → same_name u.name a.name ≡ true
    → Keeping s (u ∷ us) (front ++ a ∷ rest) → Keeping s us (front ++ rest)
keeping_without s u us front a rest e k = record {
  allowed = all_allowed_behind s u us (front ++ rest) (no_other u.name front a rest e k.names) (holds_without (IsAllowedAttribute s (u ∷ us)) front a rest k.allowed);
  required = required_without u us front a rest e k.distinct.0 k.required.1;
  names = own_without front a rest k.names;
  distinct = k.distinct.1;
}

keeping_behind : (s : SchemaSet) (u : AttributeUse) (us : List AttributeUse) (l : List Attribute) → has_name u.name l ≡ false → Keeping s (u ∷ us) l → Keeping s us l
keeping_behind s u us l e k = record { allowed = all_allowed_behind s u us l e k.allowed; required = k.required.1; names = k.names; distinct = k.distinct.1 }

-- one use takes its attribute

inside : {A : Type 0} (x y : A) → Some x ≡ Some y → x ≡ y
inside x y e = cc

kind_of_use : (s : SchemaSet) (u : AttributeUse) (us : List AttributeUse) (a : Attribute) → same_name u.name a.name ≡ true → IsAllowedAttribute s (u ∷ us) a → a.kind ≡ u.kind
kind_of_use s u us a e k =
    k.kind ∙ ap (λ (v : AttributeUse). v.kind) (inside k.use_of_it u (sym k.allowed ∙ ap (λ b. cond b (Some u) (use_named us a.name)) e))

abbrev use_or_none : Bool → AttributeUse → SequenceType
use_or_none required u = if required then item (items.Attribute (Some u.name) u.kind) else optional (item (items.Attribute (Some u.name) u.kind))

takes_its_own : (s : SchemaSet) (u : AttributeUse) (a : Attribute) → same_name u.name a.name ≡ true → a.kind ≡ u.kind
    → Takes s (item (items.Attribute (Some u.name) u.kind)) (attribute_shape a ∷ [])
takes_its_own s u a e f = (attribute_shape a, refl, (e, derives_along s a.kind u.kind u.kind f (derivation_is_a_preorder.reflexive s u.kind)))

takes_one : (s : SchemaSet) (required : Bool) (u : AttributeUse) (a : Attribute) → same_name u.name a.name ≡ true → a.kind ≡ u.kind → Takes s (use_or_none required u) (attribute_shape a ∷ [])
takes_one s true u a e f = takes_its_own s u a e f
takes_one s false u a e f = inr (takes_its_own s u a e f)

takes_none : (s : SchemaSet) (u : AttributeUse) → u.required ≡ false → Takes s (use_type u) []
takes_none s u e = subst (λ (b : Bool). Takes s (use_or_none b u) []) (sym e) (inl refl)

not_required : (required given : Bool) → (required ≡ true → given ≡ true) → given ≡ false → required ≡ false
not_required true given h e = absurd (true≢false (sym (h refl) ∙ e))
not_required false given h e = refl

-- the attributes in the order of the uses

abbrev with_uses : SequenceType → List AttributeUse → SequenceType
with_uses t uses = fold (λ t allowed. joined_types t (use_type allowed)) t uses

pub record InOrder (s : SchemaSet) (uses : List AttributeUse) (l : List Attribute) : Type 0 where
  pub list : List Attribute
  pub rearranged : Rearranged list l
  pub taken : (t : SequenceType) (front : List Shape) → Takes s t front → Takes s (with_uses t uses) (front ++ map attribute_shape list)

taken_behind : (s : SchemaSet) (u : AttributeUse) (us : List AttributeUse) (part more : List Shape) → Takes s (use_type u) part
    → ((t : SequenceType) (front : List Shape) → Takes s t front → Takes s (with_uses t us) (front ++ more))
    → (t : SequenceType) (front : List Shape) → Takes s t front → Takes s (with_uses t (u ∷ us)) (front ++ (part ++ more))
taken_behind s u us part more h next t front k =
    subst (Takes s (with_uses t (u ∷ us))) (append_assoc front part more)
    (next (joined_types t (use_type u)) (front ++ part) ((joined_types_are_a_sequence s t (use_type u) (front ++ part)).0 (front, part, refl, k, h)))

in_order_by : (s : SchemaSet) (u : AttributeUse) (us : List AttributeUse) (l : List Attribute) → Keeping s (u ∷ us) l → ((m : List Attribute) → Keeping s us m → InOrder s us m)
    → TakenOut u.name l ⊎ (has_name u.name l ≡ false) → InOrder s (u ∷ us) l
in_order_by s u us l k next (inl t) =
    let all : Keeping s (u ∷ us) (t.front ++ t.found ∷ t.rest) = subst (Keeping s (u ∷ us)) t.is k in
    let others = next (t.front ++ t.rest) (keeping_without s u us t.front t.found t.rest t.named all) in
    record {
      list = t.found ∷ others.list;
      rearranged = (t.front, t.rest, t.is, others.rearranged);
      taken = taken_behind s u us (attribute_shape t.found ∷ []) (map attribute_shape others.list)
          (takes_one s u.required u t.found t.named (kind_of_use s u us t.found t.named (holds_there (IsAllowedAttribute s (u ∷ us)) t.front t.found t.rest all.allowed))) others.taken;
    }
in_order_by s u us l k next (inr n) =
    let others = next l (keeping_behind s u us l n k) in
    record {
      list = others.list;
      rearranged = others.rearranged;
      taken = taken_behind s u us [] (map attribute_shape others.list) (takes_none s u (not_required u.required (has_name u.name l) k.required.0 n)) others.taken;
    }

in_order : (s : SchemaSet) (uses : List AttributeUse) (l : List Attribute) → Keeping s uses l → InOrder s uses l
in_order s [] [] k = record { list = []; rearranged = refl; taken = λ t front h. subst (Takes s t) (sym (append_nil front)) h }
in_order s [] (a ∷ l) k = let none = k.allowed.0.allowed in absurd (cc)
in_order s (u ∷ us) l k = in_order_by s u us l k (λ m j. in_order s us m j) (taken_out u.name l)

-- the uses of a type

distinct_in : (s : SchemaSet) (t : TypeName) → IsSchemaSet s → (o : Option Declared) → declaration_of s t ≡ o → AreDistinctBy same_name (map (λ (u : AttributeUse). u.name) (uses_allowed o))
distinct_in s t is None e = tt
distinct_in s t is (Some d) e = let own = declared_is s t d is e in own.distinct

uses_are_distinct : (s : SchemaSet) (t : TypeName) → IsSchemaSet s → AreDistinctBy same_name (map (λ (u : AttributeUse). u.name) (uses_allowed (declaration_of s t)))
uses_are_distinct s t is = distinct_in s t is (declaration_of s t) refl

uses_declared : (o : Option Declared) → uses_type (uses_allowed o) ≡ declared_attributes o
uses_declared None = refl
uses_declared (Some d) = refl

uses_of_type : (s : SchemaSet) (t : TypeName) → IsSchemaSet s → uses_type (uses_allowed (declaration_of s t)) ≡ attributes_of_type s t
uses_of_type s (names.Builtin b) is = ap (λ (o : Option Declared). uses_type (uses_allowed o)) (builtin_is_undeclared s b is)
uses_of_type s (names.Named n) is = uses_declared (declaration_of s (names.Named n))
uses_of_type s (names.Anonymous n) is = uses_declared (declaration_of s (names.Anonymous n))

-- the attributes of an element that keeps to its type
pub record OwnInOrder (s : SchemaSet) (kind : TypeName) (l : List Attribute) : Type 0 where
  pub list : List Attribute
  pub rearranged : Rearranged list l
  pub taken : Takes s (attributes_of_type s kind) (map attribute_shape list)

pub own_in_order : (s : SchemaSet) (kind : TypeName) (l : List Attribute) (ts : PlainTrees) → IsSchemaSet s → KeepsToType s kind l ts → OwnInOrder s kind l
own_in_order s kind l ts is k =
    let uses = uses_allowed (declaration_of s kind) in
    let found = in_order s uses l (record { allowed = k.allowed; required = k.required; names = k.distinct; distinct = uses_are_distinct s kind is }) in
    record {
      list = found.list;
      rearranged = found.rearranged;
      taken = subst (λ (t : SequenceType). Takes s t (map attribute_shape found.list)) (uses_of_type s kind is) (found.taken nothing [] refl);
    }

-- each is of a type that is derived from one

abbrev pub AreDerived : SchemaSet → TypeName → List Attribute → Type 0
AreDerived s kind [] = Unit {0}
AreDerived s kind (a ∷ l) = DerivesFrom s a.kind kind × AreDerived s kind l

pub untyped_are_derived : (s : SchemaSet) (kind : TypeName) (l : List Attribute) → DerivesFrom s (names.Builtin UntypedAtomic) kind → AreUntypedAtomic l → AreDerived s kind l
untyped_are_derived s kind [] d h = tt
untyped_are_derived s kind (a ∷ l) d h = (derives_along s a.kind (names.Builtin UntypedAtomic) kind h.0 d, untyped_are_derived s kind l d h.1)

allowed_are_simple : (s : SchemaSet) (uses : List AttributeUse) → IsSchemaSet s → (l : List Attribute) → HoldsOfEach (IsAllowedAttribute s uses) l → AreDerived s (names.Builtin AnySimple) l
allowed_are_simple s uses is [] h = tt
allowed_are_simple s uses is (a ∷ l) h = let typed = h.0.typed in (simple_is_derived s a.kind is typed.simple, allowed_are_simple s uses is l h.1)

pub own_are_simple : (s : SchemaSet) (kind : TypeName) (l : List Attribute) (ts : PlainTrees) → IsSchemaSet s → KeepsToType s kind l ts → AreDerived s (names.Builtin AnySimple) l
own_are_simple s kind l ts is k = allowed_are_simple s (uses_allowed (declaration_of s kind)) is l k.allowed
