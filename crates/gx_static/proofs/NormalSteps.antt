-- The types of steps.
use Rattle.std.proofs.Common.{◌≡◌, zero, suc, Bool, true, false, List, [], ◌∷◌, map, fold, Option, None, Some, is_some, refl, ◌∙◌, ap, if◌then◌else◌}
use Rattle.std.specs.Bool.{IsTrue}
use Rattle.gx_base.specs.declared.name.Name.{Name}
use Rattle.gx_base.specs.declared.type_name.Builtin.TheVariants.{AnyType, AnySimple, AnyAtomic, UntypedAtomic}
use Rattle.gx_base.specs.declared.type_name.Builtin.TheVariants as builtins
use Rattle.gx_base.specs.declared.type_name.TypeName.{TypeName}
use Rattle.gx_base.specs.declared.type_name.TypeName.TheVariants as names
use Rattle.gx_types.specs.declared.declaration.AttributeUse.{AttributeUse}
use Rattle.gx_types.specs.declared.declaration.Content.{Content}
use Rattle.gx_types.specs.declared.declaration.Content.TheVariants as contents
use Rattle.gx_types.specs.declared.declaration.Declared.{Declared}
use Rattle.gx_types.specs.declared.item_type.ItemType.{ItemType}
use Rattle.gx_types.specs.declared.item_type.ItemType.TheVariants as items
use Rattle.gx_types.specs.declared.step.Axis.{Axis}
use Rattle.gx_types.specs.declared.step.Axis.TheVariants as axes
use Rattle.gx_types.specs.declared.step.Test.{Test}
use Rattle.gx_types.specs.SchemaSet.{SchemaSet, declaration_of}
use Rattle.gx_types.specs.SchemaInvariant.{HoldsOfEach, is_simple_type, is_named_type, IsModelItem, ContentFits, IsSchemaSet}
use Rattle.gx_types.specs.SequenceType.{SequenceType, nothing, item, optional}
use Rattle.gx_types.specs.Choice.{choice_among}
use Rattle.gx_types.specs.Indicator.{star_of}
use Rattle.gx_types.specs.Prime.{items_of}
use Rattle.gx_types.specs.TypeRules.{joined_types, factored}
use Rattle.gx_types.specs.Derivation.{bases_of, is_derived, is_declared, DerivesFrom}
use Rattle.gx_types.specs.Grounded.{is_known}
use Rattle.gx_types.proofs.PublicLaws.{derivation_is_a_preorder, equal_types_have_one_base}
use Rattle.gx_types.proofs.DerivationTest.{derives_when_tested}
use Rattle.gx_types.proofs.SchemaLemmas.{base_is}
use Rattle.gx_model.specs.NodeTest.{TypeTest, any_type, derived_from, no_type, KindTest, any_node, a_text, an_element, an_attribute, a_document, a_document_of, asked}
use Rattle.gx_model.specs.Axes.{is_attribute_axis}
use Rattle.gx_steptype.specs.declared.tested.Meeting.{Meeting}
use Rattle.gx_steptype.specs.declared.tested.Meeting.TheVariants.{Never, Always, Possibly}
use Rattle.gx_steptype.specs.DerivedTypes.{listed_types, derived_among, over_derived}
use Rattle.gx_steptype.specs.Replaced.{replaced_items}
use Rattle.gx_steptype.specs.TestedType.{name_met, type_met, both_met, narrowed_name, narrowed_type, where_met, at_most_possibly, tested_item}
use Rattle.gx_steptype.specs.StepType.{content_type, declared_content, content_of, is_ur_type, child_type, use_type, declared_attributes, attributes_of_type, has_one_name, any_attributes, any_attribute, untyped_attribute, attributes_behind, attribute_content, attribute_type, parent_type, grandchild_kinds, descendant_kinds, ancestor_kinds, any_tested, descendant_type, ancestor_type, item_step, step_type}
use Rattle.gx_steptype.proofs.Declarations.{declared_is}
use Rattle.gx_steptype.proofs.DescendantKinds.{descendant_kinds_hold}
use Rattle.gx_steptype.proofs.SimpleKinds.{simple_is_derived}
use Rattle.gx_static.specs.NormalTypes.{IsOfKnownType, IsNormalType}
use Rattle.gx_static.proofs.DemandLaws.{normal_kinds}
use Rattle.gx_static.proofs.NormalTypes.{limited_is_normal, factored_is_normal, star_is_normal, joined_is_normal, choice_of_normal}
use Rattle.gx_static.proofs.NormalParts.{each_so, each_made, replaced_is_normal, AreKnown, joined_is_known, choice_is_known}

-- ---- known types

-- a type that is derived from a known one is known
pub known_below : (s : SchemaSet) (u t : TypeName) → DerivesFrom s u t → IsTrue (is_known (bases_of s) t) → IsTrue (is_known (bases_of s) u)
known_below s (names.Builtin b) t d k = refl
known_below s (names.Named m) (names.Named n) (zero, same) k = ap is_some (equal_types_have_one_base (bases_of s) (names.Named m) (names.Named n) same) ∙ k
known_below s (names.Named m) _ (zero, same) k = absurd (cc)
known_below s (names.Named m) t (suc steps, (base, e, r)) k = ap is_some e
known_below s (names.Anonymous m) (names.Anonymous n) (zero, same) k = ap is_some (equal_types_have_one_base (bases_of s) (names.Anonymous m) (names.Anonymous n) same) ∙ k
known_below s (names.Anonymous m) _ (zero, same) k = absurd (cc)
known_below s (names.Anonymous m) t (suc steps, (base, e, r)) k = ap is_some e

is_declared_too : (s : SchemaSet) (t : TypeName) (o : Option Declared) → declaration_of s t ≡ o → is_some o ≡ true → is_declared (bases_of s) t ≡ true
is_declared_too s t None e h = absurd (cc)
is_declared_too s t (Some d) e h = ap is_some (base_is s.types t d e)

pub named_is_known : (s : SchemaSet) (t : TypeName) → is_named_type s t ≡ true → is_known (bases_of s) t ≡ true
named_is_known s (names.Builtin b) h = refl
named_is_known s (names.Named m) h = is_declared_too s (names.Named m) (declaration_of s (names.Named m)) refl h
named_is_known s (names.Anonymous m) h = is_declared_too s (names.Anonymous m) (declaration_of s (names.Anonymous m)) refl h

-- ---- what a test leaves of an item type

where_any : (s : SchemaSet) (met : Meeting) (whole narrow : ItemType) → IsOfKnownType s whole → IsOfKnownType s narrow → IsNormalType s (where_met (both_met met Always) whole narrow)
where_any s Never whole narrow k n = tt
where_any s Always whole narrow k n = k
where_any s Possibly whole narrow k n = n

where_possibly : (s : SchemaSet) (met : Meeting) (whole narrow : ItemType) → IsOfKnownType s whole → IsOfKnownType s narrow → IsNormalType s (where_met (both_met met Possibly) whole narrow)
where_possibly s Never whole narrow k n = tt
where_possibly s Always whole narrow k n = n
where_possibly s Possibly whole narrow k n = n

where_none : (s : SchemaSet) (met : Meeting) (whole narrow : ItemType) → IsNormalType s (where_met (both_met met Never) whole narrow)
where_none s Never whole narrow = tt
where_none s Always whole narrow = tt
where_none s Possibly whole narrow = tt

-- the narrower type is derived from that of the item type wherever the test is possibly met
where_type : (s : SchemaSet) (met : Meeting) (passes narrows : Bool) (whole : ItemType) (t kind : TypeName) (narrow : TypeName → ItemType) → IsOfKnownType s whole → IsOfKnownType s (narrow t)
    → (narrows ≡ true → IsOfKnownType s (narrow kind)) → IsNormalType s (where_met (both_met met (if passes then Always else (if narrows then Possibly else Never))) whole (narrow (if passes then t else kind)))
where_type s met true narrows whole t kind narrow k n f = where_any s met whole (narrow t) k n
where_type s met false true whole t kind narrow k n f = where_possibly s met whole (narrow kind) k (f refl)
where_type s met false false whole t kind narrow k n f = where_none s met whole (narrow kind)

where_tested : (s : SchemaSet) (met : Meeting) (test : TypeTest) (whole : ItemType) (t : TypeName) (narrow : TypeName → ItemType) → IsOfKnownType s whole
    → ((u : TypeName) → DerivesFrom s u t → IsOfKnownType s (narrow u)) → IsNormalType s (where_met (both_met met (type_met s test t)) whole (narrow (narrowed_type s test t)))
where_tested s met any_type whole t narrow k f = where_any s met whole (narrow t) k (f t (derivation_is_a_preorder.reflexive s t))
where_tested s met (derived_from kind) whole t narrow k f =
    where_type s met (is_derived s t kind) (is_derived s kind t) whole t kind narrow k (f t (derivation_is_a_preorder.reflexive s t)) (λ e. f kind (derives_when_tested s kind t e))
where_tested s met no_type whole t narrow k f = where_none s met whole (narrow t)

-- of a document that may hold anything the test is at most possibly met
possibly_normal : (s : SchemaSet) (met : Meeting) (whole narrow : ItemType) → IsNormalType s (where_met met narrow narrow) → IsNormalType s (where_met (at_most_possibly met) whole narrow)
possibly_normal s Never whole narrow n = tt
possibly_normal s Always whole narrow n = n
possibly_normal s Possibly whole narrow n = n

-- what is made of one item type
twice_narrow : (s : SchemaSet) (met : Meeting) (passes narrows : Bool) (t kind : TypeName) (narrow : TypeName → ItemType) → IsOfKnownType s (narrow t)
    → (narrows ≡ true → IsOfKnownType s (narrow kind)) → let given : ItemType = narrow (if passes then t else kind) in IsNormalType s (where_met (both_met met (if passes then Always else (if narrows then Possibly else Never))) given given)
twice_narrow s met true narrows t kind narrow n f = where_any s met (narrow t) (narrow t) n n
twice_narrow s met false true t kind narrow n f = where_possibly s met (narrow kind) (narrow kind) (f refl) (f refl)
twice_narrow s met false false t kind narrow n f = where_none s met (narrow kind) (narrow kind)

narrow_document : (s : SchemaSet) (met : Meeting) (test : TypeTest) (t : TypeName) (narrow : TypeName → ItemType) → ((u : TypeName) → DerivesFrom s u t → IsOfKnownType s (narrow u))
    → IsNormalType s (where_met (both_met met (type_met s test t)) (narrow (narrowed_type s test t)) (narrow (narrowed_type s test t)))
narrow_document s met any_type t narrow f = let k = f t (derivation_is_a_preorder.reflexive s t) in where_any s met (narrow t) (narrow t) k k
narrow_document s met (derived_from kind) t narrow f =
    twice_narrow s met (is_derived s t kind) (is_derived s kind t) t kind narrow (f t (derivation_is_a_preorder.reflexive s t)) (λ e. f kind (derives_when_tested s kind t e))
narrow_document s met no_type t narrow f = where_none s met (narrow t) (narrow t)

any_document_is_normal : (s : SchemaSet) (met : Meeting) (test : TypeTest) (name : Option Name)
    → IsNormalType s (where_met (at_most_possibly (both_met met (type_met s test (names.Builtin AnyType)))) (items.Document None) (items.Document (Some (name, narrowed_type s test (names.Builtin AnyType)))))
any_document_is_normal s met test name =
    let narrow : TypeName → ItemType = λ u. items.Document (Some (name, u)) in
    possibly_normal s (both_met met (type_met s test (names.Builtin AnyType))) (items.Document None) (narrow (narrowed_type s test (names.Builtin AnyType)))
    (narrow_document s met test (names.Builtin AnyType) narrow (λ u d. known_below s u (names.Builtin AnyType) d refl))

tested_is_normal : (s : SchemaSet) (test : KindTest) (kind : ItemType) → IsOfKnownType s kind → IsNormalType s (tested_item s test kind)
tested_is_normal s any_node (items.Element name t) k = k
tested_is_normal s any_node (items.Attribute name t) k = k
tested_is_normal s any_node items.Text k = tt
tested_is_normal s any_node (items.Document None) k = tt
tested_is_normal s any_node (items.Document (Some e)) k = k
tested_is_normal s any_node (items.Atom t) k = tt
tested_is_normal s a_text items.Text k = tt
tested_is_normal s a_text _ k = tt
tested_is_normal s (an_element wanted test) (items.Element name t) k =
    where_tested s (name_met wanted name) test (items.Element name t) t (λ u. items.Element (narrowed_name wanted name) u) k (λ u d. known_below s u t d k)
tested_is_normal s (an_element wanted test) _ k = tt
tested_is_normal s (an_attribute wanted test) (items.Attribute name t) k =
    where_tested s (name_met wanted name) test (items.Attribute name t) t (λ u. items.Attribute (narrowed_name wanted name) u) k
    (λ u d. derivation_is_a_preorder.transitive s u t (names.Builtin AnySimple) d k)
tested_is_normal s (an_attribute wanted test) _ k = tt
tested_is_normal s a_document (items.Document None) k = tt
tested_is_normal s a_document (items.Document (Some e)) k = k
tested_is_normal s a_document _ k = tt
tested_is_normal s (a_document_of wanted test) (items.Document (Some e)) k =
    where_tested s (name_met wanted e.0) test (items.Document (Some e)) e.1 (λ u. items.Document (Some (narrowed_name wanted e.0, u))) k (λ u d. known_below s u e.1 d k)
tested_is_normal s (a_document_of wanted test) (items.Document None) k =
    any_document_is_normal s (name_met wanted None) test (narrowed_name wanted None)
tested_is_normal s (a_document_of wanted test) _ k = tt

-- the test of each item type of a type
tested_in_place : (s : SchemaSet) (test : KindTest) (t : SequenceType) → AreKnown s t → IsNormalType s (replaced_items (tested_item s test) t)
tested_in_place s test t k = replaced_is_normal s (tested_item s test) t (each_so (IsOfKnownType s) (λ kind. IsNormalType s (tested_item s test kind)) (items_of t) (λ kind h. tested_is_normal s test kind h) k)

-- ---- children

model_item_is_known : (s : SchemaSet) (mixed : Bool) (kind : ItemType) → IsModelItem s mixed kind → IsOfKnownType s kind
model_item_is_known s mixed (items.Element (Some name) t) h = named_is_known s t h
model_item_is_known s mixed items.Text h = tt
model_item_is_known s mixed _ h = absurd h

content_is_known : (s : SchemaSet) (c : Content) → ContentFits s c → AreKnown s (content_type c)
content_is_known s (contents.Atomic facets) fits = (tt, tt)
content_is_known s (contents.List kind facets) fits = (tt, tt)
content_is_known s (contents.Simple kind facets) fits = (tt, tt)
content_is_known s (contents.Complex mixed model) fits = each_so (IsModelItem s mixed) (IsOfKnownType s) (items_of model) (λ kind h. model_item_is_known s mixed kind h) fits.0

declared_content_is_known : (s : SchemaSet) (t : TypeName) → IsSchemaSet s → (o : Option Declared) → declaration_of s t ≡ o → AreKnown s (declared_content o)
declared_content_is_known s t is None e = tt
declared_content_is_known s t is (Some d) e = content_is_known s d.content (declared_is s t d is e).content

content_of_is_known : (s : SchemaSet) (t : TypeName) → IsSchemaSet s → AreKnown s (content_of s t)
content_of_is_known s (names.Builtin builtins.AnyType) is = (refl, (tt, tt))
content_of_is_known s (names.Builtin builtins.Untyped) is = (refl, (tt, tt))
content_of_is_known s (names.Builtin b) is = (tt, tt)
content_of_is_known s (names.Named m) is = declared_content_is_known s (names.Named m) is (declaration_of s (names.Named m)) refl
content_of_is_known s (names.Anonymous m) is = declared_content_is_known s (names.Anonymous m) is (declaration_of s (names.Anonymous m)) refl

over_derived_is_known : (s : SchemaSet) (f : TypeName → SequenceType) (t : TypeName) → ((u : TypeName) → AreKnown s (f u)) → AreKnown s (over_derived s f t)
over_derived_is_known s f t h = choice_is_known s (map f (derived_among s t (listed_types s))) (each_made f (AreKnown s) (derived_among s t (listed_types s)) h)

either_content : (s : SchemaSet) (is_top : Bool) (t u : SequenceType) → AreKnown s t → AreKnown s u → AreKnown s (if is_top then t else u)
either_content s true t u h k = h
either_content s false t u h k = k

child_is_known : (s : SchemaSet) (kind : ItemType) → IsSchemaSet s → IsOfKnownType s kind → AreKnown s (child_type s kind)
child_is_known s (items.Element name t) is k =
    either_content s (is_ur_type t) (content_of s t) (over_derived s (content_of s) t) (content_of_is_known s t is) (over_derived_is_known s (content_of s) t (λ u. content_of_is_known s u is))
child_is_known s (items.Attribute name t) is k = tt
child_is_known s items.Text is k = tt
child_is_known s (items.Document None) is k = (refl, (tt, tt))
child_is_known s (items.Document (Some e)) is k = (k, tt)
child_is_known s (items.Atom t) is k = tt

-- ---- attributes

used_if : (s : SchemaSet) (required : Bool) (kind : ItemType) → IsOfKnownType s kind → AreKnown s (if required then item kind else optional (item kind))
used_if s true kind k = (k, tt)
used_if s false kind k = (k, tt)

uses_onto : (s : SchemaSet) (t : SequenceType) (uses : List AttributeUse) → IsSchemaSet s → AreKnown s t → HoldsOfEach (λ (a : AttributeUse). IsTrue (is_simple_type s a.kind)) uses
    → AreKnown s (fold (λ t allowed. joined_types t (use_type allowed)) t uses)
uses_onto s t [] is k h = k
uses_onto s t (a ∷ uses) is k h =
    uses_onto s (joined_types t (use_type a)) uses is
    (joined_is_known s t (use_type a) k (used_if s a.required (items.Attribute (Some a.name) a.kind) (simple_is_derived s a.kind is h.0))) h.1

declared_attributes_are_known : (s : SchemaSet) (t : TypeName) → IsSchemaSet s → (o : Option Declared) → declaration_of s t ≡ o → AreKnown s (declared_attributes o)
declared_attributes_are_known s t is None e = tt
declared_attributes_are_known s t is (Some d) e = uses_onto s nothing d.attributes is tt (declared_is s t d is e).attributes

attributes_are_known : (s : SchemaSet) (t : TypeName) → IsSchemaSet s → AreKnown s (attributes_of_type s t)
attributes_are_known s (names.Builtin b) is = tt
attributes_are_known s (names.Named m) is = declared_attributes_are_known s (names.Named m) is (declaration_of s (names.Named m)) refl
attributes_are_known s (names.Anonymous m) is = declared_attributes_are_known s (names.Anonymous m) is (declaration_of s (names.Anonymous m)) refl

one_or_more : (s : SchemaSet) (is_one : Bool) (t u : SequenceType) → IsNormalType s t → IsNormalType s u → IsNormalType s (if is_one then t else u)
one_or_more s true t u m n = m
one_or_more s false t u m n = n

any_are_normal : (s : SchemaSet) (test : KindTest) (kind : ItemType) → IsOfKnownType s kind → IsNormalType s (any_attributes s test kind)
any_are_normal s test kind k =
    let n = tested_is_normal s test kind k in
    one_or_more s (has_one_name test) (tested_item s test kind) (factored (star_of (tested_item s test kind))) n (factored_is_normal s (star_of (tested_item s test kind)) (star_is_normal s (tested_item s test kind) n))

behind_are_normal : (s : SchemaSet) (test : KindTest) (t : TypeName) → IsSchemaSet s → IsNormalType s (attributes_behind s test t)
behind_are_normal s test t is =
    let made : SequenceType = replaced_items (tested_item s test) (over_derived s (attributes_of_type s) t) in
    let n = tested_in_place s test (over_derived s (attributes_of_type s) t) (over_derived_is_known s (attributes_of_type s) t (λ u. attributes_are_known s u is)) in
    one_or_more s (has_one_name test) made (factored made) n (factored_is_normal s made n)

pub untyped_is_simple : (s : SchemaSet) → DerivesFrom s (names.Builtin UntypedAtomic) (names.Builtin AnySimple)
untyped_is_simple s = (2, (names.Builtin AnyAtomic, refl, (names.Builtin AnySimple, refl, refl)))

attribute_content_is_normal : (s : SchemaSet) (test : KindTest) (t : TypeName) → IsSchemaSet s → IsNormalType s (attribute_content s test t)
attribute_content_is_normal s test (names.Builtin builtins.AnyType) is = any_are_normal s test any_attribute (0, refl)
attribute_content_is_normal s test (names.Builtin builtins.Untyped) is = any_are_normal s test untyped_attribute (untyped_is_simple s)
attribute_content_is_normal s test t is = behind_are_normal s test t is

attribute_is_normal : (s : SchemaSet) (test : KindTest) (kind : ItemType) → IsSchemaSet s → IsNormalType s (attribute_type s test kind)
attribute_is_normal s test (items.Element name t) is = attribute_content_is_normal s test t is
attribute_is_normal s test (items.Attribute name t) is = tt
attribute_is_normal s test items.Text is = tt
attribute_is_normal s test (items.Document element) is = tt
attribute_is_normal s test (items.Atom t) is = tt

-- ---- descendants and ancestors

each_tested : (s : SchemaSet) (test : KindTest) (kinds : List ItemType) → HoldsOfEach (IsOfKnownType s) kinds → HoldsOfEach (IsNormalType s) (map (tested_item s test) kinds)
each_tested s test [] k = tt
each_tested s test (kind ∷ kinds) k = (tested_is_normal s test kind k.0, each_tested s test kinds k.1)

any_tested_is_normal : (s : SchemaSet) (test : KindTest) (kinds : List ItemType) → HoldsOfEach (IsOfKnownType s) kinds → IsNormalType s (any_tested s test kinds)
any_tested_is_normal s test kinds k =
    star_is_normal s (choice_among (map (tested_item s test) kinds)) (choice_of_normal s (map (tested_item s test) kinds) (each_tested s test kinds k))

grandchildren_are_known : (s : SchemaSet) (kind : ItemType) → IsSchemaSet s → IsOfKnownType s kind → HoldsOfEach (IsOfKnownType s) (grandchild_kinds s kind)
grandchildren_are_known s (items.Element name t) is k = child_is_known s (items.Element name t) is k
grandchildren_are_known s (items.Attribute name t) is k = tt
grandchildren_are_known s items.Text is k = tt
grandchildren_are_known s (items.Document None) is k = tt
grandchildren_are_known s (items.Document (Some e)) is k = tt
grandchildren_are_known s (items.Atom t) is k = tt

descendants_are_normal : (s : SchemaSet) (test : KindTest) (kind : ItemType) → IsSchemaSet s → IsOfKnownType s kind → IsNormalType s (descendant_type s test kind)
descendants_are_normal s test kind is k =
    any_tested_is_normal s test (descendant_kinds s kind)
    (descendant_kinds_hold s kind (IsOfKnownType s) (child_is_known s kind is k) (λ other h. grandchildren_are_known s other is h))

ancestors_are_known : (s : SchemaSet) (kind : ItemType) → HoldsOfEach (IsOfKnownType s) (ancestor_kinds kind)
ancestors_are_known s (items.Element name t) = (refl, (tt, tt))
ancestors_are_known s (items.Attribute name t) = (refl, (tt, tt))
ancestors_are_known s items.Text = (refl, (tt, tt))
ancestors_are_known s (items.Document element) = tt
ancestors_are_known s (items.Atom t) = tt

ancestors_are_normal : (s : SchemaSet) (test : KindTest) (kind : ItemType) → IsNormalType s (ancestor_type s test kind)
ancestors_are_normal s test kind = any_tested_is_normal s test (ancestor_kinds kind) (ancestors_are_known s kind)

-- ---- steps

parent_is_known : (s : SchemaSet) (kind : ItemType) → AreKnown s (parent_type kind)
parent_is_known s (items.Element name t) = (refl, (tt, tt))
parent_is_known s (items.Attribute name t) = (refl, tt)
parent_is_known s items.Text = (refl, (tt, tt))
parent_is_known s (items.Document element) = tt
parent_is_known s (items.Atom t) = tt

item_step_is_normal : (s : SchemaSet) (axis : Axis) (test : KindTest) (kind : ItemType) → IsSchemaSet s → IsOfKnownType s kind → IsNormalType s (item_step s axis test kind)
item_step_is_normal s axes.Child test kind is k = tested_in_place s test (child_type s kind) (child_is_known s kind is k)
item_step_is_normal s axes.Attribute test kind is k = attribute_is_normal s test kind is
item_step_is_normal s axes.SelfAxis test kind is k = tested_is_normal s test kind k
item_step_is_normal s axes.Parent test kind is k = tested_in_place s test (parent_type kind) (parent_is_known s kind)
item_step_is_normal s axes.Descendant test kind is k = descendants_are_normal s test kind is k
item_step_is_normal s axes.DescendantOrSelf test kind is k =
    joined_is_normal s (tested_item s test kind) (descendant_type s test kind) (tested_is_normal s test kind k) (descendants_are_normal s test kind is k)
item_step_is_normal s axes.Ancestor test kind is k = ancestors_are_normal s test kind
item_step_is_normal s axes.AncestorOrSelf test kind is k =
    factored_is_normal s (joined_types (tested_item s test kind) (ancestor_type s test kind))
    (joined_is_normal s (tested_item s test kind) (ancestor_type s test kind) (tested_is_normal s test kind k) (ancestors_are_normal s test kind))

pub step_is_normal : (s : SchemaSet) (axis : Axis) (test : Test) (context : SequenceType) → IsSchemaSet s → IsNormalType s context → IsNormalType s (step_type s axis test context)
step_is_normal s axis test context is n =
    let kind_test : KindTest = asked s (is_attribute_axis axis) test in
    limited_is_normal s (replaced_items (item_step s axis kind_test) context)
    (replaced_is_normal s (item_step s axis kind_test) context
    (each_so (IsOfKnownType s) (λ kind. IsNormalType s (item_step s axis kind_test kind)) (items_of context) (λ kind k. item_step_is_normal s axis kind_test kind is k) (normal_kinds s context n)))
