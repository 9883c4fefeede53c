-- Content models of types, and the children that they take.
use Rattle.std.proofs.Common.{◌≡◌, ℕ, ◌++◌, Bool, true, false, not, ◌||◌, List, [], ◌∷◌, inl, inr, ◌⊎◌, refl, sym, ◌∙◌, ap, subst, Option, Some, None, if◌then◌else◌}
use Rattle.std.specs.Prelude.{is_some, is_none, unwrap_or}
use Rattle.std.specs.List.{list_any}
use Rattle.std.specs.Option.{option_or}
use Rattle.gx_base.specs.Name.{same_name}
use Rattle.gx_base.specs.declared.name.Name.{Name}
use Rattle.gx_base.specs.declared.type_name.Builtin.TheVariants.{Untyped}
use Rattle.gx_base.specs.declared.type_name.TypeName.{TypeName}
use Rattle.gx_base.specs.declared.type_name.TypeName.TheVariants as names
use Rattle.gx_types.specs.ItemTakes.{ItemTakes}
use Rattle.gx_types.specs.Prime.{items_of}
use Rattle.gx_types.specs.SchemaSet.{SchemaSet, declaration_of}
use Rattle.gx_types.specs.SchemaInvariant.{IsSchemaSet, HoldsOfEach, IsModelItem, IsDeclarationOf, ContentFits, is_named_type}
use Rattle.gx_types.specs.SequenceType.{SequenceType, never, nothing, item, both, either, optional, star, plus}
use Rattle.gx_types.specs.Takes.{Takes, EachShape, SomeItemTakes}
use Rattle.gx_types.specs.declared.declaration.Content.{Content}
use Rattle.gx_types.specs.declared.declaration.Content.TheVariants as contents
use Rattle.gx_types.specs.declared.declaration.Declared.{Declared}
use Rattle.gx_types.specs.declared.item_type.ItemType.{ItemType}
use Rattle.gx_types.specs.declared.item_type.ItemType.TheVariants as items
use Rattle.gx_types.specs.declared.shape.Shape.{Shape}
use Rattle.gx_types.specs.declared.shape.Shape.TheVariants as shapes
use Rattle.gx_types.proofs.PublicLaws.{items_take_each_shape}
use Rattle.gx_xml.specs.SourceTree.{SourceContents, no_content, a_child, a_text, tree_name}
use Rattle.gx_xml.specs.declared.source.Declaration.{Declaration}
use Rattle.gx_qnames.specs.Lexical.{is_blank}
use Rattle.gx_model.specs.DeclaredContent.{text_model, model_in, complex_model, content_model, has_values, uses_allowed}
use Rattle.gx_validate.specs.ElementContent.{texts_allowed_by, texts_allowed_in, texts_allowed, type_of_element_item, element_type_in, type_of_child, text_shapes, child_shapes}
use Rattle.gx_validate.specs.Rules.{child_texts, is_stray, has_stray_text}
use Rattle.gx_validate.specs.declared.content.Texts.{Texts}
use Rattle.gx_validate.specs.declared.content.Texts.TheVariants.{Kept, Ignored, Forbidden}
use Rattle.gx_validate.proofs.Annotations.{holds_of_found}
use Rattle.gx_validate.proofs.TypedAttributes.{IsSimpleUse}

-- ---- lists

pub each_first : {A : Type 0} (P : A → Type 0) (xs ys : List A) → HoldsOfEach P (xs ++ ys) → HoldsOfEach P xs
each_first P [] ys h = tt
each_first P (x ∷ xs) ys h = (h.0, each_first P xs ys h.1)

pub each_second : {A : Type 0} (P : A → Type 0) (xs ys : List A) → HoldsOfEach P (xs ++ ys) → HoldsOfEach P ys
each_second P [] ys h = h
each_second P (x ∷ xs) ys h = each_second P xs ys h.1

some_in_two : (s : SchemaSet) (xs ys : List ItemType) (x : Shape) → SomeItemTakes s (xs ++ ys) x → SomeItemTakes s xs x ⊎ SomeItemTakes s ys x
some_in_two s [] ys x h = inr h
some_in_two s (k ∷ ks) ys x (inl h) = inl (inl h)
some_in_two s (k ∷ ks) ys x (inr h) = elim (some_in_two s ks ys x h) [ inl p ↦ inl (inr p) | inr q ↦ inr q ]

shapes_second : (P : Shape → Type 0) (xs ys : List Shape) → EachShape P (xs ++ ys) → EachShape P ys
shapes_second P [] ys h = h
shapes_second P (x ∷ xs) ys h = shapes_second P xs ys h.1

-- ---- elements of a model

or_found : {A : Type 0} (a b : Option A) (x : A) → option_or a b ≡ Some x → (a ≡ Some x) ⊎ (b ≡ Some x)
or_found None b x h = inr h
or_found (Some y) b x h = inl h

or_some : {A : Type 0} (a b : Option A) → is_some a ≡ true → is_some (option_or a b) ≡ true
or_some None b h = absurd (cc)
or_some (Some x) b h = refl

or_other : {A : Type 0} (a b : Option A) → is_some b ≡ true → is_some (option_or a b) ≡ true
or_other None b h = h
or_other (Some x) b h = refl

name_step : (s : SchemaSet) (k u : TypeName) (b : Bool) → is_named_type s k ≡ true → (if b then Some k else None) ≡ Some u → is_named_type s u ≡ true
name_step s k u true h e = let one : k ≡ u = cc in subst (λ (t : TypeName). is_named_type s t ≡ true) one h
name_step s k u false h e = absurd (cc)

item_is_known : (s : SchemaSet) (mixed : Bool) (kind : ItemType) (name : Name) (u : TypeName) → IsModelItem s mixed kind → type_of_element_item kind name ≡ Some u → is_named_type s u ≡ true
item_is_known s mixed (items.Element None k) name u p h = absurd p
item_is_known s mixed (items.Element (Some n) k) name u p h = name_step s k u (same_name n name) p h
item_is_known s mixed (items.Attribute n k) name u p h = absurd p
item_is_known s mixed items.Text name u p h = absurd (cc)
item_is_known s mixed (items.Document d) name u p h = absurd p
item_is_known s mixed (items.Atom k) name u p h = absurd p

-- the types that a model has for elements are known
model_is_known : (s : SchemaSet) (mixed : Bool) (t : SequenceType) (name : Name) (u : TypeName) → HoldsOfEach (IsModelItem s mixed) (items_of t) → element_type_in t name ≡ Some u → is_named_type s u ≡ true
model_is_known s mixed never name u p h = absurd (cc)
model_is_known s mixed nothing name u p h = absurd (cc)
model_is_known s mixed (item kind) name u p h = item_is_known s mixed kind name u p.0 h
model_is_known s mixed (both a b) name u p h =
    elim (or_found (element_type_in a name) (element_type_in b name) u h) [
      | inl k ↦ model_is_known s mixed a name u (each_first (IsModelItem s mixed) (items_of a) (items_of b) p) k
      | inr k ↦ model_is_known s mixed b name u (each_second (IsModelItem s mixed) (items_of a) (items_of b) p) k
    ]
model_is_known s mixed (either a b) name u p h =
    elim (or_found (element_type_in a name) (element_type_in b name) u h) [
      | inl k ↦ model_is_known s mixed a name u (each_first (IsModelItem s mixed) (items_of a) (items_of b) p) k
      | inr k ↦ model_is_known s mixed b name u (each_second (IsModelItem s mixed) (items_of a) (items_of b) p) k
    ]
model_is_known s mixed (optional a) name u p h = model_is_known s mixed a name u p h
model_is_known s mixed (star a) name u p h = model_is_known s mixed a name u p h
model_is_known s mixed (plus a) name u p h = model_is_known s mixed a name u p h

item_has_type : (s : SchemaSet) (mixed : Bool) (kind : ItemType) (name : Name) (u : TypeName) → IsModelItem s mixed kind → ItemTakes s kind (shapes.Elem name u) → is_some (type_of_element_item kind name) ≡ true
item_has_type s mixed (items.Element None k) name u p h = absurd p
item_has_type s mixed (items.Element (Some n) k) name u p h = ap (λ (b : Bool). is_some (if b then Some k else None)) h.0
item_has_type s mixed (items.Attribute n k) name u p h = absurd p
item_has_type s mixed items.Text name u p h = absurd h
item_has_type s mixed (items.Document d) name u p h = absurd p
item_has_type s mixed (items.Atom k) name u p h = absurd p

-- a model has a type for each element that it takes
model_has_type : (s : SchemaSet) (mixed : Bool) (t : SequenceType) (name : Name) (u : TypeName) → HoldsOfEach (IsModelItem s mixed) (items_of t) → SomeItemTakes s (items_of t) (shapes.Elem name u)
    → is_some (element_type_in t name) ≡ true
model_has_type s mixed never name u p h = absurd h
model_has_type s mixed nothing name u p h = absurd h
model_has_type s mixed (item kind) name u p (inl h) = item_has_type s mixed kind name u p.0 h
model_has_type s mixed (item kind) name u p (inr h) = absurd h
model_has_type s mixed (both a b) name u p h =
    elim (some_in_two s (items_of a) (items_of b) (shapes.Elem name u) h) [
      | inl k ↦ or_some (element_type_in a name) (element_type_in b name) (model_has_type s mixed a name u (each_first (IsModelItem s mixed) (items_of a) (items_of b) p) k)
      | inr k ↦ or_other (element_type_in a name) (element_type_in b name) (model_has_type s mixed b name u (each_second (IsModelItem s mixed) (items_of a) (items_of b) p) k)
    ]
model_has_type s mixed (either a b) name u p h =
    elim (some_in_two s (items_of a) (items_of b) (shapes.Elem name u) h) [
      | inl k ↦ or_some (element_type_in a name) (element_type_in b name) (model_has_type s mixed a name u (each_first (IsModelItem s mixed) (items_of a) (items_of b) p) k)
      | inr k ↦ or_other (element_type_in a name) (element_type_in b name) (model_has_type s mixed b name u (each_second (IsModelItem s mixed) (items_of a) (items_of b) p) k)
    ]
model_has_type s mixed (optional a) name u p h = model_has_type s mixed a name u p h
model_has_type s mixed (star a) name u p h = model_has_type s mixed a name u p h
model_has_type s mixed (plus a) name u p h = model_has_type s mixed a name u p h

-- ---- the declared types of children

-- the content of a declaration keeps to what contents must
abbrev pub HolderFits : SchemaSet → Option Declared → Type 0
HolderFits s None = Unit {0}
HolderFits s (Some d) = ContentFits s d.content

holder_step : (s : SchemaSet) (t : TypeName) (o : Option Declared) → IsSchemaSet s → declaration_of s t ≡ o → HolderFits s o
holder_step s t None i e = tt
holder_step s t (Some d) i e = let q = holds_of_found (IsDeclarationOf s) s.types t d i.types e in q.content

pub holder_fits : (s : SchemaSet) (t : TypeName) → IsSchemaSet s → HolderFits s (declaration_of s t)
holder_fits s t i = holder_step s t (declaration_of s t) i refl

uses_step : (s : SchemaSet) (t : TypeName) (o : Option Declared) → IsSchemaSet s → declaration_of s t ≡ o → HoldsOfEach (IsSimpleUse s) (uses_allowed o)
uses_step s t None i e = tt
uses_step s t (Some d) i e = let q = holds_of_found (IsDeclarationOf s) s.types t d i.types e in q.attributes

-- the attributes that a type allows have simple types
pub uses_are_simple : (s : SchemaSet) (t : TypeName) → IsSchemaSet s → HoldsOfEach (IsSimpleUse s) (uses_allowed (declaration_of s t))
uses_are_simple s t i = uses_step s t (declaration_of s t) i refl

some_is_known : (s : SchemaSet) (mixed : Bool) (t : SequenceType) (name : Name) (o : Option TypeName) → element_type_in t name ≡ o → HoldsOfEach (IsModelItem s mixed) (items_of t) → is_some o ≡ true
    → is_named_type s (unwrap_or o (names.Builtin Untyped)) ≡ true
some_is_known s mixed t name None e p h = absurd (cc)
some_is_known s mixed t name (Some u) e p h = model_is_known s mixed t name u p e

content_child : (s : SchemaSet) (content : Content) (name : Name) (u : TypeName) → ContentFits s content → SomeItemTakes s (items_of (unwrap_or (model_in content) text_model)) (shapes.Elem name u)
    → is_named_type s (unwrap_or (element_type_in (unwrap_or (model_in content) text_model) name) (names.Builtin Untyped)) ≡ true
content_child s (contents.Atomic f) name u p (inl h) = absurd h
content_child s (contents.Atomic f) name u p (inr h) = absurd h
content_child s (contents.List k f) name u p (inl h) = absurd h
content_child s (contents.List k f) name u p (inr h) = absurd h
content_child s (contents.Simple k f) name u p (inl h) = absurd h
content_child s (contents.Simple k f) name u p (inr h) = absurd h
content_child s (contents.Complex mixed model) name u p h =
    some_is_known s mixed model name (element_type_in model name) refl p.0 (model_has_type s mixed model name u p.0 h)

child_is_known : (s : SchemaSet) (holder : Option Declared) (name : Name) (u : TypeName) → HolderFits s holder → SomeItemTakes s (items_of (content_model holder)) (shapes.Elem name u)
    → is_named_type s (type_of_child holder name) ≡ true
child_is_known s None name u p (inl h) = absurd h
child_is_known s None name u p (inr h) = absurd h
child_is_known s (Some d) name u p h = content_child s d.content name u p h

-- the declared types of the children are known
abbrev pub AreKnown : SchemaSet → Option Declared → SourceContents → Type 0
AreKnown s holder no_content = Unit {0}
AreKnown s holder (a_child t cs) = (is_named_type s (type_of_child holder (tree_name t)) ≡ true) × AreKnown s holder cs
AreKnown s holder (a_text x cs) = AreKnown s holder cs

children_from : (s : SchemaSet) (scope : List Declaration) (holder : Option Declared) (cs : SourceContents) → HolderFits s holder
    → EachShape (SomeItemTakes s (items_of (content_model holder))) (child_shapes s scope holder cs) → AreKnown s holder cs
children_from s scope holder no_content p h = tt
children_from s scope holder (a_child t cs) p h =
    (child_is_known s holder (tree_name t) _ p h.0, children_from s scope holder cs p h.1)
children_from s scope holder (a_text x cs) p h =
    children_from s scope holder cs p (shapes_second (SomeItemTakes s (items_of (content_model holder))) (text_shapes (texts_allowed holder) x) (child_shapes s scope holder cs) h)

pub children_are_known : (s : SchemaSet) (scope : List Declaration) (holder : Option Declared) (cs : SourceContents) → HolderFits s holder
    → Takes s (content_model holder) (child_shapes s scope holder cs) → AreKnown s holder cs
children_are_known s scope holder cs p h = children_from s scope holder cs p (items_take_each_shape s (content_model holder) (child_shapes s scope holder cs) h)

-- ---- texts

no_text_item : (s : SchemaSet) (kinds : List ItemType) → HoldsOfEach (IsModelItem s false) kinds → SomeItemTakes s kinds shapes.Text → ⊥
no_text_item s [] p h = h
no_text_item s (items.Element n k ∷ ks) p (inl h) = h
no_text_item s (items.Attribute n k ∷ ks) p (inl h) = h
no_text_item s (items.Text ∷ ks) p (inl h) = let e = p.0 in absurd (cc)
no_text_item s (items.Document None ∷ ks) p (inl h) = h
no_text_item s (items.Document (Some d) ∷ ks) p (inl h) = h
no_text_item s (items.Atom k ∷ ks) p (inl h) = h
no_text_item s (k ∷ ks) p (inr h) = no_text_item s ks p.1 h

kept_is_not_stray : (texts : List (List ℕ)) → list_any (is_stray Kept) texts ≡ false
kept_is_not_stray [] = refl
kept_is_not_stray (x ∷ xs) = kept_is_not_stray xs

-- in element-only content no text stands, but for white space
ignored_step : (s : SchemaSet) (kinds : List ItemType) (x : List ℕ) (b : Bool) (others : List Shape) (rest : Bool) → HoldsOfEach (IsModelItem s false) kinds
    → EachShape (SomeItemTakes s kinds) ((if b then [] else (shapes.Text ∷ [])) ++ others) → (EachShape (SomeItemTakes s kinds) others → rest ≡ false) → (not b || rest) ≡ false
ignored_step s kinds x true others rest p h k = k h
ignored_step s kinds x false others rest p h k = absurd (no_text_item s kinds p h.0)

ignored_are_not_stray : (s : SchemaSet) (scope : List Declaration) (holder : Option Declared) (kinds : List ItemType) (cs : SourceContents) → texts_allowed holder ≡ Ignored
    → HoldsOfEach (IsModelItem s false) kinds → EachShape (SomeItemTakes s kinds) (child_shapes s scope holder cs) → has_stray_text Ignored cs ≡ false
ignored_are_not_stray s scope holder kinds no_content e p h = refl
ignored_are_not_stray s scope holder kinds (a_child t cs) e p h = ignored_are_not_stray s scope holder kinds cs e p h.1
ignored_are_not_stray s scope holder kinds (a_text x cs) e p h =
    ignored_step s kinds x (is_blank x) (child_shapes s scope holder cs) (has_stray_text Ignored cs) p
    (subst (λ (texts : Texts). EachShape (SomeItemTakes s kinds) (text_shapes texts x ++ child_shapes s scope holder cs)) e h)
    (ignored_are_not_stray s scope holder kinds cs e p)

-- in empty content there is no text
forbidden_are_not_there : (s : SchemaSet) (scope : List Declaration) (holder : Option Declared) (cs : SourceContents) → texts_allowed holder ≡ Forbidden
    → child_shapes s scope holder cs ≡ [] → has_stray_text Forbidden cs ≡ false
forbidden_are_not_there s scope holder no_content e h = refl
forbidden_are_not_there s scope holder (a_child t cs) e h = absurd (cc)
forbidden_are_not_there s scope holder (a_text x cs) e h =
    let q : text_shapes Forbidden x ++ child_shapes s scope holder cs ≡ [] = ap (λ (texts : Texts). text_shapes texts x ++ child_shapes s scope holder cs) (sym e) ∙ h in absurd (cc)

only_elements : (s : SchemaSet) (scope : List Declaration) (holder : Option Declared) (cs : SourceContents) (model : SequenceType) → texts_allowed holder ≡ Ignored
    → HoldsOfEach (IsModelItem s false) (items_of model) → Takes s model (child_shapes s scope holder cs) → has_stray_text Ignored cs ≡ false
only_elements s scope holder cs model e p h = ignored_are_not_stray s scope holder (items_of model) cs e p (items_take_each_shape s model (child_shapes s scope holder cs) h)

-- no text stands where elements alone may stand, under a content model that takes the children
stray_under_model : (s : SchemaSet) (scope : List Declaration) (holder : Option Declared) (cs : SourceContents) (model : SequenceType) → texts_allowed holder ≡ texts_allowed_by model
    → HoldsOfEach (IsModelItem s false) (items_of model) → Takes s model (child_shapes s scope holder cs) → has_stray_text (texts_allowed_by model) cs ≡ false
stray_under_model s scope holder cs never e p h = absurd h
stray_under_model s scope holder cs nothing e p h = forbidden_are_not_there s scope holder cs e h
stray_under_model s scope holder cs (item k) e p h = only_elements s scope holder cs (item k) e p h
stray_under_model s scope holder cs (both a b) e p h = only_elements s scope holder cs (both a b) e p h
stray_under_model s scope holder cs (either a b) e p h = only_elements s scope holder cs (either a b) e p h
stray_under_model s scope holder cs (optional a) e p h = only_elements s scope holder cs (optional a) e p h
stray_under_model s scope holder cs (star a) e p h = only_elements s scope holder cs (star a) e p h
stray_under_model s scope holder cs (plus a) e p h = only_elements s scope holder cs (plus a) e p h

stray_under_content : (s : SchemaSet) (scope : List Declaration) (holder : Option Declared) (cs : SourceContents) (content : Content) → texts_allowed holder ≡ texts_allowed_in content
    → ContentFits s content → Takes s (unwrap_or (model_in content) text_model) (child_shapes s scope holder cs) → has_stray_text (texts_allowed_in content) cs ≡ false
stray_under_content s scope holder cs (contents.Atomic f) e p h = kept_is_not_stray (child_texts cs)
stray_under_content s scope holder cs (contents.List k f) e p h = kept_is_not_stray (child_texts cs)
stray_under_content s scope holder cs (contents.Simple k f) e p h = kept_is_not_stray (child_texts cs)
stray_under_content s scope holder cs (contents.Complex true model) e p h = kept_is_not_stray (child_texts cs)
stray_under_content s scope holder cs (contents.Complex false model) e p h = stray_under_model s scope holder cs model e p.0 h

pub no_stray_text : (s : SchemaSet) (scope : List Declaration) (holder : Option Declared) (cs : SourceContents) → HolderFits s holder
    → Takes s (content_model holder) (child_shapes s scope holder cs) → has_stray_text (texts_allowed holder) cs ≡ false
no_stray_text s scope None cs p h = kept_is_not_stray (child_texts cs)
no_stray_text s scope (Some d) cs p h = stray_under_content s scope (Some d) cs d.content refl p h

-- ---- simple values

values_step : (content : Content) → is_none (model_in content) ≡ true → texts_allowed_in content ≡ Kept
values_step (contents.Atomic f) h = refl
values_step (contents.List k f) h = refl
values_step (contents.Simple k f) h = refl
values_step (contents.Complex mixed model) h = absurd (cc)

-- texts are kept where they stand for values
pub values_keep_texts : (holder : Option Declared) → has_values holder ≡ true → texts_allowed holder ≡ Kept
values_keep_texts None h = refl
values_keep_texts (Some d) h = values_step d.content h

model_step : (o : Option SequenceType) → is_none o ≡ true → unwrap_or o text_model ≡ text_model
model_step None h = refl
model_step (Some model) h = absurd (cc)

pub values_have_text_model : (holder : Option Declared) → has_values holder ≡ true → content_model holder ≡ text_model
values_have_text_model holder h = model_step (complex_model holder) h
