-- The attributes of elements with their types.
use Rattle.std.proofs.Common.{◌≡◌, ℕ, Bool, true, false, not, cond, ◌||◌, ◌&&◌, List, [], ◌∷◌, refl, sym, ◌∙◌, ap, subst, map, Option, Some, None, if◌then◌else◌}
use Rattle.std.specs.Prelude.{is_none}
use Rattle.std.specs.List.{list_any}
use Rattle.std.proofs.lemmas.Bool.{not-false}
use Rattle.gx_base.specs.Name.{same_name}
use Rattle.gx_base.specs.declared.name.Name.{Name}
use Rattle.gx_base.specs.declared.type_name.TypeName.{TypeName}
use Rattle.gx_tree.specs.Erasure.{erased_attribute}
use Rattle.gx_tree.specs.OwnNames.{has_attribute, HaveOwnNames}
use Rattle.gx_tree.specs.declared.attribute.Attribute.{Attribute}
use Rattle.gx_types.specs.SchemaSet.{SchemaSet}
use Rattle.gx_types.specs.SchemaInvariant.{HoldsOfEach, is_simple_type}
use Rattle.gx_types.specs.declared.declaration.AttributeUse.{AttributeUse}
use Rattle.gx_xml.specs.Sound.{HasNoRepeats}
use Rattle.gx_xml.specs.Untyped.{is_instance_namespace, attribute_as_untyped, untyped_attributes}
use Rattle.gx_xml.specs.declared.source.SourceAttribute.{SourceAttribute}
use Rattle.gx_validate.specs.Outcome.{typed_attributes}
use Rattle.gx_model.specs.DeclaredContent.{use_named, is_valued}
use Rattle.gx_validate.specs.Rules.{is_extra, has_extra, is_present, lacks_required, type_of_use, type_of_attribute, is_bad_attribute, has_bad_attribute}
use Rattle.gx_model.specs.TypedTree.{IsAllowedAttribute, IsGivenWhereRequired}
use Rattle.gx_validate.proofs.Tests.{or_left_false, or_right_false, either_false}

-- one attribute with its type
abbrev typed_one : List AttributeUse → SourceAttribute → Attribute
typed_one uses a = record { name = a.name; kind = type_of_attribute uses a.name; value = a.value }

-- those that are typed, by a test whether the first is left out
abbrev behind_first : Bool → Attribute → List Attribute → List Attribute
behind_first b first others = if b then others else (first ∷ others)

-- ---- names stay

present_step : (b : Bool) (name : Name) (first : Attribute) (others : List Attribute) (rest : Bool) → rest ≡ list_any (λ (a : Attribute). same_name name a.name) others
    → ((not b && same_name name first.name) || rest) ≡ list_any (λ (a : Attribute). same_name name a.name) (behind_first b first others)
present_step true name first others rest e = e
present_step false name first others rest e = ap (λ (x : Bool). same_name name first.name || x) e

-- an attribute is among the typed ones exactly where it is present
pub present_is : (uses : List AttributeUse) (attributes : List SourceAttribute) (name : Name) → is_present attributes name ≡ list_any (λ (a : Attribute). same_name name a.name) (typed_attributes uses attributes)
present_is uses [] name = refl
present_is uses (a ∷ others) name =
    present_step (is_instance_namespace a.name.uri) name (typed_one uses a) (typed_attributes uses others) (is_present others name) (present_is uses others name)

erased_step : (b : Bool) (first plain : Attribute) (others rest : List Attribute) → erased_attribute first ≡ plain → map erased_attribute others ≡ rest
    → map erased_attribute (behind_first b first others) ≡ (if b then rest else (plain ∷ rest))
erased_step true first plain others rest e h = h
erased_step false first plain others rest e h = ap (λ (x : Attribute). x ∷ map erased_attribute others) e ∙ ap (λ (xs : List Attribute). plain ∷ xs) h

-- without their types they are the attributes that count
pub typed_are_same : (uses : List AttributeUse) (attributes : List SourceAttribute) → map erased_attribute (typed_attributes uses attributes) ≡ untyped_attributes attributes
typed_are_same uses [] = refl
typed_are_same uses (a ∷ others) =
    erased_step (is_instance_namespace a.name.uri) (typed_one uses a) (attribute_as_untyped a) (typed_attributes uses others) (untyped_attributes others) refl (typed_are_same uses others)

fewer_step : (b : Bool) (first : Attribute) (others : List Attribute) (name : Name) (rest : Bool) → (same_name name first.name || rest) ≡ false
    → (rest ≡ false → list_any (λ (a : Attribute). same_name name a.name) others ≡ false) → list_any (λ (a : Attribute). same_name name a.name) (behind_first b first others) ≡ false
fewer_step true first others name rest h k = k (or_right_false (same_name name first.name) rest h)
fewer_step false first others name rest h k =
    ap (λ (x : Bool). x || list_any (λ (a : Attribute). same_name name a.name) others) (or_left_false (same_name name first.name) rest h) ∙ k (or_right_false (same_name name first.name) rest h)

none_of_name : (uses : List AttributeUse) (attributes : List SourceAttribute) (name : Name) → list_any (same_name name) (map (λ (a : SourceAttribute). a.name) attributes) ≡ false
    → list_any (λ (a : Attribute). same_name name a.name) (typed_attributes uses attributes) ≡ false
none_of_name uses [] name h = refl
none_of_name uses (a ∷ others) name h =
    fewer_step (is_instance_namespace a.name.uri) (typed_one uses a) (typed_attributes uses others) name (list_any (same_name name) (map (λ (a : SourceAttribute). a.name) others)) h (none_of_name uses others name)

own_step : (b : Bool) (first : Attribute) (others : List Attribute) → has_attribute others first ≡ false → HaveOwnNames others → HaveOwnNames (behind_first b first others)
own_step true first others h k = k
own_step false first others h k = (h, k)

pub own_names : (uses : List AttributeUse) (attributes : List SourceAttribute) → HasNoRepeats same_name (map (λ (a : SourceAttribute). a.name) attributes) → HaveOwnNames (typed_attributes uses attributes)
own_names uses [] h = tt
own_names uses (a ∷ others) h =
    own_step (is_instance_namespace a.name.uri) (typed_one uses a) (typed_attributes uses others) (none_of_name uses others a.name h.0) (own_names uses others h.1)

-- ---- attributes that are allowed

-- the types of attributes are simple
abbrev pub IsSimpleUse : SchemaSet → AttributeUse → Type 0
IsSimpleUse s u = is_simple_type s u.kind ≡ true

simple_here : (s : SchemaSet) (v u : AttributeUse) (others : Option AttributeUse) (here : Bool) → IsSimpleUse s v → (others ≡ Some u → IsSimpleUse s u) → cond here (Some v) others ≡ Some u → IsSimpleUse s u
simple_here s v u others true h next e = let same : v ≡ u = cc in subst (IsSimpleUse s) same h
simple_here s v u others false h next e = next e

simple_use : (s : SchemaSet) (w : Name) (uses : List AttributeUse) (u : AttributeUse) → HoldsOfEach (IsSimpleUse s) uses → use_named uses w ≡ Some u → IsSimpleUse s u
simple_use s w [] u h e = absurd (cc)
simple_use s w (v ∷ uses) u h e = simple_here s v u (use_named uses w) (same_name v.name w) h.0 (λ f. simple_use s w uses u h.1 f) e

use_step : (s : SchemaSet) (uses : List AttributeUse) (a : Attribute) (o : Option AttributeUse) → HoldsOfEach (IsSimpleUse s) uses → use_named uses a.name ≡ o → a.kind ≡ type_of_use o → is_none o ≡ false
    → is_valued s a.kind a.value ≡ true → IsAllowedAttribute s uses a
use_step s uses a None p e k h v = absurd (cc)
use_step s uses a (Some u) p e k h v =
    let simple : is_simple_type s a.kind ≡ true = ap (is_simple_type s) k ∙ simple_use s a.name uses u p e in
    record { use_of_it = u; allowed = e; kind = k; typed = record { simple = simple; value = v } }

allowed_step : (s : SchemaSet) (uses : List AttributeUse) (b : Bool) (first : Attribute) (others : List Attribute) → HoldsOfEach (IsSimpleUse s) uses → first.kind ≡ type_of_attribute uses first.name
    → (not b && is_none (use_named uses first.name)) ≡ false → (not b && not (is_valued s first.kind first.value)) ≡ false
    → HoldsOfEach (IsAllowedAttribute s uses) others → HoldsOfEach (IsAllowedAttribute s uses) (behind_first b first others)
allowed_step s uses true first others p k e v h = h
allowed_step s uses false first others p k e v h = (use_step s uses first (use_named uses first.name) p refl k e (not-false (is_valued s first.kind first.value) v), h)

pub attributes_are_allowed : (s : SchemaSet) (uses : List AttributeUse) (attributes : List SourceAttribute) → HoldsOfEach (IsSimpleUse s) uses → has_extra uses attributes ≡ false
    → has_bad_attribute s uses attributes ≡ false → HoldsOfEach (IsAllowedAttribute s uses) (typed_attributes uses attributes)
attributes_are_allowed s uses [] p e v = tt
attributes_are_allowed s uses (a ∷ others) p e v =
    allowed_step s uses (is_instance_namespace a.name.uri) (typed_one uses a) (typed_attributes uses others) p refl
    (or_left_false (is_extra uses a) (has_extra uses others) e) (or_left_false (is_bad_attribute s uses a) (has_bad_attribute s uses others) v)
    (attributes_are_allowed s uses others p (or_right_false (is_extra uses a) (has_extra uses others) e) (or_right_false (is_bad_attribute s uses a) (has_bad_attribute s uses others) v))

-- ---- attributes that are required

required_step : (required present : Bool) → (required && not present) ≡ false → required ≡ true → present ≡ true
required_step true present h k = not-false present h
required_step false present h k = absurd (cc)

required_from : (uses : List AttributeUse) (attributes : List SourceAttribute) (typed : List Attribute) → ((name : Name) → is_present attributes name ≡ list_any (λ (a : Attribute). same_name name a.name) typed)
    → lacks_required uses attributes ≡ false → HoldsOfEach (IsGivenWhereRequired typed) uses
required_from [] attributes typed same h = tt
required_from (u ∷ us) attributes typed same h = (
  λ k. sym (same u.name) ∙ required_step u.required (is_present attributes u.name) (or_left_false (u.required && not (is_present attributes u.name)) (lacks_required us attributes) h) k,
  required_from us attributes typed same (or_right_false (u.required && not (is_present attributes u.name)) (lacks_required us attributes) h),
)

pub required_are_given : (uses : List AttributeUse) (attributes : List SourceAttribute) → lacks_required uses attributes ≡ false → HoldsOfEach (IsGivenWhereRequired (typed_attributes uses attributes)) uses
required_are_given uses attributes h = required_from uses attributes (typed_attributes uses attributes) (present_is uses attributes) h

given_step : (required present : Bool) → (required ≡ true → present ≡ true) → (required && not present) ≡ false
given_step true true h = refl
given_step true false h = sym (h refl)
given_step false present h = refl

given_from : (uses : List AttributeUse) (attributes : List SourceAttribute) (typed : List Attribute) → ((name : Name) → is_present attributes name ≡ list_any (λ (a : Attribute). same_name name a.name) typed)
    → HoldsOfEach (IsGivenWhereRequired typed) uses → lacks_required uses attributes ≡ false
given_from [] attributes typed same h = refl
given_from (u ∷ us) attributes typed same h =
    either_false (u.required && not (is_present attributes u.name)) (lacks_required us attributes)
    (given_step u.required (is_present attributes u.name) (λ k. same u.name ∙ h.0 k)) (given_from us attributes typed same h.1)

pub given_where_required : (uses : List AttributeUse) (attributes : List SourceAttribute) → HoldsOfEach (IsGivenWhereRequired (typed_attributes uses attributes)) uses → lacks_required uses attributes ≡ false
given_where_required uses attributes h = given_from uses attributes (typed_attributes uses attributes) (present_is uses attributes) h

-- ---- attributes of a valid tree

-- what holds of the attributes of an element whose typed ones are allowed
pub record AreAllowed (s : SchemaSet) (uses : List AttributeUse) (attributes : List SourceAttribute) (typed : List Attribute) : Type 0 where
  pub no_extra : has_extra uses attributes ≡ false
  pub no_bad : has_bad_attribute s uses attributes ≡ false
  pub typed_so : typed ≡ typed_attributes uses attributes

use_is : (s : SchemaSet) (uses : List AttributeUse) (a : Attribute) → IsAllowedAttribute s uses a → (is_none (use_named uses a.name) ≡ false) × (a.kind ≡ type_of_attribute uses a.name)
use_is s uses a h = (ap is_none h.allowed, h.kind ∙ ap type_of_use (sym h.allowed))

-- an attribute that counts, and its typed one
one_allowed : (s : SchemaSet) (uses : List AttributeUse) (b : Attribute) (a : SourceAttribute) → erased_attribute b ≡ attribute_as_untyped a → IsAllowedAttribute s uses b
    → (is_none (use_named uses a.name) ≡ false) × (is_valued s (type_of_attribute uses a.name) a.value ≡ true) × (b ≡ typed_one uses a)
one_allowed s uses b a e h =
    let q = use_is s uses b h in
    let typed = h.typed in
    let name : b.name ≡ a.name = ap (λ (x : Attribute). x.name) e in
    let value : b.value ≡ a.value = ap (λ (x : Attribute). x.value) e in
    let kind : b.kind ≡ type_of_attribute uses a.name = q.1 ∙ ap (type_of_attribute uses) name in
    let of_name : Name → Attribute = λ n. record { name = n; kind = b.kind; value = b.value } in
    let of_kind : TypeName → Attribute = λ k. record { name = a.name; kind = k; value = b.value } in
    let of_value : List ℕ → Attribute = λ x. record { name = a.name; kind = type_of_attribute uses a.name; value = x } in (
      subst (λ (n : Name). is_none (use_named uses n) ≡ false) name q.0,
      ap (λ k. is_valued s k a.value) (sym kind) ∙ ap (λ x. is_valued s b.kind x) (sym value) ∙ typed.value,
      ap of_name name ∙ ap of_kind kind ∙ ap of_value value,
    )

nothing_extra : (b x : Bool) → x ≡ false → (not b && x) ≡ false
nothing_extra true x h = refl
nothing_extra false x h = h

allowed_behind : (s : SchemaSet) (uses : List AttributeUse) (a : SourceAttribute) (others : List SourceAttribute) (typed : List Attribute) (b : Bool) → is_instance_namespace a.name.uri ≡ b
    → map erased_attribute typed ≡ (if b then (untyped_attributes others) else (attribute_as_untyped a ∷ untyped_attributes others)) → HoldsOfEach (IsAllowedAttribute s uses) typed
    → ((rest : List Attribute) → map erased_attribute rest ≡ untyped_attributes others → HoldsOfEach (IsAllowedAttribute s uses) rest → AreAllowed s uses others rest)
    → AreAllowed s uses (a ∷ others) typed
allowed_behind s uses a others typed true i e h k =
    let q = k typed e h in record {
      no_extra = ap (λ (b : Bool). (not b && is_none (use_named uses a.name)) || has_extra uses others) i ∙ q.no_extra;
      no_bad = ap (λ (b : Bool). (not b && not (is_valued s (type_of_attribute uses a.name) a.value)) || has_bad_attribute s uses others) i ∙ q.no_bad;
      typed_so = q.typed_so ∙ ap (λ (b : Bool). behind_first b (typed_one uses a) (typed_attributes uses others)) (sym i);
    }
allowed_behind s uses a others [] false i e h k = absurd (cc)
allowed_behind s uses a others (b ∷ bs) false i e h k =
    let first : erased_attribute b ≡ attribute_as_untyped a = cc in
    let behind : map erased_attribute bs ≡ untyped_attributes others = cc in
    let q = k bs behind h.1 in
    let r = one_allowed s uses b a first h.0 in record {
      no_extra = either_false (is_extra uses a) (has_extra uses others) (nothing_extra (is_instance_namespace a.name.uri) (is_none (use_named uses a.name)) r.0) q.no_extra;
      no_bad = either_false (is_bad_attribute s uses a) (has_bad_attribute s uses others)
          (nothing_extra (is_instance_namespace a.name.uri) (not (is_valued s (type_of_attribute uses a.name) a.value)) (ap not r.1)) q.no_bad;
      typed_so = ap (λ (x : Attribute). x ∷ bs) r.2 ∙ ap (λ (xs : List Attribute). typed_one uses a ∷ xs) q.typed_so ∙ ap (λ (b : Bool). behind_first b (typed_one uses a) (typed_attributes uses others)) (sym i);
    }

pub allowed_are : (s : SchemaSet) (uses : List AttributeUse) (attributes : List SourceAttribute) (typed : List Attribute) → map erased_attribute typed ≡ untyped_attributes attributes
    → HoldsOfEach (IsAllowedAttribute s uses) typed → AreAllowed s uses attributes typed
allowed_are s uses [] [] e h = record { no_extra = refl; no_bad = refl; typed_so = refl }
allowed_are s uses [] (b ∷ bs) e h = absurd (cc)
allowed_are s uses (a ∷ others) typed e h =
    allowed_behind s uses a others typed (is_instance_namespace a.name.uri) refl e h (λ rest f g. allowed_are s uses others rest f g)
