-- Elements of schema documents that stand within the profile.
use Rattle.std.proofs.Common.{◌≡◌, ◌∙◌, ℕ, Bool, true, false, not, ◌&&◌, ◌||◌, List, [], ◌∷◌, ◌++◌, Option, None, Some, ◌⊎◌, inl, inr, refl, sym, ap, if◌then◌else◌}
use Rattle.std.specs.Prelude.{bytes_eq, codes}
use Rattle.std.specs.Option.{option_or}
use Rattle.std.specs.Str.{encode_utf8_all}
use Rattle.std.proofs.lemmas.Slice.Eq.{bytes_eq-Decides}
use Rattle.gx_base.specs.declared.name.Name.{Name}
use Rattle.gx_xml.specs.declared.source.Declaration.{Declaration}
use Rattle.gx_xml.specs.declared.source.SourceAttribute.{SourceAttribute}
use Rattle.gx_xml.specs.SourceTree.{SourceTree, SourceContents, source, a_child, tree_name}
use Rattle.gx_qnames.specs.Words.{has_spelling, is_schema_uri, written_name}
use Rattle.gx_schema_syntax.specs.declared.attributes.Form.{Form}
use Rattle.gx_schema_syntax.specs.declared.parts.Seen.{Seen}
use Rattle.gx_schema_syntax.specs.declared.parts.Slot.{Slot}
use Rattle.gx_schema_syntax.specs.declared.role.Role.{Role}
use Rattle.gx_schema_syntax.specs.Attributes.{form_of}
use Rattle.gx_schema_syntax.specs.Contents.{given_value, is_plain}
use Rattle.gx_schema_syntax.specs.Outside.{at_slot, has_wrong_itself, missing_type, outside_among, outside_attribute, outside_attributes, outside_by_row, outside_element, seen_before, slot_fitting, slot_if_fitting, slot_in}
use Rattle.gx_schema_syntax.specs.Parts.{fits, role_in, seen_after, slot_of}
use Rattle.gx_schema_syntax.specs.Words.{is_annotation, is_schema_element, shown_name}
use Rattle.gx_schema.proofs.Lists.{first_none, second_none}

-- ---- tests

pub both_parts : (a b : Bool) → (a && b) ≡ true → (a ≡ true) × (b ≡ true)
both_parts true true h = (refl, refl)
both_parts true false h = absurd (cc)
both_parts false b h = absurd (cc)

and_false : (b : Bool) → (b && false) ≡ false
and_false true = refl
and_false false = refl

pub or_right : (a b : Bool) → b ≡ true → (a || b) ≡ true
or_right true b h = refl
or_right false b h = h

pub spelled : (word text : List ℕ) → has_spelling word text ≡ true → encode_utf8_all text ≡ word
spelled word text h = (bytes_eq-Decides (encode_utf8_all text) word).0 h

-- an element of one name has no other
pub not_named : (word other : List ℕ) (name : Name) → bytes_eq word other ≡ false → is_schema_element word name ≡ true → is_schema_element other name ≡ false
not_named word other name apart h =
    let parts = both_parts (is_schema_uri name.uri) (has_spelling word name.local) h in
    ap (λ (text : List ℕ). is_schema_uri name.uri && bytes_eq text other) (spelled word name.local parts.1)
    ∙ ap (λ (b : Bool). is_schema_uri name.uri && b) apart ∙ and_false (is_schema_uri name.uri)

-- ---- what stands within the profile

-- an element within the profile
pub record IsElementInside (scope : List Declaration) (role : Role) (attributes : List SourceAttribute) (cs : SourceContents) : Type 0 where
  pub typed : missing_type role attributes cs ≡ None
  pub attributes_inside : outside_attributes scope role attributes ≡ None
  pub parts : outside_among scope role (seen_before role attributes) cs ≡ None

element_by : (wrong : Bool) (shown : List ℕ) (scope : List Declaration) (role : Role) (attributes : List SourceAttribute) (cs : SourceContents) →
    (if wrong then Some shown else option_or (missing_type role attributes cs) (option_or (outside_attributes scope role attributes) (outside_among scope role (seen_before role attributes) cs))) ≡ None →
    IsElementInside scope role attributes cs
element_by true shown scope role attributes cs e = absurd (cc)
element_by false shown scope role attributes cs e =
    let missing = missing_type role attributes cs in
    let outside = outside_attributes scope role attributes in
    let among = outside_among scope role (seen_before role attributes) cs in
    let rest = second_none missing (option_or outside among) e in
    record { typed = first_none missing (option_or outside among) e; attributes_inside = first_none outside among rest; parts = second_none outside among rest }

pub element_inside : (scope : List Declaration) (role : Role) (name : Name) (declarations : List Declaration) (attributes : List SourceAttribute) (cs : SourceContents) →
    outside_element scope role (source name declarations attributes cs) ≡ None → IsElementInside (declarations ++ scope) role attributes cs
element_inside scope role name declarations attributes cs e =
    element_by (has_wrong_itself role (source name declarations attributes cs)) (shown_name name) (declarations ++ scope) role attributes cs e

-- a part within the profile, and those behind it
pub record IsPartInside (scope : List Declaration) (role : Role) (seen : Seen) (t : SourceTree) (cs : SourceContents) : Type 0 where
  pub slot : Slot
  pub fitting : slot_fitting seen role t ≡ Some slot
  pub element : outside_element scope (role_in slot) t ≡ None
  pub others : outside_among scope role (seen_after slot) cs ≡ None

part_by : (scope : List Declaration) (role : Role) (seen : Seen) (t : SourceTree) (cs : SourceContents) (o : Option Slot) → slot_fitting seen role t ≡ o →
    at_slot o (Some (shown_name (tree_name t))) (λ slot. option_or (outside_element scope (role_in slot) t) (outside_among scope role (seen_after slot) cs)) ≡ None → IsPartInside scope role seen t cs
part_by scope role seen t cs None f e = absurd (cc)
part_by scope role seen t cs (Some slot) f e =
    let element = outside_element scope (role_in slot) t in
    let others = outside_among scope role (seen_after slot) cs in
    record { slot = slot; fitting = f; element = first_none element others e; others = second_none element others e }

-- an annotation is passed over, and else the part is within the profile
pub part_inside : (scope : List Declaration) (role : Role) (seen : Seen) (t : SourceTree) (cs : SourceContents) → outside_among scope role seen (a_child t cs) ≡ None → (annotates : Bool) → is_annotation (tree_name t) ≡ annotates →
    ((annotates ≡ true) × (outside_among scope role seen cs ≡ None)) ⊎ ((annotates ≡ false) × IsPartInside scope role seen t cs)
part_inside scope role seen t cs e annotates f = by annotates (sym (ap (λ (b : Bool). if b then outside_among scope role seen cs else at_slot (slot_fitting seen role t) (Some (shown_name (tree_name t)))
    (λ slot. option_or (outside_element scope (role_in slot) t) (outside_among scope role (seen_after slot) cs))) f) ∙ e)
  where
    by : (b : Bool) → (if b then outside_among scope role seen cs else at_slot (slot_fitting seen role t) (Some (shown_name (tree_name t)))
        (λ slot. option_or (outside_element scope (role_in slot) t) (outside_among scope role (seen_after slot) cs))) ≡ None →
        ((b ≡ true) × (outside_among scope role seen cs ≡ None)) ⊎ ((b ≡ false) × IsPartInside scope role seen t cs)
    by true g = inl (refl, g)
    by false g = inr (refl, part_by scope role seen t cs (slot_fitting seen role t) refl g)

-- ---- attributes that an element does not have

outside_by : (in_schema plain ignored : Bool) (scope : List Declaration) (form : Option Form) (a : SourceAttribute) → plain ≡ true → ignored ≡ false → form ≡ None →
    (if in_schema then Some (written_name a.name) else (if not plain || ignored then None else outside_by_row scope form a)) ≡ None → ⊥
outside_by true plain ignored scope form a p i f e = cc
outside_by false true false scope None a p i f e = cc
outside_by false true false scope (Some form) a p i f e = cc
outside_by false true true scope form a p i f e = cc
outside_by false false ignored scope form a p i f e = cc

given_step : (b : Bool) (value : List ℕ) (others : Option (List ℕ)) → (b ≡ true → ⊥) → others ≡ None → (if b then Some value else others) ≡ None
given_step true value others h k = absurd (h refl)
given_step false value others h k = k

-- one that the table does not have is not given
pub not_given : (scope : List Declaration) (role : Role) (word : List ℕ) → form_of role word ≡ None → bytes_eq word (codes "id") ≡ false → (attributes : List SourceAttribute) →
    outside_attributes scope role attributes ≡ None → given_value word attributes ≡ None
not_given scope role word f i [] e = refl
not_given scope role word f i (a ∷ others) e =
    let here = first_none (outside_attribute scope role a) (outside_attributes scope role others) e in
    given_step (is_plain word a.name) a.value (given_value word others)
    (λ plain.
    let parts = both_parts (bytes_eq a.name.uri []) (has_spelling word a.name.local) plain in
    let same = spelled word a.name.local parts.1 in
    outside_by (is_schema_uri a.name.uri) (bytes_eq a.name.uri []) (has_spelling (codes "id") a.name.local) scope (form_of role (encode_utf8_all a.name.local)) a
    parts.0 (ap (λ (text : List ℕ). bytes_eq text (codes "id")) same ∙ i) (ap (form_of role) same ∙ f) here)
    (not_given scope role word f i others (second_none (outside_attribute scope role a) (outside_attributes scope role others) e))

-- ---- slots

fitted : (b : Bool) (one slot : Slot) → (if b then Some one else None) ≡ Some slot → one ≡ slot
fitted true one slot e = cc
fitted false one slot e = absurd (cc)

pub slot_there : (seen : Seen) (o : Option Slot) (slot : Slot) → slot_if_fitting seen o ≡ Some slot → o ≡ Some slot
slot_there seen None slot e = absurd (cc)
slot_there seen (Some one) slot e = ap Some (fitted (fits seen one) one slot e)

pub slot_by : (in_schema : Bool) (role : Role) (local : List ℕ) (slot : Slot) → slot_in in_schema role local ≡ Some slot → (in_schema ≡ true) × (slot_of role (encode_utf8_all local) ≡ Some slot)
slot_by true role local slot e = (refl, e)
slot_by false role local slot e = absurd (cc)

pub one_slot : (one slot : Slot) → ◌≡◌ {A = Option Slot} (Some one) (Some slot) → one ≡ slot
one_slot one slot e = cc

-- the slot of an element of a name
pub slot_is : (seen : Seen) (role : Role) (word : List ℕ) (wanted : Slot) → slot_of role word ≡ Some wanted → (name : Name) (declarations : List Declaration) (attributes : List SourceAttribute) (cs : SourceContents) (slot : Slot) →
    is_schema_element word name ≡ true → slot_fitting seen role (source name declarations attributes cs) ≡ Some slot → wanted ≡ slot
slot_is seen role word wanted w name declarations attributes cs slot named e =
    let parts = both_parts (is_schema_uri name.uri) (has_spelling word name.local) named in
    let there = slot_by (is_schema_uri name.uri) role name.local slot (slot_there seen (slot_in (is_schema_uri name.uri) role name.local) slot e) in
    one_slot wanted slot (sym w ∙ ap (slot_of role) (sym (spelled word name.local parts.1)) ∙ there.1)
