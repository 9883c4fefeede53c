-- The roles of parts by their names, wherever they stand.
use Rattle.std.proofs.Common.{◌≡◌, ◌∙◌, ℕ, Bool, true, false, ◌&&◌, ◌||◌, List, [], ◌∷◌, None, Some, refl, sym, ap, subst, if◌then◌else◌}
use Rattle.std.specs.Prelude.{bytes_eq, codes}
use Rattle.std.specs.List.{list_all}
use Rattle.std.specs.Str.{encode_utf8_all}
use Rattle.std.proofs.lemmas.Bool.{true≢false}
use Rattle.std.proofs.lemmas.Slice.Eq.{bytes_eq-Decides}
use Rattle.gx_base.specs.declared.name.Name.{Name}
use Rattle.gx_qnames.specs.Words.{has_spelling, is_schema_uri}
use Rattle.gx_schema_syntax.specs.declared.parts.Slot.{Slot}
use Rattle.gx_schema_syntax.specs.declared.parts.Slot.TheVariants.{Alone, Repeated}
use Rattle.gx_schema_syntax.specs.declared.role.Compositor.TheVariants.{Sequence, Choice}
use Rattle.gx_schema_syntax.specs.declared.role.Role.{Role}
use Rattle.gx_schema_syntax.specs.declared.role.Role.TheVariants as roles
use Rattle.gx_schema_syntax.specs.Parts.{PartRows, parts_of, role_in, slot_among, slot_of}
use Rattle.gx_schema_syntax.specs.Types.{is_particle}
use Rattle.gx_schema_syntax.specs.Words.{is_schema_element}
use Rattle.gx_schema.proofs.InsideProfile.{both_parts, one_slot, or_right, spelled}

-- ---- roles

abbrev pub is_element_role : Role → Bool
is_element_role roles.GlobalElement = true
is_element_role roles.LocalElement = true
is_element_role _ = false

abbrev pub is_attribute_role : Role → Bool
is_attribute_role roles.GlobalAttribute = true
is_attribute_role roles.LocalAttribute = true
is_attribute_role _ = false

abbrev pub is_group_role : Role → Bool
is_group_role (roles.ModelGroup compositor) = true
is_group_role _ = false

abbrev pub is_content_role : Role → Bool
is_content_role roles.SimpleContent = true
is_content_role roles.ComplexContent = true
is_content_role _ = false

-- a part of this name may have this role
abbrev pub is_fitting : (word : List ℕ) → Role → Bool
is_fitting word role =
    if bytes_eq word (codes "element") then is_element_role role
    else (if bytes_eq word (codes "attribute") then is_attribute_role role
    else (if bytes_eq word (codes "sequence") || bytes_eq word (codes "choice") then is_group_role role
    else (if bytes_eq word (codes "simpleContent") || bytes_eq word (codes "complexContent") then is_content_role role else true)))

-- ---- the table of parts

abbrev is_fitting_row : List ℕ × Slot → Bool
is_fitting_row row = is_fitting row.0 (role_in row.1)

rows_fit : (role : Role) → list_all is_fitting_row (parts_of role) ≡ true
unfolding parts_of
rows_fit roles.Schema = refl
rows_fit _ = refl

row_by : (b : Bool) (row : List ℕ × Slot) (rows : PartRows) (word : List ℕ) (slot : Slot) → bytes_eq row.0 word ≡ b → (is_fitting_row row && list_all is_fitting_row rows) ≡ true →
    (if b then Some row.1 else slot_among rows word) ≡ Some slot → (list_all is_fitting_row rows ≡ true → slot_among rows word ≡ Some slot → is_fitting word (role_in slot) ≡ true) → is_fitting word (role_in slot) ≡ true
row_by true row rows word slot same fit e rest =
    let named : row.0 ≡ word = (bytes_eq-Decides row.0 word).0 same in
    subst (λ (s : Slot). is_fitting word (role_in s) ≡ true) (one_slot row.1 slot e)
    (subst (λ (w : List ℕ). is_fitting w (role_in row.1) ≡ true) named (both_parts (is_fitting_row row) (list_all is_fitting_row rows) fit).0)
row_by false row rows word slot same fit e rest = rest (both_parts (is_fitting_row row) (list_all is_fitting_row rows) fit).1 e

slot_fits : (rows : PartRows) (word : List ℕ) (slot : Slot) → list_all is_fitting_row rows ≡ true → slot_among rows word ≡ Some slot → is_fitting word (role_in slot) ≡ true
slot_fits [] word slot fit e = absurd (cc)
slot_fits (row ∷ rows) word slot fit e = row_by (bytes_eq row.0 word) row rows word slot refl fit e (slot_fits rows word slot)

-- a part of a name has a fitting role
pub fits_where_named : (parent : Role) (word : List ℕ) (name : Name) (slot : Slot) → is_schema_element word name ≡ true → slot_of parent (encode_utf8_all name.local) ≡ Some slot → is_fitting word (role_in slot) ≡ true
fits_where_named parent word name slot named e =
    let parts = both_parts (is_schema_uri name.uri) (has_spelling word name.local) named in
    slot_fits (parts_of parent) word slot (rows_fit parent) (sym (ap (slot_of parent) (spelled word name.local parts.1)) ∙ e)

-- ---- particles

-- a particle with its role: a model group, a reference to a group, or else an element
pub record IsParticle (name : Name) (role : Role) : Type 0 where
  pub sequence : is_schema_element (codes "sequence") name ≡ true → is_group_role role ≡ true
  pub choice : is_schema_element (codes "choice") name ≡ true → is_group_role role ≡ true
  pub element : is_schema_element (codes "sequence") name ≡ false → is_schema_element (codes "choice") name ≡ false → is_schema_element (codes "group") name ≡ false →
      (is_schema_element (codes "element") name ≡ true) × (is_element_role role ≡ true)

not_one_of_three : (one two three : Bool) → (one || (two || three)) ≡ true → one ≡ false → two ≡ false → three ≡ false → ⊥
not_one_of_three true two three h a b c = true≢false a
not_one_of_three false true three h a b c = true≢false b
not_one_of_three false false three h a b c = true≢false (sym h ∙ c)

-- the particle of a content
pub particle_of_name : (parent : Role) (name : Name) (slot : Slot) → is_particle name ≡ true → slot_of parent (encode_utf8_all name.local) ≡ Some slot → IsParticle name (role_in slot)
particle_of_name parent name slot particle e = record {
  sequence = λ named. fits_where_named parent (codes "sequence") name slot named e;
  choice = λ named. fits_where_named parent (codes "choice") name slot named e;
  element = λ s c g. absurd (not_one_of_three (is_schema_element (codes "sequence") name) (is_schema_element (codes "choice") name) (is_schema_element (codes "group") name) particle s c g);
}

-- an element of the schema namespace with this local name has this name
pub named_by : (word : List ℕ) (name : Name) → is_schema_uri name.uri ≡ true → bytes_eq word (encode_utf8_all name.local) ≡ true → is_schema_element word name ≡ true
named_by word name u same =
    let text : word ≡ encode_utf8_all name.local = (bytes_eq-Decides word (encode_utf8_all name.local)).0 same in
    ap (λ (b : Bool). b && has_spelling word name.local) u ∙ (bytes_eq-Decides (encode_utf8_all name.local) word).1 (sym text)

element_of_group : (name : Name) (slot : Slot) → is_schema_uri name.uri ≡ true → (e g s c : Bool) → bytes_eq (codes "element") (encode_utf8_all name.local) ≡ e → bytes_eq (codes "group") (encode_utf8_all name.local) ≡ g →
    bytes_eq (codes "sequence") (encode_utf8_all name.local) ≡ s → bytes_eq (codes "choice") (encode_utf8_all name.local) ≡ c →
    (if e then Some (Repeated roles.LocalElement) else (if g then Some (Repeated roles.GroupReference) else (if s then Some (Repeated (roles.ModelGroup Sequence)) else (if c then Some (Repeated (roles.ModelGroup Choice)) else None)))) ≡ Some slot →
    is_schema_element (codes "sequence") name ≡ false → is_schema_element (codes "choice") name ≡ false → is_schema_element (codes "group") name ≡ false →
    (is_schema_element (codes "element") name ≡ true) × (is_element_role (role_in slot) ≡ true)
element_of_group name slot u true g s c e_is g_is s_is c_is there no_sequence no_choice no_group =
    (named_by (codes "element") name u e_is, subst (λ (t : Slot). is_element_role (role_in t) ≡ true) (one_slot (Repeated roles.LocalElement) slot there) refl)
element_of_group name slot u false true s c e_is g_is s_is c_is there no_sequence no_choice no_group = absurd (true≢false (sym (named_by (codes "group") name u g_is) ∙ no_group))
element_of_group name slot u false false true c e_is g_is s_is c_is there no_sequence no_choice no_group = absurd (true≢false (sym (named_by (codes "sequence") name u s_is) ∙ no_sequence))
element_of_group name slot u false false false true e_is g_is s_is c_is there no_sequence no_choice no_group = absurd (true≢false (sym (named_by (codes "choice") name u c_is) ∙ no_choice))
element_of_group name slot u false false false false e_is g_is s_is c_is there no_sequence no_choice no_group = absurd (cc)

-- each part of a model group is a particle
pub particle_of_group : (parent : Role) → is_group_role parent ≡ true → (name : Name) (slot : Slot) → is_schema_uri name.uri ≡ true → slot_of parent (encode_utf8_all name.local) ≡ Some slot → IsParticle name (role_in slot)
unfolding parts_of
particle_of_group (roles.ModelGroup compositor) is name slot u e = record {
  sequence = λ named. fits_where_named (roles.ModelGroup compositor) (codes "sequence") name slot named e;
  choice = λ named. fits_where_named (roles.ModelGroup compositor) (codes "choice") name slot named e;
  element = element_of_group name slot u (bytes_eq (codes "element") (encode_utf8_all name.local)) (bytes_eq (codes "group") (encode_utf8_all name.local))
      (bytes_eq (codes "sequence") (encode_utf8_all name.local)) (bytes_eq (codes "choice") (encode_utf8_all name.local)) refl refl refl refl e;
}
particle_of_group _ is name slot u e = absurd (true≢false (sym is))

-- ---- the derivation in a content

derivation_named : (name : Name) (slot : Slot) → is_schema_uri name.uri ≡ true → (e r : Bool) → bytes_eq (codes "extension") (encode_utf8_all name.local) ≡ e → bytes_eq (codes "restriction") (encode_utf8_all name.local) ≡ r →
    (one other : Slot) → (if e then Some one else (if r then Some other else None)) ≡ Some slot → (is_schema_element (codes "extension") name || is_schema_element (codes "restriction") name) ≡ true
derivation_named name slot u true r e_is r_is one other there = ap (λ (b : Bool). b || is_schema_element (codes "restriction") name) (named_by (codes "extension") name u e_is)
derivation_named name slot u false true e_is r_is one other there = or_right (is_schema_element (codes "extension") name) (is_schema_element (codes "restriction") name) (named_by (codes "restriction") name u r_is)
derivation_named name slot u false false e_is r_is one other there = absurd (cc)

pub derivation_of_content : (parent : Role) → is_content_role parent ≡ true → (name : Name) (slot : Slot) → is_schema_uri name.uri ≡ true → slot_of parent (encode_utf8_all name.local) ≡ Some slot →
    (is_schema_element (codes "extension") name || is_schema_element (codes "restriction") name) ≡ true
unfolding parts_of
derivation_of_content roles.SimpleContent is name slot u e =
    derivation_named name slot u (bytes_eq (codes "extension") (encode_utf8_all name.local)) (bytes_eq (codes "restriction") (encode_utf8_all name.local)) refl refl
    (Alone roles.SimpleContentExtension) (Alone roles.SimpleContentRestriction) e
derivation_of_content roles.ComplexContent is name slot u e =
    derivation_named name slot u (bytes_eq (codes "extension") (encode_utf8_all name.local)) (bytes_eq (codes "restriction") (encode_utf8_all name.local)) refl refl
    (Alone roles.ComplexContentExtension) (Alone roles.ComplexContentRestriction) e
derivation_of_content _ is name slot u e = absurd (true≢false (sym is))
