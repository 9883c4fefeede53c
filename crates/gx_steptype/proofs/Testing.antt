-- What a test leaves of an item type takes the shapes that pass.
use Rattle.std.proofs.Common.{◌≡◌, Bool, true, false, ◌&&◌, List, [], ◌∷◌, Option, None, Some, inl, inr, refl, sym, ◌∙◌, ap, if◌then◌else◌}
use Rattle.std.proofs.lemmas.Bool.{true≢false}
use Rattle.gx_base.specs.Name.{same_name}
use Rattle.gx_base.specs.Text.{same_text}
use Rattle.gx_base.specs.declared.name.Name.{Name}
use Rattle.gx_base.specs.declared.type_name.Builtin.TheVariants.{AnyType}
use Rattle.gx_base.specs.declared.type_name.TypeName.{TypeName}
use Rattle.gx_base.specs.declared.type_name.TypeName.TheVariants as names
use Rattle.gx_types.specs.declared.item_type.ItemType.{ItemType}
use Rattle.gx_types.specs.declared.item_type.ItemType.TheVariants as items
use Rattle.gx_types.specs.declared.shape.Shape.{Shape}
use Rattle.gx_types.specs.declared.shape.Shape.TheVariants as shapes
use Rattle.gx_types.specs.declared.step.NameTest.{NameTest}
use Rattle.gx_types.specs.declared.step.NameTest.TheVariants as tests
use Rattle.gx_types.specs.SchemaSet.{SchemaSet}
use Rattle.gx_types.specs.Derivation.{bases_of, is_derived, DerivesFrom}
use Rattle.gx_types.specs.Grounded.{Grounded}
use Rattle.gx_types.specs.ItemTakes.{ItemTakes, name_fits}
use Rattle.gx_types.specs.Takes.{Takes}
use Rattle.gx_types.proofs.PublicLaws.{derivation_is_a_preorder, derivation_is_linear}
use Rattle.gx_types.proofs.DerivationTest.{derives_when_tested, tested_when_derives}
use Rattle.gx_model.specs.NodeTest.{TypeTest, any_type, derived_from, no_type, KindTest, any_node, a_text, an_element, an_attribute, a_document, a_document_of, passes_name, passes_type, meets}
use Rattle.gx_steptype.specs.declared.tested.Meeting.{Meeting}
use Rattle.gx_steptype.specs.declared.tested.Meeting.TheVariants.{Never, Always, Possibly}
use Rattle.gx_steptype.specs.TestedType.{met_if, name_met, type_met, both_met, narrowed_name, narrowed_type, where_met, at_most_possibly, tested_item}
use Rattle.gx_steptype.proofs.SameNames.{names_agree, uris_agree, locals_agree}
use Rattle.gx_steptype.proofs.FormedShapes.{IsFormed}

-- a shape that passes
abbrev pub kept : Bool → Shape → List Shape
kept passes x = if passes then x ∷ [] else []

-- what a meeting says of the outcome of a test
abbrev Agrees : Meeting → Bool → Type 0
Agrees Never b = b ≡ false
Agrees Always b = b ≡ true
Agrees Possibly b = Unit {0}

if_agrees : (b c : Bool) → b ≡ c → Agrees (met_if b) c
if_agrees true c e = sym e
if_agrees false c e = sym e

name_agrees : (wanted : NameTest) (named : Option Name) (n : Name) → name_fits named n ≡ true → Agrees (name_met wanted named) (passes_name wanted n)
name_agrees tests.Any named n h = refl
name_agrees (tests.Name w) None n h = tt
name_agrees (tests.Uri u) None n h = tt
name_agrees (tests.Local l) None n h = tt
name_agrees (tests.Name w) (Some m) n h = if_agrees (same_name w m) (same_name w n) (names_agree w m n h)
name_agrees (tests.Uri u) (Some m) n h = if_agrees (same_text u m.uri) (same_text u n.uri) (uris_agree u m n h)
name_agrees (tests.Local l) (Some m) n h = if_agrees (same_text l m.local) (same_text l n.local) (locals_agree l m n h)

narrowed_name_fits : (wanted : NameTest) (named : Option Name) (n : Name) → name_fits named n ≡ true → passes_name wanted n ≡ true → name_fits (narrowed_name wanted named) n ≡ true
narrowed_name_fits tests.Any None n h k = refl
narrowed_name_fits tests.Any (Some m) n h k = h
narrowed_name_fits (tests.Name w) None n h k = k
narrowed_name_fits (tests.Name w) (Some m) n h k = h
narrowed_name_fits (tests.Uri u) None n h k = refl
narrowed_name_fits (tests.Uri u) (Some m) n h k = h
narrowed_name_fits (tests.Local l) None n h k = refl
narrowed_name_fits (tests.Local l) (Some m) n h k = h

abbrev Bases : SchemaSet → Type 0
Bases s = Grounded (bases_of s)

-- neither type is derived from the other, so nothing is derived from both
apart : (s : SchemaSet) → Bases s → (w kind t : TypeName) → is_derived s kind w ≡ false → is_derived s w kind ≡ false → DerivesFrom s t kind → (b : Bool) → is_derived s t w ≡ b → b ≡ false
apart s g w kind t a b d false e = refl
apart s g w kind t a b d true e = elim (derivation_is_linear s t kind w d (derives_when_tested s t w e)) [
  | inl k ↦ absurd (true≢false (sym (tested_when_derives s kind w g k) ∙ a))
  | inr k ↦ absurd (true≢false (sym (tested_when_derives s w kind g k) ∙ b))
]

type_agrees : (s : SchemaSet) → Bases s → (test : TypeTest) (kind t : TypeName) → DerivesFrom s t kind → Agrees (type_met s test kind) (passes_type s test t)
type_agrees s g any_type kind t d = refl
type_agrees s g no_type kind t d = refl
type_agrees s g (derived_from w) kind t d =
    elim (is_derived s kind w) as (λ (b : Bool). is_derived s kind w ≡ b → Agrees (if b then Always else (if is_derived s w kind then Possibly else Never)) (is_derived s t w)) [
      | true ↦ λ e. tested_when_derives s t w g (derivation_is_a_preorder.transitive s t kind w d (derives_when_tested s kind w e))
      | false ↦ λ e. elim (is_derived s w kind) as (λ (b : Bool). is_derived s w kind ≡ b → Agrees (if b then Possibly else Never) (is_derived s t w)) [
        | true ↦ λ f. tt
        | false ↦ λ f. apart s g w kind t e f d (is_derived s t w) refl
      ] refl
    ] refl

narrowed_type_fits : (s : SchemaSet) (test : TypeTest) (kind t : TypeName) → DerivesFrom s t kind → passes_type s test t ≡ true → DerivesFrom s t (narrowed_type s test kind)
narrowed_type_fits s any_type kind t d k = d
narrowed_type_fits s no_type kind t d k = d
narrowed_type_fits s (derived_from w) kind t d k =
    elim (is_derived s kind w) as (λ (b : Bool). DerivesFrom s t (if b then kind else w)) [ true ↦ d | false ↦ derives_when_tested s t w k ]

-- both tests at once

false_second : (b : Bool) → (b && false) ≡ false
false_second true = refl
false_second false = refl

both_agree : (m k : Meeting) (a b : Bool) → Agrees m a → Agrees k b → Agrees (both_met m k) (a && b)
both_agree Never k a b e f = ap (λ c. c && b) e
both_agree Always Never a b e f = ap (λ c. c && b) e ∙ f
both_agree Always Always a b e f = ap (λ c. c && b) e ∙ f
both_agree Always Possibly a b e f = tt
both_agree Possibly Never a b e f = ap (λ c. a && c) f ∙ false_second a
both_agree Possibly Always a b e f = tt
both_agree Possibly Possibly a b e f = tt

possibly_agrees : (m : Meeting) (b : Bool) → Agrees m b → Agrees (at_most_possibly m) b
possibly_agrees Never b e = e
possibly_agrees Always b e = tt
possibly_agrees Possibly b e = tt

first_of_both : (a b : Bool) → (a && b) ≡ true → a ≡ true
first_of_both true b e = refl
first_of_both false b e = e

second_of_both : (a b : Bool) → (a && b) ≡ true → b ≡ true
second_of_both true b e = e
second_of_both false b e = absurd (true≢false (sym e))

met_takes : (s : SchemaSet) (m : Meeting) (b : Bool) (whole narrow : ItemType) (x : Shape) → Agrees m b → ItemTakes s whole x → (b ≡ true → ItemTakes s narrow x)
    → Takes s (where_met m whole narrow) (kept b x)
met_takes s Never b whole narrow x e h k = ap (λ c. kept c x) e
met_takes s Always b whole narrow x e h k = (x, ap (λ c. kept c x) e, h)
met_takes s Possibly true whole narrow x e h k = inr (x, refl, k refl)
met_takes s Possibly false whole narrow x e h k = inl refl

abbrev Passing : SchemaSet → KindTest → ItemType → Shape → Type 0
Passing s test kind x = Takes s (tested_item s test kind) (kept (meets s test x) x)

named_takes : (s : SchemaSet) → Bases s → (wanted : NameTest) (test : TypeTest) (named : Option Name) (kind : TypeName) (n : Name) (t : TypeName) (whole narrow : ItemType) (x : Shape)
    → name_fits named n ≡ true → DerivesFrom s t kind → ItemTakes s whole x
    → (name_fits (narrowed_name wanted named) n ≡ true → DerivesFrom s t (narrowed_type s test kind) → ItemTakes s narrow x)
    → Takes s (where_met (both_met (name_met wanted named) (type_met s test kind)) whole narrow) (kept (passes_name wanted n && passes_type s test t) x)
named_takes s g wanted test named kind n t whole narrow x fits derives h k =
    met_takes s (both_met (name_met wanted named) (type_met s test kind)) (passes_name wanted n && passes_type s test t) whole narrow x
    (both_agree (name_met wanted named) (type_met s test kind) (passes_name wanted n) (passes_type s test t) (name_agrees wanted named n fits) (type_agrees s g test kind t derives))
    h
    (λ e. k (narrowed_name_fits wanted named n fits (first_of_both (passes_name wanted n) (passes_type s test t) e))
    (narrowed_type_fits s test kind t derives (second_of_both (passes_name wanted n) (passes_type s test t) e)))

not_always : (m : Meeting) → Agrees (at_most_possibly m) false
not_always Never = refl
not_always Always = tt
not_always Possibly = tt

-- a document that may have any child
any_document_takes : (s : SchemaSet) → Bases s → (wanted : NameTest) (test : TypeTest) (child : Option (Name × TypeName)) → IsFormed s (shapes.Doc child)
    → Passing s (a_document_of wanted test) (items.Document None) (shapes.Doc child)
any_document_takes s g wanted test None p =
    met_takes s (at_most_possibly (both_met (name_met wanted None) (type_met s test (names.Builtin AnyType)))) false (items.Document None)
    (items.Document (Some (narrowed_name wanted None, narrowed_type s test (names.Builtin AnyType)))) (shapes.Doc None)
    (not_always (both_met (name_met wanted None) (type_met s test (names.Builtin AnyType)))) tt (λ e. absurd (true≢false (sym e)))
any_document_takes s g wanted test (Some (n, t)) p =
    met_takes s (at_most_possibly (both_met (name_met wanted None) (type_met s test (names.Builtin AnyType)))) (passes_name wanted n && passes_type s test t) (items.Document None)
    (items.Document (Some (narrowed_name wanted None, narrowed_type s test (names.Builtin AnyType)))) (shapes.Doc (Some (n, t)))
    (possibly_agrees (both_met (name_met wanted None) (type_met s test (names.Builtin AnyType))) (passes_name wanted n && passes_type s test t)
    (both_agree (name_met wanted None) (type_met s test (names.Builtin AnyType)) (passes_name wanted n) (passes_type s test t) (name_agrees wanted None n refl) (type_agrees s g test (names.Builtin AnyType) t p)))
    tt
    (λ e. (
      narrowed_name_fits wanted None n refl (first_of_both (passes_name wanted n) (passes_type s test t) e),
      narrowed_type_fits s test (names.Builtin AnyType) t p (second_of_both (passes_name wanted n) (passes_type s test t) e),
    ))

-- an item type and a shape, by the test
pub tested_takes : (s : SchemaSet) → Grounded (bases_of s) → (test : KindTest) (kind : ItemType) (x : Shape) → IsFormed s x → ItemTakes s kind x
    → Takes s (tested_item s test kind) (kept (meets s test x) x)
tested_takes s g any_node (items.Element named kind) (shapes.Elem n t) p h = (shapes.Elem n t, refl, h)
tested_takes s g any_node (items.Attribute named kind) (shapes.Attr n t) p h = (shapes.Attr n t, refl, h)
tested_takes s g any_node items.Text shapes.Text p h = (shapes.Text, refl, h)
tested_takes s g any_node (items.Document None) (shapes.Doc child) p h = (shapes.Doc child, refl, h)
tested_takes s g any_node (items.Document (Some e)) (shapes.Doc (Some child)) p h = (shapes.Doc (Some child), refl, h)
tested_takes s g any_node (items.Atom kind) (shapes.Atom t) p h = refl
tested_takes s g a_text (items.Element named kind) (shapes.Elem n t) p h = refl
tested_takes s g a_text (items.Attribute named kind) (shapes.Attr n t) p h = refl
tested_takes s g a_text items.Text shapes.Text p h = (shapes.Text, refl, h)
tested_takes s g a_text (items.Document None) (shapes.Doc child) p h = refl
tested_takes s g a_text (items.Document (Some e)) (shapes.Doc (Some child)) p h = refl
tested_takes s g a_text (items.Atom kind) (shapes.Atom t) p h = refl
tested_takes s g (an_element wanted test) (items.Element named kind) (shapes.Elem n t) p h =
    named_takes s g wanted test named kind n t (items.Element named kind) (items.Element (narrowed_name wanted named) (narrowed_type s test kind)) (shapes.Elem n t) h.0 h.1 h (λ a b. (a, b))
tested_takes s g (an_element wanted test) (items.Attribute named kind) (shapes.Attr n t) p h = refl
tested_takes s g (an_element wanted test) items.Text shapes.Text p h = refl
tested_takes s g (an_element wanted test) (items.Document None) (shapes.Doc child) p h = refl
tested_takes s g (an_element wanted test) (items.Document (Some e)) (shapes.Doc (Some child)) p h = refl
tested_takes s g (an_element wanted test) (items.Atom kind) (shapes.Atom t) p h = refl
tested_takes s g (an_attribute wanted test) (items.Element named kind) (shapes.Elem n t) p h = refl
tested_takes s g (an_attribute wanted test) (items.Attribute named kind) (shapes.Attr n t) p h =
    named_takes s g wanted test named kind n t (items.Attribute named kind) (items.Attribute (narrowed_name wanted named) (narrowed_type s test kind)) (shapes.Attr n t) h.0 h.1 h (λ a b. (a, b))
tested_takes s g (an_attribute wanted test) items.Text shapes.Text p h = refl
tested_takes s g (an_attribute wanted test) (items.Document None) (shapes.Doc child) p h = refl
tested_takes s g (an_attribute wanted test) (items.Document (Some e)) (shapes.Doc (Some child)) p h = refl
tested_takes s g (an_attribute wanted test) (items.Atom kind) (shapes.Atom t) p h = refl
tested_takes s g a_document (items.Element named kind) (shapes.Elem n t) p h = refl
tested_takes s g a_document (items.Attribute named kind) (shapes.Attr n t) p h = refl
tested_takes s g a_document items.Text shapes.Text p h = refl
tested_takes s g a_document (items.Document None) (shapes.Doc child) p h = (shapes.Doc child, refl, h)
tested_takes s g a_document (items.Document (Some e)) (shapes.Doc (Some child)) p h = (shapes.Doc (Some child), refl, h)
tested_takes s g a_document (items.Atom kind) (shapes.Atom t) p h = refl
tested_takes s g (a_document_of wanted test) (items.Element named kind) (shapes.Elem n t) p h = refl
tested_takes s g (a_document_of wanted test) (items.Attribute named kind) (shapes.Attr n t) p h = refl
tested_takes s g (a_document_of wanted test) items.Text shapes.Text p h = refl
tested_takes s g (a_document_of wanted test) (items.Document None) (shapes.Doc child) p h = any_document_takes s g wanted test child p
tested_takes s g (a_document_of wanted test) (items.Document (Some e)) (shapes.Doc (Some child)) p h =
    named_takes s g wanted test e.0 e.1 child.0 child.1 (items.Document (Some e)) (items.Document (Some (narrowed_name wanted e.0, narrowed_type s test e.1))) (shapes.Doc (Some child)) h.0 h.1 h (λ a b. (a, b))
tested_takes s g (a_document_of wanted test) (items.Atom kind) (shapes.Atom t) p h = refl
tested_takes s g test (items.Element named kind) (shapes.Attr n t) p h = absurd h
tested_takes s g test (items.Element named kind) shapes.Text p h = absurd h
tested_takes s g test (items.Element named kind) (shapes.Doc child) p h = absurd h
tested_takes s g test (items.Element named kind) (shapes.Atom t) p h = absurd h
tested_takes s g test (items.Attribute named kind) (shapes.Elem n t) p h = absurd h
tested_takes s g test (items.Attribute named kind) shapes.Text p h = absurd h
tested_takes s g test (items.Attribute named kind) (shapes.Doc child) p h = absurd h
tested_takes s g test (items.Attribute named kind) (shapes.Atom t) p h = absurd h
tested_takes s g test items.Text (shapes.Elem n t) p h = absurd h
tested_takes s g test items.Text (shapes.Attr n t) p h = absurd h
tested_takes s g test items.Text (shapes.Doc child) p h = absurd h
tested_takes s g test items.Text (shapes.Atom t) p h = absurd h
tested_takes s g test (items.Document None) (shapes.Elem n t) p h = absurd h
tested_takes s g test (items.Document None) (shapes.Attr n t) p h = absurd h
tested_takes s g test (items.Document None) shapes.Text p h = absurd h
tested_takes s g test (items.Document None) (shapes.Atom t) p h = absurd h
tested_takes s g test (items.Document (Some e)) (shapes.Elem n t) p h = absurd h
tested_takes s g test (items.Document (Some e)) (shapes.Attr n t) p h = absurd h
tested_takes s g test (items.Document (Some e)) shapes.Text p h = absurd h
tested_takes s g test (items.Document (Some e)) (shapes.Doc None) p h = absurd h
tested_takes s g test (items.Document (Some e)) (shapes.Atom t) p h = absurd h
tested_takes s g test (items.Atom kind) (shapes.Elem n t) p h = absurd h
tested_takes s g test (items.Atom kind) (shapes.Attr n t) p h = absurd h
tested_takes s g test (items.Atom kind) shapes.Text p h = absurd h
tested_takes s g test (items.Atom kind) (shapes.Doc child) p h = absurd h
