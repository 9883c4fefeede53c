-- The first of several faults.
use mathlib.Core.Path.{fun_ext}
use Rattle.std.proofs.Common.{◌≡◌, ℕ, suc, ◌+◌, map, length, drop, get_or, true, false, ◌<◌, ◌≤◌, ◌⊎◌, inl, inr, Bool, List, [], ◌∷◌, ◌++◌, Option, None, Some, refl, sym, ◌∙◌, ap, arith, if◌then◌else◌}
use Rattle.std.proofs.lemmas.Bool.Decides.{leb_tells}
use Rattle.std.specs.Prelude.{cond, not, filter}
use Rattle.std.proofs.Math.Seq.{drop-cons}
use Rattle.std.proofs.lemmas.List.{drop_all}
use Rattle.gx_facets.specs.declared.restriction.Facets.{Facets}
use Rattle.gx_schema_syntax.specs.declared.written.WrittenFacet.{WrittenFacet}
use Rattle.gx_references.specs.Known.{known}
use Rattle.gx_types.specs.SimpleType.{SimpleMeaning}
use Rattle.gx_schema_simple.specs.Circles.{is_circular}
use Rattle.gx_schema_simple.specs.Faults.{Seen, earlier_fault, facet_fault, facet_faults, fault_if, faults_from, first_type_fault, is_sound_facet, values_seen_among, type_faults}
use Rattle.gx_schema_simple.specs.Forms.{followed_bases, references_of}
use Rattle.gx_schema_simple.specs.Looks.{seen_by}
use Rattle.gx_schema_simple.specs.Meanings.{all_facets_of, meaning_seen, own_facets_among, own_facets_over}
use Rattle.gx_schema_simple.specs.Varieties.{variety_of}
use Rattle.gx_schema_simple.specs.Walk.{has_mark}
use Rattle.gx_schema_simple.specs.declared.faults.Look.{Look}
use Rattle.gx_schema_simple.specs.declared.type_form.TypeForm.{TypeForm}
use Rattle.gx_schema_simple.specs.declared.variety.TypeVariety.{TypeVariety}
use Rattle.gx_schema_simple.specs.declared.variety.TypeVariety.TheVariants.{Hidden}
use Rattle.gx_schema_simple.specs.declared.faults.Fault.{Fault}

pub earlier_left : (a b : Fault) → a.place ≤ b.place → earlier_fault (Some a) (Some b) ≡ Some a
earlier_left a b before = elim (leb_tells a.place b.place) [
  | inl (test, _) ↦ ap (λ (t : Bool). if t then Some a else Some b) test
  | inr (_, less) ↦ absurd (omega arith)
]

pub earlier_right : (a b : Fault) → b.place < a.place → earlier_fault (Some a) (Some b) ≡ Some b
earlier_right a b before = elim (leb_tells a.place b.place) [
  | inl (_, not_less) ↦ absurd (omega arith)
  | inr (test, _) ↦ ap (λ (t : Bool). if t then Some a else Some b) test
]

at_most_or_below : (a b : ℕ) → (a ≤ b) ⊎ (b < a)
at_most_or_below a b = elim (leb_tells a b) [ inl (_, at_most) ↦ inl at_most | inr (_, less) ↦ inr less ]

pub earlier_assoc : (a b c : Option Fault) → earlier_fault (earlier_fault a b) c ≡ earlier_fault a (earlier_fault b c)
earlier_assoc None b c = refl
earlier_assoc (Some a) None c = refl
earlier_assoc (Some a) (Some b) None = elim (at_most_or_below a.place b.place) [
  | inl before ↦ ap (λ (f : Option Fault). earlier_fault f None) (earlier_left a b before) ∙ sym (earlier_left a b before)
  | inr behind ↦ ap (λ (f : Option Fault). earlier_fault f None) (earlier_right a b behind) ∙ sym (earlier_right a b behind)
]
earlier_assoc (Some a) (Some b) (Some c) = elim (at_most_or_below a.place b.place) [
  | inl before ↦ elim (at_most_or_below b.place c.place) [
    | inl next ↦ ap (λ (f : Option Fault). earlier_fault f (Some c)) (earlier_left a b before) ∙ earlier_left a c (omega arith) ∙ sym (ap (earlier_fault (Some a)) (earlier_left b c next) ∙ earlier_left a b before)
    | inr next ↦ ap (λ (f : Option Fault). earlier_fault f (Some c)) (earlier_left a b before) ∙ sym (ap (earlier_fault (Some a)) (earlier_right b c next))
  ]
  | inr behind ↦ elim (at_most_or_below b.place c.place) [
    | inl next ↦ ap (λ (f : Option Fault). earlier_fault f (Some c)) (earlier_right a b behind) ∙ earlier_left b c next ∙ sym (ap (earlier_fault (Some a)) (earlier_left b c next) ∙ earlier_right a b behind)
    | inr next ↦ ap (λ (f : Option Fault). earlier_fault f (Some c)) (earlier_right a b behind) ∙ earlier_right b c next ∙ sym (ap (earlier_fault (Some a)) (earlier_right b c next) ∙ earlier_right a c (omega arith))
  ]
]

earlier_none : (a : Option Fault) → earlier_fault a None ≡ a
earlier_none None = refl
earlier_none (Some a) = refl

pub first_type_fault-append : (xs ys : List Fault) → first_type_fault (xs ++ ys) ≡ earlier_fault (first_type_fault xs) (first_type_fault ys)
first_type_fault-append [] ys = refl
first_type_fault-append (x ∷ xs) ys = ap (earlier_fault (Some x)) (first_type_fault-append xs ys) ∙ sym (earlier_assoc (Some x) (first_type_fault xs) (first_type_fault ys))

-- faults that are noted one list behind another
pub noted_behind : (old new : Option Fault) (xs ys : List Fault) → new ≡ earlier_fault old (first_type_fault xs) → earlier_fault new (first_type_fault ys) ≡ earlier_fault old (first_type_fault (xs ++ ys))
noted_behind old new xs ys noted =
    ap (λ (f : Option Fault). earlier_fault f (first_type_fault ys)) noted ∙ earlier_assoc old (first_type_fault xs) (first_type_fault ys) ∙ sym (ap (earlier_fault old) (first_type_fault-append xs ys))

-- ---- faults of one facet more, of one type more

one_more : {A B : Type 0} (f : A → B) (t : Bool) (x : A) (xs : List A) → map f (cond t (x ∷ xs) xs) ≡ (cond t (f x ∷ []) []) ++ map f xs
one_more f true x xs = refl
one_more f false x xs = refl

fault_by : (t : Bool) (number : ℕ) (facet : WrittenFacet) → (cond t (facet_fault number facet ∷ []) []) ≡ fault_if t facet.place number
fault_by true number facet = refl
fault_by false number facet = refl

pub facet_faults-cons : (variety : TypeVariety) (base : Option SimpleMeaning) (number : ℕ) (facet : WrittenFacet) (facets : List WrittenFacet) →
    facet_faults variety base number (facet ∷ facets) ≡ fault_if (not (is_sound_facet variety base facet)) facet.place number ++ facet_faults variety base number facets
facet_faults-cons variety base number facet facets =
    one_more (facet_fault number) (not (is_sound_facet variety base facet)) facet (filter (λ f. not (is_sound_facet variety base f)) facets)
    ∙ ap (λ (xs : List Fault). xs ++ facet_faults variety base number facets) (fault_by (not (is_sound_facet variety base facet)) number facet)

-- a fault that is noted, and those behind it
pub noted_facet : (variety : TypeVariety) (base : Option SimpleMeaning) (number : ℕ) (facet : WrittenFacet) (facets : List WrittenFacet) (old new : Option Fault) (is_sound : Bool) →
    is_sound ≡ is_sound_facet variety base facet → new ≡ earlier_fault old (first_type_fault (fault_if (not is_sound) facet.place number)) →
    earlier_fault new (first_type_fault (facet_faults variety base number facets)) ≡ earlier_fault old (first_type_fault (facet_faults variety base number (facet ∷ facets)))
noted_facet variety base number facet facets old new is_sound sound noted =
    noted_behind old new (fault_if (not is_sound) facet.place number) (facet_faults variety base number facets) noted
    ∙ ap (λ (t : Bool). earlier_fault old (first_type_fault (fault_if (not t) facet.place number ++ facet_faults variety base number facets))) sound
    ∙ sym (ap (λ (xs : List Fault). earlier_fault old (first_type_fault xs)) (facet_faults-cons variety base number facet facets))

pub noted_type : (types : List TypeForm) (seen : Seen) (number : ℕ) (form : TypeForm) (others : List TypeForm) (old new : Option Fault) →
    new ≡ earlier_fault old (first_type_fault (type_faults types seen number form)) →
    earlier_fault new (first_type_fault (faults_from types seen (suc number) others)) ≡ earlier_fault old (first_type_fault (faults_from types seen number (form ∷ others)))
noted_type types seen number form others old new noted = noted_behind old new (type_faults types seen number form) (faults_from types seen (suc number) others) noted

-- ---- what tables say is what there is

seen_with : (marks : ℕ → Bool) (varieties : ℕ → TypeVariety) (bases : List (Option ℕ)) (own : List Facets) → Seen
seen_with marks varieties bases own = record { is_on_circle = marks; variety = varieties; meaning = meaning_seen (all_facets_of bases own) varieties }

seen_same : (marks marks' : ℕ → Bool) (varieties varieties' : ℕ → TypeVariety) (bases bases' : List (Option ℕ)) (own own' : List Facets) → marks ≡ marks' → varieties ≡ varieties' → bases ≡ bases' → own ≡ own' →
    seen_with marks varieties bases own ≡ seen_with marks' varieties' bases' own'
seen_same marks marks' varieties varieties' bases bases' own own' m v b o =
    ap (λ (x : ℕ → Bool). seen_with x varieties bases own) m ∙ ap (λ (x : ℕ → TypeVariety). seen_with marks' x bases own) v
    ∙ ap (λ (x : List (Option ℕ)). seen_with marks' varieties' x own) b ∙ ap (λ (x : List Facets). seen_with marks' varieties' bases' x) o

pub looks_right : (types : List TypeForm) (look : Look) → look.forms.now ≡ types → ((number : ℕ) → has_mark look.marks.now number ≡ is_circular (references_of types) number) →
    ((number : ℕ) → known Hidden look.varieties.now number ≡ variety_of types number) → look.bases.now ≡ followed_bases types → look.own.now ≡ map (own_facets_over (known Hidden look.varieties.now)) types →
    seen_by look ≡ values_seen_among types
unfolding seen_with
looks_right types look forms marks varieties bases own =
    let same_marks : has_mark look.marks.now ≡ is_circular (references_of types) = fun_ext marks in
    let same_varieties : known Hidden look.varieties.now ≡ variety_of types = fun_ext varieties in
    let same_own : look.own.now ≡ own_facets_among types = own ∙ ap (λ (v : ℕ → TypeVariety). map (own_facets_over v) types) same_varieties in
    seen_same (has_mark look.marks.now) (is_circular (references_of types)) (known Hidden look.varieties.now) (variety_of types) look.bases.now (followed_bases types) look.own.now (own_facets_among types)
    same_marks same_varieties bases same_own

-- ---- faults along a list

suc_is_plus_one : (n : ℕ) → suc n ≡ n + 1
suc_is_plus_one n = omega arith

pub noted_type_at : (types : List TypeForm) (seen : Seen) (number : ℕ) (form : TypeForm) (old new : Option Fault) → number < length types → form ≡ get_or types number form →
    new ≡ earlier_fault old (first_type_fault (type_faults types seen number form)) →
    earlier_fault new (first_type_fault (faults_from types seen (number + 1) (drop (number + 1) types))) ≡ earlier_fault old (first_type_fault (faults_from types seen number (drop number types)))
noted_type_at types seen number form old new within here noted =
    ap (λ (n : ℕ). earlier_fault new (first_type_fault (faults_from types seen n (drop n types)))) (sym (suc_is_plus_one number))
    ∙ noted_type types seen number form (drop (suc number) types) old new noted
    ∙ ap (λ (f : TypeForm). earlier_fault old (first_type_fault (faults_from types seen number (f ∷ drop (suc number) types)))) here
    ∙ sym (ap (λ (fs : List TypeForm). earlier_fault old (first_type_fault (faults_from types seen number fs))) (drop-cons types number form within))

pub noted_at_end : (types : List TypeForm) (seen : Seen) (number : ℕ) (best all : Option Fault) → length types ≤ number →
    earlier_fault best (first_type_fault (faults_from types seen number (drop number types))) ≡ all → best ≡ all
noted_at_end types seen number best all past noted =
    sym (earlier_none best)
    ∙ sym (ap (λ (fs : List TypeForm). earlier_fault best (first_type_fault (faults_from types seen number fs))) (drop_all number types past))
    ∙ noted

pub facets_noted_at_end : (variety : TypeVariety) (base : Option SimpleMeaning) (number : ℕ) (facets : List WrittenFacet) (index : ℕ) (best all : Option Fault) → length facets ≤ index →
    earlier_fault best (first_type_fault (facet_faults variety base number (drop index facets))) ≡ all → best ≡ all
facets_noted_at_end variety base number facets index best all past noted =
    sym (earlier_none best) ∙ sym (ap (λ (fs : List WrittenFacet). earlier_fault best (first_type_fault (facet_faults variety base number fs))) (drop_all index facets past)) ∙ noted
