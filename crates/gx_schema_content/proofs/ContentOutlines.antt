-- What is seen of contents without writing them out is so.
use Rattle.std.proofs.Common.{◌≡◌, ℕ, zero, suc, ◌-◌, Bool, true, false, ◌&&◌, ◌||◌, inl, inr, List, [], ◌∷◌, length, Option, None, Some, map, slice_get, if◌then◌else◌, refl, sym, ◌∙◌, ap, subst, arith}
use Rattle.std.specs.Prelude.{fold, min, nat_lt, ◌⊎◌}
use Rattle.std.specs.List.{list_any}
use Rattle.std.proofs.lemmas.Bool.{and_parts, lt-ltb}
use Rattle.gx_types.specs.SequenceType.{SequenceType, never, nothing, item, both, either, optional, star, plus}
use Rattle.gx_types.specs.TypeRules.{followed_by, joined_types}
use Rattle.gx_types.specs.Indicator.{optional_of, star_of}
use Rattle.gx_types.specs.Choice.{has_empty, is_member_of, choice_with, with_member, with_members}
use Rattle.gx_references.specs.References.{meaning_in, meaning_within}
use Rattle.gx_schema_syntax.specs.declared.role.Compositor.{Compositor}
use Rattle.gx_schema_syntax.specs.declared.role.Compositor.TheVariants.{Sequence, Choice}
use Rattle.gx_schema_components.specs.declared.component.Base.{Base}
use Rattle.gx_schema_components.specs.declared.component.Base.TheVariants.{Builtin, Declared}
use Rattle.gx_schema_components.specs.declared.component.Bounds.{Bounds}
use Rattle.gx_schema_components.specs.declared.component.ModelGroup.{ModelGroup}
use Rattle.gx_schema_components.specs.declared.component.Particle.{Particle}
use Rattle.gx_schema_components.specs.declared.component.Term.{Term}
use Rattle.gx_schema_components.specs.declared.component.Term.TheVariants.{Element, Group}
use Rattle.gx_schema_components.specs.declared.component.TypeComponent.{TypeComponent}
use Rattle.gx_schema_components.specs.declared.component.TypeForm.{TypeForm}
use Rattle.gx_schema_components.specs.declared.component.TypeForm.TheVariants as forms
use Rattle.gx_schema_content.specs.declared.effective.Effective.{Effective}
use Rattle.gx_schema_content.specs.declared.outline.Outline.{Outline}
use Rattle.gx_schema_content.specs.declared.outline.Outline.TheVariants.{Never, Empty, Filled}
use Rattle.gx_schema_content.specs.declared.outline.TypeOutline.{TypeOutline}
use Rattle.gx_schema_content.specs.declared.source.ContentSource.{ContentSource}
use Rattle.gx_schema_content.specs.declared.source.ContentSource.TheVariants as sources
use Rattle.gx_schema_content.specs.Elements.{may_occur}
use Rattle.gx_schema_content.specs.GroupContents.{composed, group_content, groups_in, particle_content, term_content}
use Rattle.gx_schema_content.specs.Knots.{all_end}
use Rattle.gx_schema_content.specs.Occurrences.{bounded, copies, further_copies, least_copies, optional_copies}
use Rattle.gx_schema_content.specs.OutlineKnots.{outline_of_group, outline_of_type}
use Rattle.gx_schema_content.specs.Outlines.{bounded_outline, chosen_outlines, composed_outline, form_outline, group_outline, is_empty_outline, joined_outlines, occurring_outline, outline_of_base, particle_outline, sourced_outline, term_outline, type_outline, unknown_outline, written_outline}
use Rattle.gx_schema_content.specs.Sources.{extended_types, source_of}
use Rattle.gx_schema_content.specs.TypeContents.{content_of_base, form_content, is_nothing, sourced_content, unknown_content, written_content}
use Rattle.gx_schema_content.specs.WholeContents.{component_content, whole_content_of_group, whole_content_of_type}
use Rattle.gx_schema_content.proofs.Copies.{copies_of_never, copies_of_nothing, optional_copies_of_never, optional_copies_of_nothing}

-- a type is not none and not the empty sequence, and of a choice no member is
abbrev pub is_filled : SequenceType → Bool
is_filled never = false
is_filled nothing = false
is_filled (item kind) = true
is_filled (both first second) = true
is_filled (either first second) = is_filled first && is_filled second
is_filled (optional part) = true
is_filled (star part) = true
is_filled (plus part) = true

-- an outline is that of a content
abbrev pub IsOutline : Outline → SequenceType → Type 0
IsOutline Never t = t ≡ never
IsOutline Empty t = t ≡ nothing
IsOutline Filled t = is_filled t ≡ true

filled_is_something : (t : SequenceType) → is_filled t ≡ true → is_nothing t ≡ false
filled_is_something never e = absurd (cc)
filled_is_something nothing e = absurd (cc)
filled_is_something (item kind) e = refl
filled_is_something (both first second) e = refl
filled_is_something (either first second) e = refl
filled_is_something (optional part) e = refl
filled_is_something (star part) e = refl
filled_is_something (plus part) e = refl

pub emptiness : (o : Outline) (t : SequenceType) → IsOutline o t → is_empty_outline o ≡ is_nothing t
emptiness Never t e = sym (ap is_nothing e)
emptiness Empty t e = sym (ap is_nothing e)
emptiness Filled t e = sym (filled_is_something t e)

-- ---- sequences

joined_as_followed : (t u : SequenceType) → is_filled t ≡ true → joined_types t u ≡ followed_by t u
joined_as_followed never u e = absurd (cc)
joined_as_followed nothing u e = absurd (cc)
joined_as_followed (item kind) u e = refl
joined_as_followed (both first second) u e = refl
joined_as_followed (either first second) u e = refl
joined_as_followed (optional part) u e = refl
joined_as_followed (star part) u e = refl
joined_as_followed (plus part) u e = refl

followed_as_both : (t u : SequenceType) → is_filled u ≡ true → followed_by t u ≡ both t u
followed_as_both t never e = absurd (cc)
followed_as_both t nothing e = absurd (cc)
followed_as_both t (item kind) e = refl
followed_as_both t (both first second) e = refl
followed_as_both t (either first second) e = refl
followed_as_both t (optional part) e = refl
followed_as_both t (star part) e = refl
followed_as_both t (plus part) e = refl

joined_outline : (o p : Outline) (t u : SequenceType) → IsOutline o t → IsOutline p u → IsOutline (joined_outlines o p) (joined_types t u)
joined_outline Never p t u first second = ap (λ (x : SequenceType). joined_types x u) first
joined_outline Empty p t u first second = subst (IsOutline p) (sym (ap (λ (x : SequenceType). joined_types x u) first)) second
joined_outline Filled Never t u first second = joined_as_followed t u first ∙ ap (followed_by t) second
joined_outline Filled Empty t u first second = ap is_filled (joined_as_followed t u first ∙ ap (followed_by t) second) ∙ first
joined_outline Filled Filled t u first second = ap is_filled (joined_as_followed t u first ∙ followed_as_both t u second)

-- ---- occurrences

optional_is_filled : (t : SequenceType) → is_filled t ≡ true → is_filled (optional_of t) ≡ true
optional_is_filled never e = absurd (cc)
optional_is_filled nothing e = absurd (cc)
optional_is_filled (item kind) e = refl
optional_is_filled (both first second) e = refl
optional_is_filled (either first second) e = refl
optional_is_filled (optional part) e = refl
optional_is_filled (star part) e = refl
optional_is_filled (plus part) e = refl

star_is_filled : (t : SequenceType) → is_filled t ≡ true → is_filled (star_of t) ≡ true
star_is_filled never e = absurd (cc)
star_is_filled nothing e = absurd (cc)
star_is_filled (item kind) e = refl
star_is_filled (both first second) e = refl
star_is_filled (either first second) e = refl
star_is_filled (optional part) e = refl
star_is_filled (star part) e = refl
star_is_filled (plus part) e = refl

copies_are_filled : (count : ℕ) (t : SequenceType) → is_filled t ≡ true → is_filled (copies (suc count) t) ≡ true
copies_are_filled zero t e = e
copies_are_filled (suc count) t e = joined_outline Filled Filled (copies (suc count) t) t (copies_are_filled count t e) e

-- what may stand behind the least number of copies, where something may
abbrev behind_copies : Outline → Outline
behind_copies Never = Empty
behind_copies Empty = Empty
behind_copies Filled = Filled

optional_copies_outline : (count : ℕ) (o : Outline) (t : SequenceType) → IsOutline o t → IsOutline (behind_copies o) (optional_copies (suc count) t)
optional_copies_outline count Never t e = optional_copies_of_never (suc count) t e
optional_copies_outline count Empty t e = optional_copies_of_nothing (suc count) t e
optional_copies_outline zero Filled t e = optional_is_filled (joined_types t nothing) (joined_outline Filled Empty t nothing e refl)
optional_copies_outline (suc count) Filled t e =
    optional_is_filled (joined_types t (optional_copies (suc count) t)) (joined_outline Filled Filled t (optional_copies (suc count) t) e (optional_copies_outline count Filled t e))

star_outline : (o : Outline) (t : SequenceType) → IsOutline o t → IsOutline (behind_copies o) (star_of t)
star_outline Never t e = ap star_of e
star_outline Empty t e = ap star_of e
star_outline Filled t e = star_is_filled t e

-- some copies, and perhaps others
some_copies : (count : ℕ) (o : Outline) (t others : SequenceType) → IsOutline o t → ((others ≡ nothing) ⊎ IsOutline (behind_copies o) others) → IsOutline o (joined_types (copies (suc count) t) others)
some_copies count Never t others e further = ap (λ (x : SequenceType). joined_types x others) (copies_of_never (suc count) t e (omega arith))
some_copies count Empty t others e further =
    let empty : others ≡ nothing = elim further [
      | inl none ↦ none
      | inr some ↦ some
    ] in
    ap (λ (x : SequenceType). joined_types x others) (copies_of_nothing (suc count) t e) ∙ empty
some_copies count Filled t others e (inl none) = joined_outline Filled Empty (copies (suc count) t) others (copies_are_filled count t e) none
some_copies count Filled t others e (inr some) = joined_outline Filled Filled (copies (suc count) t) others (copies_are_filled count t e) some

-- where something may occur, but need not
none_needed : (o : Outline) (t : SequenceType) → IsOutline (behind_copies o) t → IsOutline (occurring_outline 0 o) t
none_needed Never t e = e
none_needed Empty t e = e
none_needed Filled t e = e

-- where it must occur
some_needed : (least : ℕ) (o : Outline) (t : SequenceType) → IsOutline o t → IsOutline (occurring_outline (suc least) o) t
some_needed least Never t e = e
some_needed least Empty t e = e
some_needed least Filled t e = e

-- the greatest number is not 0
some_allowed : (greatest least : ℕ) (o : Outline) (t : SequenceType) → IsOutline (occurring_outline least o) t → IsOutline (if nat_lt 0 (suc greatest) then occurring_outline least o else Empty) t
some_allowed greatest least o t e = let allowed : nat_lt 0 (suc greatest) ≡ true = lt-ltb 0 (suc greatest) (omega arith) in rw allowed e

counted_outline : (m k least : ℕ) (o : Outline) (t : SequenceType) → IsOutline o t → (greatest : ℕ) → m ≡ min least greatest → k ≡ greatest - least →
    IsOutline (if nat_lt 0 greatest then occurring_outline least o else Empty) (joined_types (copies m t) (optional_copies k t))
counted_outline zero zero least o t e zero few more = refl
counted_outline zero zero zero o t e (suc greatest) few more = absurd (omega arith)
counted_outline zero zero (suc least) o t e (suc greatest) few more = absurd (omega arith)
counted_outline zero (suc k) least o t e zero few more = absurd (omega arith)
counted_outline zero (suc k) zero o t e (suc greatest) few more = some_allowed greatest 0 o (optional_copies (suc k) t) (none_needed o (optional_copies (suc k) t) (optional_copies_outline k o t e))
counted_outline zero (suc k) (suc least) o t e (suc greatest) few more = absurd (omega arith)
counted_outline (suc m) k least o t e zero few more = absurd (omega arith)
counted_outline (suc m) k zero o t e (suc greatest) few more = absurd (omega arith)
counted_outline (suc m) zero (suc least) o t e (suc greatest) few more =
    some_allowed greatest (suc least) o (joined_types (copies (suc m) t) nothing) (some_needed least o (joined_types (copies (suc m) t) nothing) (some_copies m o t nothing e (inl refl)))
counted_outline (suc m) (suc k) (suc least) o t e (suc greatest) few more =
    let others = optional_copies (suc k) t in
    some_allowed greatest (suc least) o (joined_types (copies (suc m) t) others)
    (some_needed least o (joined_types (copies (suc m) t) others) (some_copies m o t others e (inr (optional_copies_outline k o t e))))

times_outline : (least : ℕ) (greatest : Option ℕ) (o : Outline) (t : SequenceType) → IsOutline o t →
    IsOutline (if may_occur greatest then occurring_outline least o else Empty) (joined_types (copies (least_copies least greatest) t) (further_copies least greatest t))
times_outline zero None o t e = none_needed o (star_of t) (star_outline o t e)
times_outline (suc least) None o t e = some_needed least o (joined_types (copies (suc least) t) (star_of t)) (some_copies least o t (star_of t) e (inr (star_outline o t e)))
times_outline least (Some greatest) o t e = counted_outline (min least greatest) (greatest - least) least o t e greatest refl refl

bounded_content : (bounds : Bounds) (o : Outline) (t : SequenceType) → IsOutline o t → IsOutline (bounded_outline bounds o) (bounded bounds t)
bounded_content bounds o t e = times_outline bounds.least bounds.greatest o t e

-- ---- choices

or_else_is_filled : (choice member : SequenceType) → is_filled choice ≡ true → is_filled member ≡ true → is_filled (choice_with choice member) ≡ true
or_else_is_filled never member e f = f
or_else_is_filled nothing member e f = absurd (cc)
or_else_is_filled (item kind) member e f = f
or_else_is_filled (both first second) member e f = f
or_else_is_filled (either first second) member e f = rw e f
or_else_is_filled (optional part) member e f = f
or_else_is_filled (star part) member e f = f
or_else_is_filled (plus part) member e f = f

member_is_filled : (choice member : SequenceType) → is_filled choice ≡ true → is_filled member ≡ true → is_filled (with_member choice member) ≡ true
member_is_filled choice member e f = elim (is_member_of member choice) as (λ (test : Bool). is_filled (if test then choice else choice_with choice member) ≡ true) [
  | true ↦ e
  | false ↦ or_else_is_filled choice member e f
]

-- a choice as far as it is made: none so far, or filled
abbrev IsBegun : SequenceType → Type 0
IsBegun choice = (choice ≡ never) ⊎ (is_filled choice ≡ true)

members_are_filled : (choice t : SequenceType) → IsBegun choice → is_filled t ≡ true → is_filled (with_members choice t) ≡ true
members_are_filled choice never begun f = absurd (cc)
members_are_filled choice nothing begun f = absurd (cc)
members_are_filled choice (item kind) (inl none) f = ap (λ (c : SequenceType). is_filled (with_member c (item kind))) none
members_are_filled choice (item kind) (inr some) f = member_is_filled choice (item kind) some f
members_are_filled choice (both first second) (inl none) f = ap (λ (c : SequenceType). is_filled (with_member c (both first second))) none
members_are_filled choice (both first second) (inr some) f = member_is_filled choice (both first second) some f
members_are_filled choice (either first second) begun f =
    let parts = and_parts (is_filled first) (is_filled second) f in
    members_are_filled (with_members choice first) second (inr (members_are_filled choice first begun parts.0)) parts.1
members_are_filled choice (optional part) (inl none) f = ap (λ (c : SequenceType). is_filled (with_member c (optional part))) none
members_are_filled choice (optional part) (inr some) f = member_is_filled choice (optional part) some f
members_are_filled choice (star part) (inl none) f = ap (λ (c : SequenceType). is_filled (with_member c (star part))) none
members_are_filled choice (star part) (inr some) f = member_is_filled choice (star part) some f
members_are_filled choice (plus part) (inl none) f = ap (λ (c : SequenceType). is_filled (with_member c (plus part))) none
members_are_filled choice (plus part) (inr some) f = member_is_filled choice (plus part) some f

-- the outline of a choice as far as it is made, and whether a member was empty
abbrev IsOutlineSoFar : Outline → (choice : SequenceType) → (with_empty : Bool) → Type 0
IsOutlineSoFar Never choice with_empty = (choice ≡ never) × (with_empty ≡ false)
IsOutlineSoFar Empty choice with_empty = (choice ≡ never) × (with_empty ≡ true)
IsOutlineSoFar Filled choice with_empty = is_filled choice ≡ true

or_true : (b : Bool) → b || true ≡ true
or_true true = refl
or_true false = refl

or_false : (b : Bool) → b || false ≡ b
or_false true = refl
or_false false = refl

or_or : (a b c : Bool) → a || (b || c) ≡ (a || b) || c
or_or true b c = refl
or_or false b c = refl

one_more : (done o : Outline) (choice t : SequenceType) (with_empty : Bool) → IsOutlineSoFar done choice with_empty → IsOutline o t →
    IsOutlineSoFar (chosen_outlines done o) (with_members choice t) (with_empty || has_empty t)
one_more Never Never choice t with_empty sofar e = (ap (with_members choice) e ∙ sofar.0, ap (λ (x : SequenceType). with_empty || has_empty x) e ∙ or_false with_empty ∙ sofar.1)
one_more Never Empty choice t with_empty sofar e = (ap (with_members choice) e ∙ sofar.0, ap (λ (x : SequenceType). with_empty || has_empty x) e ∙ or_true with_empty)
one_more Never Filled choice t with_empty sofar e = members_are_filled choice t (inl sofar.0) e
one_more Empty Never choice t with_empty sofar e = (ap (with_members choice) e ∙ sofar.0, ap (λ (x : SequenceType). with_empty || has_empty x) e ∙ or_false with_empty ∙ sofar.1)
one_more Empty Empty choice t with_empty sofar e = (ap (with_members choice) e ∙ sofar.0, ap (λ (x : SequenceType). with_empty || has_empty x) e ∙ or_true with_empty)
one_more Empty Filled choice t with_empty sofar e = members_are_filled choice t (inl sofar.0) e
one_more Filled Never choice t with_empty sofar e = ap (λ (x : SequenceType). is_filled (with_members choice x)) e ∙ sofar
one_more Filled Empty choice t with_empty sofar e = ap (λ (x : SequenceType). is_filled (with_members choice x)) e ∙ sofar
one_more Filled Filled choice t with_empty sofar e = members_are_filled choice t (inr sofar) e

finished : SequenceType → Bool → SequenceType
finished choice with_empty = if with_empty then optional_of choice else choice

finished_outline : (done : Outline) (choice : SequenceType) (with_empty : Bool) → IsOutlineSoFar done choice with_empty → IsOutline done (finished choice with_empty)
unfolding finished
finished_outline Never choice with_empty sofar = ap (λ (b : Bool). if b then optional_of choice else choice) sofar.1 ∙ sofar.0
finished_outline Empty choice with_empty sofar = ap (λ (b : Bool). if b then optional_of choice else choice) sofar.1 ∙ ap optional_of sofar.0
finished_outline Filled choice true sofar = optional_is_filled choice sofar
finished_outline Filled choice false sofar = sofar

-- ---- groups

-- outlines are those of contents
abbrev pub AreOutlines : (ℕ → Outline) → (ℕ → SequenceType) → Type 0
AreOutlines outlines contents = (number : ℕ) → IsOutline (outlines number) (contents number)

term_is : (outlines : ℕ → Outline) (contents : ℕ → SequenceType) → AreOutlines outlines contents → (term : Term) → IsOutline (term_outline outlines term) (term_content contents term)
term_is outlines contents are (Element name kind) = refl
term_is outlines contents are (Group number) = are number

particle_is : (outlines : ℕ → Outline) (contents : ℕ → SequenceType) → AreOutlines outlines contents → (particle : Particle) → IsOutline (particle_outline outlines particle) (particle_content contents particle)
particle_is outlines contents are particle = bounded_content particle.bounds (term_outline outlines particle.term) (term_content contents particle.term) (term_is outlines contents are particle.term)

sequence_is : (outlines : ℕ → Outline) (contents : ℕ → SequenceType) → AreOutlines outlines contents → (particles : List Particle) (o : Outline) (t : SequenceType) → IsOutline o t →
    IsOutline (fold (λ done particle. joined_outlines done (particle_outline outlines particle)) o particles) (fold (λ done particle. joined_types done (particle_content contents particle)) t particles)
sequence_is outlines contents are [] o t e = e
sequence_is outlines contents are (particle ∷ others) o t e =
    sequence_is outlines contents are others (joined_outlines o (particle_outline outlines particle)) (joined_types t (particle_content contents particle))
    (joined_outline o (particle_outline outlines particle) t (particle_content contents particle) e (particle_is outlines contents are particle))

choice_is : (outlines : ℕ → Outline) (contents : ℕ → SequenceType) → AreOutlines outlines contents → (particles : List Particle) (done : Outline) (choice : SequenceType) (with_empty : Bool) →
    IsOutlineSoFar done choice with_empty → IsOutline (fold (λ outline particle. chosen_outlines outline (particle_outline outlines particle)) done particles)
    (finished (fold with_members choice (map (particle_content contents) particles)) (with_empty || list_any has_empty (map (particle_content contents) particles)))
choice_is outlines contents are [] done choice with_empty sofar =
    subst (λ (b : Bool). IsOutline done (finished choice b)) (sym (or_false with_empty)) (finished_outline done choice with_empty sofar)
choice_is outlines contents are (particle ∷ others) done choice with_empty sofar =
    let t = particle_content contents particle in
    let o = particle_outline outlines particle in
    let rest = map (particle_content contents) others in
    subst (λ (b : Bool). IsOutline (fold (λ outline other. chosen_outlines outline (particle_outline outlines other)) (chosen_outlines done o) others) (finished (fold with_members (with_members choice t) rest) b))
    (sym (or_or with_empty (has_empty t) (list_any has_empty rest)))
    (choice_is outlines contents are others (chosen_outlines done o) (with_members choice t) (with_empty || has_empty t) (one_more done o choice t with_empty sofar (particle_is outlines contents are particle)))

composed_is : (outlines : ℕ → Outline) (contents : ℕ → SequenceType) → AreOutlines outlines contents → (compositor : Compositor) (particles : List Particle) →
    IsOutline (composed_outline outlines compositor particles) (composed contents compositor particles)
unfolding finished
composed_is outlines contents are Sequence particles = sequence_is outlines contents are particles Empty nothing refl
composed_is outlines contents are Choice particles = choice_is outlines contents are particles Never never false (refl, refl)

groups_within : (groups : List ModelGroup) (steps number : ℕ) → IsOutline (meaning_within group_outline Never groups steps number) (meaning_within group_content never groups steps number)
groups_within groups zero number = refl
groups_within groups (suc steps) number =
    let outlines = meaning_within group_outline Never groups steps in
    let contents = meaning_within group_content never groups steps in
    elim (slice_get groups number) as (λ (g : Option ModelGroup). IsOutline (meaning_in group_outline Never g outlines) (meaning_in group_content never g contents)) [
      | None ↦ refl
      | Some group ↦ composed_is outlines contents (groups_within groups steps) group.compositor group.particles
    ]

seen_outline : (test : Bool) (o : Outline) (t : SequenceType) → IsOutline o t → IsOutline (if test then o else Never) (if test then t else never)
seen_outline true o t e = e
seen_outline false o t e = refl

pub groups_have_outlines : (groups : List ModelGroup) (number : ℕ) → IsOutline (outline_of_group groups number) (whole_content_of_group groups number)
unfolding outline_of_group whole_content_of_group
groups_have_outlines groups number =
    let steps = length groups in
    seen_outline (all_end groups_in groups) (meaning_within group_outline Never groups steps number) (meaning_within group_content never groups steps number) (groups_within groups steps number)

-- ---- types

-- an outline is that of what a type comes to
pub record IsTypeOutline (outline : TypeOutline) (effective : Effective) : Type 0 where
  pub content : IsOutline outline.content effective.content
  pub mixed : outline.mixed ≡ effective.mixed

abbrev pub AreTypeOutlines : (ℕ → TypeOutline) → (ℕ → Effective) → Type 0
AreTypeOutlines outlines contents = (number : ℕ) → IsTypeOutline (outlines number) (contents number)

pub base_is : (outlines : ℕ → TypeOutline) (contents : ℕ → Effective) → AreTypeOutlines outlines contents → (base : Base) → IsTypeOutline (outline_of_base outlines base) (content_of_base contents base)
base_is outlines contents are (Builtin builtin) = record { content = refl; mixed = refl }
base_is outlines contents are (Declared number) = are number

pub written_is : (outlines : ℕ → Outline) (contents : ℕ → SequenceType) → AreOutlines outlines contents → (content : Option Particle) → IsOutline (written_outline outlines content) (written_content contents content)
written_is outlines contents are None = refl
written_is outlines contents are (Some particle) = particle_is outlines contents are particle

sourced_is : (outlines : ℕ → TypeOutline) (contents : ℕ → Effective) → AreTypeOutlines outlines contents → (source : ContentSource) (mixed : Bool) (o : Outline) (t : SequenceType) → IsOutline o t →
    IsTypeOutline (sourced_outline outlines source mixed o) (sourced_content contents source mixed t)
sourced_is outlines contents are sources.Simple mixed o t e = record { content = refl; mixed = refl }
sourced_is outlines contents are sources.Written mixed o t e = record { content = e; mixed = refl }
sourced_is outlines contents are (sources.Behind base) mixed o t e =
    let under = base_is outlines contents are base in
    record {
      content = joined_outline (outline_of_base outlines base).content o (content_of_base contents base).content t under.content e;
      mixed =
          ap (λ (empty : Bool). mixed || (empty && (outline_of_base outlines base).mixed)) (emptiness o t e)
          ∙ ap (λ (below : Bool). mixed || (is_nothing t && below)) under.mixed;
    }

form_is : (of_groups : ℕ → Outline) (groups : ℕ → SequenceType) → AreOutlines of_groups groups → (outlines : ℕ → TypeOutline) (contents : ℕ → Effective) → AreTypeOutlines outlines contents → (form : TypeForm) →
    IsTypeOutline (form_outline of_groups outlines form) (form_content groups contents form)
form_is of_groups groups known outlines contents are (forms.Simple definition) = record { content = refl; mixed = refl }
form_is of_groups groups known outlines contents are (forms.Complex definition) =
    sourced_is outlines contents are (source_of definition.derivation) definition.mixed (written_outline of_groups definition.content) (written_content groups definition.content)
    (written_is of_groups groups known definition.content)

types_within : (of_groups : ℕ → Outline) (groups : ℕ → SequenceType) → AreOutlines of_groups groups → (types : List TypeComponent) (steps number : ℕ) →
    IsTypeOutline (meaning_within (type_outline of_groups) unknown_outline types steps number) (meaning_within (component_content groups) unknown_content types steps number)
types_within of_groups groups known types zero number = record { content = refl; mixed = refl }
types_within of_groups groups known types (suc steps) number =
    let outlines = meaning_within (type_outline of_groups) unknown_outline types steps in
    let contents = meaning_within (component_content groups) unknown_content types steps in
    elim (slice_get types number) as (λ (c : Option TypeComponent). IsTypeOutline (meaning_in (type_outline of_groups) unknown_outline c outlines) (meaning_in (component_content groups) unknown_content c contents)) [
      | None ↦ record { content = refl; mixed = refl }
      | Some component ↦ form_is of_groups groups known outlines contents (types_within of_groups groups known types steps) component.form
    ]

seen_type_outline : (test : Bool) (outline : TypeOutline) (effective : Effective) → IsTypeOutline outline effective → IsTypeOutline (if test then outline else unknown_outline) (if test then effective else unknown_content)
seen_type_outline true outline effective is = is
seen_type_outline false outline effective is = record { content = refl; mixed = refl }

pub types_have_outlines : (types : List TypeComponent) (groups : List ModelGroup) (number : ℕ) → IsTypeOutline (outline_of_type types groups number) (whole_content_of_type types groups number)
unfolding outline_of_type whole_content_of_type
types_have_outlines types groups number =
    let steps = length types in
    seen_type_outline (all_end extended_types types) (meaning_within (type_outline (outline_of_group groups)) unknown_outline types steps number)
    (meaning_within (component_content (whole_content_of_group groups)) unknown_content types steps number)
    (types_within (outline_of_group groups) (whole_content_of_group groups) (groups_have_outlines groups) types steps number)
