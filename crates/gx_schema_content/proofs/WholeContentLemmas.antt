-- Contents of no more positions than a content may have are whole.
use Rattle.std.proofs.Common.{◌≡◌, ℕ, zero, suc, ◌+◌, ◌-◌, ◌*◌, ◌≤◌, ◌<◌, Bool, true, false, inl, inr, List, [], ◌∷◌, length, Option, None, Some, map, slice_get, if◌then◌else◌, refl, sym, ◌∙◌, ap, arith}
use Rattle.std.specs.Prelude.{fold, min}
use Rattle.std.specs.List.{Contains, list_all}
use Rattle.std.proofs.lemmas.Bool.{and_parts, cases_Bool, cases_lt, le-leb, true≢false}
use Rattle.std.proofs.lemmas.List.Folds.{list_all_at}
use Rattle.std.proofs.lemmas.Nat.{mul-le}
use Rattle.std.proofs.lemmas.Option.{slice_get_past}
use Rattle.gx_base.specs.declared.limits.TheConstants.{CONTENT_POSITIONS}
use Rattle.gx_types.specs.SequenceType.{SequenceType, never, nothing}
use Rattle.gx_types.specs.TypeRules.{joined_types}
use Rattle.gx_types.specs.Choice.{choice_among}
use Rattle.gx_references.specs.Known.{SameMeaningsOn}
use Rattle.gx_references.specs.Laws.{LooksAtReferences}
use Rattle.gx_references.specs.References.{ends, ends_within, meaning_in, meaning_of, meaning_over, meaning_within, named_by, numbers_named}
use Rattle.gx_schema_syntax.specs.declared.role.Compositor.{Compositor}
use Rattle.gx_schema_syntax.specs.declared.role.Compositor.TheVariants.{Sequence, Choice}
use Rattle.gx_schema_components.specs.declared.component.Base.{Base}
use Rattle.gx_schema_components.specs.declared.component.Base.TheVariants.{Builtin, Declared}
use Rattle.gx_schema_components.specs.declared.component.ModelGroup.{ModelGroup}
use Rattle.gx_schema_components.specs.declared.component.Particle.{Particle}
use Rattle.gx_schema_components.specs.declared.component.Term.{Term}
use Rattle.gx_schema_components.specs.declared.component.Term.TheVariants.{Element, Group}
use Rattle.gx_schema_components.specs.declared.component.TypeComponent.{TypeComponent}
use Rattle.gx_schema_components.specs.declared.component.TypeForm.{TypeForm}
use Rattle.gx_schema_components.specs.declared.component.TypeForm.TheVariants as forms
use Rattle.gx_schema_content.specs.declared.effective.Effective.{Effective}
use Rattle.gx_schema_content.specs.declared.source.ContentSource.{ContentSource}
use Rattle.gx_schema_content.specs.declared.source.ContentSource.TheVariants as sources
use Rattle.gx_schema_content.specs.ContentKnots.{content_of_group, content_of_type, fitting_group, fitting_type}
use Rattle.gx_schema_content.specs.GroupContents.{composed, content_that_fits, group_content, groups_in, particle_content, term_content}
use Rattle.gx_schema_content.specs.GroupLaws.{group_positions_agree}
use Rattle.gx_schema_content.specs.GroupPositions.{particle_positions, term_positions}
use Rattle.gx_schema_content.specs.Knots.{all_end, holds_below}
use Rattle.gx_schema_content.specs.Laws.{ContentsAreWhole}
use Rattle.gx_schema_content.specs.Occurrences.{copies, further_copies, least_copies, times_counted}
use Rattle.gx_schema_content.specs.PositionKnots.{counted_group, counted_type, is_within_limit, positions_of_group, positions_of_type}
use Rattle.gx_schema_content.specs.Sources.{extended_types, source_of}
use Rattle.gx_schema_content.specs.TypeContents.{content_of_base, form_content, sourced_content, type_content_that_fits, unknown_content, written_content}
use Rattle.gx_schema_content.specs.TypeLaws.{type_positions_agree}
use Rattle.gx_schema_content.specs.TypePositions.{form_positions, positions_of_base, sourced_positions, written_positions}
use Rattle.gx_schema_content.specs.WholeContents.{component_content, whole_content_of_group, whole_content_of_type}

-- ---- what all of a list of declarations means

each_holds : (count : ℕ) (test : ℕ → Bool) → holds_below count test ≡ true → (number : ℕ) → number < count → test number ≡ true
each_holds zero test all number within = absurd (omega arith)
each_holds (suc count) test all number within =
    let parts = and_parts (holds_below count test) (test count) all in
    elim (cases_lt number count) [
      | inl below ↦ each_holds count test parts.0 number below
      | inr above ↦ let here : number ≡ count = omega arith in ap test here ∙ parts.1
    ]

is_declared : {B : Type 0} (bodies : List B) (number : ℕ) (body : B) → slice_get bodies number ≡ Some body → number < length bodies
is_declared {B} bodies number body here = elim (cases_lt number (length bodies)) [
  | inl within ↦ within
  | inr past ↦ let none : slice_get bodies number ≡ None = slice_get_past bodies number past in absurd (cc)
]

member_passes : {A : Type 0} (p : A → Bool) (xs : List A) (x : A) → list_all p xs ≡ true → Contains xs x → p x ≡ true
member_passes p xs x all (k, within, here) = elim (cases_Bool (p x)) [
  | inl is_so ↦ is_so
  | inr is_not ↦ absurd (true≢false (sym all ∙ list_all_at p xs k x within (ap p here ∙ is_not)))
]

meaning_agrees : {B M : Type 0} (references : B → List ℕ) (meant : (ℕ → M) → B → M) (unknown : M) → LooksAtReferences references meant → (bodies : List B) (f g : ℕ → M) (number : ℕ) →
    SameMeaningsOn f g (named_by references bodies number) → meaning_over meant unknown bodies f number ≡ meaning_over meant unknown bodies g number
meaning_agrees references meant unknown looks bodies f g number agree =
    elim (slice_get bodies number) as (λ (b : Option _). SameMeaningsOn f g (numbers_named references b number) → meaning_in meant unknown b f ≡ meaning_in meant unknown b g) [
      | None ↦ λ _. refl
      | Some body ↦ λ a. looks f g body a
    ] agree

-- where references end within so many steps, one more step gives the same meaning
same_one_later : {B M : Type 0} (references : B → List ℕ) (meant : (ℕ → M) → B → M) (unknown : M) → LooksAtReferences references meant → (bodies : List B) (steps number : ℕ) →
    ends_within references bodies steps number ≡ true → meaning_within meant unknown bodies (suc steps) number ≡ meaning_within meant unknown bodies steps number
same_one_later references meant unknown looks bodies zero number e = absurd (true≢false (sym e))
same_one_later references meant unknown looks bodies (suc steps) number e =
    meaning_agrees references meant unknown looks bodies (meaning_within meant unknown bodies (suc steps)) (meaning_within meant unknown bodies steps) number
    (λ other here. same_one_later references meant unknown looks bodies steps other (member_passes (ends_within references bodies steps) (named_by references bodies number) other e here))

-- positions are those that a declaration says
solved : {B : Type 0} (references : B → List ℕ) (meant : (ℕ → ℕ) → B → ℕ) → LooksAtReferences references meant → (bodies : List B) → all_end references bodies ≡ true → (number : ℕ) (body : B) →
    slice_get bodies number ≡ Some body → meaning_of meant 0 bodies number ≡ meant (meaning_of meant 0 bodies) body
solved {B} references meant looks bodies all number body here =
    sym (same_one_later references meant 0 looks bodies (length bodies) number (each_holds (length bodies) (ends references bodies) all number (is_declared bodies number body here)))
    ∙ ap (λ (found : Option B). meaning_in meant 0 found (meaning_of meant 0 bodies)) here

-- ---- groups

-- contents are alike where they have no more positions than a content may have
abbrev AreAlike : {M : Type 0} → (positions : ℕ → ℕ) (f g : ℕ → M) → Type 0
AreAlike positions f g = (number : ℕ) → positions number ≤ CONTENT_POSITIONS → f number ≡ g number

times_alike : (least : ℕ) (greatest : Option ℕ) (count : ℕ) (t u : SequenceType) → (count ≤ CONTENT_POSITIONS → t ≡ u) → times_counted least greatest count ≤ CONTENT_POSITIONS →
    joined_types (copies (least_copies least greatest) t) (further_copies least greatest t) ≡ joined_types (copies (least_copies least greatest) u) (further_copies least greatest u)
times_alike least None count t u same few =
    let more : count * 1 ≤ count * (least + 1) = mul-le count 1 count (least + 1) (omega arith) (omega arith) in
    ap (λ (x : SequenceType). joined_types (copies (least_copies least None) x) (further_copies least None x)) (same (omega arith))
times_alike least (Some zero) count t u same few =
    let none : min least 0 ≡ 0 = omega arith in
    let no_others : 0 - least ≡ 0 = omega arith in
    rw (none, no_others) refl
times_alike least (Some (suc greatest)) count t u same few =
    let more : count * 1 ≤ count * suc greatest = mul-le count 1 count (suc greatest) (omega arith) (omega arith) in
    ap (λ (x : SequenceType). joined_types (copies (least_copies least (Some (suc greatest))) x) (further_copies least (Some (suc greatest)) x)) (same (omega arith))

term_alike : (positions : ℕ → ℕ) (f g : ℕ → SequenceType) → AreAlike positions f g → (term : Term) → term_positions positions term ≤ CONTENT_POSITIONS → term_content f term ≡ term_content g term
term_alike positions f g alike (Element name kind) few = refl
term_alike positions f g alike (Group number) few = alike number few

particle_alike : (positions : ℕ → ℕ) (f g : ℕ → SequenceType) → AreAlike positions f g → (particle : Particle) → particle_positions positions particle ≤ CONTENT_POSITIONS → particle_content f particle ≡ particle_content g particle
particle_alike positions f g alike particle few =
    times_alike particle.bounds.least particle.bounds.greatest (term_positions positions particle.term) (term_content f particle.term) (term_content g particle.term) (term_alike positions f g alike particle.term) few

sum_is_more : (positions : ℕ → ℕ) (particles : List Particle) (total : ℕ) → total ≤ fold (λ (sum : ℕ) particle. sum + particle_positions positions particle) total particles
sum_is_more positions [] total = omega arith
sum_is_more positions (particle ∷ others) total = let more = sum_is_more positions others (total + particle_positions positions particle) in omega arith

sequence_alike : (positions : ℕ → ℕ) (f g : ℕ → SequenceType) → AreAlike positions f g → (particles : List Particle) (done : SequenceType) (total : ℕ) →
    fold (λ (sum : ℕ) particle. sum + particle_positions positions particle) total particles ≤ CONTENT_POSITIONS →
    fold (λ (t : SequenceType) particle. joined_types t (particle_content f particle)) done particles ≡ fold (λ (t : SequenceType) particle. joined_types t (particle_content g particle)) done particles
sequence_alike positions f g alike [] done total few = refl
sequence_alike positions f g alike (particle ∷ others) done total few =
    let more = sum_is_more positions others (total + particle_positions positions particle) in
    ap (λ (t : SequenceType). fold (λ (u : SequenceType) other. joined_types u (particle_content f other)) (joined_types done t) others) (particle_alike positions f g alike particle (omega arith))
    ∙ sequence_alike positions f g alike others (joined_types done (particle_content g particle)) (total + particle_positions positions particle) few

members_alike : (positions : ℕ → ℕ) (f g : ℕ → SequenceType) → AreAlike positions f g → (particles : List Particle) (total : ℕ) →
    fold (λ (sum : ℕ) particle. sum + particle_positions positions particle) total particles ≤ CONTENT_POSITIONS → map (particle_content f) particles ≡ map (particle_content g) particles
members_alike positions f g alike [] total few = refl
members_alike positions f g alike (particle ∷ others) total few =
    let more = sum_is_more positions others (total + particle_positions positions particle) in
    ap (λ (t : SequenceType). t ∷ map (particle_content f) others) (particle_alike positions f g alike particle (omega arith))
    ∙ ap (λ (ts : List SequenceType). particle_content g particle ∷ ts) (members_alike positions f g alike others (total + particle_positions positions particle) few)

composed_alike : (positions : ℕ → ℕ) (f g : ℕ → SequenceType) → AreAlike positions f g → (compositor : Compositor) (particles : List Particle) →
    fold (λ (sum : ℕ) particle. sum + particle_positions positions particle) 0 particles ≤ CONTENT_POSITIONS → composed f compositor particles ≡ composed g compositor particles
composed_alike positions f g alike Sequence particles few = sequence_alike positions f g alike particles nothing 0 few
composed_alike positions f g alike Choice particles few = ap choice_among (members_alike positions f g alike particles 0 few)

group_alike : (positions : ℕ → ℕ) (f g : ℕ → SequenceType) → AreAlike positions f g → (group : ModelGroup) → counted_group positions group ≤ CONTENT_POSITIONS →
    fitting_group positions f group ≡ group_content g group
group_alike positions f g alike group few =
    let fits : is_within_limit (counted_group positions group) ≡ true = le-leb (counted_group positions group) CONTENT_POSITIONS few in
    ap (λ (test : Bool). content_that_fits test f group) fits ∙ composed_alike positions f g alike group.compositor group.particles (omega arith)

groups_alike : (positions : ℕ → ℕ) (groups : List ModelGroup) → ((number : ℕ) (group : ModelGroup) → slice_get groups number ≡ Some group → positions number ≡ counted_group positions group) →
    (steps : ℕ) → AreAlike positions (meaning_within (fitting_group positions) never groups steps) (meaning_within group_content never groups steps)
groups_alike positions groups told zero number few = refl
groups_alike positions groups told (suc steps) number few =
    let fitting = meaning_within (fitting_group positions) never groups steps in
    let whole = meaning_within group_content never groups steps in
    elim (slice_get groups number) as (λ (found : Option ModelGroup). slice_get groups number ≡ found → meaning_in (fitting_group positions) never found fitting ≡ meaning_in group_content never found whole) [
      | None ↦ λ here. refl
      | Some group ↦ λ here. let own = told number group here in group_alike positions fitting whole (groups_alike positions groups told steps) group (omega arith)
    ] refl

seen_group : (groups : List ModelGroup) (number : ℕ) (test : Bool) → all_end groups_in groups ≡ test →
    let positions = λ (n : ℕ). if test then meaning_within counted_group 0 groups (length groups) n else 0 in
    positions number ≤ CONTENT_POSITIONS →
    (if test then meaning_within (fitting_group positions) never groups (length groups) number else never) ≡ (if test then meaning_within group_content never groups (length groups) number else never)
seen_group groups number true all few =
    groups_alike (meaning_within counted_group 0 groups (length groups)) groups (solved groups_in counted_group group_positions_agree groups all) (length groups) number few
seen_group groups number false all few = refl

groups_are_whole : (groups : List ModelGroup) → AreAlike (positions_of_group groups) (content_of_group groups) (whole_content_of_group groups)
unfolding positions_of_group content_of_group whole_content_of_group
groups_are_whole groups number few = seen_group groups number (all_end groups_in groups) refl few

-- ---- types

written_alike : (positions : ℕ → ℕ) (f g : ℕ → SequenceType) → AreAlike positions f g → (content : Option Particle) → written_positions positions content ≤ CONTENT_POSITIONS → written_content f content ≡ written_content g content
written_alike positions f g alike None few = refl
written_alike positions f g alike (Some particle) few = particle_alike positions f g alike particle few

base_alike : (positions : ℕ → ℕ) (f g : ℕ → Effective) → AreAlike positions f g → (base : Base) → positions_of_base positions base ≤ CONTENT_POSITIONS → content_of_base f base ≡ content_of_base g base
base_alike positions f g alike (Builtin builtin) few = refl
base_alike positions f g alike (Declared number) few = alike number few

sourced_alike : (positions : ℕ → ℕ) (f g : ℕ → Effective) → AreAlike positions f g → (source : ContentSource) (mixed : Bool) (count : ℕ) (t u : SequenceType) → (count ≤ CONTENT_POSITIONS → t ≡ u) →
    sourced_positions positions source count ≤ CONTENT_POSITIONS → sourced_content f source mixed t ≡ sourced_content g source mixed u
sourced_alike positions f g alike sources.Simple mixed count t u same few = refl
sourced_alike positions f g alike sources.Written mixed count t u same few = ap (λ (x : SequenceType). sourced_content f sources.Written mixed x) (same few)
sourced_alike positions f g alike (sources.Behind base) mixed count t u same few =
    ap (λ (x : SequenceType). sourced_content f (sources.Behind base) mixed x) (same (omega arith))
    ∙ ap (λ (under : Effective). sourced_content (λ _. under) (sources.Behind (Declared 0)) mixed u) (base_alike positions f g alike base (omega arith))

form_alike : (of_groups of_types : ℕ → ℕ) (groups whole : ℕ → SequenceType) → AreAlike of_groups groups whole → (f g : ℕ → Effective) → AreAlike of_types f g → (form : TypeForm) →
    form_positions of_groups of_types form ≤ CONTENT_POSITIONS → form_content groups f form ≡ form_content whole g form
form_alike of_groups of_types groups whole known f g alike (forms.Simple definition) few = refl
form_alike of_groups of_types groups whole known f g alike (forms.Complex definition) few =
    sourced_alike of_types f g alike (source_of definition.derivation) definition.mixed (written_positions of_groups definition.content) (written_content groups definition.content) (written_content whole definition.content)
    (written_alike of_groups groups whole known definition.content) few

type_alike : (of_groups of_types : ℕ → ℕ) (groups whole : ℕ → SequenceType) → AreAlike of_groups groups whole → (f g : ℕ → Effective) → AreAlike of_types f g → (component : TypeComponent) →
    counted_type of_groups of_types component ≤ CONTENT_POSITIONS → fitting_type of_groups of_types groups f component ≡ component_content whole g component
type_alike of_groups of_types groups whole known f g alike component few =
    let fits : is_within_limit (counted_type of_groups of_types component) ≡ true = le-leb (counted_type of_groups of_types component) CONTENT_POSITIONS few in
    ap (λ (test : Bool). type_content_that_fits test groups f component) fits ∙ form_alike of_groups of_types groups whole known f g alike component.form (omega arith)

types_alike : (of_groups of_types : ℕ → ℕ) (groups whole : ℕ → SequenceType) → AreAlike of_groups groups whole → (types : List TypeComponent) →
    ((number : ℕ) (component : TypeComponent) → slice_get types number ≡ Some component → of_types number ≡ counted_type of_groups of_types component) → (steps : ℕ) →
    AreAlike of_types (meaning_within (fitting_type of_groups of_types groups) unknown_content types steps) (meaning_within (component_content whole) unknown_content types steps)
types_alike of_groups of_types groups whole known types told zero number few = refl
types_alike of_groups of_types groups whole known types told (suc steps) number few =
    let f = meaning_within (fitting_type of_groups of_types groups) unknown_content types steps in
    let g = meaning_within (component_content whole) unknown_content types steps in
    elim (slice_get types number) as (λ (found : Option TypeComponent). slice_get types number ≡ found → meaning_in (fitting_type of_groups of_types groups) unknown_content found f ≡ meaning_in (component_content whole) unknown_content found g) [
      | None ↦ λ here. refl
      | Some component ↦ λ here. let own = told number component here in type_alike of_groups of_types groups whole known f g (types_alike of_groups of_types groups whole known types told steps) component (omega arith)
    ] refl

seen_type : (of_groups : ℕ → ℕ) (groups whole : ℕ → SequenceType) → AreAlike of_groups groups whole → (types : List TypeComponent) (number : ℕ) (test : Bool) → all_end extended_types types ≡ test →
    let positions = λ (n : ℕ). if test then meaning_within (counted_type of_groups) 0 types (length types) n else 0 in
    positions number ≤ CONTENT_POSITIONS →
    (if test then meaning_within (fitting_type of_groups positions groups) unknown_content types (length types) number else unknown_content)
    ≡ (if test then meaning_within (component_content whole) unknown_content types (length types) number else unknown_content)
seen_type of_groups groups whole known types number true all few =
    types_alike of_groups (meaning_within (counted_type of_groups) 0 types (length types)) groups whole known types
    (solved extended_types (counted_type of_groups) (type_positions_agree of_groups) types all) (length types) number few
seen_type of_groups groups whole known types number false all few = refl

types_are_whole : (types : List TypeComponent) (groups : List ModelGroup) → AreAlike (positions_of_type types groups) (content_of_type types groups) (whole_content_of_type types groups)
unfolding positions_of_type content_of_type whole_content_of_type
types_are_whole types groups number few =
    seen_type (positions_of_group groups) (content_of_group groups) (whole_content_of_group groups) (groups_are_whole groups) types number (all_end extended_types types) refl few

pub contents_are_whole : ContentsAreWhole
contents_are_whole types groups number few = types_are_whole types groups number few
