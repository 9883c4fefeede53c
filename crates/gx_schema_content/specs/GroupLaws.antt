-- The content and the positions of a group look at nothing but those of the groups that it holds.
use Rattle.std.specs.Prelude.{◌≡◌, ℕ, zero, suc, ◌+◌, Bool, true, false, List, [], ◌∷◌, Option, None, Some, fold, map, refl}
use Rattle.std.specs.List.{Contains, filter_map, cons_option}
use Rattle.std.proofs.Common.{◌∙◌, ap, arith}
use Rattle.gx_types.specs.SequenceType.{SequenceType, nothing}
use Rattle.gx_types.specs.TypeRules.{joined_types}
use Rattle.gx_types.specs.Choice.{choice_among}
use Rattle.gx_references.specs.Known.{SameMeaningsOn}
use Rattle.gx_schema_components.specs.declared.component.Term.{Term}
use Rattle.gx_schema_components.specs.declared.component.Term.TheVariants.{Element, Group}
use Rattle.gx_schema_components.specs.declared.component.Particle.{Particle}
use Rattle.gx_schema_syntax.specs.declared.role.Compositor.{Compositor}
use Rattle.gx_schema_syntax.specs.declared.role.Compositor.TheVariants.{Sequence, Choice}
use Rattle.gx_schema_components.specs.declared.component.ModelGroup.{ModelGroup}
use Rattle.gx_schema_content.specs.Occurrences.{bounded, times_counted}
use Rattle.gx_schema_content.specs.GroupContents.{group_of_term, group_of_particle, groups_in, term_content, particle_content, composed, content_that_fits}
use Rattle.gx_schema_content.specs.GroupPositions.{term_positions, particle_positions, group_positions, counted}

-- ---- what a list of options holds

pub first_option_is_there : {A : Type 0} (found : Option A) (others : List A) (x : A) → found ≡ Some x → Contains (cons_option found others) x
first_option_is_there None others x e = absurd (cc)
first_option_is_there (Some y) others x e = let same : y ≡ x = cc in (zero, omega arith, same)

pub other_options_are_there : {A : Type 0} (found : Option A) (others : List A) (x : A) → Contains others x → Contains (cons_option found others) x
other_options_are_there None others x here = here
other_options_are_there (Some y) others x (k, within, here) = (suc k, omega arith, here)

-- two ways to give meanings agree on the group that a particle holds
abbrev pub AgreeOnTerm : {M : Type 0} → (f g : ℕ → M) → Option ℕ → Type 0
AgreeOnTerm f g found = (number : ℕ) → found ≡ Some number → f number ≡ g number

pub agree_on_first : {M : Type 0} (f g : ℕ → M) (particle : Particle) (others : List Particle) → SameMeaningsOn f g (filter_map group_of_particle (particle ∷ others)) → AgreeOnTerm f g (group_of_particle particle)
agree_on_first f g particle others agree number e = agree number (first_option_is_there (group_of_particle particle) (filter_map group_of_particle others) number e)

pub agree_on_others : {M : Type 0} (f g : ℕ → M) (particle : Particle) (others : List Particle) → SameMeaningsOn f g (filter_map group_of_particle (particle ∷ others)) → SameMeaningsOn f g (filter_map group_of_particle others)
agree_on_others f g particle others agree number here = agree number (other_options_are_there (group_of_particle particle) (filter_map group_of_particle others) number here)

-- ---- contents

term_content_agrees : (f g : ℕ → SequenceType) (term : Term) → AgreeOnTerm f g (group_of_term term) → term_content f term ≡ term_content g term
term_content_agrees f g (Element name kind) agree = refl
term_content_agrees f g (Group number) agree = agree number refl

particle_content_agrees : (f g : ℕ → SequenceType) (particle : Particle) → AgreeOnTerm f g (group_of_particle particle) → particle_content f particle ≡ particle_content g particle
particle_content_agrees f g particle agree = ap (λ (t : SequenceType). bounded particle.bounds t) (term_content_agrees f g particle.term agree)

abbrev behind : (ℕ → SequenceType) → SequenceType → Particle → SequenceType
behind groups done particle = joined_types done (particle_content groups particle)

sequence_agrees : (f g : ℕ → SequenceType) (particles : List Particle) (done : SequenceType) → SameMeaningsOn f g (filter_map group_of_particle particles) → fold (behind f) done particles ≡ fold (behind g) done particles
sequence_agrees f g [] done agree = refl
sequence_agrees f g (particle ∷ others) done agree =
    ap (λ (t : SequenceType). fold (behind f) (joined_types done t) others) (particle_content_agrees f g particle (agree_on_first f g particle others agree))
    ∙ sequence_agrees f g others (behind g done particle) (agree_on_others f g particle others agree)

members_agree : (f g : ℕ → SequenceType) (particles : List Particle) → SameMeaningsOn f g (filter_map group_of_particle particles) → map (particle_content f) particles ≡ map (particle_content g) particles
members_agree f g [] agree = refl
members_agree f g (particle ∷ others) agree =
    ap (λ (t : SequenceType). t ∷ map (particle_content f) others) (particle_content_agrees f g particle (agree_on_first f g particle others agree))
    ∙ ap (λ (ts : List SequenceType). particle_content g particle ∷ ts) (members_agree f g others (agree_on_others f g particle others agree))

composed_agrees : (f g : ℕ → SequenceType) (compositor : Compositor) (particles : List Particle) → SameMeaningsOn f g (filter_map group_of_particle particles) → composed f compositor particles ≡ composed g compositor particles
composed_agrees f g Sequence particles agree = sequence_agrees f g particles nothing agree
composed_agrees f g Choice particles agree = ap choice_among (members_agree f g particles agree)

pub content_that_fits_agrees : (fits : Bool) (f g : ℕ → SequenceType) (group : ModelGroup) → SameMeaningsOn f g (groups_in group) → content_that_fits fits f group ≡ content_that_fits fits g group
content_that_fits_agrees true f g group agree = composed_agrees f g group.compositor group.particles agree
content_that_fits_agrees false f g group agree = refl

-- ---- positions

term_positions_agree : (f g : ℕ → ℕ) (term : Term) → AgreeOnTerm f g (group_of_term term) → term_positions f term ≡ term_positions g term
term_positions_agree f g (Element name kind) agree = refl
term_positions_agree f g (Group number) agree = agree number refl

particle_positions_agree : (f g : ℕ → ℕ) (particle : Particle) → AgreeOnTerm f g (group_of_particle particle) → particle_positions f particle ≡ particle_positions g particle
particle_positions_agree f g particle agree =
    ap (λ (count : ℕ). times_counted particle.bounds.least particle.bounds.greatest count) (term_positions_agree f g particle.term agree)

sum_of_positions_agrees : (f g : ℕ → ℕ) (particles : List Particle) (total : ℕ) → SameMeaningsOn f g (filter_map group_of_particle particles) →
    fold (λ (sum : ℕ) particle. sum + particle_positions f particle) total particles ≡ fold (λ (sum : ℕ) particle. sum + particle_positions g particle) total particles
sum_of_positions_agrees f g [] total agree = refl
sum_of_positions_agrees f g (particle ∷ others) total agree =
    ap (λ (count : ℕ). fold (λ (sum : ℕ) other. sum + particle_positions f other) (total + count) others) (particle_positions_agree f g particle (agree_on_first f g particle others agree))
    ∙ sum_of_positions_agrees f g others (total + particle_positions g particle) (agree_on_others f g particle others agree)

pub group_positions_agree : (f g : ℕ → ℕ) (group : ModelGroup) → SameMeaningsOn f g (groups_in group) → counted (group_positions f group) ≡ counted (group_positions g group)
group_positions_agree f g group agree = ap counted (sum_of_positions_agrees f g group.particles 0 agree)
