-- Parts that are added one by one, the last first.
use Rattle.std.proofs.Common.{◌≡◌, ◌≢◌, ℕ, Bool, true, false, None, Some, List, [], ◌∷◌, ◌++◌, length, reverse, Result, Ok, Err, OnOk, refl, sym, ap, subst, ◌∙◌, arith, ◌≤◌}
use Rattle.std.proofs.lemmas.List.{reverse-reverse}
use mathlib.Core.List.{reverse_aux}
use Rattle.std.proofs.lemmas.Bool.{false≢true}
use Rattle.gx_funcs.specs.declared.function.Function.TheVariants as functions
use Rattle.gx_normal.specs.Making.{is_of_parts}
use Rattle.gx_base.specs.declared.place.Place.{Place}
use Rattle.gx_resolved.specs.declared.tree.Construct.{Construct}
use Rattle.gx_resolved.specs.declared.tree.Construct.TheVariants as written
use Rattle.gx_resolved.specs.ResolvedTree.{ResolvedTree, ResolvedTrees, resolved_at, no_resolved, a_resolved}
use Rattle.gx_resolved.specs.ResolvedView.{resolved_parts}
use Rattle.gx_core.specs.Expression.{CoreExpression}
use Rattle.gx_normal.specs.declared.focus.Focus.{Focus}
use Rattle.gx_normal.specs.declared.clauses.Ending.{Ending}
use Rattle.gx_normal.specs.Clauses.{Numbers, clause_part, clause_numbers, behind_clause, clause_at, ended}
use Rattle.gx_normal.specs.declared.filters.Predicate.TheVariants.{Condition}
use Rattle.gx_normal.specs.Filters.{predicate_of}
use Rattle.gx_normal.specs.Normalisation.{constructed, of_three, is_kept_part, parts_with, cores_of, core_of, clauses_core, path_core}
use Rattle.gx_normal.specs.Constructs.{empty_at}
use Rattle.gx_normal.specs.Normalising.{Made, added, all_added, last_ended, construct_finished}
use Rattle.gx_normal.specs.declared.signatures.Signatures.{Signatures}

added_in_turn : (cores parts : List CoreExpression) (outer : Made) → all_added cores (parts ∷ outer) ≡ reverse_aux cores parts ∷ outer
added_in_turn [] parts outer = refl
added_in_turn (e ∷ es) parts outer = added_in_turn es (e ∷ parts) outer

pub behind_twice : (items parts : List CoreExpression) → parts ≡ reverse items → reverse parts ≡ items
behind_twice items parts h = ap (λ (l : List CoreExpression). reverse l) h ∙ reverse-reverse items

pub not_of_three : (place : Place) (make : CoreExpression → CoreExpression → CoreExpression → CoreExpression) (parts : List CoreExpression) → length parts ≢ 3 → of_three place make parts ≡ empty_at place
not_of_three place make [] h = refl
not_of_three place make (a ∷ []) h = refl
not_of_three place make (a ∷ b ∷ []) h = refl
not_of_three place make (a ∷ b ∷ c ∷ []) h = absurd (h refl)
not_of_three place make (a ∷ b ∷ c ∷ d ∷ es) h = refl

-- ---- parts that stay, and boundary white space

-- ---- the first of several clauses

-- what clauses end in is the last part of what is made
pub ended_last : (ending : Ending) (e : CoreExpression) (made : Made) → last_ended ending (added e made) ≡ added (ended ending e) made
ended_last ending e [] = refl
ended_last ending e (parts ∷ outer) = refl

-- what follows from a fact of an answer
pub on_ok_then : {T E : Type 0} (r : Result T E) (A B : Type 0) → OnOk r A → (A → B) → OnOk r B
on_ok_then (Ok v) A B h f = f h
on_ok_then (Err e) A B h f = tt

pub none_left : (items : List ResolvedTree) → length items ≡ 0 → items ≡ []
none_left [] h = refl
none_left (t ∷ ts) h = absurd (cc)

-- ---- the parts of a path

-- ---- predicates

-- more than one part in parentheses stands for nothing that is counted
pub condition_of_more : (place : Place) (parts : List ResolvedTree) → 2 ≤ length parts → Condition ≡ predicate_of (resolved_at place written.Parenthesised (resolved_parts parts))
condition_of_more place [] h = absurd (omega (arith, h))
condition_of_more place (a ∷ []) h = absurd (omega (arith, h))
condition_of_more place (a ∷ b ∷ parts) h = refl

-- ---- constructs of all their parts

module _ (signatures : Signatures) where
  -- the parts of a construct that was opened without any
  pub all_finished : (cores : List CoreExpression) (place : Place) (construct : Construct) (outer : Made)
      → construct_finished signatures place construct (all_added cores ([] ∷ outer)) ≡ added (constructed signatures place construct cores) outer
  all_finished cores place construct outer =
      ap (construct_finished signatures place construct) (added_in_turn cores [] outer)
      ∙ ap (λ (parts : List CoreExpression). added (constructed signatures place construct parts) outer) (reverse-reverse cores)

  pub kept_in_front : (first : ResolvedTree) (others : ResolvedTrees) (numbers : Numbers) (focus : Focus) (free : ℕ) → is_kept_part focus first ≡ true
      → cores_of signatures (a_resolved first others) numbers focus free ≡ parts_with true (core_of signatures first numbers focus free) (cores_of signatures others numbers focus) free
  kept_in_front first others numbers focus free e = ap (λ (b : Bool). parts_with b (core_of signatures first numbers focus free) (cores_of signatures others numbers focus) free) e

  pub left_out : (first : ResolvedTree) (others : ResolvedTrees) (numbers : Numbers) (focus : Focus) (free : ℕ) → is_kept_part focus first ≡ false
      → cores_of signatures (a_resolved first others) numbers focus free ≡ cores_of signatures others numbers focus free
  left_out first others numbers focus free e = ap (λ (b : Bool). parts_with b (core_of signatures first numbers focus free) (cores_of signatures others numbers focus) free) e

  -- what a clause over this part opens to
  abbrev OpensTo : Ending → (place there : Place) → Construct → (parts others : ResolvedTrees) → (part : ResolvedTree) → Numbers → Focus → ℕ → Type 0
  OpensTo ending place there construct parts others part numbers focus free =
      (let p = core_of signatures part numbers focus free in
      let rest = clauses_core signatures ending place others (clause_numbers construct p.1 ++ numbers) focus (behind_clause construct p.1) in
      let made : CoreExpression × ℕ = (clause_at ending place construct p.1 p.0 rest.0, rest.1) in made)
      ≡ clauses_core signatures ending place (a_resolved (resolved_at there construct parts) others) numbers focus free

  clause_opens : (ending : Ending) (place there : Place) (construct : Construct) (parts others : ResolvedTrees) (part : ResolvedTree) (numbers : Numbers) (focus : Focus) (free : ℕ)
      → clause_part (resolved_at there construct parts) ≡ Some part → OpensTo ending place there construct parts others part numbers focus free
  clause_opens ending place there (written.For bound position) (a_resolved first more) others part numbers focus free h = let same : first ≡ part = cc in subst (λ (t : ResolvedTree). OpensTo ending place there (written.For bound position) (a_resolved first more) others t numbers focus free) same refl
  clause_opens ending place there (written.For bound position) no_resolved others part numbers focus free h = absurd (cc)
  clause_opens ending place there (written.Let bound) (a_resolved first more) others part numbers focus free h = let same : first ≡ part = cc in subst (λ (t : ResolvedTree). OpensTo ending place there (written.Let bound) (a_resolved first more) others t numbers focus free) same refl
  clause_opens ending place there (written.Let bound) no_resolved others part numbers focus free h = absurd (cc)
  clause_opens ending place there written.Where (a_resolved first more) others part numbers focus free h = let same : first ≡ part = cc in subst (λ (t : ResolvedTree). OpensTo ending place there written.Where (a_resolved first more) others t numbers focus free) same refl
  clause_opens ending place there written.Where no_resolved others part numbers focus free h = absurd (cc)
  clause_opens ending place there (written.In bound) (a_resolved first more) others part numbers focus free h = let same : first ≡ part = cc in subst (λ (t : ResolvedTree). OpensTo ending place there (written.In bound) (a_resolved first more) others t numbers focus free) same refl
  clause_opens ending place there (written.In bound) no_resolved others part numbers focus free h = absurd (cc)
  clause_opens ending place there (written.Key order) (a_resolved first more) others part numbers focus free h = let same : first ≡ part = cc in subst (λ (t : ResolvedTree). OpensTo ending place there (written.Key order) (a_resolved first more) others t numbers focus free) same refl
  clause_opens ending place there (written.Key order) no_resolved others part numbers focus free h = absurd (cc)
  clause_opens ending place there _ parts others part numbers focus free h = absurd (cc)

  -- what is no clause ends the clauses
  last_ends : (ending : Ending) (place there : Place) (construct : Construct) (parts others : ResolvedTrees) (numbers : Numbers) (focus : Focus) (free : ℕ) → clause_part (resolved_at there construct parts) ≡ None
      → (let e = core_of signatures (resolved_at there construct parts) numbers focus free in
      let made : CoreExpression × ℕ = (ended ending e.0, e.1) in made)
      ≡ clauses_core signatures ending place (a_resolved (resolved_at there construct parts) others) numbers focus free
  last_ends ending place there (written.For bound position) (a_resolved first more) others numbers focus free h = absurd (cc)
  last_ends ending place there (written.For bound position) no_resolved others numbers focus free h = refl
  last_ends ending place there (written.Let bound) (a_resolved first more) others numbers focus free h = absurd (cc)
  last_ends ending place there (written.Let bound) no_resolved others numbers focus free h = refl
  last_ends ending place there written.Where (a_resolved first more) others numbers focus free h = absurd (cc)
  last_ends ending place there written.Where no_resolved others numbers focus free h = refl
  last_ends ending place there (written.In bound) (a_resolved first more) others numbers focus free h = absurd (cc)
  last_ends ending place there (written.In bound) no_resolved others numbers focus free h = refl
  last_ends ending place there (written.Key order) (a_resolved first more) others numbers focus free h = absurd (cc)
  last_ends ending place there (written.Key order) no_resolved others numbers focus free h = refl
  last_ends ending place there _ parts others numbers focus free h = refl

  pub first_ends : (ending : Ending) (place : Place) (clause : ResolvedTree) (others all : List ResolvedTree) (numbers : Numbers) (focus : Focus) (free : ℕ) → all ≡ clause ∷ others → clause_part clause ≡ None
      → (let e = core_of signatures clause numbers focus free in
      let made : CoreExpression × ℕ = (ended ending e.0, e.1) in made)
      ≡ clauses_core signatures ending place (resolved_parts all) numbers focus free
  first_ends ending place (resolved_at there construct parts) others all numbers focus free here h =
      last_ends ending place there construct parts (resolved_parts others) numbers focus free h
      ∙ ap (λ (l : List ResolvedTree). clauses_core signatures ending place (resolved_parts l) numbers focus free) (sym here)

  pub first_opens : (ending : Ending) (place there : Place) (construct : Construct) (items others all : List ResolvedTree) (clause part : ResolvedTree) (numbers : Numbers) (focus : Focus) (free : ℕ)
      → all ≡ clause ∷ others → resolved_at there construct (resolved_parts items) ≡ clause → clause_part clause ≡ Some part
      → (let p = core_of signatures part numbers focus free in
      let rest = clauses_core signatures ending place (resolved_parts others) (clause_numbers construct p.1 ++ numbers) focus (behind_clause construct p.1) in
      let made : CoreExpression × ℕ = (clause_at ending place construct p.1 p.0 rest.0, rest.1) in made)
      ≡ clauses_core signatures ending place (resolved_parts all) numbers focus free
  first_opens ending place there construct items others all clause part numbers focus free here clause_is h =
      clause_opens ending place there construct (resolved_parts items) (resolved_parts others) part numbers focus free (ap clause_part clause_is ∙ h)
      ∙ ap (λ (l : List ResolvedTree). clauses_core signatures ending place (resolved_parts l) numbers focus free) (sym (here ∙ ap (λ (t : ResolvedTree). t ∷ others) (sym clause_is)))

  pub of_two_parts : (descendants : Bool) (place : Place) (first second : ResolvedTree) (all : List ResolvedTree) (numbers : Numbers) (focus : Focus) (free : ℕ) → all ≡ first ∷ second ∷ []
      → path_core signatures descendants place (a_resolved first (a_resolved second no_resolved)) numbers focus free ≡ path_core signatures descendants place (resolved_parts all) numbers focus free
  of_two_parts descendants place first second all numbers focus free h = ap (λ (l : List ResolvedTree). path_core signatures descendants place (resolved_parts l) numbers focus free) (sym h)

  pub not_two_parts : (descendants : Bool) (place : Place) (all : List ResolvedTree) (numbers : Numbers) (focus : Focus) (free : ℕ) → length all ≢ 2 → (empty_at place, free) ≡ path_core signatures descendants place (resolved_parts all) numbers focus free
  not_two_parts descendants place [] numbers focus free h = refl
  not_two_parts descendants place (a ∷ []) numbers focus free h = refl
  not_two_parts descendants place (a ∷ b ∷ []) numbers focus free h = absurd (h refl)
  not_two_parts descendants place (a ∷ b ∷ c ∷ more) numbers focus free h = refl

  pub core_of_parts : (place : Place) (construct : Construct) (parts : ResolvedTrees) (numbers : Numbers) (focus : Focus) (free : ℕ) → is_of_parts construct ≡ true
      → core_of signatures (resolved_at place construct parts) numbers focus free ≡ (let cores = cores_of signatures parts numbers focus free in let made : CoreExpression × ℕ = (constructed signatures place construct cores.0, cores.1) in made)
  core_of_parts place (written.Variable name binder) parts numbers focus free e = absurd (false≢true e)
  core_of_parts place written.Context parts numbers focus free e = absurd (false≢true e)
  core_of_parts place (written.Call functions.Position) parts numbers focus free e = absurd (false≢true e)
  core_of_parts place (written.Call functions.Last) parts numbers focus free e = absurd (false≢true e)
  core_of_parts place (written.Step axis asks) parts numbers focus free e = absurd (false≢true e)
  core_of_parts place written.ParentStep parts numbers focus free e = absurd (false≢true e)
  core_of_parts place written.Flwor parts numbers focus free e = absurd (false≢true e)
  core_of_parts place (written.Quantified every) parts numbers focus free e = absurd (false≢true e)
  core_of_parts place (written.Path descendants) parts numbers focus free e = absurd (false≢true e)
  core_of_parts place written.Filtered parts numbers focus free e = absurd (false≢true e)
  core_of_parts place (written.Case bound kind) parts numbers focus free e = absurd (false≢true e)
  core_of_parts place (written.Default bound) parts numbers focus free e = absurd (false≢true e)
  core_of_parts place _ parts numbers focus free e = refl
