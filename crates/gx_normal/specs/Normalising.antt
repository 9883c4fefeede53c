-- What a normalisation in its midst comes to.
use Rattle.std.specs.Prelude.{ℕ, ◌+◌, Bool, List, [], ◌∷◌, ◌++◌, reverse, drop, true}
use Rattle.gx_base.specs.declared.place.Place.{Place}
use Rattle.gx_resolved.specs.declared.tree.Construct.{Construct}
use Rattle.gx_resolved.specs.ResolvedTree.{ResolvedTree, ResolvedTrees}
use Rattle.gx_resolved.specs.ResolvedView.{resolved_parts}
use Rattle.gx_core.specs.Expression.{CoreExpression}
use Rattle.gx_normal.specs.declared.normalising.Task.{Task}
use Rattle.gx_normal.specs.declared.normalising.Task.TheVariants.{Normalise, Parts, Clauses, Bind, Unbind, FinishClause, End, Enter, Filter, FinishPredicate, Leave, FinishPath, FinishBranch, Finish, Descend}
use Rattle.gx_normal.specs.declared.normalising.Normalising.{Normalising}
use Rattle.gx_normal.specs.declared.clauses.Ending.{Ending}
use Rattle.gx_normal.specs.declared.focus.Focus.{Focus}
use Rattle.gx_normal.specs.declared.signatures.Signatures.{Signatures}
use Rattle.gx_normal.specs.Clauses.{Numbers, clause_numbers, behind_clause, clause_at, ended}
use Rattle.gx_normal.specs.declared.contexts.Asked.TheVariants as asked
use Rattle.gx_normal.specs.declared.contexts.ContextUse.{ContextUse}
use Rattle.gx_normal.specs.Contexts.{asks_context, path_use, predicate_use, focus_with, behind_context, path_with}
use Rattle.gx_normal.specs.Switches.{branch_at}
use Rattle.gx_normal.specs.Filters.{filter_at}
use Rattle.gx_normal.specs.Normalisation.{constructed, left_of_path, core_of, cores_of, clauses_core, filtered_core}

-- ---- the parts that are there, the last first, of each construct in the making, the innermost first

abbrev pub Made : Type 0
Made = List (List CoreExpression)

abbrev pub added : CoreExpression → Made → Made
added e [] = (e ∷ []) ∷ []
added e (parts ∷ outer) = (e ∷ parts) ∷ outer

abbrev pub all_added : List CoreExpression → Made → Made
all_added [] outer = outer
all_added (e ∷ es) outer = all_added es (added e outer)

abbrev pub construct_finished : Signatures → Place → Construct → Made → Made
construct_finished signatures place construct [] = []
construct_finished signatures place construct (parts ∷ outer) = added (constructed signatures place construct (reverse parts)) outer

abbrev pub clause_finished : Ending → Place → Construct → (free : ℕ) → Made → Made
clause_finished ending place construct free ((rest ∷ part ∷ more) ∷ outer) = added (clause_at ending place construct free part rest) outer
clause_finished ending place construct free _ = []

-- the last part is what clauses end in
abbrev pub last_ended : Ending → Made → Made
last_ended ending ((last ∷ parts) ∷ outer) = (ended ending last ∷ parts) ∷ outer
last_ended ending _ = []

-- the last part is the left one of a path with `//`
abbrev pub left_descended : Place → (free : ℕ) → Made → Made
left_descended place free ((left ∷ parts) ∷ outer) = ((left_of_path true place (left, free)).0 ∷ parts) ∷ outer
left_descended place free _ = []

abbrev pub path_finished : ContextUse → Place → (number : ℕ) → Made → Made
path_finished use' place number ((second ∷ first ∷ more) ∷ outer) = added (path_with use' place number first second) outer
path_finished use' place number _ = []

abbrev pub branch_finished : Place → Construct → (number : ℕ) → Made → Made
branch_finished place construct number ((body ∷ more) ∷ outer) = added (branch_at place construct number body) outer
branch_finished place construct number _ = []

-- the last part is what predicates filter, and they number variables from the free number on
abbrev pub last_filtered : Signatures → (reverse : Bool) → Place → (predicates : ResolvedTrees) → Made → Numbers → Focus → (free : ℕ) → Made × ℕ
last_filtered signatures reverse place predicates ((e ∷ parts) ∷ outer) numbers focus free =
    let f = filtered_core signatures reverse place e predicates numbers focus free in
    let made : Made × ℕ = ((f.0 ∷ parts) ∷ outer, f.1) in made
last_filtered signatures reverse place predicates _ numbers focus free = ([], free)

-- the last part is the condition of a predicate, and the one before it is what the predicate filters
abbrev pub predicate_finished : ContextUse → Place → (number : ℕ) → Made → (free : ℕ) → Made × ℕ
predicate_finished use' place number ((condition ∷ e ∷ parts) ∷ outer) free = ((filter_at use' place number free e condition ∷ parts) ∷ outer, free + 2)
predicate_finished use' place number _ free = ([], free)

-- ---- what is left to do

pub record Left : Type 0 where
  pub made : Made
  pub numbers : Numbers
  pub focus : Focus
  pub free : ℕ

abbrev pub core_left : Signatures → List Task → Made → Numbers → Focus → (free : ℕ) → Left
core_left signatures [] made numbers focus free = record { made = made; numbers = numbers; focus = focus; free = free }
core_left signatures (Normalise tree ∷ tasks) made numbers focus free = let e = core_of signatures tree.now numbers focus free in core_left signatures tasks (added e.0 made) numbers focus e.1
core_left signatures (Parts trees ∷ tasks) made numbers focus free =
    let es = cores_of signatures (resolved_parts trees.now) numbers focus free in core_left signatures tasks (all_added es.0 made) numbers focus es.1
core_left signatures (Clauses ending place parts ∷ tasks) made numbers focus free =
    let e = clauses_core signatures ending place (resolved_parts parts.now) numbers focus free in core_left signatures tasks (added e.0 made) numbers focus e.1
core_left signatures (Bind ending place clause others ∷ tasks) made numbers focus free =
    let rest = clauses_core signatures ending place (resolved_parts others.now) (clause_numbers clause.now free ++ numbers) focus (behind_clause clause.now free) in
    core_left signatures tasks (clause_finished ending place clause.now free (added rest.0 made)) numbers focus rest.1
core_left signatures (Unbind ∷ tasks) made numbers focus free = core_left signatures tasks made (drop 1 numbers) focus free
core_left signatures (FinishClause ending place clause number ∷ tasks) made numbers focus free = core_left signatures tasks (clause_finished ending place clause.now number made) numbers focus free
core_left signatures (End ending ∷ tasks) made numbers focus free = core_left signatures tasks (last_ended ending made) numbers focus free
core_left signatures (Descend place ∷ tasks) made numbers focus free = core_left signatures tasks (left_descended place free made) numbers focus (free + 1)
core_left signatures (Enter place second ∷ tasks) made numbers focus free =
    let use' = path_use (asks_context asked.Position second.now) (asks_context asked.Last second.now) in
    let e = core_of signatures second.now numbers (focus_with focus use' free) (behind_context use' free) in
    core_left signatures tasks (path_finished use' place free (added e.0 made)) numbers focus e.1
core_left signatures (Filter reverse place predicates ∷ tasks) made numbers focus free =
    let m = last_filtered signatures reverse place (resolved_parts predicates.now) made numbers focus free in core_left signatures tasks m.0 numbers focus m.1
core_left signatures (FinishPredicate use' place number ∷ tasks) made numbers focus free =
    let m = predicate_finished use' place number made free in core_left signatures tasks m.0 numbers focus m.1
core_left signatures (Leave outer ∷ tasks) made numbers focus free = core_left signatures tasks made numbers outer free
core_left signatures (FinishPath use' place number ∷ tasks) made numbers focus free = core_left signatures tasks (path_finished use' place number made) numbers focus free
core_left signatures (FinishBranch place construct number ∷ tasks) made numbers focus free = core_left signatures tasks (branch_finished place construct.now number made) numbers focus free
core_left signatures (Finish place construct ∷ tasks) made numbers focus free = core_left signatures tasks (construct_finished signatures place construct.now made) numbers focus free

abbrev pub core_to_make : Normalising → Left
core_to_make n = core_left n.signatures.now n.tasks n.made n.numbers n.focus n.free

-- with one more task that comes first
abbrev pub left_with : Task → Normalising → Left
left_with task n = core_left n.signatures.now (task ∷ n.tasks) n.made n.numbers n.focus n.free

-- with an expression that comes next
abbrev pub left_behind : CoreExpression → Normalising → Left
left_behind e n = core_left n.signatures.now n.tasks (added e n.made) n.numbers n.focus n.free

-- with a condition that filters the last part
abbrev pub condition_left : (reverse : Bool) → Place → ResolvedTree → Normalising → Left
condition_left reverse place condition n =
    let use' = predicate_use reverse (asks_context asked.Last condition) in
    let c = core_of n.signatures.now condition n.numbers (focus_with n.focus use' n.free) (behind_context use' n.free) in
    let m = predicate_finished use' place n.free (added c.0 n.made) c.1 in
    core_left n.signatures.now n.tasks m.0 n.numbers n.focus m.1

-- a Core that is done stands alone
abbrev pub IsOnePart : Made → Type 0
IsOnePart ((part ∷ []) ∷ []) = Unit {0}
IsOnePart _ = ⊥
