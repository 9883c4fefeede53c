-- Queries in which each name is resolved, as plain trees: a construct over its parts.
use Rattle.std.specs.Prelude.{ℕ, ◌+◌}
use Rattle.gx_base.specs.declared.place.Place.{Place}
use Rattle.gx_resolved.specs.declared.tree.Construct.{Construct}

mutual
  pub data ResolvedTree : Type 0 where
    resolved_at : (place : Place) → (construct : Construct) → (parts : ResolvedTrees) → ResolvedTree

  pub data ResolvedTrees : Type 0 where
    no_resolved : ResolvedTrees
    a_resolved : (first : ResolvedTree) → (others : ResolvedTrees) → ResolvedTrees

-- the parts of a tree
abbrev pub parts_of_tree : ResolvedTree → ResolvedTrees
parts_of_tree (resolved_at place construct parts) = parts

abbrev mutual
  -- how many constructs and lists of parts a tree has
  pub resolved_size : ResolvedTree → ℕ
  resolved_size (resolved_at place construct parts) = 1 + all_resolved_size parts

  pub all_resolved_size : ResolvedTrees → ℕ
  all_resolved_size no_resolved = 1
  all_resolved_size (a_resolved first others) = 1 + resolved_size first + all_resolved_size others

-- one, two and three parts
abbrev pub one_resolved : ResolvedTree → ResolvedTrees
one_resolved a = a_resolved a no_resolved

abbrev pub two_resolved : ResolvedTree → ResolvedTree → ResolvedTrees
two_resolved a b = a_resolved a (one_resolved b)

abbrev pub three_resolved : ResolvedTree → ResolvedTree → ResolvedTree → ResolvedTrees
three_resolved a b c = a_resolved a (two_resolved b c)

-- parts, and more behind them
abbrev pub and_parts : ResolvedTrees → ResolvedTrees → ResolvedTrees
and_parts no_resolved more = more
and_parts (a_resolved first others) more = a_resolved first (and_parts others more)
