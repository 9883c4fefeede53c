-- The code of a resolved tree as stored data, which tells trees apart.
use Rattle.std.specs.Prelude.{◌≡◌, refl}
use Rattle.std.proofs.Common.{◌∙◌, ap}
use base.Stored.{Gv, gnil, gcons, Coded}
use Rattle.gx_base.specs.Stored.{stored_place, place_once}
use Rattle.gx_resolved.specs.contracts.tree.Construct.{the_row}
use Rattle.gx_resolved.specs.ResolvedTree.{ResolvedTree, ResolvedTrees, resolved_at, no_resolved, a_resolved}

abbrev mutual
  store_resolved : ResolvedTree → Gv
  store_resolved (resolved_at p c ps) = gcons (stored_place p) (gcons (the_row.coded.code c) (store_all ps))

  store_all : ResolvedTrees → Gv
  store_all no_resolved = gnil
  store_all (a_resolved t ts) = gcons (store_resolved t) (store_all ts)

-- the two halves of a pair
abbrev before : Gv → Gv
before (gcons a b) = a
before a = a

abbrev behind : Gv → Gv
behind (gcons a b) = b
behind a = a

mutual
  resolved_once : (x y : ResolvedTree) → store_resolved x ≡ store_resolved y → x ≡ y
  resolved_once (resolved_at p c ps) (resolved_at q d qs) e =
      ap (λ x. resolved_at x c ps) (place_once p q (ap before e))
      ∙ ap (λ x. resolved_at q x ps) (the_row.coded.inj c d (ap (λ v. before (behind v)) e))
      ∙ ap (resolved_at q d) (all_once ps qs (ap (λ v. behind (behind v)) e))

  all_once : (x y : ResolvedTrees) → store_all x ≡ store_all y → x ≡ y
  all_once no_resolved no_resolved e = refl
  all_once (a_resolved a as') (a_resolved b bs) e =
      ap (λ x. a_resolved x as') (resolved_once a b (ap before e)) ∙ ap (a_resolved b) (all_once as' bs (ap behind e))
  all_once _ _ e = absurd (cc)

pub resolved_code : Coded ResolvedTree
resolved_code = record { code = store_resolved; inj = resolved_once }
