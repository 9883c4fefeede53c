use Rattle.std.proofs.Common.{List, [], ◌∷◌, ◌++◌, sym, subst}
use Rattle.gx_store.specs.declared.row.Row.{Row}
use Rattle.gx_store.proofs.StoreLemmas.{AreRowsOf, seen_is, stored_from, rows_from, kept_rows, loaded_rows, on_err}
use Rattle.gx_store.proofs.store.Store.load.Goals as goal

pub invariant_of-self : goal.invariant_of-self
invariant_of-self c =
    stored_from c.rows_of.new.labels.labels.keys c.self.inside.rows.items c.args.self.now
    (kept_rows c.self.inside.labels.labels.keys c.rows_of.new.labels.labels.keys c.self.inside.rows.items c.args.self.now c.self.invariant c.self.view_is c.in_err-fresh.ensures.grows)

pub returns-in_err-fresh-clause-kept : goal.returns-in_err-fresh-clause-kept
returns-in_err-fresh-clause-kept c =
    on_err c.from_residual.result
    (seen_is c.rows_of.new.labels.labels.keys c.self.inside.rows.items c.args.self.now
    (kept_rows c.self.inside.labels.labels.keys c.rows_of.new.labels.labels.keys c.self.inside.rows.items c.args.self.now c.self.invariant c.self.view_is c.in_err-fresh.ensures.grows))

pub invariant_of-self-in_err-append_rows : goal.invariant_of-self-in_err-append_rows
invariant_of-self-in_err-append_rows c =
    stored_from c.rows_of.new.labels.labels.keys c.append_rows.new.rows.items c.args.self.now
    (subst (λ (rows : List Row). AreRowsOf c.rows_of.new.labels.labels.keys rows c.args.self.now) (sym c.in_err-append_rows.ensures.kept)
    (kept_rows c.self.inside.labels.labels.keys c.rows_of.new.labels.labels.keys c.self.inside.rows.items c.args.self.now c.self.invariant c.self.view_is c.in_ok-fresh.ensures.grows))

pub returns-in_err-append_rows-clause-kept : goal.returns-in_err-append_rows-clause-kept
returns-in_err-append_rows-clause-kept c =
    on_err c.from_residual-in_err-append_rows.result
    (seen_is c.rows_of.new.labels.labels.keys c.append_rows.new.rows.items c.args.self.now
    (subst (λ (rows : List Row). AreRowsOf c.rows_of.new.labels.labels.keys rows c.args.self.now) (sym c.in_err-append_rows.ensures.kept)
    (kept_rows c.self.inside.labels.labels.keys c.rows_of.new.labels.labels.keys c.self.inside.rows.items c.args.self.now c.self.invariant c.self.view_is c.in_ok-fresh.ensures.grows)))

pub invariant_of-self-2 : goal.invariant_of-self-2
invariant_of-self-2 c =
    let fresh = c.in_ok-fresh.fresh.items in
    stored_from c.rows_of.new.labels.labels.keys c.append_rows.new.rows.items (c.args.self.now ++ c.args.tree.now ∷ [])
    (loaded_rows c.self.inside.labels.labels.keys c.rows_of.new.labels.labels.keys c.self.inside.rows.items fresh c.append_rows.new.rows.items c.args.self.now c.args.tree.now c.in_ok-fresh.ensures.grows
    (rows_from c.self.inside.labels.labels.keys c.self.inside.rows.items c.args.self.now c.self.invariant c.self.view_is) c.in_ok-fresh.ensures.rows c.in_ok-append_rows.ensures.added)

pub returns-clause-loaded : goal.returns-clause-loaded
returns-clause-loaded c =
    let fresh = c.in_ok-fresh.fresh.items in
    seen_is c.rows_of.new.labels.labels.keys c.append_rows.new.rows.items (c.args.self.now ++ c.args.tree.now ∷ [])
    (loaded_rows c.self.inside.labels.labels.keys c.rows_of.new.labels.labels.keys c.self.inside.rows.items fresh c.append_rows.new.rows.items c.args.self.now c.args.tree.now c.in_ok-fresh.ensures.grows
    (rows_from c.self.inside.labels.labels.keys c.self.inside.rows.items c.args.self.now c.self.invariant c.self.view_is) c.in_ok-fresh.ensures.rows c.in_ok-append_rows.ensures.added)
