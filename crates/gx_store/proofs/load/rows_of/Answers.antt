use Rattle.std.proofs.Common.{sym, ap, ◌∙◌, subst, length}
use Rattle.gx_store.specs.Opened.{rows_to_come, AreWithin}
use Rattle.gx_store.proofs.LoadLemmas.{grows_on}
use Rattle.gx_store.proofs.OpenedLemmas.{all_begin, all_stand, comes_as}
use Rattle.gx_store.proofs.load.rows_of.Goals as goal

pub loop-node-init : goal.loop-node-init
loop-node-init c = record {
  grows = c.in_ok-open.ensures.grows;
  comes = all_begin c.args.labels.now.labels.keys c.open.new.labels.labels.keys c.new-rows.result.items c.open.new.rows.items c.new-opened.result c.open.new.opened c.args.tree.now c.new-rows.ensures.items c.new-opened.ensures c.in_ok-open.ensures.comes;
}

pub go_on-requires : goal.go_on-requires
go_on-requires c = subst (AreWithin (length c.loop-node.rows.items)) c.in-Some.ensures c.loop-node.invariant.comes.within

pub loop-node-preserved : goal.loop-node-preserved
loop-node-preserved c =
    let here = c.loop-node in
    let comes = here.invariant.comes in
    record {
      grows = grows_on c.args.labels.now.labels.keys here.labels.labels.keys c.go_on.new.labels.labels.keys here.invariant.grows c.in_ok-go_on.ensures.grows;
      comes = comes_as c.go_on.new.labels.labels.keys c.go_on.new.rows.items c.go_on.new.opened _ _ (ap (rows_to_come comes.plain) (sym c.in-Some.ensures) ∙ comes.whole) (c.in_ok-go_on.ensures.comes comes.plain comes.stands);
    }

pub returns-clause-rows : goal.returns-clause-rows
returns-clause-rows c = all_stand c.loop-node.labels.labels.keys c.loop-node.rows.items c.loop-node.opened _ c.loop-node.invariant.comes c.in_default.ensures.0
