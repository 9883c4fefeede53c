use Rattle.std.proofs.Common.{sym, ◌∙◌}
use Rattle.std.proofs.lemmas.Bool.{true≢false}
use Rattle.gx_nodes.specs.Entries.{count_in}
use Rattle.gx_store.proofs.StoreLemmas.{not_there}
use Rattle.gx_store.proofs.AgreeingLemmas.{equal_later, first_lacking, second_lacking}
use Rattle.gx_store.proofs.store.Store.are_deep_equal.Goals.{then-has, else-has}
use Rattle.gx_store.proofs.store.Store.are_deep_equal.Goals as goal

pub returns-then-has-2 : goal.returns-then-has-2
returns-then-has-2 c later x = elim c.if-has.branch [
  | then-has w ↦
      equal_later c.args.self.now later c.args.a.number c.args.b.number c.have_equal_trees.result (c.has.ensures.0 w.if-has.true) (w.has-then-has.ensures.0 (sym w.value-is ∙ c.if-has-2.true)) x c.have_equal_trees.ensures
  | else-has w ↦ absurd (true≢false (sym c.if-has-2.true ∙ w.value-is ∙ w.if-has.false))
]

pub returns-else-has-2 : goal.returns-else-has-2
returns-else-has-2 c later x = elim c.if-has.branch [
  | then-has w ↦
      c.if-has-2.false
      ∙ second_lacking c.args.self.now later c.args.a.number c.args.b.number
      (not_there w.has-then-has.result c.args.b.number (count_in c.args.self.now) w.has-then-has.ensures (sym w.value-is ∙ c.if-has-2.false)) x
  | else-has w ↦
      c.if-has-2.false ∙ first_lacking c.args.self.now later c.args.a.number c.args.b.number (not_there c.has.result c.args.a.number (count_in c.args.self.now) c.has.ensures w.if-has.false) x
]
