use Rattle.std.proofs.Common.{◌≡◌, ◌<◌, ◌≤◌, ℕ, List, [], ◌∷◌, ◌++◌, length, ap, subst, arith, length-append}
use Rattle.std.proofs.lemmas.Bool.{MatchBool-at_true}
use Rattle.gx_references.specs.Search.{IsSearch, work}
use Rattle.gx_references.proofs.Tables.{empty_by_length}
use Rattle.gx_references.proofs.SearchSteps.{search_begins, search_ends}
use Rattle.gx_references.proofs.meanings.meanings.Goals as goal

pub loop-number-init : goal.loop-number-init
loop-number-init g c =
    search_begins g.B.Body.named g.B.Body.meant g.B.Body.nothing c.args.bodies.now c.in_ok-table.table.items c.in_ok-opened.opened.items c.in_ok-pending.pending.items
    c.in_ok-table.ensures.sized c.in_ok-table.ensures.empty c.in_ok-opened.ensures.sized c.in_ok-opened.ensures.closed c.in_ok-pending.ensures.sized c.in_ok-pending.ensures.numbers

pub visit-requires : goal.visit-requires
visit-requires g c =
    subst (λ (pending : List ℕ). IsSearch g.B.Body.named g.B.Body.meant g.B.Body.nothing c.args.bodies.now c.loop-number.table.items c.loop-number.opened.items pending)
    c.in-Some.ensures.items c.loop-number.invariant

pub loop-number-smaller : goal.loop-number-smaller
loop-number-smaller g c =
    let before : c.loop-number.pending.items ≡ c.pop.new.self.items ++ c.in-Some.number ∷ [] = c.in-Some.ensures.items in
    let size = length-append c.pop.new.self.items (c.in-Some.number ∷ []) in
    let less : work g.B.Body.named c.args.bodies.now c.visit.new.opened.items c.visit.new.pending.items ≤ work g.B.Body.named c.args.bodies.now c.loop-number.opened.items c.pop.new.self.items = c.in_ok-visit.ensures.less in
    let fewer : work g.B.Body.named c.args.bodies.now c.visit.new.opened.items c.visit.new.pending.items < work g.B.Body.named c.args.bodies.now c.loop-number.opened.items c.loop-number.pending.items =
    omega (arith, less, ap length before, size) in
    fewer

pub loop-number-preserved : goal.loop-number-preserved
loop-number-preserved g c = MatchBool-at_true _ _ c.if-not-branch.false c.in_ok-visit.ensures.search

pub returns : goal.returns
returns g c =
    search_ends g.B.Body.named g.B.Body.meant g.B.Body.nothing g.met.B.Body.same c.args.bodies.now c.loop-number.table.items c.loop-number.opened.items c.loop-number.pending.items
    c.loop-number.invariant (empty_by_length c.loop-number.pending.items (omega (arith, c.loop-number.pending.ok, c.in_default.ensures.cases.0)))
