use Rattle.std.proofs.Common.{◌≡◌, ◌+◌, ◌<◌, ◌/◌, true, false, get_or, sym, ◌∙◌, ap, subst, ◌∷◌, ◌↔◌, ℕ, List, drop, length, arith}
use Rattle.std.specs.Bool.{IsTrue}
use Rattle.std.proofs.lemmas.List.{drop_more}
use Rattle.std.proofs.Math.ListN.{drop_of_length-le}
use Rattle.gx_include_takes.specs.Bits.{has_bit}
use Rattle.gx_include_takes.specs.Following.{AreComing, FollowsMember}
use Rattle.gx_include_positions.specs.Step.{single, is_end}
use Rattle.gx_include_positions.specs.Test.{is_taken}
use Rattle.gx_include_takes.specs.Transitions.{places_at}
use Rattle.gx_include_positions.proofs.Decided.{decided}
use Rattle.gx_include_takes.proofs.PlaceSets.{IsStart, behind_are, behind_within, start_within, places_start, places_go_on, places_end}
use Rattle.gx_include_takes.proofs.Symbols.{symbol_read}
use Rattle.gx_include_takes.proofs.Targets.{anew_kept, no_masks}
use Rattle.gx_include_takes.proofs.take.takes_by_rows.Goals as goal

pub loop-shape-init : goal.loop-shape-init
loop-shape-init c =
    let s = c.args.schemas.now in
    let t = c.args.t.now in
    let anew = c.in_ok-transitions.ensures in
    let states = c.in_ok-transitions.transitions.states.keys in
    let targets = c.in_ok-transitions.transitions.targets in
    let masks = c.in_ok-transitions.transitions.masks in
    let start : IsStart (places_at states 0) = λ place. ap (λ ws. has_bit ws place) anew.state ∙ c.in_ok-start_alone.ensures place in
    record {
      kept = anew_kept t c.args.rows.now s _ states targets masks anew;
      masks = no_masks t s _ states targets masks anew;
      known = omega (arith, anew.one);
      within = start_within t (places_at states 0) start;
      reads = places_start s t (places_at states 0) c.args.list.now start;
    }

pub loop-shape-preserved : goal.loop-shape-preserved
loop-shape-preserved c =
    let s = c.args.schemas.now in
    let t = c.args.t.now in
    let x = is_taken s c.shape-item.result in
    let before = places_at c.loop-shape.transitions.states.keys c.loop-shape.state in
    let after = places_at c.next.new.self.states.keys c.in_ok-state.state in
    let symbol = c.symbol_of-symbol.result in
    let coming : AreComing t c.args.rows.now x before after =
    subst (λ ts. (place : ℕ) → (has_bit after place ≡ true) ↔ (FollowsMember c.args.rows.now before place × (get_or ts place false ≡ true)))
    (symbol_read s c.args.names.now.keys c.shape-item.result symbol t c.requires.names c.symbol_of-symbol.ensures) c.in_ok-state.ensures.next in
    let front = drop_more c.args.list.now c.loop-shape.shape-index c.shape-item.result c.loop-shape-test.true
    ∙ ap (λ x. x ∷ drop (c.loop-shape.shape-index + 1) c.args.list.now) (sym c.shape-item.is) in
    record {
      kept = c.in_ok-state.ensures.kept;
      masks = c.in_ok-state.ensures.masks;
      known = c.in_ok-state.ensures.within;
      within = behind_within t x c.args.rows.now before after coming;
      reads =
          places_go_on s t before after (drop c.loop-shape.shape-index c.args.list.now) (drop (c.loop-shape.shape-index + 1) c.args.list.now) c.shape-item.result front
          (behind_are t x c.args.rows.now before after c.requires.rows c.loop-shape.invariant.within coming)
          (decided s c.types-declarations.ensures.invariant.grounded c.shape-item.result t) c.loop-shape.invariant.reads;
    }

pub ends_at_one-requires : goal.ends_at_one-requires
ends_at_one-requires c =
    subst (λ (ps : List ℕ). (place : ℕ) → has_bit ps place ≡ true → place < length c.args.rows.now / 4) (sym c.places.ensures)
    (λ place h. let k = c.loop-shape.invariant.within place h in omega (arith, k, c.requires.rows.count_is))

pub returns : goal.returns
returns c =
    let s = c.args.schemas.now in
    let t = c.args.t.now in
    let places = places_at c.loop-shape.transitions.states.keys c.loop-shape.state in
    places_end s t places (drop c.loop-shape.shape-index c.args.list.now) c.in_ok-end.end (drop_of_length-le c.args.list.now c.loop-shape-test.false)
    (subst (λ (ps : List ℕ). IsTrue c.in_ok-end.end ↔ ((place : ℕ) × (has_bit ps place ≡ true) × (is_end t (single place) ≡ true))) c.places.ensures c.in_ok-end.ensures)
    c.loop-shape.invariant.reads
