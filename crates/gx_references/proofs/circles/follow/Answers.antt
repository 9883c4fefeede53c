use Rattle.std.proofs.Common.{◌≡◌, ℕ, Bool, true, false, List, ◌++◌, length, Option, Some, slice_get, get_or, inl, inr, refl, sym, ◌∙◌, ap, subst, arith, length-append}
use Rattle.std.proofs.Math.ListN.{set}
use Rattle.std.proofs.lemmas.Bool.{ltb-true, ltb-false}
use Rattle.std.proofs.lemmas.Option.{slice_get_read}
use Rattle.gx_references.specs.References.{numbers_named, named_by}
use Rattle.gx_references.specs.PlainReferences.{numbers_in}
use Rattle.gx_references.specs.Reach.{IsReach}
use Rattle.gx_references.proofs.Tables.{unopened_work-set}
use Rattle.gx_references.proofs.ReachSteps.{reach_passes, reach_follows}
use Rattle.gx_references.proofs.circles.follow.Goals as goal

-- the number is of no declaration
pub returns-in_default-clause-reach : goal.returns-in_default-clause-reach
returns-in_default-clause-reach c =
    let outside = ltb-false c.args.number (length c.args.references.now) (sym c.in_default.ensures.lookup.0) in
    λ start different r. reach_passes numbers_in c.args.references.now start c.args.reached.now.items c.args.pending.now.items c.args.number
    (inl (omega (arith, outside, r.sized))) r

-- it was reached before
pub returns-then-is_reached-clause-reach : goal.returns-then-is_reached-clause-reach
returns-then-is_reached-clause-reach c =
    let marked : get_or c.args.reached.now.items c.args.number false ≡ true = sym (ap (λ (marks : List Bool). get_or marks c.args.number false) c.as_slice.ensures.value) ∙ sym c.if-is_reached.ensures in
    λ start different r. reach_passes numbers_in c.args.references.now start c.args.reached.now.items c.args.pending.now.items c.args.number (inr marked) r

pub index_mut-requires : goal.index_mut-requires
index_mut-requires c =
    let within = ltb-true c.args.number (length c.args.references.now) (sym c.in-Some.ensures.lookup.0) in
    omega (arith, within, c.requires)

-- it is reached for the first time
pub returns-clause-reach : goal.returns-clause-reach
returns-clause-reach c =
    let bodies = c.args.references.now in
    let number = c.args.number in
    let within = ltb-true number (length bodies) (sym c.in-Some.ensures.lookup.0) in
    let here : slice_get bodies number ≡ Some c.in-Some.named.now = slice_get_read bodies (length bodies) number c.in-Some.named.now refl within c.in-Some.ensures.lookup.1 in
    let unmarked : get_or c.args.reached.now.items number false ≡ false = sym (ap (λ (marks : List Bool). get_or marks number false) c.as_slice.ensures.value) ∙ sym c.if-is_reached.ensures in
    let named : c.as_slice-2.result.now ≡ named_by numbers_in bodies number =
    c.as_slice-2.ensures.value ∙ sym (ap (λ (body : Option _). numbers_named numbers_in body number) here) in
    let pending : c.extend_from_slice.new.self.items ≡ c.args.pending.now.items ++ named_by numbers_in bodies number =
    c.in_ok-extend_from_slice.ensures.items ∙ ap (λ (ns : List ℕ). c.args.pending.now.items ++ ns) named in
    λ start different r. subst (λ (ns : List ℕ). IsReach numbers_in bodies start (set c.args.reached.now.items number true) ns) (sym pending)
    (reach_follows numbers_in bodies start c.args.reached.now.items c.args.pending.now.items number different (omega (arith, within, c.requires)) unmarked r)

pub returns-clause-less : goal.returns-clause-less
returns-clause-less c =
    let bodies = c.args.references.now in
    let number = c.args.number in
    let within = ltb-true number (length bodies) (sym c.in-Some.ensures.lookup.0) in
    let here : slice_get bodies number ≡ Some c.in-Some.named.now = slice_get_read bodies (length bodies) number c.in-Some.named.now refl within c.in-Some.ensures.lookup.1 in
    let unmarked : get_or c.args.reached.now.items number false ≡ false = sym (ap (λ (marks : List Bool). get_or marks number false) c.as_slice.ensures.value) ∙ sym c.if-is_reached.ensures in
    let done = unopened_work-set numbers_in bodies c.args.reached.now.items number c.in-Some.named.now here (omega (arith, within, c.requires)) unmarked in
    let pending = ap length c.in_ok-extend_from_slice.ensures.items in
    let size = length-append c.args.pending.now.items c.as_slice-2.result.now in
    omega (arith, done, pending, size, ap length c.as_slice-2.ensures.value)
