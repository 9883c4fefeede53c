use Rattle.std.proofs.Common.{◌≡◌, ℕ, Bool, true, false, List, [], ◌∷◌, ◌++◌, length, Option, Some, None, slice_get, get_or, refl, sym, ◌∙◌, ap, subst, arith, length-append}
use Rattle.std.proofs.Math.ListN.{set}
use Rattle.std.specs.List.{list_all}
use Rattle.std.proofs.lemmas.Bool.{ltb-true, ltb-false}
use Rattle.std.proofs.lemmas.Option.{slice_get_past, slice_get_read, slice_get_within}
use Rattle.gx_references.specs.References.{numbers_named, named_by}
use Rattle.gx_references.specs.Known.{table_entry, has_entry}
use Rattle.gx_references.specs.Search.{IsSearch, unopened_work}
use Rattle.gx_references.proofs.Tables.{no_entry, unopened_work-set}
use Rattle.gx_references.proofs.Passing.{decided_so}
use Rattle.gx_references.proofs.SearchSteps.{search_leaves, search_passes, search_opens, search_defines, search_is_circular}
use Rattle.gx_references.proofs.meanings.visit.Goals as goal

-- the number is of no declaration
pub returns-in_default-clause-search : goal.returns-in_default-clause-search
returns-in_default-clause-search g c =
    search_leaves g.B.Body.named g.B.Body.meant g.B.Body.nothing c.args.bodies.now c.args.table.now.items c.args.opened.now.items c.args.pending.now.items c.args.number
    c.requires (slice_get_past c.args.bodies.now c.args.number (ltb-false c.args.number (length c.args.bodies.now) (sym c.in_default.ensures.lookup.0)))

-- its meaning is known
pub returns-then-is_known-clause-search : goal.returns-then-is_known-clause-search
returns-then-is_known-clause-search g c =
    search_passes g.B.Body.named g.B.Body.meant g.B.Body.nothing c.args.bodies.now c.args.table.now.items c.args.opened.now.items c.args.pending.now.items c.args.number
    c.requires (sym (ap (λ (table : List (Option _)). has_entry table c.args.number) c.as_slice.ensures.value) ∙ sym c.if-is_known.ensures)

-- it is open, and is given its meaning, or is part of itself
pub returns-then-is_open-clause-search : goal.returns-then-is_open-clause-search
returns-then-is_open-clause-search g c =
    let bodies = c.args.bodies.now in
    let table = c.args.table.now.items in
    let number = c.args.number in
    let here : slice_get bodies number ≡ Some c.in-Some.body.now =
    slice_get_read bodies (length bodies) number c.in-Some.body.now refl (ltb-true number (length bodies) (sym c.in-Some.ensures.lookup.0)) c.in-Some.ensures.lookup.1 in
    let unknown : table_entry table number ≡ None = no_entry (table_entry table number) (sym (ap (λ (entries : List (Option _)). has_entry entries number) c.as_slice.ensures.value) ∙ sym c.if-is_known.ensures) in
    let is_open : get_or c.args.opened.now.items number false ≡ true = sym (ap (λ (opened : List Bool). get_or opened number false) c.as_slice-2.ensures.value) ∙ sym c.if-is_open.ensures in
    let named : c.as_slice-then-is_open.result.now ≡ g.B.Body.named c.in-Some.body.now = c.as_slice-then-is_open.ensures.value ∙ c.in_ok-references.ensures in
    decided_so _ _ _ _ (list_all (has_entry table) c.as_slice-then-is_open.result.now) c.define.result c.define.ensures.known c.define.ensures.defined
    (λ all after. subst (λ (entries : List (Option _)). IsSearch g.B.Body.named g.B.Body.meant g.B.Body.nothing bodies entries c.args.opened.now.items c.args.pending.now.items) (sym after)
    (search_defines g.B.Body.named g.B.Body.meant g.B.Body.nothing g.met.B.Body.same bodies table c.args.opened.now.items c.args.pending.now.items number c.in-Some.body.now
    c.requires here unknown (sym (ap (λ (ns : List ℕ). list_all (has_entry table) ns) named) ∙ all)))
    (λ some after. search_is_circular g.B.Body.named g.B.Body.meant g.B.Body.nothing bodies table c.args.opened.now.items c.args.pending.now.items number c.in-Some.body.now
    c.requires here unknown is_open (sym (ap (λ (ns : List ℕ). list_all (has_entry table) ns) named) ∙ some))

-- it is opened
pub returns-clause-search : goal.returns-clause-search
returns-clause-search g c =
    let bodies = c.args.bodies.now in
    let table = c.args.table.now.items in
    let number = c.args.number in
    let here : slice_get bodies number ≡ Some c.in-Some.body.now =
    slice_get_read bodies (length bodies) number c.in-Some.body.now refl (ltb-true number (length bodies) (sym c.in-Some.ensures.lookup.0)) c.in-Some.ensures.lookup.1 in
    let named : c.as_slice-3.result.now ≡ named_by g.B.Body.named bodies number =
    c.as_slice-3.ensures.value ∙ c.in_ok-references.ensures ∙ sym (ap (λ (body : Option _). numbers_named g.B.Body.named body number) here) in
    let pending : c.open.new.pending.items ≡ (c.args.pending.now.items ++ number ∷ []) ++ named_by g.B.Body.named bodies number =
    c.in_ok-open.ensures.pending ∙ ap (λ (ns : List ℕ). (c.args.pending.now.items ++ number ∷ []) ++ ns) named in
    subst (λ (opened : List Bool). IsSearch g.B.Body.named g.B.Body.meant g.B.Body.nothing bodies table opened c.open.new.pending.items) (sym c.in_ok-open.ensures.opened)
    (subst (λ (ns : List ℕ). IsSearch g.B.Body.named g.B.Body.meant g.B.Body.nothing bodies table (set c.args.opened.now.items number true) ns) (sym pending)
    (search_opens g.B.Body.named g.B.Body.meant g.B.Body.nothing bodies table c.args.opened.now.items c.args.pending.now.items number
    c.requires (slice_get_within bodies number c.in-Some.body.now here)))

pub returns-clause-less : goal.returns-clause-less
returns-clause-less g c =
    let bodies = c.args.bodies.now in
    let number = c.args.number in
    let here : slice_get bodies number ≡ Some c.in-Some.body.now =
    slice_get_read bodies (length bodies) number c.in-Some.body.now refl (ltb-true number (length bodies) (sym c.in-Some.ensures.lookup.0)) c.in-Some.ensures.lookup.1 in
    let within = slice_get_within bodies number c.in-Some.body.now here in
    let closed : get_or c.args.opened.now.items number false ≡ false = sym (ap (λ (opened : List Bool). get_or opened number false) c.as_slice-2.ensures.value) ∙ sym c.if-is_open.ensures in
    let named : c.as_slice-3.result.now ≡ g.B.Body.named c.in-Some.body.now = c.as_slice-3.ensures.value ∙ c.in_ok-references.ensures in
    let done = unopened_work-set g.B.Body.named bodies c.args.opened.now.items number c.in-Some.body.now here (omega (arith, within, c.requires.opened_sized)) closed in
    let opened = ap (λ (flags : List Bool). unopened_work g.B.Body.named bodies flags) c.in_ok-open.ensures.opened in
    let pending = ap length c.in_ok-open.ensures.pending in
    let size = length-append (c.args.pending.now.items ++ number ∷ []) c.as_slice-3.result.now in
    let size_before = length-append c.args.pending.now.items (number ∷ []) in
    omega (arith, done, opened, pending, size, size_before, ap length named)
