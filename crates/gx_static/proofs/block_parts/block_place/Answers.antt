use Rattle.std.proofs.Common.{◌≡◌, ◌≤◌, ◌<◌, ◌-◌, List, length, map, Some, slice_get, refl, sym, ◌∙◌, ap, arith}
use Rattle.std.proofs.lemmas.Bool.{ltb-true, ltb-false}
use Rattle.std.proofs.lemmas.Option.{slice_get_read}
use Rattle.gx_base.specs.declared.place.Place.{Place}
use Rattle.gx_types.specs.SequenceType.{SequenceType}
use Rattle.gx_core.specs.declared.expression.Clause.{Clause}
use Rattle.gx_core.specs.declared.expression.SortKey.{SortKey}
use Rattle.gx_core.specs.Expression.{outer_of}
use Rattle.gx_core.specs.ExpressionView.{kind_of_clause, parts_of_block}
use Rattle.gx_core.specs.Soundness.{TypedExpression}
use Rattle.gx_static.specs.Judgement.{clause_places, code_place}
use Rattle.gx_static.proofs.BlockPlaces.{at_clause, at_key, at_body, at_none}
use Rattle.gx_static.proofs.block_parts.block_place.Goals as goal

abbrev places : List (Clause SequenceType) → List (SortKey SequenceType) → TypedExpression → List Place
places cs ks body = clause_places (map kind_of_clause cs) (map outer_of (parts_of_block cs ks body))

pub returns-in-Some-get : goal.returns-in-Some-get
returns-in-Some-get c =
    let cs = c.args.clauses.now in
    let n = c.in-Some.number in
    let within : n < length cs = ltb-true n (length cs) (sym c.in-Some-get.ensures.lookup.0) in
    let here : slice_get cs n ≡ Some c.in-Some-get.clause.now = slice_get_read cs (length cs) n c.in-Some-get.clause.now refl within c.in-Some-get.ensures.lookup.1 in
    at_clause cs c.args.keys.now c.args.body.now n c.in-Some-get.clause.now c.clause_place.result c.args.place here c.clause_place.ensures
    ∙ ap (code_place c.args.place (places cs c.args.keys.now c.args.body.now)) (sym c.in-Some.is)

pub returns-in-Some-get-2 : goal.returns-in-Some-get-2
returns-in-Some-get-2 c =
    let cs = c.args.clauses.now in
    let ks = c.args.keys.now in
    let n = c.in-Some.number in
    let outside : length cs ≤ n = ltb-false n (length cs) (sym c.in_default-get.ensures.lookup.0) in
    let key = c.in-Some-get-2.key.now in
    let within : n - length cs < length ks = ltb-true (n - length cs) (length ks) (sym c.in-Some-get-2.ensures.lookup.0) in
    let here : slice_get ks (n - length cs) ≡ Some key = slice_get_read ks (length ks) (n - length cs) key refl within c.in-Some-get-2.ensures.lookup.1 in
    let seen : c.key.inside.0.0.outer ≡ outer_of key.value =
    ap (λ (k : SortKey SequenceType). outer_of k.value) c.key.view_is in
    seen ∙ at_key cs ks c.args.body.now n key c.args.place outside here ∙ ap (code_place c.args.place (places cs ks c.args.body.now)) (sym c.in-Some.is)

pub returns-in-None : goal.returns-in-None
returns-in-None c =
    let cs = c.args.clauses.now in
    let ks = c.args.keys.now in
    let n = c.in-Some.number in
    let outside : length cs ≤ n = ltb-false n (length cs) (sym c.in_default-get.ensures.lookup.0) in
    let seen : c.body.inside.outer ≡ outer_of c.args.body.now =
    ap (λ (e : TypedExpression). outer_of e) c.body.view_is in
    seen ∙ at_body cs ks c.args.body.now n c.args.place outside c.if-behind-keys.true ∙ ap (code_place c.args.place (places cs ks c.args.body.now)) (sym c.in-Some.is)

pub returns-in-None-2 : goal.returns-in-None-2
returns-in-None-2 c =
    let cs = c.args.clauses.now in
    let ks = c.args.keys.now in
    let n = c.in-Some.number in
    let outside : length cs ≤ n = ltb-false n (length cs) (sym c.in_default-get.ensures.lookup.0) in
    let past : length ks ≤ n - length cs = ltb-false (n - length cs) (length ks) (sym c.in-None.ensures.lookup.0) in
    let beyond : length ks < n - length cs = omega (arith, past, c.if-behind-keys.false) in
    at_none cs ks c.args.body.now n c.args.place outside beyond ∙ ap (code_place c.args.place (places cs ks c.args.body.now)) (sym c.in-Some.is)
