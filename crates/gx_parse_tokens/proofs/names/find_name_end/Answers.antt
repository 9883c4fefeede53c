use Rattle.std.proofs.Common.{refl, sym, ◌∙◌}
use Rattle.gx_base.specs.NameCharacters.{is_ncname_character}
use Rattle.gx_grammar.specs.Tokens.{run_of}
use Rattle.gx_grammar.specs.Value.{nothing, characters, pair}
use Rattle.gx_parse_tokens.proofs.NameScans.{no_name, plain_name, prefixed_name}
use Rattle.gx_parse_tokens.proofs.names.find_name_end.Goals as goal

pub returns-then-not-begins_name-clause-behind : goal.returns-then-not-begins_name-clause-behind
returns-then-not-begins_name-clause-behind c = (no_name c.args.text.now (sym c.begins_name.ensures ∙ c.if-not-begins_name.true)).0

pub returns-then-not-begins_name-clause-seen : goal.returns-then-not-begins_name-clause-seen
returns-then-not-begins_name-clause-seen c = sym (no_name c.args.text.now (sym c.begins_name.ensures ∙ c.if-not-begins_name.true)).1

pub returns-in_default-clause-behind : goal.returns-in_default-clause-behind
returns-in_default-clause-behind c =
    let n = plain_name c.args.text.now (run_of is_ncname_character c.args.text.now) c.behind_name-behind.result.now (sym c.begins_name.ensures ∙ c.if-not-begins_name.false) refl c.behind_name-behind.ensures (c.in_default.ensures.none refl) in
    (pair (characters (run_of is_ncname_character c.args.text.now)) nothing, n.0)

pub returns-in_default-clause-seen : goal.returns-in_default-clause-seen
returns-in_default-clause-seen c =
    let n = plain_name c.args.text.now (run_of is_ncname_character c.args.text.now) c.behind_name-behind.result.now (sym c.begins_name.ensures ∙ c.if-not-begins_name.false) refl c.behind_name-behind.ensures (c.in_default.ensures.none refl) in
    c.colon_seen.ensures ∙ sym n.1

pub returns-clause-behind : goal.returns-clause-behind
returns-clause-behind c =
    let n = prefixed_name c.args.text.now (run_of is_ncname_character c.args.text.now) c.behind_name-behind.result.now c.in-Some.tail.now (run_of is_ncname_character c.in-Some.tail.now) c.behind_name-rest.result.now (sym c.begins_name.ensures ∙ c.if-not-begins_name.false) refl
    c.behind_name-behind.ensures c.in-Some.ensures.some.0 c.in-Some.ensures.some.1 refl c.behind_name-rest.ensures in
    (pair (characters (run_of is_ncname_character c.args.text.now)) (characters (run_of is_ncname_character c.in-Some.tail.now)), n.0)

pub returns-clause-seen : goal.returns-clause-seen
returns-clause-seen c =
    sym (prefixed_name c.args.text.now (run_of is_ncname_character c.args.text.now) c.behind_name-behind.result.now c.in-Some.tail.now (run_of is_ncname_character c.in-Some.tail.now) c.behind_name-rest.result.now (sym c.begins_name.ensures ∙ c.if-not-begins_name.false) refl
    c.behind_name-behind.ensures c.in-Some.ensures.some.0 c.in-Some.ensures.some.1 refl c.behind_name-rest.ensures).1
