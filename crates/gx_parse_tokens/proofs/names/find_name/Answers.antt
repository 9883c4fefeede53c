use Rattle.std.proofs.Common.{refl, sym, ◌∙◌}
use Rattle.gx_parse_tokens.proofs.NameScans.{no_name, plain_name, prefixed_name, plain_whole, prefixed_whole}
use Rattle.gx_parse_tokens.proofs.names.find_name.Goals as goal

pub returns-then-not-begins_name-clause-name : goal.returns-then-not-begins_name-clause-name
returns-then-not-begins_name-clause-name c = (no_name c.args.text.now (sym c.begins_name.ensures ∙ c.if-not-begins_name.true)).0

pub returns-then-not-begins_name-clause-seen : goal.returns-then-not-begins_name-clause-seen
returns-then-not-begins_name-clause-seen c = sym (no_name c.args.text.now (sym c.begins_name.ensures ∙ c.if-not-begins_name.true)).1

pub returns-in_default-clause-name : goal.returns-in_default-clause-name
returns-in_default-clause-name c =
    (plain_name c.args.text.now c.in_ok-first.first c.in_ok-first.behind.now (sym c.begins_name.ensures ∙ c.if-not-begins_name.false) c.in_ok-first.ensures.0 c.in_ok-first.ensures.1 (c.in_default.ensures.none refl)).0

pub returns-in_default-clause-seen : goal.returns-in_default-clause-seen
returns-in_default-clause-seen c =
    c.colon_seen-seen.ensures
    ∙ sym (plain_name c.args.text.now c.in_ok-first.first c.in_ok-first.behind.now (sym c.begins_name.ensures ∙ c.if-not-begins_name.false) c.in_ok-first.ensures.0 c.in_ok-first.ensures.1 (c.in_default.ensures.none refl)).1

pub returns-clause-name : goal.returns-clause-name
returns-clause-name c =
    (prefixed_name c.args.text.now c.in_ok-first.first c.in_ok-first.behind.now c.in-Some.tail.now c.in_ok-local.local c.in_ok-local.rest.now (sym c.begins_name.ensures ∙ c.if-not-begins_name.false) c.in_ok-first.ensures.0 c.in_ok-first.ensures.1 c.in-Some.ensures.some.0 c.in-Some.ensures.some.1 c.in_ok-local.ensures.0 c.in_ok-local.ensures.1).0

pub returns-clause-seen : goal.returns-clause-seen
returns-clause-seen c =
    sym (prefixed_name c.args.text.now c.in_ok-first.first c.in_ok-first.behind.now c.in-Some.tail.now c.in_ok-local.local c.in_ok-local.rest.now (sym c.begins_name.ensures ∙ c.if-not-begins_name.false) c.in_ok-first.ensures.0 c.in_ok-first.ensures.1 c.in-Some.ensures.some.0 c.in-Some.ensures.some.1 c.in_ok-local.ensures.0 c.in_ok-local.ensures.1).1

pub returns-in_default-clause-whole : goal.returns-in_default-clause-whole
returns-in_default-clause-whole c = plain_whole c.args.text.now c.in_ok-first.first c.in_ok-first.behind.now c.in_ok-first.ensures.0 c.in_ok-first.ensures.1

pub returns-clause-whole : goal.returns-clause-whole
returns-clause-whole c =
    prefixed_whole c.args.text.now c.in_ok-first.first c.in_ok-first.behind.now c.in-Some.tail.now c.in_ok-local.local c.in_ok-local.rest.now c.in_ok-first.ensures.0 c.in_ok-first.ensures.1 c.in-Some.ensures.some.0 c.in_ok-local.ensures.0 c.in_ok-local.ensures.1
