use Rattle.std.proofs.Common.{sym}
use Rattle.gx_parse_tokens.proofs.ReferenceScans.{strip_found, common_found, figure_none, end_none, whole}
use Rattle.gx_parse_tokens.proofs.references.find_numeric.Goals as goal

pub returns-then-behind-rest-clause-character : goal.returns-then-behind-rest-clause-character
returns-then-behind-rest-clause-character c =
    let letters = c.prefix.result.now in
    let x = c.args.text.now in
    let rest = c.behind_letters-whole.result.0.now in
    (figure_none c.args.radix x rest c.number-number.result.1.now (common_found c.args.radix letters x rest c.prefix.ensures c.behind_letters-whole.ensures.common)
    (strip_found c.args.radix letters x rest c.behind_letters-whole.result.1 c.prefix.ensures c.behind_letters-whole.ensures.whole c.if-not-whole.false) c.number-number.ensures.behind c.if-behind-rest.true).0

pub returns-then-behind-rest-clause-seen : goal.returns-then-behind-rest-clause-seen
returns-then-behind-rest-clause-seen c =
    let letters = c.prefix.result.now in
    let x = c.args.text.now in
    let rest = c.behind_letters-whole.result.0.now in
    sym (figure_none c.args.radix x rest c.number-number.result.1.now (common_found c.args.radix letters x rest c.prefix.ensures c.behind_letters-whole.ensures.common)
    (strip_found c.args.radix letters x rest c.behind_letters-whole.result.1 c.prefix.ensures c.behind_letters-whole.ensures.whole c.if-not-whole.false) c.number-number.ensures.behind c.if-behind-rest.true).1

pub returns-in_default-clause-seen : goal.returns-in_default-clause-seen
returns-in_default-clause-seen c =
    let letters = c.prefix.result.now in
    let x = c.args.text.now in
    let rest = c.behind_letters-whole.result.0.now in
    sym (end_none c.args.radix x rest c.number-number.result.1.now c.number-number.result.0 (common_found c.args.radix letters x rest c.prefix.ensures c.behind_letters-whole.ensures.common)
    (strip_found c.args.radix letters x rest c.behind_letters-whole.result.1 c.prefix.ensures c.behind_letters-whole.ensures.whole c.if-not-whole.false) c.number-number.ensures.number c.number-number.ensures.behind c.if-behind-rest.false
    c.in_default.ensures.found c.in_default.ensures.seen).1

pub returns-clause-seen : goal.returns-clause-seen
returns-clause-seen c =
    let letters = c.prefix.result.now in
    let x = c.args.text.now in
    let rest = c.behind_letters-whole.result.0.now in
    sym (whole c.args.radix x rest c.number-number.result.1.now c.in-Some.tail.now c.number-number.result.0 (common_found c.args.radix letters x rest c.prefix.ensures c.behind_letters-whole.ensures.common)
    (strip_found c.args.radix letters x rest c.behind_letters-whole.result.1 c.prefix.ensures c.behind_letters-whole.ensures.whole c.if-not-whole.false) c.number-number.ensures.number c.number-number.ensures.behind c.if-behind-rest.false
    c.in-Some.ensures.found c.in-Some.ensures.seen).1
