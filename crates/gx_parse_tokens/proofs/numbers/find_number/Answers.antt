use Rattle.std.proofs.Common.{sym, ◌∙◌}
use Rattle.gx_parse_tokens.proofs.NumberScans.{rest_short, nothing_found, passes_found, large_found, small_found}
use Rattle.gx_parse_tokens.proofs.numbers.find_number.Goals as goal

pub slice_bounds-digits-count : goal.slice_bounds-digits-count
slice_bounds-digits-count c = rest_short c.args.text.now c.behind_literal-behind.result.now c.behind_literal-behind.ensures

pub returns-then-not-any_digit : goal.returns-then-not-any_digit
returns-then-not-any_digit c = nothing_found c.args.text.now c.behind_literal-behind.result.now c.behind_literal-behind.ensures (sym c.any_digit.ensures ∙ c.if-not-any_digit.true)

pub number_of-requires : goal.number_of-requires
number_of-requires c = passes_found c.args.text.now c.behind_literal-behind.result.now c.behind_literal-behind.ensures

pub returns-in-None : goal.returns-in-None
returns-in-None c =
    let none = rw c.in-None.is at c.in_ok-number_of.ensures in
    large_found c.args.text.now c.behind_literal-behind.result.now c.behind_literal-behind.ensures (sym c.any_digit.ensures ∙ c.if-not-any_digit.false) none

pub returns-in-Some : goal.returns-in-Some
returns-in-Some c =
    let some = rw c.in-Some.is at c.in_ok-number_of.ensures in
    small_found c.args.text.now c.behind_literal-behind.result.now c.in-Some.number c.behind_literal-behind.ensures (sym c.any_digit.ensures ∙ c.if-not-any_digit.false) some
