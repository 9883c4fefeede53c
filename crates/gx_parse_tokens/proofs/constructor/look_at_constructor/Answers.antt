use Rattle.std.proofs.Common.{◌≡◌, List, ℕ, Option, Some, None, subst, refl}
use Rattle.std.specs.Borrow.{Bor}
use Rattle.std.specs.Prelude.{MatchOption}
use Rattle.gx_parse_grammar.specs.Nodes.{Made}
use Rattle.gx_parse_grammar.specs.Tokens.{scan_qname}
use Rattle.gx_parse_tokens.proofs.MarkupScans.{no_name_looked, constructor_looked}
use Rattle.gx_parse_tokens.proofs.constructor.look_at_constructor.Goals as goal

abbrev Found : List ℕ → Option (Bor (List ℕ)) → Type 0
Found x o = MatchOption o (scan_qname x ≡ None) (λ rest. (v : Made) × (scan_qname x ≡ Some (v, rest.now)))

pub returns-in_default : goal.returns-in_default
returns-in_default c =
    let none = subst (Found c.args.text.now) c.in_default.is c.find_name_end-name.ensures.behind in
    let looked = no_name_looked c.args.text.now _ none refl c.find_name_end-name.ensures.seen in
    record { looks = looked.0; seen = looked.1 }

pub returns : goal.returns
returns c =
    let some = subst (Found c.args.text.now) c.in-Some.is c.find_name_end-name.ensures.behind in
    let looked = constructor_looked c.args.text.now c.in-Some.behind.now some.0 _ c.brace-space.result.behind _ c.find_name_end-name.result.seen c.brace-space.result.seen some.1 c.find_name_end-name.ensures.seen c.brace-space.ensures.behind c.brace-space.ensures.seen c.is_some.ensures c.min.ensures in
    record { looks = looked.0; seen = looked.1 }
