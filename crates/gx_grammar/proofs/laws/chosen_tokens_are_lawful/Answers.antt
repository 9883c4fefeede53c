use Rattle.gx_grammar.specs.Tokens.{no_fault}
use Rattle.gx_grammar.proofs.Either.{lawful_either, lawful_mapped}
use Rattle.gx_grammar.proofs.laws.chosen_tokens_are_lawful.Goals as goal

pub returns-clause-either : goal.returns-clause-either
returns-clause-either g c = λ first second never. (let t = g.T.HasTokens in lawful_either t.derives t.opens t.scan t.seen first t.derives_behind t.opens_behind t.scan_behind t.seen_behind second never)

pub returns-clause-mapped : goal.returns-clause-mapped
returns-clause-mapped g c = λ base value. (let t = g.T.HasTokens in lawful_mapped t.derives t.opens t.scan t.seen no_fault base value)
