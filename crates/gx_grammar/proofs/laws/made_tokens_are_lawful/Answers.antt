use Rattle.gx_grammar.specs.Tokens.{no_fault}
use Rattle.gx_grammar.proofs.Fitting.{fitting_firm, lawful_barred, lawful_fitting, lawful_stop}
use Rattle.gx_grammar.proofs.Joined.{lawful_joined, lawful_optional}
use Rattle.gx_grammar.proofs.laws.made_tokens_are_lawful.Goals as goal

pub returns-clause-fitting : goal.returns-clause-fitting
returns-clause-fitting g c = λ base test faults firm faultless. (let t = g.T.HasTokens in lawful_fitting t.derives t.opens t.scan t.seen no_fault base test faults firm faultless)

pub returns-clause-stop : goal.returns-clause-stop
returns-clause-stop g c = λ base faults faultless. (let t = g.T.HasTokens in lawful_stop t.derives t.opens t.scan t.seen no_fault base faults faultless)

pub returns-clause-joined : goal.returns-clause-joined
returns-clause-joined g c = λ first second value. (let t = g.T.HasTokens in lawful_joined t.derives t.opens t.scan t.seen first t.derives_behind t.opens_behind t.scan_behind t.seen_behind second value)

pub returns-clause-firm : goal.returns-clause-firm
returns-clause-firm g c = λ base code test v x y d f. (let t = g.T.HasTokens in fitting_firm t.derives t.opens t.scan t.seen no_fault base code test v x y d f)

pub returns-clause-barred : goal.returns-clause-barred
returns-clause-barred g c = λ faults faultless. lawful_barred faults faultless

pub returns-clause-optional : goal.returns-clause-optional
returns-clause-optional g c = λ base starts value tells. (let t = g.T.HasTokens in lawful_optional t.derives t.opens t.scan t.seen base starts value tells)
