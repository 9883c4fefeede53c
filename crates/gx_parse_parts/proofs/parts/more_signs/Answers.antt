use Rattle.std.proofs.Common.{◌-◌, ◌++◌, ◌∷◌, [], sym, ap, subst, ◌∙◌, arith, ◌+◌, if◌then◌else◌}
use Rattle.gx_grammar.specs.Value.{node, nothing, pair}
use Rattle.gx_grammar.specs.Ran.{Ran}
use Rattle.gx_parse_parts.specs.declared.parts.Sign.{Sign}
use Rattle.gx_parse_grammar.specs.Nodes.{Operator}
use Rattle.gx_parse_grammar.specs.Grammar.{more_signs, place_in}
use Rattle.gx_parse_tokens.specs.Reading.{read_in}
use Rattle.gx_parse_parts.proofs.Phrases.{signs_end, signs_full, before_more, signs_none, signs_more, loses_done, loses_ran}
use Rattle.gx_parse_parts.proofs.Chains.{ran_any}
use Rattle.std.proofs.lemmas.List.{append_assoc}
use Rattle.gx_parse_parts.proofs.parts.more_signs.Goals as goal

pub returns-then-not-looks_at : goal.returns-then-not-looks_at
returns-then-not-looks_at c = record {
  others = c.loop.invariant.others;
  is = c.loop.invariant.is;
  holds = λ n. c.loop.invariant.holds n nothing c.looks_at.new.self
      (signs_none c.args.source.now n (c.args.count - c.loop.counter) c.looks_at.result c.loop.reader c.looks_at.new.self (omega (arith, c.loop-test.true)) c.if-not-looks_at.true c.looks_at.ensures);
}

pub returns-then-is_err : goal.returns-then-is_err
returns-then-is_err c = record {
  others = c.loop.invariant.others;
  is = c.push.ensures.items ∙ ap (λ b. if b then (c.loop.signs.items ++ record { place = c.operator-word.result.0; word = c.operator-word.result.1 } ∷ []) else c.loop.signs.items) c.if-is_err.ensures.negation ∙ c.loop.invariant.is;
  holds = λ n.
      let done = loses_done c.operator-word.new.reader c.lose.new.self c.lose.ensures in
      let left = c.args.count - c.loop.counter in
      let next = left - 1 in
      c.loop.invariant.holds n nothing c.lose.new.self
      (ran_any (pair (node (Operator c.operator-word.result.0 c.operator-word.result.1)) nothing) nothing c.loop.reader c.lose.new.self (read_in c.args.source.now n (more_signs (place_in c.args.source.now) left)) done
      (signs_more c.args.source.now n left next (node (Operator c.operator-word.result.0 c.operator-word.result.1)) nothing c.looks_at.result c.loop.reader c.looks_at.new.self c.operator-word.new.reader c.lose.new.self
      (omega (arith, c.loop-test.true)) c.if-not-looks_at.false c.looks_at.ensures (c.operator-word.ensures n) (loses_ran nothing c.operator-word.new.reader c.lose.new.self (read_in c.args.source.now n (more_signs (place_in c.args.source.now) next)) c.lose.ensures)));
}

pub loop-preserved : goal.loop-preserved
loop-preserved c =
    let sign : Sign = record { place = c.operator-word.result.0; word = c.operator-word.result.1 } in
    record {
      others = c.loop.invariant.others ++ sign ∷ [];
      is =
          c.push.ensures.items ∙ ap (λ b. if b then (c.loop.signs.items ++ sign ∷ []) else c.loop.signs.items) c.if-is_err.ensures.negation
          ∙ ap (λ xs. xs ++ sign ∷ []) c.loop.invariant.is ∙ append_assoc c.args.signs.items c.loop.invariant.others (sign ∷ []);
      holds = λ n w z h.
          let left = c.args.count - c.loop.counter in
          let next = c.args.count - (c.loop.counter + 1) in
          subst (λ v. Ran v c.args.reader.now z (read_in c.args.source.now n (more_signs (place_in c.args.source.now) c.args.count))) (sym (before_more c.loop.invariant.others sign w))
          (c.loop.invariant.holds n (pair (node (Operator c.operator-word.result.0 c.operator-word.result.1)) w) z
          (signs_more c.args.source.now n left next (node (Operator c.operator-word.result.0 c.operator-word.result.1)) w c.looks_at.result c.loop.reader c.looks_at.new.self c.operator-word.new.reader z
          (omega (arith, c.loop-test.true)) c.if-not-looks_at.false c.looks_at.ensures (c.operator-word.ensures n) h));
    }

pub returns-then-looks_barred : goal.returns-then-looks_barred
returns-then-looks_barred c = record {
  others = c.loop.invariant.others;
  is = c.loop.invariant.is;
  holds = λ n. c.loop.invariant.holds n nothing c.barrier.new.self
      (subst (λ k. Ran nothing c.loop.reader c.barrier.new.self (read_in c.args.source.now n (more_signs (place_in c.args.source.now) k))) (omega (arith, c.loop-test.false))
      (signs_full c.args.source.now n c.looks_barred.result c.loop.reader c.looks_barred.new.self c.barrier.new.self c.if-looks_barred.true c.looks_barred.ensures c.barrier.ensures.read));
}

pub returns-else-looks_barred : goal.returns-else-looks_barred
returns-else-looks_barred c = record {
  others = c.loop.invariant.others;
  is = c.loop.invariant.is;
  holds = λ n. c.loop.invariant.holds n nothing c.looks_barred.new.self
      (subst (λ k. Ran nothing c.loop.reader c.looks_barred.new.self (read_in c.args.source.now n (more_signs (place_in c.args.source.now) k))) (omega (arith, c.loop-test.false))
      (signs_end c.args.source.now n c.looks_barred.result c.loop.reader c.looks_barred.new.self c.if-looks_barred.false c.looks_barred.ensures));
}
