use Rattle.std.proofs.Common.{rules, ◌∙◌, sym, subst, List, Bool}
use Rattle.gx_include_letters.specs.Alphabet.{entry_if, AreColumnsMore}
use Rattle.gx_include_letters.specs.ItemIndex.{tests_at}
use Rattle.gx_include_positions.specs.Test.{is_taken}
use Rattle.gx_include_letters.proofs.Columns.{none_more}
use Rattle.gx_include_letters.proofs.alphabet.add_shape.Goals as goal

pub returns-then-not-has_taker : goal.returns-then-not-has_taker
returns-then-not-has_taker c =
    let x = is_taken c.args.schemas.now c.args.shape.now in
    none_more c.args.columns.now.items c.args.shape.now x c.args.left.now (tests_at c.args.right.now x) (sym c.has_taker.ensures ∙ search rules)

pub returns : goal.returns
returns c =
    let x = is_taken c.args.schemas.now c.args.shape.now in
    subst (λ (ts : List Bool). AreColumnsMore c.args.columns.now.items c.add_letters.new.columns.items (λ place. entry_if place c.args.shape.now ts (tests_at c.args.right.now x))) c.in_ok-taking.ensures
    (subst (λ (ts : List Bool). AreColumnsMore c.args.columns.now.items c.add_letters.new.columns.items (λ place. entry_if place c.args.shape.now c.in_ok-taking.taking ts)) c.in_ok-takers.ensures c.in_ok-add_letters.ensures)
