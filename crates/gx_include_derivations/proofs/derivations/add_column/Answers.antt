use Rattle.std.proofs.Common.{rules}
use Rattle.gx_include_derivations.proofs.Derived.{columns_more}
use Rattle.gx_include_derivations.proofs.derivations.add_column.Goals as goal

pub returns : goal.returns
returns c =
    columns_more c.args.schemas.now c.args.columns.now c.insert.new.self c.args.kind.now c.in_ok-column.column c.in_ok-column.ensures c.requires.columns (λ other. search rules)
