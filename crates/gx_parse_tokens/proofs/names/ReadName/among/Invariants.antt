use Rattle.std.proofs.Common.{◌≡◌, drop}
use Rattle.gx_parse_tokens.specs.Names.{name_made, named_in}
use Rattle.gx_parse_tokens.proofs.names.ReadName.among.Given as goal

abbrev pub invariant-loop-word : goal.invariant-loop-word
invariant-loop-word g l = named_in (drop l.word-index l.table) (name_made l.self) ≡ named_in l.table (name_made l.self)
