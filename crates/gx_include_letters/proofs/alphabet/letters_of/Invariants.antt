use Rattle.std.proofs.Common.{◌≡◌, map}
use Rattle.std.specs.List.{flat_map}
use Rattle.gx_include_letters.specs.Alphabet.{entry_of_letter, entries_of_column}
use Rattle.gx_include_letters.proofs.alphabet.letters_of.Given as goal

abbrev pub invariant-loop-column : goal.invariant-loop-column
invariant-loop-column l = map entry_of_letter l.letters.items ≡ flat_map entries_of_column l.yielded
