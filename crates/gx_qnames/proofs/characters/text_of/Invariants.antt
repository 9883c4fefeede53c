use Rattle.std.proofs.Common.{◌≡◌, take}
use Rattle.gx_qnames.proofs.characters.text_of.Given as goal

abbrev pub invariant-loop-character : goal.invariant-loop-character
invariant-loop-character l = l.builder ≡ take l.character-index l.characters
