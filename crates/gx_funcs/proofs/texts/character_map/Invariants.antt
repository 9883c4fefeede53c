use Rattle.std.proofs.Common.{◌≡◌, ℕ, length, nat_eq}
use Rattle.std.specs.HashMap.{get}
use Rattle.std.specs.Str.{chars, IsUtf8}
use Rattle.std.specs.Str.Iter.{chars_rest}
use Rattle.gx_funcs.specs.Targets.{unless_ended}
use Rattle.gx_funcs.specs.Texts.{target}
use Rattle.gx_funcs.proofs.ListedTexts.{found_or}
use Rattle.gx_funcs.proofs.texts.character_map.Given as goal

abbrev pub invariant-loop-source : goal.invariant-loop-source
invariant-loop-source l = record {
  sources : IsUtf8 (chars_rest l.sources);
  targets : IsUtf8 (chars_rest l.targets);
  same : (c : ℕ) → found_or (get nat_eq l.map c) (target (chars (chars_rest l.sources)) (unless_ended l.ended (chars (chars_rest l.targets))) c) ≡ target l.fn.from l.fn.to c;
}

abbrev pub decreases-loop-source : goal.decreases-loop-source
decreases-loop-source l = length (chars_rest l.sources)
