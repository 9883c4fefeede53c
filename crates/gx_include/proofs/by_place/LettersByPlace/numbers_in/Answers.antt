use Rattle.std.proofs.Common.{◌∙◌, ℕ, List, Vec, Global, ap, subst}
use Rattle.std.specs.List.{flat_map}
use Rattle.gx_include_letters.specs.declared.letter.Letter.{Letter}
use Rattle.gx_include_letters.specs.ItemIndex.{numbers_at}
use Rattle.gx_include.specs.ByPlace.{HasLettersAt}
use Rattle.gx_include.proofs.PlacedLetters.{has_letters}
use Rattle.gx_include.proofs.by_place.LettersByPlace.numbers_in.Goals as goal

pub returns-clause-has : goal.returns-clause-has
returns-clause-has c =
    subst (λ (ls : List Letter). HasLettersAt ls c.args.places.now c.of.result) c.self.view_is
    (has_letters c.self.inside.letters.now c.self.inside.numbers.items c.args.places.now c.of.result c.members.result.now c.in_ok-numbers.numbers.items c.self.invariant c.members.ensures
    (c.in_ok-numbers.ensures ∙ ap (λ (xs : List (Vec ℕ Global)). flat_map (numbers_at xs) c.members.result.now) c.as_slice.ensures.value) c.of.ensures.members)
