-- The positions that may come next and pass a test are those of both.
use Rattle.std.proofs.Common.{◌≡◌, Bool, ◌&&◌, ◌||◌, List, ◌++◌, refl, sym, ◌∙◌, ap, drop}
use Rattle.gx_types.specs.declared.item_type.ItemType.{ItemType}
use Rattle.gx_types.specs.SequenceType.{SequenceType, never, nothing, item, both, either, optional, star, plus}
use Rattle.gx_types.specs.TypeRules.{positions_of}
use Rattle.gx_include_positions.specs.Passing.{next_passing}
use Rattle.gx_include_positions.specs.Positions.{is_nullable, may_end, next_of, tests_of, both_set}
use Rattle.gx_include_positions.proofs.SetReads.{next_length, length_tests, both_set_append}

two_parts : (a b : SequenceType) (test : ItemType → Bool) (begins again : Bool) (set : List Bool)
    → next_passing a test begins set ≡ both_set (next_of a begins set) (tests_of a test)
    → next_passing b test again (drop (positions_of a) set) ≡ both_set (next_of b again (drop (positions_of a) set)) (tests_of b test)
    → next_passing a test begins set ++ next_passing b test again (drop (positions_of a) set) ≡ both_set (next_of a begins set ++ next_of b again (drop (positions_of a) set)) (tests_of a test ++ tests_of b test)
two_parts a b test begins again set e f =
    let rest = drop (positions_of a) set in
    ap (λ flags. flags ++ next_passing b test again rest) e
    ∙ ap (λ flags. both_set (next_of a begins set) (tests_of a test) ++ flags) f
    ∙ sym (both_set_append (next_of a begins set) (next_of b again rest) (tests_of a test) (tests_of b test) (next_length a set begins ∙ sym (length_tests a test)))

pub passing_is : (t : SequenceType) (test : ItemType → Bool) (begins : Bool) (set : List Bool) → next_passing t test begins set ≡ both_set (next_of t begins set) (tests_of t test)
passing_is never test begins set = refl
passing_is nothing test begins set = refl
passing_is (item kind) test begins set = refl
passing_is (both a b) test begins set =
    let again = (begins && is_nullable a) || may_end a set in
    two_parts a b test begins again set (passing_is a test begins set) (passing_is b test again (drop (positions_of a) set))
passing_is (either a b) test begins set = two_parts a b test begins begins set (passing_is a test begins set) (passing_is b test begins (drop (positions_of a) set))
passing_is (optional part) test begins set = passing_is part test begins set
passing_is (star part) test begins set = passing_is part test (begins || may_end part set) set
passing_is (plus part) test begins set = passing_is part test (begins || may_end part set) set
