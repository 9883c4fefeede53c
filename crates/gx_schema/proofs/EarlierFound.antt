-- The first of faults by place, in lists one after another.
use Rattle.std.proofs.Common.{◌≡◌, Bool, true, false, nat_le, Option, None, Some, refl, arith, if◌then◌else◌}
use Rattle.std.proofs.lemmas.Bool.Decides.{nat_tests}
use Rattle.gx_schema.specs.declared.found.Found.{Found}
use Rattle.gx_schema.specs.FirstFound.{earlier_found, is_in_front}

-- nothing is found where neither is

earlier_some : (t : Bool) (one other : Found) → (if t then Some one else Some other) ≡ None → ⊥
earlier_some true one other e = cc
earlier_some false one other e = cc

pub left_none : (one other : Option Found) → earlier_found one other ≡ None → one ≡ None
left_none None other e = refl
left_none (Some one) None e = absurd (cc)
left_none (Some one) (Some other) e = absurd (earlier_some (nat_le one.place other.place) one other e)

pub right_none : (one other : Option Found) → earlier_found one other ≡ None → other ≡ None
right_none None other e = e
right_none (Some one) None e = refl
right_none (Some one) (Some other) e = absurd (earlier_some (nat_le one.place other.place) one other e)

-- the first of three

pub earlier_found-none : (found : Option Found) → earlier_found found None ≡ found
earlier_found-none None = refl
earlier_found-none (Some found) = refl

among_three : (a b c : Found) (p q r : Bool) → nat_le a.place b.place ≡ p → nat_le b.place c.place ≡ q → nat_le a.place c.place ≡ r
    → earlier_found (earlier_found (Some a) (Some b)) (Some c) ≡ earlier_found (Some a) (earlier_found (Some b) (Some c))
among_three a b c true true true e f g = simp (e, f, g)
among_three a b c true true false e f g = absurd (grind (arith, nat_tests, e, f, g))
among_three a b c true false r e f g = simp (e, f)
among_three a b c false true r e f g = simp (e, f)
among_three a b c false false true e f g = absurd (grind (arith, nat_tests, e, f, g))
among_three a b c false false false e f g = simp (e, f, g)

pub earlier_found-earlier_found : (a b c : Option Found) → earlier_found (earlier_found a b) c ≡ earlier_found a (earlier_found b c)
earlier_found-earlier_found None b c = refl
earlier_found-earlier_found (Some a) None c = refl
earlier_found-earlier_found (Some a) (Some b) None = earlier_found-none (earlier_found (Some a) (Some b))
earlier_found-earlier_found (Some a) (Some b) (Some c) = among_three a b c (nat_le a.place b.place) (nat_le b.place c.place) (nat_le a.place c.place) refl refl refl

pub ruleset earlier_steps = (earlier_found-none, earlier_found-earlier_found)

-- one that stands in front of what was found, and one that does not

pub earlier_found-in_front : (found : Option Found) (new : Found) → is_in_front new.place found ≡ true → earlier_found found (Some new) ≡ Some new
earlier_found-in_front None new e = refl
earlier_found-in_front (Some found) new e = let later : nat_le found.place new.place ≡ false = grind (arith, nat_tests, e) in rw later refl

pub earlier_found-behind : (found : Option Found) (new : Found) → is_in_front new.place found ≡ false → earlier_found found (Some new) ≡ found
earlier_found-behind None new e = absurd (cc)
earlier_found-behind (Some found) new e = let earlier : nat_le found.place new.place ≡ true = grind (arith, nat_tests, e) in rw earlier refl

pub ruleset noted_steps = (earlier_found-none, earlier_found-in_front, earlier_found-behind)
