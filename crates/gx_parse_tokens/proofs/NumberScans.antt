-- How numeric literals are scanned.
use Rattle.std.proofs.Common.{◌≡◌, ℕ, ◌-◌, ◌≤◌, ◌==◌, ◌||◌, ◌&&◌, Bool, true, false, if◌then◌else◌, List, [], ◌∷◌, ◌++◌, length, length-append, min, refl, sym, ap, ap₂, subst, ◌∙◌, append_assoc, append-nil, take, Option, Some, None, Result, Ok, Err, pos, arith}
use Rattle.gx_num.specs.declared.Number.{Number}
use Rattle.gx_num.specs.declared.Number.TheVariants.{Int}
use Rattle.gx_num.specs.declared.NumRead.{NumRead}
use Rattle.gx_grammar.specs.Value.{characters}
use Rattle.gx_grammar.specs.First.{head_passes}
use Rattle.gx_grammar.specs.Tokens.{all_pass, run_of, behind_run, seen_name}
use Rattle.gx_grammar.specs.Joined.{with_front, scan_behind, seen_behind}
use Rattle.gx_grammar.specs.Fitting.{keep_fitting, fault_of}
use Rattle.gx_grammar.specs.Apart.{is}
use Rattle.std.proofs.lemmas.Bool.{and_parts}
use Rattle.gx_grammar.proofs.PublicLaws.{run_passes, run_short, run_whole}
use Rattle.gx_parse_grammar.specs.Characters.{is_digit, no_character}
use Rattle.gx_parse_grammar.specs.Nodes.{Node, Made}
use Rattle.gx_parse_grammar.specs.Numeral.{together, scan_numeral_digits, scan_fraction, scan_with_fraction, scan_pointed, seen_numeral, has_digit, any_digit, is_small, is_right, number_of, number_or_zero, scan_literal, scan_numeral}
use Rattle.gx_parse_tokens.specs.Numbers.{digits_behind_point, behind_literal, IsNoNumber}
use Rattle.gx_parse_grammar.specs.Tokens.{begins_number, number_code}
use Rattle.gx_parse_tokens.proofs.NameScans.{unless_none}

or_right : (a b : Bool) → b ≡ true → (a || b) ≡ true
or_right true b e = refl
or_right false b e = e

or_left : (a b : Bool) → a ≡ true → (a || b) ≡ true
or_left a b e = ap (λ c. c || b) e

take_front : (a r : List ℕ) (n : ℕ) → n ≡ length a → take n (a ++ r) ≡ a
take_front [] r n e = rw e refl
take_front (c ∷ a) r n e = rw e (ap (λ q. c ∷ q) (take_front a r (length a) refl))

-- a point with its digits, or nothing
pub record Fraction (x : List ℕ) : Type 0 where
  pub front : List ℕ
  pub whole : x ≡ front ++ digits_behind_point x
  pub scanned : scan_with_fraction {Node = Node} x ≡ Some (characters front, digits_behind_point x)
  pub seen : min (length x) (seen_name (is 46) is_digit x) ≡ length (digits_behind_point x)
  pub passes : all_pass begins_number front ≡ true

digits_pass : (x : List ℕ) → all_pass is_digit x ≡ true → all_pass begins_number x ≡ true
digits_pass [] e = refl
digits_pass (c ∷ x) e = let p = and_parts (is_digit c) (all_pass is_digit x) e in ap₂ (λ a b. a && b) (or_left (is_digit c) (is 46 c) p.0) (digits_pass x p.1)

fraction : (x : List ℕ) → Fraction x
fraction [] = record { front = []; whole = refl; scanned = refl; seen = refl; passes = refl }
fraction (c ∷ x) = go (c == 46) refl
  where
    go : (b : Bool) → (c == 46) ≡ b → Fraction (c ∷ x)
    go true f = record {
      front = c ∷ run_of is_digit x;
      whole = rw f (ap (λ q. c ∷ q) (run_whole is_digit x));
      scanned = rw f (unless_none (characters (c ∷ run_of is_digit x)) (behind_run is_digit x));
      seen = rw f (let h = run_short is_digit x in omega (arith, h));
      passes = ap₂ (λ a b. a && b) (or_right (is_digit c) (is 46 c) f) (digits_pass (run_of is_digit x) (run_passes is_digit x));
    }
    go false f = record { front = []; whole = rw f refl; scanned = rw f refl; seen = rw f (let q : min (length (c ∷ x)) (length (c ∷ x)) ≡ length (c ∷ x) = omega arith in q); passes = refl }

pub record Literal (x : List ℕ) (front : List ℕ) : Type 0 where
  pub scanned : scan_pointed {Node = Node} x ≡ Some (characters front, behind_literal x)
  pub seen : seen_numeral Node x ≡ length (behind_literal x)
  pub passes : all_pass begins_number front ≡ true

all_both : (x y : List ℕ) → all_pass begins_number x ≡ true → all_pass begins_number y ≡ true → all_pass begins_number (x ++ y) ≡ true
all_both [] y e f = f
all_both (c ∷ x) y e f = let p = and_parts (begins_number c) (all_pass begins_number x) e in ap₂ (λ a b. a && b) p.0 (all_both x y p.1 f)

literal_is : (x : List ℕ) → (front : List ℕ) × (x ≡ front ++ behind_literal x) × Literal x front
literal_is x =
    let f = fraction (behind_run is_digit x) in
    let d : scan_numeral_digits {Node = Node} x ≡ Some (characters (run_of is_digit x), behind_run is_digit x) = unless_none (characters (run_of is_digit x)) (behind_run is_digit x) in (
      run_of is_digit x ++ f.front,
      run_whole is_digit x ∙ ap (λ q. run_of is_digit x ++ q) f.whole ∙ sym (append_assoc (run_of is_digit x) f.front (behind_literal x)),
      record {
        scanned = ap (scan_behind scan_with_fraction together) d ∙ ap (with_front together (characters (run_of is_digit x))) f.scanned;
        seen = ap (λ q. seen_behind (seen_name (is 46) is_digit) (length (behind_run is_digit x)) q) d ∙ f.seen;
        passes = all_both (run_of is_digit x) f.front (digits_pass (run_of is_digit x) (run_passes is_digit x)) f.passes;
      },
    )

-- what stands in front of what is left
pub literal_at : (x front : List ℕ) → front ≡ take (length x - length (behind_literal x)) x → Literal x front
literal_at x front e =
    let l = literal_is x in
    let n : length x - length (behind_literal x) ≡ length l.0 = omega (arith, ap length l.1, length-append l.0 (behind_literal x)) in
    let f : take (length x - length (behind_literal x)) x ≡ l.0 = ap (λ q. take (length x - length (behind_literal x)) q) l.1 ∙ take_front l.0 (behind_literal x) (length x - length (behind_literal x)) n in
    subst (λ q. Literal x q) (sym (e ∙ f)) l.2

pub no_digits : (x front : List ℕ) → Literal x front → any_digit front ≡ false → (scan_literal {Node = Node} x ≡ None) × (scan_numeral {Node = Node} x ≡ None) × (fault_of {V = Made} number_code is_small (scan_literal x) ≡ None)
no_digits x front l e =
    let s : scan_literal {Node = Node} x ≡ None = ap (keep_fitting has_digit) l.scanned ∙ ap (λ b. if b then (Some (characters front, behind_literal x)) else None) e in
    (s, ap (keep_fitting is_small) s, ap (fault_of number_code is_small) s)

pub with_digits : (x front : List ℕ) → Literal x front → any_digit front ≡ true → scan_literal {Node = Node} x ≡ Some (characters front, behind_literal x)
with_digits x front l e = ap (keep_fitting has_digit) l.scanned ∙ ap (λ b. if b then (Some (characters front, behind_literal x)) else None) e

not_right : (r : Result Number NumRead) → IsNoNumber r → is_right r ≡ false
not_right (Ok n) h = absurd h
not_right (Err e) h = refl

pub too_large : (x front : List ℕ) → Literal x front → any_digit front ≡ true → IsNoNumber (number_of front) → fault_of {V = Made} number_code is_small (scan_literal x) ≡ Some number_code
too_large x front l e h =
    ap (fault_of number_code is_small) (with_digits x front l e) ∙ ap (λ b. if b then None else (Some number_code)) (not_right (number_of front) h)

pub small : (x front : List ℕ) (n : Number) → Literal x front → any_digit front ≡ true → number_of front ≡ Ok n
    → (fault_of {V = Made} number_code is_small (scan_literal x) ≡ None) × (scan_numeral {Node = Node} x ≡ Some (characters front, behind_literal x))
small x front n l e h =
    let s = with_digits x front l e in
    let r : is_right (number_of front) ≡ true = ap is_right h in (
      ap (fault_of number_code is_small) s ∙ ap (λ b. if b then None else (Some number_code)) r,
      ap (keep_fitting is_small) s ∙ ap (λ b. if b then (Some (characters front, behind_literal x)) else None) r,
    )

pub literal_short : (x : List ℕ) → length (behind_literal x) ≤ length x
literal_short x = let l = literal_is x in omega (arith, ap length l.1, length-append l.0 (behind_literal x))

pub zero : Int (pos 0) ≡ number_or_zero (number_of [])
unfolding number_of
zero = refl

-- the same by what is left

at_rest : (x r : List ℕ) → r ≡ behind_literal x → Literal x (take (length x - length r) x)
at_rest x r e = subst (λ q. Literal x (take (length x - length q) x)) (sym e) (literal_at x (take (length x - length (behind_literal x)) x) refl)

pub rest_short : (x r : List ℕ) → r ≡ behind_literal x → length r ≤ length x
rest_short x r e = let h = literal_short x in omega (arith, h, ap length e)

pub nothing_found : (x r : List ℕ) → r ≡ behind_literal x → any_digit (take (length x - length r) x) ≡ false
    → (scan_numeral {Node = Node} x ≡ None) × (fault_of {V = Made} number_code is_small (scan_literal x) ≡ None) × (length r ≡ seen_numeral Node x)
nothing_found x r e f = let l = at_rest x r e in let n = no_digits x (take (length x - length r) x) l f in (n.1, n.2, ap length e ∙ sym l.seen)

pub passes_found : (x r : List ℕ) → r ≡ behind_literal x → all_pass begins_number (take (length x - length r) x) ≡ true
passes_found x r e = (at_rest x r e).passes

pub large_found : (x r : List ℕ) → r ≡ behind_literal x → any_digit (take (length x - length r) x) ≡ true → IsNoNumber (number_of (take (length x - length r) x)) → fault_of {V = Made} number_code is_small (scan_literal x) ≡ Some number_code
large_found x r e f h = too_large x (take (length x - length r) x) (at_rest x r e) f h

pub small_found : (x r : List ℕ) (n : Number) → r ≡ behind_literal x → any_digit (take (length x - length r) x) ≡ true → number_of (take (length x - length r) x) ≡ Ok n
    → (cs : List ℕ) × (scan_numeral {Node = Node} x ≡ Some (characters cs, r)) × (fault_of {V = Made} number_code is_small (scan_literal x) ≡ None) × (length r ≡ seen_numeral Node x) × (n ≡ number_or_zero (number_of cs))
small_found x r n e f h =
    let l = at_rest x r e in
    let s = small x (take (length x - length r) x) n l f h in
    (take (length x - length r) x, s.1 ∙ ap (λ q. Some (characters (take (length x - length r) x), q)) (sym e), s.0, ap length e ∙ sym l.seen, sym (ap number_or_zero h))
