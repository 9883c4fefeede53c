use Rattle.std.proofs.Common.{◌≡◌, ℕ, zero, suc, ◌<◌, length, Ok, Err, IfOk, if◌then◌else◌, refl, ap, arith}
use Rattle.gx_grammar.specs.Value.{Value, no_item, an_item}
use Rattle.gx_grammar.specs.Grammar.{Guard}
use Rattle.gx_grammar.specs.Reading.{State, Reading, go_on, notes, repeat}

go_on_same : {X Y : Type 0} (r : Reading X) (f h : X → State → Reading Y) → IfOk r (λ o. f o.0 o.1 ≡ h o.0 o.1) → go_on r f ≡ go_on r h
go_on_same (Ok o) f h e = e
go_on_same (Err e) f h p = refl

if_ok_map : {X : Type 0} (r : Reading X) (P Q : X × State → Type 0) → ((o : X × State) → P o → Q o) → IfOk r P → IfOk r Q
if_ok_map (Ok o) P Q f h = f o h
if_ok_map (Err e) P Q f h = tt

module _ {Node : Type 0} (g : Guard) (item : State → Reading (Value Node)) (shortens : (s : State) → IfOk (item s) (λ o. length o.1.rest < length s.rest)) where
  -- any count of items that is more than the characters left reads the same
  same_repeat : (m n : ℕ) (s : State) → length s.rest < m → length s.rest < n → repeat g item m s ≡ repeat g item n s
  same_repeat zero n s h k = absurd (omega arith)
  same_repeat (suc m) zero s h k = absurd (omega arith)
  same_repeat (suc m) (suc n) s h k =
      ap (λ r. if g.takes s.rest then r else (Ok (no_item, notes s (g.seen s.rest))))
      (go_on_same (item (notes s (g.seen s.rest))) (λ v t. go_on (repeat g item m t) (λ w u. Ok (an_item v w, u))) (λ v t. go_on (repeat g item n t) (λ w u. Ok (an_item v w, u)))
      (if_ok_map (item (notes s (g.seen s.rest))) (λ o. length o.1.rest < length s.rest) _
      (λ o l. ap (λ r. go_on r (λ w u. Ok (an_item o.0 w, u))) (same_repeat m n o.1 (omega arith) (omega arith))) (shortens (notes s (g.seen s.rest)))))

  -- One item, and then the others: what a loop does.
  pub repeat_step : (s : State) → repeat g item (suc (length s.rest)) s ≡
      (if g.takes s.rest
      then (go_on (item (notes s (g.seen s.rest))) (λ v t. go_on (repeat g item (suc (length t.rest)) t) (λ w u. Ok (an_item v w, u))))
      else (Ok (no_item, notes s (g.seen s.rest))))
  repeat_step s =
      ap (λ r. if g.takes s.rest then r else (Ok (no_item, notes s (g.seen s.rest))))
      (go_on_same (item (notes s (g.seen s.rest))) (λ v t. go_on (repeat g item (length s.rest) t) (λ w u. Ok (an_item v w, u))) (λ v t. go_on (repeat g item (suc (length t.rest)) t) (λ w u. Ok (an_item v w, u)))
      (if_ok_map (item (notes s (g.seen s.rest))) (λ o. length o.1.rest < length s.rest) _
      (λ o l. ap (λ r. go_on r (λ w u. Ok (an_item o.0 w, u))) (same_repeat (length s.rest) (suc (length o.1.rest)) o.1 l (omega arith))) (shortens (notes s (g.seen s.rest)))))
