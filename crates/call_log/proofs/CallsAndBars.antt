-- The calls and the bars among entries, one entry more behind them. Assumes nothing.
use Prim.Native.Nat.{suc, ◌≤◌}
use native.Mathlib.Omega.{arith}
use mathlib.Core.Path.{◌≡◌, refl, ap}
use mathlib.Core.List.{List, [], ◌∷◌, ◌++◌}
use lib.ListN.{length}
use lib.Ieee.{Float}
use Rattle.rules.specs.Machine.{Call}
use Rattle.call_log.specs.Log.{Entry, call, bar, calls_in, bars_in}

pub calls_call : (es : List Entry) (k : Call) → calls_in (es ++ (call k ∷ [])) ≡ calls_in es ++ (k ∷ [])
unfolding calls_in
calls_call [] k = refl
calls_call (call j ∷ es) k = ap (◌∷◌ j) (calls_call es k)
calls_call (bar x y ∷ es) k = calls_call es k

pub calls_bar : (es : List Entry) (high low : Float) → calls_in (es ++ (bar high low ∷ [])) ≡ calls_in es
unfolding calls_in
calls_bar [] high low = refl
calls_bar (call j ∷ es) high low = ap (◌∷◌ j) (calls_bar es high low)
calls_bar (bar x y ∷ es) high low = calls_bar es high low

pub bars_call : (es : List Entry) (k : Call) → bars_in (es ++ (call k ∷ [])) ≡ bars_in es
unfolding bars_in
bars_call [] k = refl
bars_call (call j ∷ es) k = bars_call es k
bars_call (bar x y ∷ es) k = rw (bars_call es k)

pub highs_bar : (es : List Entry) (high low : Float) → (bars_in (es ++ (bar high low ∷ []))).highs ≡ (bars_in es).highs ++ (high ∷ [])
unfolding bars_in
highs_bar [] high low = refl
highs_bar (call j ∷ es) high low = highs_bar es high low
highs_bar (bar x y ∷ es) high low = ap (◌∷◌ x) (highs_bar es high low)

pub lows_bar : (es : List Entry) (high low : Float) → (bars_in (es ++ (bar high low ∷ []))).lows ≡ (bars_in es).lows ++ (low ∷ [])
unfolding bars_in
lows_bar [] high low = refl
lows_bar (call j ∷ es) high low = lows_bar es high low
lows_bar (bar x y ∷ es) high low = ap (◌∷◌ y) (lows_bar es high low)

-- no more calls than entries
pub calls_few : (es : List Entry) → length (calls_in es) ≤ length es
unfolding calls_in
calls_few [] = omega arith
calls_few (call j ∷ es) = let r = calls_few es in omega arith
calls_few (bar x y ∷ es) = let r = calls_few es in omega arith

-- a low for each high
pub as_many : (es : List Entry) → length (bars_in es).lows ≡ length (bars_in es).highs
unfolding bars_in
as_many [] = refl
as_many (call j ∷ es) = as_many es
as_many (bar x y ∷ es) = ap suc (as_many es)
