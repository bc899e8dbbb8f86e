-- A log run entry by entry: what is known before each entry, and at the end. Assumes nothing.
use Prim.Native.Nat.{ℕ, suc, ◌+◌, ◌<◌, ◌≤◌}
use native.Mathlib.Omega.{arith}
use native.Mathlib.Numerals.{add-one}
use mathlib.Core.Path.{◌≡◌, refl, sym, ap, ◌∙◌}
use mathlib.Core.List.{List, [], ◌∷◌, ◌++◌, append_assoc, append-nil}
use mathlib.Core.Option.{none, some}
use lib.ListN.{length, length-append}
use lib.Seq.{length-take-le}
use lib.Ieee.{Float}
use Rattle.std.specs.Prelude.{Ok, Err}
use Rattle.rows.specs.declared.Rows.{Rows}
use Rattle.rows.specs.Rows.{rows_in}
use Rattle.rules.specs.Answer.{refused, given}
use Rattle.rules.specs.Machine.{Call}
use Rattle.live.specs.declared.Live.{Live}
use Rattle.live.specs.Did.{Did, Nothing}
use Rattle.live.specs.Sequence.{Chain, done, next}
use Rattle.live.proofs.Chained.{sequence}
use Rattle.call_log.specs.Log.{Entry, call, bar, counted, spelled, calls_in, bars_in}
use Rattle.call_log.specs.Entries.{bad_at, rest_of, EntryAt}
use Rattle.call_log.proofs.Steps.{Stepped, step, never, ends, bad_says, nowhere_says, few_entries}
use Rattle.call_log.proofs.CallsAndBars.{calls_call, calls_bar, bars_call, highs_bar, lows_bar, calls_few, as_many}
use Rattle.playback.specs.declared.Replayed.{Replayed}
use Rattle.playback.specs.Replays.{Replays}

pub all_counted : {A : Type 0} {N : ℕ} (x : Rows A N) → length (rows_in x) ≡ x.count
all_counted x = length-take-le x.count x.rows (omega (arith, x.inside, x.whole))

pub one-counted : {A : Type 0} {N : ℕ} (x y : Rows A N) (a : A) → rows_in y ≡ rows_in x ++ (a ∷ []) → y.count ≡ x.count + 1
one-counted x y a e =
    let n = ap length e ∙ length-append (rows_in x) (a ∷ []) in
    let p = all_counted x in
    let q = all_counted y in
    omega arith

-- one call more
snoc :
    {b c d : Live} {k : Call} {ks : List Call} {n : ℕ} {ns : List ℕ} → Chain b ks ns c → Did c k n d
    → Chain b (ks ++ (k ∷ [])) (ns ++ (n ∷ [])) d
snoc done h = next h done
snoc (next g t) h = next g (snoc t h)

-- an answer for each call
as_answered : {b d : Live} {ks : List Call} {ns : List ℕ} → Chain b ks ns d → length ns ≡ length ks
as_answered done = refl
as_answered (next g t) = ap suc (as_answered t)

-- b is where the run begins, c the chart before the entry at a place: the entries that are done, and those that are left
pub record Underway (log : List ℕ) (b c : Live) (answers : List ℕ) (highs lows : List Float) (bars at : ℕ) : Type 0 where
  pub ran : List Entry
  pub left : List Entry
  pub all : spelled log ≡ given (ran ++ left)
  pub rest : rest_of log at bars ≡ given left
  pub chain : Chain b (calls_in ran) answers c
  pub highs_are : highs ≡ (bars_in ran).highs
  pub lows_are : lows ≡ (bars_in ran).lows

pub begins :
    (log : List ℕ) (b : Live) (answers : List ℕ) (highs lows : List Float) (bars : ℕ) → none ≡ bad_at (spelled log) → answers ≡ [] → highs ≡ []
    → lows ≡ [] → length highs ≡ bars → Underway log b b answers highs lows bars 0
unfolding spelled calls_in bars_in
begins log b answers highs lows bars e p q r n =
    let given-all = nowhere_says (spelled log) e in
    let zero : bars ≡ 0 = sym n ∙ ap length q in
    rw (p, q, r, zero)
    (record { ran = []; left = given-all.0; all = given-all.1; rest = given-all.1; chain = done; highs_are = refl; lows_are = refl })

module _
    (log : List ℕ)
    (b c : Live)
    (answers : List ℕ)
    (highs lows : List Float)
    (bars at : ℕ)
    (u : Underway log b c answers highs lows bars at)
  where
    -- no entry is bad
    pub never-bad : rest_of log at bars ≡ refused at → ⊥
    never-bad = never log at bars u.left u.rest

    module _ (e : Entry) (after sum : ℕ) (t : EntryAt log at bars e after sum) where
      stepped : Stepped log at bars u.left e after sum
      stepped = step log at bars u.left u.rest e after sum t

      all_more : spelled log ≡ given (u.ran ++ (e ∷ stepped.entries))
      all_more = u.all ∙ ap (λ (l : List Entry). given (u.ran ++ l)) stepped.all

      all_then : spelled log ≡ given ((u.ran ++ (e ∷ [])) ++ stepped.entries)
      all_then = all_more ∙ ap given (sym (append_assoc u.ran (e ∷ []) stepped.entries))

      -- a call's answer has a place
      pub room : length answers < 32768
      room =
          let n = few_entries log (u.ran ++ (e ∷ stepped.entries)) all_more in
          let l = length-append u.ran (e ∷ stepped.entries) in
          let m = calls_few u.ran in
          let k = as_answered u.chain in
          omega arith

    -- a call
    module _ (k : Call) (after sum : ℕ) (t : EntryAt log at bars (call k) after sum) where
      same-bars : sum ≡ bars
      unfolding counted
      same-bars = t.count

      pub further-call : (d : Live) (n : ℕ) → Did c k n d → Underway log b d (answers ++ (n ∷ [])) highs lows bars after
      further-call d n h =
          let s = stepped (call k) after sum t in
          record {
            ran = u.ran ++ (call k ∷ []);
            left = s.entries;
            all = all_then (call k) after sum t;
            rest = ap (rest_of log after) (sym same-bars) ∙ s.rest;
            chain = rw (calls_call u.ran k) (snoc u.chain h);
            highs_are = rw (bars_call u.ran k) u.highs_are;
            lows_are = rw (bars_call u.ran k) u.lows_are;
          }

    -- a bar
    module _ (high low : Float) (after sum : ℕ) (t : EntryAt log at bars (bar high low) after sum) where
      one_bar : sum ≡ bars + 1
      unfolding counted
      one_bar = t.count ∙ sym (add-one bars)

      pub bar-room : bars < 2048
      bar-room = omega (arith, one_bar, t.few)

      pub further-bar : (count : ℕ) → count ≡ bars + 1 → Underway log b c answers (highs ++ (high ∷ [])) (lows ++ (low ∷ [])) count after
      further-bar count now =
          let s = stepped (bar high low) after sum t in
          record {
            ran = u.ran ++ (bar high low ∷ []);
            left = s.entries;
            all = all_then (bar high low) after sum t;
            rest = ap (rest_of log after) (now ∙ sym one_bar) ∙ s.rest;
            chain = rw (calls_bar u.ran high low) u.chain;
            highs_are = rw (highs_bar u.ran high low, u.highs_are);
            lows_are = rw (lows_bar u.ran high low, u.lows_are);
          }

    -- as many lows as highs
    pub even : length lows ≡ length highs
    even = ap length u.lows_are ∙ as_many u.ran ∙ sym (ap length u.highs_are)

    -- the end of the log: no entry is left
    pub finished :
        length log ≤ at → Nothing b → (r : Replayed) → rows_in r.answers ≡ answers → rows_in r.highs ≡ highs → rows_in r.lows ≡ lows → r.chart ≡ c
        → Replays log (Ok r)
    unfolding Replays
    finished h n r p q s t =
        let none_left = ends log at bars u.left u.rest h in
        let all : spelled log ≡ given u.ran = u.all ∙ ap given (ap (λ (l : List Entry). u.ran ++ l) none_left ∙ append-nil u.ran) in
        rw all
        (record {
          machine = rw (p, t) (sequence b c (calls_in u.ran) answers n u.chain);
          highs = q ∙ u.highs_are;
          lows = s ∙ u.lows_are;
        })

-- a log with a bad entry
pub stopped : (log : List ℕ) (p : ℕ) → some p ≡ bad_at (spelled log) → Replays log (Err p)
unfolding Replays
stopped log p e = rw (bad_says (spelled log) p e) refl
