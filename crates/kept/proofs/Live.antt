-- 21 of a live call, by the answer of the zone call on its chart. Assumes nothing.
use Rattle.std.proofs.Common.{◌≡◌, ◌<◌, ◌≤◌, Bool, true, false, List, length, refl, cond, ltb, arith}
use mathlib.Core.Bool.{not, ◌||◌}
use mathlib.Core.Bool.{or-true, or-false}
use borrow.Author.Tests.{ltb-true, ltb-false}
use Rattle.std.proofs.Math.Seq.{take-length}
use Rattle.std.specs.Prelude.{Ok, Err}
use Rattle.chart.specs.declared.Zone.{Zone}
use Rattle.chart.specs.declared.Chart.{Chart}
use Rattle.chart.specs.declared.Refusal.{Refusal}
use Rattle.chart.specs.Numbers.{number_of}
use Rattle.rows.specs.declared.Rows.{Rows}
use Rattle.rows.specs.Rows.{rows_in}
use Rattle.rules.specs.Answer.{rows_answer}
use Rattle.rules.specs.Records.{Levels, levels_of}
use Rattle.rules.specs.Zones.{overlap_zones}
use Rattle.rules.specs.Refusals.{refuse, bad_chart, broken_levels, same_zones, LiveData, bad_live, zones_refusal}
use Rattle.rules.specs.Calls.{zones_call}
use Rattle.laws.proofs.Tests.{refuse_no}
use Rattle.laws.proofs.Answers.{positive, call-ok, call-err}
use Rattle.kept.proofs.Same.{not_as_long}

module _ (c : Chart) (kept : List Zone) where
  abbrev l : Levels
  l = levels_of c

  abbrev kept_by : LiveData
  kept_by = record { chart = c; zones = kept; zone_count = length kept }

  -- a list of another length than the rule's is seen, or too long to be kept
  other : (length kept ≡ length (overlap_zones l) → ⊥) → same_zones kept (overlap_zones l) ≡ false
  other = not_as_long kept (overlap_zones l)

  pub bad_live_refused : (e : Refusal) → rows_answer {N = 256} (Err e) ≡ zones_call c → true ≡ bad_live kept_by
  unfolding bad_live zones_call zones_refusal refuse
  bad_live_refused e h = go (bad_chart c) (ltb 256 (length (overlap_zones l))) (ltb 256 (length kept)) refl refl refl
    where
      number : number_of e ≡ cond (bad_chart c) 21 (zones_refusal l)
      number = call-err (rows_in {T = Zone} {N = 256}) c zones_refusal overlap_zones e h

      go : (b m k : Bool) → bad_chart c ≡ b → ltb 256 (length (overlap_zones l)) ≡ m → ltb 256 (length kept) ≡ k → true ≡ bad_live kept_by
      go true m k f g i = rw f
      go false false k f g i =
          let n : number_of e ≡ 0 = rw (f, g) at number in
          absurd (omega (arith, n, positive e))
      go false true true f g i = simp (i, or-true)
      go false true false f g i =
          let many : 256 < length (overlap_zones l) = ltb-true 256 _ g in
          let few : length kept ≤ 256 = ltb-false 256 _ i in
          simp (take-length kept, other (λ s. omega (arith, s, many, few)), or-true)

  pub bad_live_given :
      (r : Rows Zone 256) → rows_answer (Ok r) ≡ zones_call c
      → (broken_levels l || not (same_zones kept (rows_in r))) ≡ bad_live kept_by
  unfolding bad_live zones_call zones_refusal
  bad_live_given r h =
      let told = call-ok rows_in c zones_refusal overlap_zones r h in
      let few : length (overlap_zones l) ≤ 256 = ltb-false 256 _ (refuse_no _ 10 0 told.accepted) in
      go (ltb 256 (length kept)) refl told.same told.good few
    where
      go : (k : Bool) → ltb 256 (length kept) ≡ k → rows_in r ≡ overlap_zones l → bad_chart c ≡ false → length (overlap_zones l) ≤ 256
          → (broken_levels l || not (same_zones kept (rows_in r))) ≡ bad_live kept_by
      go true i s g few =
          let long : 256 < length kept = ltb-true 256 _ i in
          simp (s, g, i, take-length kept, other (λ e. omega (arith, e, long, few)), or-true)
      go false i s g few = simp (s, g, i, take-length kept, or-false)
