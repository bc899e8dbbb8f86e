-- The four levels of a chart as bytes, and what a refusal of writing tells. Assumes nothing.
use Prim.Native.Nat.{ℕ, zero, suc, ◌+◌, ◌*◌, ◌<◌, ◌≤◌}
use native.Mathlib.Omega.{arith}
use mathlib.Core.Path.{◌≡◌, refl, sym, ap, ◌∙◌}
use mathlib.Core.Bool.{false}
use mathlib.Core.List.{List, [], ◌∷◌, ◌++◌, map, append_assoc, append-nil}
use lib.ListN.{length, take, drop, length-append, length-drop}
use lib.Dec.{ltb}
use borrow.Author.Tests.{ltb-false}
use Rattle.chart.specs.declared.Triple.{Triple}
use Rattle.chart.specs.declared.Chart.{Chart}
use Rattle.chart.specs.declared.Refusal.{Refusal}
use Rattle.chart.specs.Numbers.{number_of}
use Rattle.rules.specs.Lists.{any, each}
use Rattle.rules.specs.Records.{levels_of}
use Rattle.rules.specs.Refusals.{refuse, wrong_stroke, overfull, bad_levels, bad_chart}
use Rattle.rules.specs.File.{Record, stroke, segment, big, superior, record_bytes, records_of, written, fill, write_refusal, buffer_after}
use Rattle.laws.proofs.Lists.{each_append}
use Rattle.laws.proofs.Tests.{or_r, refuse_no, refuse-on}
use Rattle.laws.proofs.Ordered.{strokes-right}
use Rattle.laws.proofs.Answers.{positive}
use Rattle.laws.proofs.FileCode.{fill-further}
use Rattle.laws.proofs.FileLong.{used, length-written}
use Rattle.laws.proofs.FilePut.{Next, Writing}
use Rattle.laws.specs.Put.{put_at}
use Rattle.chart_write.specs.Marked.{marked}
use Rattle.chart_write.proofs.Records.{segment_mark, big_mark, superior_mark}
use Rattle.chart_write.proofs.Levels.{long_triples, long_strokes}

-- ---- the four levels

each-marked :
    (mark : List ℕ) (r : Triple → Record) → ((t : Triple) → marked mark t ≡ record_bytes (r t)) → (ts : List Triple)
    → each record_bytes (map r ts) ≡ each (marked mark) ts
each-marked mark r e [] = refl
each-marked mark r e (t ∷ ts) = rw (← e t, each-marked mark r e ts)

abbrev sg : List ℕ
sg = 83 ∷ 71 ∷ []

abbrev bg : List ℕ
bg = 66 ∷ 71 ∷ []

abbrev su : List ℕ
su = 83 ∷ 85 ∷ []

module _ (c : Chart) where
  abbrev strokesIn : List ℕ
  strokesIn = each record_bytes (map stroke (take c.stroke_count c.strokes))

  abbrev segmentsIn : List ℕ
  segmentsIn = each (marked sg) (take c.segment_count c.segments)

  abbrev bigsIn : List ℕ
  bigsIn = each (marked bg) (take c.big_count c.bigs)

  abbrev superiorsIn : List ℕ
  superiorsIn = each (marked su) (take c.superior_count c.superiors)

  levels-split : written (levels_of c) ≡ strokesIn ++ (segmentsIn ++ (bigsIn ++ superiorsIn))
  unfolding written records_of levels_of
  levels-split =
      let s = map stroke (take c.stroke_count c.strokes) in
      let g = take c.segment_count c.segments in
      let b = take c.big_count c.bigs in
      let u = take c.superior_count c.superiors in
      rw (
        each_append record_bytes (s ++ map segment g ++ map big b) (map superior u),
        each_append record_bytes (s ++ map segment g) (map big b),
        each_append record_bytes s (map segment g),
        each-marked sg segment segment_mark g,
        each-marked bg big big_mark b,
        each-marked su superior superior_mark u,
      )
      (simp append_assoc)

  pub written-size :
      length (written (levels_of c))
      ≡ 23 * length (take c.stroke_count c.strokes) + 7 * length (take c.segment_count c.segments) + 7 * length (take c.big_count c.bigs)
      + 7 * length (take c.superior_count c.superiors)
  unfolding used levels_of
  written-size = length-written (levels_of c)

  pub good-strokes : bad_chart c ≡ false → any wrong_stroke (take c.stroke_count c.strokes) ≡ false
  unfolding bad_chart levels_of
  good-strokes h = strokes-right (levels_of c) (or_r (overfull c) (bad_levels (levels_of c)) h)

  -- the strokes are put at the start
  module _ (old : List ℕ) (room : length (written (levels_of c)) ≤ length old) where
    pub strokes-fit : length strokesIn ≤ length old
    strokes-fit = omega (arith, ap length levels-split, length-append strokesIn (segmentsIn ++ (bigsIn ++ superiorsIn)))

    pub strokes-put :
        (buffer : List ℕ) → buffer ≡ fill strokesIn old
        → Writing 0 (written (levels_of c)) old (23 * length (take c.stroke_count c.strokes)) (segmentsIn ++ (bigsIn ++ superiorsIn)) buffer
    unfolding put_at
    strokes-put buffer e =
        let rest = segmentsIn ++ (bigsIn ++ superiorsIn) in
        let size = long_strokes (take c.stroke_count c.strokes) in
        rw (e, levels-split)
        (record {
          place = omega (arith, size, length-append strokesIn rest);
          room = omega (arith, ap length levels-split);
          long =
              omega (
                arith,
                strokes-fit,
                length-append strokesIn (drop (length strokesIn) old),
                length-drop (length strokesIn) old,
              );
          same = fill-further strokesIn rest old _ size;
        })

  -- then each of the others behind those before it
  pub segments-next : Next (7 * length (take c.segment_count c.segments)) (segmentsIn ++ (bigsIn ++ superiorsIn)) segmentsIn (bigsIn ++ superiorsIn)
  segments-next = record { split = refl; size = long_triples sg refl _ }

  pub bigs-next : Next (7 * length (take c.big_count c.bigs)) (bigsIn ++ superiorsIn) bigsIn superiorsIn
  bigs-next = record { split = refl; size = long_triples bg refl _ }

  pub superiors-next : Next (7 * length (take c.superior_count c.superiors)) superiorsIn superiorsIn []
  superiors-next = record { split = sym (append-nil superiorsIn); size = long_triples su refl _ }

-- ---- refusals

module _ (c : Chart) (buffer : List ℕ) where
  pub record Accepted : Type 0 where
    pub good : bad_chart c ≡ false
    pub room : length (written (levels_of c)) ≤ length buffer

  pub accepted : write_refusal c buffer ≡ 0 → Accepted
  unfolding write_refusal
  accepted h =
      let s = ltb (length buffer) (length (written (levels_of c))) in
      record {
        good = refuse_no (bad_chart c) 20 (refuse s 3 0) h;
        room = ltb-false (length buffer) (length (written (levels_of c))) (refuse_no s 2 0 (refuse-on (bad_chart c) 20 (refuse s 3 0) h));
      }

  pub refused_buffer : (e : Refusal) → number_of e ≡ write_refusal c buffer → buffer ≡ buffer_after c buffer
  unfolding buffer_after
  refused_buffer e h = go (number_of e) (positive e) h
    where
      go : (n : ℕ) → 0 < n → n ≡ write_refusal c buffer → buffer ≡ buffer_after c buffer
      go zero z k = absurd (omega arith)
      go (suc n) z k = rw (buffer_after, ← k)

  pub given-buffer : (new : List ℕ) → write_refusal c buffer ≡ 0 → new ≡ fill (written (levels_of c)) buffer → new ≡ buffer_after c buffer
  unfolding buffer_after
  given-buffer new h w = w ∙ rw (buffer_after, h)
