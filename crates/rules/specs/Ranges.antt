-- Range of a big, and of a segment. Assumes nothing.
use Rattle.std.specs.Prelude.{ℕ, cond, leb}
use Rattle.std.proofs.Math.Option.{Option, none, some}
use Rattle.std.proofs.Math.ListN.{get_elem?}
use Rattle.std.specs.Float.Ieee.{lt}
use Rattle.chart.specs.declared.Stroke.{Stroke}
use Rattle.chart.specs.declared.Triple.{Triple}
use Rattle.chart.specs.declared.Range.{Range}
use Rattle.chart.specs.declared.Range.TheVariants.{Found, Missing}
use Rattle.price.specs.Price.{lower, higher}
use Rattle.rules.specs.Lists.{and_then}
use Rattle.rules.specs.Records.{Levels}

-- the first stroke of a big's first segment, and the last stroke of its last segment
unfoldable pub first_stroke : Levels → Triple → Option Stroke
first_stroke c b = and_then (get_elem? c.segments b.first) (λ (s : Triple). get_elem? c.strokes s.first)

unfoldable pub last_stroke : Levels → Triple → Option Stroke
last_stroke c b = and_then (get_elem? c.segments b.last) (λ (s : Triple). get_elem? c.strokes s.last)

-- With s the start price of one stroke and e the end price of another: low and high are the smaller and larger of s and e, the bars that
-- start bar and that end bar. 02, request 6: "which of its two bars gave the low and which the high; the start bar wins where both prices are equal"
unfoldable pub spanned : Option Stroke → Option Stroke → Range
spanned none e = Missing
spanned (some s) none = Missing
spanned (some s) (some e) =
    Found
    (record {
      low = lower s.start_price e.end_price;
      high = higher s.start_price e.end_price;
      start_bar = s.start_bar;
      end_bar = e.end_bar;
      low_bar = cond (lt e.end_price s.start_price) e.end_bar s.start_bar;
      high_bar = cond (lt s.start_price e.end_price) e.end_bar s.start_bar;
    })

-- Missing when first > last, last is not a segment, or a stroke isn't there. (resolve_bigseg_range)
unfoldable pub range_of : Levels → Triple → Range
range_of c b = cond (leb b.first b.last) (spanned (first_stroke c b) (last_stroke c b)) Missing

-- 02, request 13: "a segment's range being the start price of its first stroke and the end price of its last, with these strokes' start bar and end
-- bar, missing where first > last or either is no stroke"
unfoldable pub segment_range : Levels → Triple → Range
segment_range c t =
    cond (leb t.first t.last) (spanned (get_elem? c.strokes t.first) (get_elem? c.strokes t.last)) Missing

-- The end point of the big with an index, its range missing or not: the end bar and end price of this stroke. (resolve_sup_end_point)
unfoldable pub end_point_of : Levels → ℕ → Option Stroke
end_point_of c i = and_then (get_elem? c.bigs i) (last_stroke c)
