-- What a call on a live chart does. Read `rules` Refusals, Machine and Live before: the head of Live says in which order they answer a call.
-- Assumes nothing.
use Rattle.std.specs.Prelude.{ℕ, ◌≡◌, ◌≢◌, length, take}
use Rattle.rules.specs.Refusals.{LiveData}
use Rattle.rules.specs.Machine.{Call}
use Rattle.rules.specs.Live.{View, view, live_refusal, after}
use Rattle.live.specs.declared.Live.{Live}

-- what 21 of a call on a live chart looks at
abbrev pub data_of : Live → LiveData
data_of b = record { chart = b.chart; zones = b.zones; zone_count = b.zone_count }

-- the part of a live chart that counts: its levels, the zones that it keeps, its count of accepted calls
unfoldable pub part : Live → View
part b = view (data_of b) b.count

-- every count is true: each is the length of the list that it cuts off, so that none is above its array's size
pub record TrueCounts (b : Live) : Type 0 where
  pub strokes : length (take b.chart.stroke_count b.chart.strokes) ≡ b.chart.stroke_count
  pub segments : length (take b.chart.segment_count b.chart.segments) ≡ b.chart.segment_count
  pub bigs : length (take b.chart.big_count b.chart.bigs) ≡ b.chart.big_count
  pub superiors : length (take b.chart.superior_count b.chart.superiors) ≡ b.chart.superior_count
  pub zones : length (take b.zone_count b.zones) ≡ b.zone_count

-- A call k on the chart b is answered with n, 21 first, then the call's own number, 0 where it is accepted, and hands back d. A refused one
-- hands back the very chart; an accepted one steps the part that counts, and the counts that it hands back are true
pub record Did (b : Live) (k : Call) (n : ℕ) (d : Live) : Type 0 where
  pub number : n ≡ live_refusal (data_of b) k
  pub same : n ≢ 0 → d ≡ b
  pub stepped : n ≡ 0 → part d ≡ after (part b) k
  pub told : n ≡ 0 → TrueCounts d

-- a chart with nothing in it and count 0; what lies in the places behind the counts is free
pub record Nothing (b : Live) : Type 0 where
  pub strokes : b.chart.stroke_count ≡ 0
  pub segments : b.chart.segment_count ≡ 0
  pub bigs : b.chart.big_count ≡ 0
  pub superiors : b.chart.superior_count ≡ 0
  pub zones : b.zone_count ≡ 0
  pub count : b.count ≡ 0
