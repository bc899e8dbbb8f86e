-- Demand 3 of the customer's letter as one statement, over the definitions that the contracts of the code cite. Sentences in quotes are the
-- letter's, but for the clause of request 6. Assumes nothing.
use Rattle.std.specs.Prelude.{ℕ, ◌≤◌, ◌≡◌, ◌≢◌, length, take}
use mathlib.Core.List.{List, Memᴰ}
use Rattle.std.proofs.Math.Option.{some}
use Rattle.chart.specs.declared.Zone.{Zone}
use Rattle.chart.specs.declared.ThirdMark.{ThirdMark}
use Rattle.chart.specs.declared.NMark.{NMark}
use Rattle.rules.specs.Answer.{counted_answer}
use Rattle.rules.specs.Records.{Levels, levels_of, Quotes}
use Rattle.rules.specs.Ranges.{range_of}
use Rattle.rules.specs.Zones.{overlap_zones, members_of}
use Rattle.rules.specs.Marks.{quote, third_marks, n_marks}
use Rattle.rules.specs.Refusals.{refuse, bad_slices, bad_quotes, ends_outside}
use Rattle.rules.specs.Calls.{third_call, n_call}
use Rattle.rules.specs.Machine.{Call}
use Rattle.rules.specs.Claims.{Opposes, OneZone, Edges, Extremes, Beyond, Traced, Stems, Earlier, Apart}
use Rattle.live.specs.declared.Live.{Live}
use Rattle.live.specs.Did.{Nothing}
use Rattle.live.specs.Sequence.{Chain, AsMachine}

-- the records and the zones of a live chart
abbrev pub levels_in : Live → Levels
levels_in d = levels_of d.chart

abbrev pub zones_in : Live → List Zone
zones_in d = take d.zone_count d.zones

-- ---- the results of the third and the 3+N call: a number, a count and an array of rows

-- the refusal of a call and the marks that it gives where that is 0, as a result has them
pub record Result {A : Type 0} (refusal : ℕ) (marks : List A) (number count : ℕ) (rows : List A) : Type 0 where
  pub number_is : number ≡ refusal
  -- a refused call has no rows
  pub no_rows : number ≢ 0 → count ≡ 0
  -- an accepted one has a true count, and "its marks are row for row those of 01's rules"
  pub true_count : number ≡ 0 → count ≤ length rows
  pub rows_are : number ≡ 0 → take count rows ≡ marks

-- of the third call on a chart with these records
pub record Thirds (c : Levels) (q : Quotes) (number count : ℕ) (rows : List ThirdMark) : Type 0 where
  -- "Whatever highs and lows the third .. call then accepts": these alone refuse it, with 8 or 1. 21 and 11 cannot arise
  pub result : Result (refuse (bad_slices q) 8 (refuse (bad_quotes q) 1 0)) (third_marks c q) number count rows
  -- "Every third mark is strictly beyond the ground it names, a buy above and a sell below", and its price is the lent one at its bar
  pub beyond : number ≡ 0 → (m : ThirdMark) → Memᴰ m (take count rows) → Beyond q m
  -- "An author must be able to trace each mark": the ground is an edge of a zone, or the price C of an anchor, whose bars have the mark's
  pub traced : number ≡ 0 → (m : ThirdMark) → Memᴰ m (take count rows) → Traced c m

-- of the 3+N call on a chart with these records
pub record ThreeN (c : Levels) (q : Quotes) (number count : ℕ) (rows : List NMark) : Type 0 where
  -- "Whatever highs and lows .. the 3+N call then accepts": these alone refuse it, with 8, 1 or, where a stroke ends behind them, 9. 21 and 11 cannot
  -- arise
  pub result :
      Result (refuse (bad_slices q) 8 (refuse (bad_quotes q) 1 (refuse (ends_outside c q) 9 0))) (n_marks c q) number count rows
  -- "Every 3+N mark with N of 1 or more has an order-0 mark of its side at an earlier bar in the same result"
  pub earlier : number ≡ 0 → (m : NMark) → Memᴰ m (take count rows) → 1 ≤ m.order → Earlier (take count rows) m
  -- "No two 3+N marks share bar and side"
  pub apart : number ≡ 0 → Apart (take count rows)
  -- "An author must be able to trace each mark": its price is the lent one of its side at its bar, which is inside the slices, and it is one of the rows
  -- of a third mark, of a superior or of an anchor; one of order 1 or more is no third mark's
  pub quoted : number ≡ 0 → (m : NMark) → Memᴰ m (take count rows) → quote q m.is_buy m.bar_index ≡ some m.price
  pub stems : number ≡ 0 → (m : NMark) → Memᴰ m (take count rows) → Stems c q m

-- ---- the chart that a sequence of calls leaves

-- the calls ks were answered with ns and left d
pub record Promise (ks : List Call) (ns : List ℕ) (d : Live) : Type 0 where
  -- "For every such sequence the answers, records, count and zones are exactly those of 01's plain machine": and the count is that of the
  -- accepted calls up to 4294967295, every count handed back is true, and no call on the chart left is refused with 21
  pub as_machine : AsMachine ks ns d
  -- the zones, among which a mark is traced, are those of the overlap rule on the records left
  pub zones_are : zones_in d ≡ overlap_zones (levels_in d)
  -- "Each opposing big segment of a superior is a member of exactly one zone", and that zone is the superior's
  pub one_zone :
      (h j : ℕ) → Opposes (levels_in d).bigs (levels_in d).superiors h j → OneZone (zones_in d) (members_of (levels_in d)) h j
  -- a zone has as many members as it says, and each is an opposing big segment of its superior
  pub members_are : (z : Zone) → Memᴰ z (zones_in d) → length (members_of (levels_in d) z) ≡ z.members
  pub members_oppose :
      (z : Zone) → Memᴰ z (zones_in d) → (j : ℕ) → Memᴰ j (members_of (levels_in d) z)
      → Opposes (levels_in d).bigs (levels_in d).superiors z.sup_idx j
  -- "Every zone has dd ≤ zd ≤ zg ≤ gg, and one of two or more members has zd < zg"
  pub edges : (z : Zone) → Memᴰ z (zones_in d) → Edges z
  -- 02, request 6: "Every zone passes this on as the bar of dd and the bar of gg, the smallest bar number among its members on equal prices"
  pub extremes :
      (z : Zone) → Memᴰ z (zones_in d) → Extremes (range_of (levels_in d)) (levels_in d).bigs (members_of (levels_in d)) z
  -- for all lent highs and lows, and every result that stands for the third call's answer, as its contract says
  pub third :
      (q : Quotes) (number count : ℕ) (rows : List ThirdMark) → counted_answer number count rows ≡ third_call d.chart q
      → Thirds (levels_in d) q number count rows
  -- and for the 3+N call's
  pub three_n :
      (q : Quotes) (number count : ℕ) (rows : List NMark) → counted_answer number count rows ≡ n_call d.chart q
      → ThreeN (levels_in d) q number count rows

-- "Take any list of add, lengthen, withdraw and derive calls, at any level, refused ones included: the first gets a chart with nothing in it and
-- count 0, each later one the chart that the call before handed back"
abbrev pub ThePromise : Type 0
ThePromise = (b d : Live) (ks : List Call) (ns : List ℕ) → Nothing b → Chain b ks ns d → Promise ks ns d
