-- Records that no u16 holds, and a test of all records of some levels. Assumes nothing.
use Rattle.std.specs.Prelude.{ℕ, Bool, false, ◌||◌, leb}
use Rattle.chart.specs.declared.Stroke.{Stroke}
use Rattle.chart.specs.declared.Triple.{Triple}
use Rattle.rules.specs.Lists.{any}
use Rattle.rules.specs.Records.{Levels}
use Rattle.rules.specs.File.{Record, stroke, segment, big, superior, bar}

-- a bar or an index that no u16 holds
abbrev pub wide_two : ℕ → ℕ → Bool
wide_two a b = leb 65536 a || leb 65536 b

unfoldable pub wide : Record → Bool
wide (stroke s) = wide_two s.start_bar s.end_bar
wide (segment t) = wide_two t.first t.last
wide (big t) = wide_two t.first t.last
wide (superior t) = wide_two t.first t.last
wide (bar bytes) = false

-- some record of the levels passes
abbrev pub any_level : (Record → Bool) → Levels → Bool
any_level p c =
    any (λ (s : Stroke). p (stroke s)) c.strokes
    || any (λ (t : Triple). p (segment t)) c.segments
    || any (λ (t : Triple). p (big t)) c.bigs
    || any (λ (t : Triple). p (superior t)) c.superiors
