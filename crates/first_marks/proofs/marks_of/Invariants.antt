use Rattle.std.proofs.Common.{◌≡◌, ◌+◌, ◌≤◌, length}
use mathlib.Core.List.{[], foldl}
use Rattle.std.specs.Slice.Iter.{windows_rest, windows_size}
use Rattle.rows.specs.Rows.{rows_in}
use Rattle.rules.specs.Records.{levels_of}
use Rattle.rules.specs.FirstMarks.{firsts_of, insert_first}
use Rattle.first_marks.proofs.marks_of.Given as goal

abbrev pub invariant-loop-pair : goal.invariant-loop-pair
invariant-loop-pair l = record {
  more : (goal.iterator-loop-pair).can_next l.pair-iterator;
  ends : (goal.iterator-loop-pair).is_finite l.pair-iterator;
  two : windows_size l.pair-iterator ≡ 2;
  few : length (rows_in l.marks) + length (windows_rest l.pair-iterator) ≤ 256;
  left : foldl insert_first (rows_in l.marks) (firsts_of (levels_of l.chart) l.buy (windows_rest l.pair-iterator))
      ≡ foldl insert_first [] (firsts_of (levels_of l.chart) l.buy l.classes);
}
