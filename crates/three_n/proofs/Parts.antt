-- The rows of the 3+N marks from their parts: the third marks, the marks of the superiors and those of the anchors. Assumes nothing.
use Rattle.std.proofs.Common.{◌≡◌, ◌≤◌, ℕ, Bool, List, [], length, map, refl, sym, ap, ◌∙◌, arith}
use Rattle.std.specs.declared.option as code
use mathlib.Core.List.{foldl}
use Rattle.chart.specs.declared.NMark.{NMark}
use Rattle.chart.specs.declared.ThirdMark.{ThirdMark}
use Rattle.rules.specs.Lists.{each}
use Rattle.rules.specs.Records.{Levels, Quotes}
use Rattle.rules.specs.Zones.{overlap_zones}
use Rattle.rules.specs.Marks.{third_marks, order_zero, superiors_numbered, anchor_numbered, anchor_side, anchors_of, anchor_stop, push_3n, n_marks}
use Rattle.laws.specs.Lists.{Distinct}
use Rattle.laws.proofs.Room.{marks_512}
use Rattle.laws.proofs.Thirds.{thirds_distinct}
use Rattle.laws.proofs.Unique.{mark_key, zero_keys, puts_distinct}
use Rattle.std.proofs.Math.ListN.{length-map}
use Rattle.tables.specs.declared.Big.{Big}
use Rattle.tables.specs.declared.Superior.{Superior}
use Rattle.tables.specs.Tables.{big_of, bigs_of, superiors_of, bar_of}
use Rattle.mark_hits.specs.declared.Side.{Side}
use Rattle.mark_hits.specs.declared.Anchor.{Anchor}
use Rattle.mark_hits.specs.Anchors.{side_by, side_among}
use Rattle.mark_hits.proofs.Anchors.{among_by}
use Rattle.mark_rows.proofs.Pushed.{pushes_fit, pushes_append}
use Rattle.mark_anchors.specs.Anchored.{anchor_hits, side_hits}
use Rattle.mark_anchors.proofs.Ruled.{hits-are}

module _ (c : Levels) (q : Quotes) where
  abbrev thirds : List ThirdMark
  thirds = third_marks c q

  abbrev pub superior_marks : List NMark
  superior_marks = superiors_numbered c q (overlap_zones c) thirds 0 c.superiors

  abbrev pub anchor_marks : List NMark
  anchor_marks = each (anchor_numbered c q (anchor_side c.superiors)) (anchors_of c c.superiors)

  -- the rows with those of the superiors
  abbrev pub begun : List NMark
  begun = foldl push_3n (map order_zero thirds) superior_marks

  pub all_is : foldl push_3n begun anchor_marks ≡ n_marks c q
  unfolding n_marks
  all_is = sym (pushes_append (map order_zero thirds) superior_marks anchor_marks)

  module _ (few : length c.bigs ≤ 256) where
    all_room : length (foldl push_3n begun anchor_marks) ≤ 512
    all_room = rw all_is (marks_512 c q few)

    begun-room : length begun ≤ 512
    begun-room = pushes_fit begun [] anchor_marks 512 all_room

  begun-apart : Distinct (map mark_key begun)
  begun-apart = puts_distinct (map order_zero thirds) superior_marks (rw zero_keys (thirds_distinct c q))

  -- the third marks, as they are gathered, twice lent, and the rows of order 0
  module _
      (gathered lent again : List ThirdMark) (zeros : List NMark) (are : gathered ≡ third_marks c q) (first : lent ≡ gathered) (second : again ≡ gathered)
      (zero : zeros ≡ map order_zero lent)
    where
      abbrev pub put : List NMark
      put = foldl push_3n zeros (superiors_numbered c q (overlap_zones c) again 0 c.superiors)

      pub put-is : put ≡ begun
      put-is = rw (zero, first, second, are)

      pub put-room : length c.bigs ≤ 256 → length put ≤ 512
      put-room few = rw put-is (begun-room few)

      module _ (rows : List NMark) (now : rows ≡ put) where
        pub rows-apart : Distinct (map mark_key rows)
        rows-apart = rw (now ∙ put-is) begun-apart

        module _
            (bigs : List Big) (superiors : List Superior) (side : Side) (limit : code.Option.Option ℕ) (b : bigs ≡ bigs_of c)
            (s : superiors ≡ superiors_of c)
            (by : side ≡ side_by superiors) (stop : limit ≡ bar_of (anchor_stop c side.buy))
          where
            hits : side_hits q bigs side limit ≡ anchor_marks
            hits =
                let own : side ≡ side_by (superiors_of c) = by ∙ ap side_by s in
                rw (b, stop, own) (hits-are c q)

            pub rows-all : foldl push_3n rows (side_hits q bigs side limit) ≡ n_marks c q
            rows-all = rw (now ∙ put-is, hits) all_is

            pub rows-room : length c.bigs ≤ 256 → length (foldl push_3n rows (side_hits q bigs side limit)) ≤ 512
            rows-room few = rw rows-all (marks_512 c q few)

        -- the same by the side that the number of bigs caps
        module _
            (bigs : List Big) (superiors : List Superior) (side : Side) (limit : code.Option.Option ℕ) (b : bigs ≡ bigs_of c)
            (s : superiors ≡ superiors_of c)
            (by : side ≡ side_among superiors (length bigs)) (stop : limit ≡ bar_of (anchor_stop c side.buy))
          where
            pub own_rows-all : foldl push_3n rows (side_hits q bigs side limit) ≡ n_marks c q
            own_rows-all =
                let hits = among_by (λ (buy : Bool) (l : List Anchor). each (anchor_hits q bigs buy limit) l) superiors bigs in
                let same = among_by (λ (buy : Bool) (l : List Anchor). bar_of (anchor_stop c buy)) superiors bigs in
                rw (by, hits) (rows-all bigs superiors (side_by superiors) limit b s refl (rw (← by) stop ∙ same))

            pub own_rows-room : length c.bigs ≤ 256 → length (foldl push_3n rows (side_hits q bigs side limit)) ≤ 512
            own_rows-room few = rw own_rows-all (marks_512 c q few)

-- as many bigs as their table has
pub bigs_few : (c : Levels) (bigs : List Big) → bigs ≡ bigs_of c → length bigs ≤ 256 → length c.bigs ≤ 256
bigs_few c bigs e h = omega (arith, ap length e, length-map c.bigs (big_of c))
